-- The demands on the reader alone; demand 2, which speaks of both directions, stands
-- in `writing`. A reader of document 01 reads `ReadAs`, which is the contract
-- of `read`, and then these.
use Rattle.std.specs.Prelude.{Result}
use Rattle.rules.proofs.Offered.{ℕ, ◌≡◌, refl, sym, ◌∙◌, some, List, [], arith, Fault, said, Read, got, refused, Job, read_fault, job_of, filled}
use Rattle.rules.specs.declared.Refusal.{Refusal}
use Rattle.reading.specs.declared.Reading.{Reading}
use Rattle.reading.specs.Reader.{reading, ReadAs}

-- where reading is refused there are no speeds and no holds to fill with
nothing_read : (m : Read Job) (q : Fault) → read_fault m ≡ some q → ((job_of m).speeds ≡ []) × ((job_of m).holds ≡ [])
unfolding read_fault job_of
nothing_read (got j end) q e = let z : ◌≡◌ {A = ℕ} 0 1 = cc in absurd (omega arith)
nothing_read (refused f) q e = (refl, refl)

fills_none : (room : List ℕ) {values : List ℕ} → values ≡ [] → filled room values ≡ room
unfolding filled
fills_none room e = rw e

module _ {job speeds holds : List ℕ} {r : Result Reading Refusal} {speeds' holds' : List ℕ} (R : ReadAs job speeds holds r speeds' holds') where
  -- ---- Demand 1. Every list of bytes gets an answer, refused by number and place exactly where the table says, and a refusal changes no byte

  pub demand_1_table-read : said r ≡ read_fault (reading job speeds holds)
  demand_1_table-read = R.answered

  pub demand_1_untouched_read : (q : Fault) → said r ≡ some q → (speeds' ≡ speeds) × (holds' ≡ holds)
  demand_1_untouched_read q e =
      let n = nothing_read (reading job speeds holds) q (sym R.answered ∙ e) in
      (R.speeds_left ∙ fills_none speeds n.0, R.holds_left ∙ fills_none holds n.1)
