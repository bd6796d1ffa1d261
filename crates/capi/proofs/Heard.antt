-- The demands on the C functions as the statements that impostors are held to (`Demand1`, `Demand2`, `Demand3` of rules/specs/Vocabulary/Demands): a C caller
-- hears number 0, or a refusal's number and place.
use Rattle.rules.proofs.Offered.{ℕ, ◌≡◌, refl, Option, none, some, List, eqb, ne_eqb, Fault, work_fault, Screen, edit_fault, if◌then◌else◌, Told}
use Rattle.rules.proofs.Offered.{told_from_1, work-told, edit_told}
use Rattle.rules.proofs.Outcomes.{work_meets_1, work_meets_2}
use Rattle.rules.proofs.Demands as rules-says
use Rattle.rules.specs.Vocabulary.Demands.{Demand1, Demand2, Demand3}
use Rattle.rules.specs.declared.Vehicle.{Vehicle}
use Rattle.rules.specs.declared.Edit.{Edit}
use Rattle.capi.specs.declared.Verdict.{Verdict}
use Rattle.capi.specs.Verdicts.{as_verdict}
use Rattle.capi.proofs.Demands.{CWorked, CEdited, as_edited}

-- what a C caller is told by a verdict: nothing, or a refusal
unfoldable pub heard : Verdict → Option Fault
heard z = if eqb z.number 0 then none else some (record { no = z.number; spot = z.place })

heard_told : (q : Option Fault) → Told q → heard (as_verdict q) ≡ q
unfolding heard as_verdict
heard_told none t = refl
heard_told (some f) t = rw (ne_eqb f.no 0 (told_from_1 t))

module _ {car : Vehicle} {vs hs old : List ℕ} {z : Verdict} {new : List ℕ} (W : CWorked car vs hs old z new) where
  pub demand_1 : Demand1 car vs hs old (heard z) new
  demand_1 = rw (W.answer, heard_told (work_fault car vs hs old) (work-told car vs hs old), W.card_left) (work_meets_1 car vs hs old)

  pub demand_2 : Demand2 car vs hs old (heard z) new
  demand_2 = rw (W.answer, heard_told (work_fault car vs hs old) (work-told car vs hs old), W.card_left) (work_meets_2 car vs hs old)

pub demand_3 : {car : Vehicle} {e : Edit} {x : Screen} {z : Verdict} {y : Screen} → CEdited car e x z y → Demand3 car e x (heard z) y
demand_3 {car} {e} {x} E =
    rw (E.answer, heard_told (edit_fault car e x) (edit_told car e x)) (rw (edit_told car e x).says at (rules-says.demand_3 (as_edited E).lists))
