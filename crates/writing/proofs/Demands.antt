-- The demands on the writer, and on the reader and the writer together. A reader of document 02 reads `ReadAs` and `WriteAs`, which are the contracts of `read`
-- and `write`, and then these.
use Rattle.std.specs.Prelude.{Result, Ok}
use Rattle.std.specs.Result.{result_unwrap_or}
use Rattle.rules.proofs.Offered.{ℕ, ◌≤◌, ◌≡◌, sym, ◌∙◌, none, some, List, length, take, Fault, said, write_fault, write_room, Bytes, job_fault, left_some}
use Rattle.rules.specs.declared.Vehicle.{Vehicle}
use Rattle.rules.specs.declared.Refusal.{Refusal}
use Rattle.reading.specs.declared.Reading.{Reading}
use Rattle.reading.specs.Reader.{ReadAs}
use Rattle.writing.specs.Writing.{WriteAs}
use Rattle.writing.proofs.BothWays.{SameJob, written_then_read, SameBytes, read_then_written}

module _ {v : ℕ} {car : Vehicle} {vs hs room : List ℕ} {w : Result ℕ Refusal} {room' : List ℕ} (W : WriteAs v car vs hs room w room') where
  -- ---- Demand 1, of the writer: 14, 1 to 9 as in the working, then 17, and a refusal writes nothing

  pub demand_1_table-write : said w ≡ write_fault v car vs hs room
  demand_1_table-write = W.answered

  pub demand_1_untouched_write : (q : Fault) → said w ≡ some q → (room' ≡ room) × (result_unwrap_or w 0 ≡ 0)
  unfolding write_room
  demand_1_untouched_write q e =
      let n = sym W.answered ∙ e in
      (W.room_left ∙ left_some _ _ n, W.the_length ∙ left_some _ _ n)

  -- ---- Demand 2. From request One on it speaks of both directions: what is written reads back as the same job, and a job that is read and passes the
  -- working's checks is written as the same bytes; from request Six on of each version

  pub demand_2_reads_back : {n : ℕ} → w ≡ Ok n → {s₀ h₀ s h : List ℕ} {r : Result Reading Refusal} → length vs ≤ length s₀ → length vs ≤ length h₀
      → ReadAs (take n room') s₀ h₀ r s h
      → SameJob v car vs hs s₀ h₀ r s h
  demand_2_reads_back = written_then_read W

module _ {bytes s₀ h₀ s h : List ℕ} {r : Result Reading Refusal} (R : ReadAs bytes s₀ h₀ r s h) where
  pub demand_2_writes_back : Bytes bytes → {j : Reading} → r ≡ Ok j → job_fault j.vehicle (take j.count s) (take j.count h) ≡ none
      → {room : List ℕ} {w : Result ℕ Refusal} {room' : List ℕ} → length bytes ≤ length room
      → WriteAs j.version j.vehicle (take j.count s) (take j.count h) room w room'
      → SameBytes bytes room w room'
  demand_2_writes_back all-bytes = read_then_written all-bytes R
