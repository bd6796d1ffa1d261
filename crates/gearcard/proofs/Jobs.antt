-- A job that was read, and what the working makes of it, as the definitions' text.
use Rattle.rules.proofs.Offered.{ℕ, arith, ◌≡◌, refl, sym, ◌∙◌, ◌≢◌, none, some, List, length, take, ne_eqb, Fault, numbered, fault, said, work_fault, left}
use Rattle.rules.proofs.Offered.{work_card, Read, got, refused, Job, read_fault, job_of, card_text, refusal_text, worked_text, read_text, printed, program_room}
use Rattle.rules.proofs.Offered.{printed_fault, room_alone}
use Rattle.rules.specs.declared.Vehicle.{Vehicle}
use Rattle.rules.specs.declared.Refusal.{Refusal}
use Rattle.rules.specs.declared.Refusal.TheVariants.{TraceLength}
use Rattle.std.specs.Prelude.{Ok, Err}
use Rattle.reading.specs.declared.Reading.{Reading}
use Rattle.reading.specs.Reader.{reading, ReadAs}
use Rattle.reading.proofs.Rooms.{rooms}
use Rattle.gearcard.specs.Printing.{text_of}

-- ---- what the working says, as text

module _ (car : Vehicle) (vs hs old : List ℕ) (e : length old ≡ length vs) where
  -- where the working is done, the text is that of the card that it left
  pub done_text : {new : List ℕ} → said {A = Unit {0}} (Ok tt) ≡ work_fault car vs hs old → new ≡ work_card car vs hs old → text_of car vs hs ≡ card_text vs new
  unfolding said work_card left worked_text
  done_text s n =
      let w : work_fault car vs hs old ≡ none = sym s in
      rw (← room_alone car vs hs old vs e, w, n, w)

  -- where the working refuses, the text is the refusal's
  pub stop_text : (q : Refusal) → said {A = Unit {0}} (Err q) ≡ work_fault car vs hs old → text_of car vs hs ≡ refusal_text (fault q)
  unfolding said worked_text
  stop_text q s = rw (← room_alone car vs hs old vs e, ← s)

-- ---- a refusal, as it is printed

one-at_0 : fault TraceLength ≡ numbered 1 0
one-at_0 = refl

-- 2 is told as 1
pub as_too_long : (q : Refusal) → (fault q).no ≡ 2 → fault TraceLength ≡ printed_fault (fault q)
unfolding printed_fault
as_too_long q e = one-at_0 ∙ rw e

-- and any other as it is
pub as_it_is : (q : Refusal) → (fault q).no ≢ 2 → fault q ≡ printed_fault (fault q)
unfolding printed_fault
as_it_is q n = rw (ne_eqb (fault q).no 2 n)

-- ---- what was read, as the code has it

-- the card program's room
pub room_is : program_room ≡ 4096
unfolding program_room
room_is = refl

-- what is printed of a reading that refuses nothing
done_read : (x : Read Job) → none ≡ read_fault x → text_of (job_of x).vehicle (job_of x).speeds (job_of x).holds ≡ read_text x
unfolding read_fault job_of read_text
done_read (got j end) e = refl
done_read (refused f) e = let z : ◌≡◌ {A = ℕ} 0 1 = cc in absurd (omega arith)

-- what is printed of a reading that refuses
stop-read : (x : Read Job) (f : Fault) → some f ≡ read_fault x → refusal_text (printed_fault f) ≡ read_text x
unfolding read_fault read_text
stop-read (got j end) f e = let z : ◌≡◌ {A = ℕ} 0 1 = cc in absurd (omega arith)
stop-read (refused g) f e = let z : f ≡ g = cc in rw z

module _ (job s₀ h₀ : List ℕ) (n : length s₀ ≡ program_room) (m : length h₀ ≡ program_room) where
  -- rooms of so many places are those of the card program
  read_is : read_text (reading job s₀ h₀) ≡ printed job
  unfolding printed reading
  read_is = rw (n, m)

  -- of a job that was read the text is what the working says
  pub printed_done : {s h : List ℕ} {r : Reading} → ReadAs job s₀ h₀ (Ok r) s h → text_of r.vehicle (take r.count s) (take r.count h) ≡ printed job
  unfolding said
  printed_done a =
      let w = rooms a in
      rw (w.speeds_are, w.holds_are, a.the_vehicle) (done_read (reading job s₀ h₀) a.answered ∙ read_is)

  -- of one that was refused it is the refusal
  pub printed-stop : {s h : List ℕ} {q : Refusal} → ReadAs job s₀ h₀ (Err q) s h → refusal_text (printed_fault (fault q)) ≡ printed job
  unfolding said
  printed-stop a = stop-read (reading job s₀ h₀) _ a.answered ∙ read_is
