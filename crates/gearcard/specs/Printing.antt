-- What is printed, and the pieces of its lines.
use Rattle.std.specs.Prelude.{ℕ, ◌/◌, ◌%◌, ◌≤◌, ◌≡◌, List, ◌∷◌, ◌++◌, length, take, drop}
use Rattle.rules.specs.declared.Vehicle.{Vehicle}
use Rattle.rules.specs.Refusals.{work_fault}
use Rattle.rules.specs.Text.{decimal, pedal, worked_text}

-- the memory begins with the text, r bytes long, and goes on as it was
pub record Begins (text out : List ℕ) (r : ℕ) (out' : List ℕ) : Type 0 where
  pub count : r ≡ length text
  pub inside : r ≤ length out'
  pub shown : take r out' ≡ text
  pub beyond : drop r out' ≡ drop r out

-- the speed of a line, in km/h
abbrev pub speed_text : ℕ → List ℕ
speed_text v = decimal (v / 10) ++ (46 ∷ decimal (v % 10))

-- the gear and the clutch of a line, with the blank before them
abbrev pub gear_text : ℕ → List ℕ
gear_text byte = 32 ∷ (decimal (byte % 16) ++ pedal byte)

-- what is printed of a job that was read
abbrev pub text_of : Vehicle → List ℕ → List ℕ → List ℕ
text_of car vs hs = worked_text car vs hs (work_fault car vs hs vs)
