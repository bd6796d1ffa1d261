-- Document 01, "What the contracts are held to": the four impostors, each as the program that it is: what it says and what it leaves in every lent list, for
-- every input. proofs/Impostors shows that the demands turn each away.
use Rattle.std.specs.Prelude.{ℕ, suc, ◌+◌, List, length, eqb, if◌then◌else◌}
use Rattle.rules.specs.Words.{Option, option_get_or, some, at, first, table}
use Rattle.rules.specs.declared.Vehicle.{Vehicle}
use Rattle.rules.specs.declared.Edit.{Edit}
use Rattle.rules.specs.Units.{moving, start}
use Rattle.rules.specs.Corrections.{first_at, gear_at, pressed, byte}
use Rattle.rules.specs.Refusals.{Fault, left, work_fault}
use Rattle.rules.specs.Edit.{Screen}

-- ---- card makers

-- what one gives: nothing or a refusal, and the lent card as it leaves it; speeds and holds are only read
pub record Made : Type 0 where
  pub says : Option Fault
  pub card : List ℕ

-- of a vehicle, speeds, holds and the lent card
abbrev pub CardMaker : Type 0
CardMaker = Vehicle → List ℕ → List ℕ → List ℕ → Made

-- "the card maker that refuses all jobs", by whatever number and place
unfoldable pub refuses_all : (Vehicle → List ℕ → List ℕ → List ℕ → Fault) → CardMaker
refuses_all q car vs hs old = record { says = some (q car vs hs old); card = old }

-- bytes by the paper's rule for bytes, of gears g of the moving seconds
unfoldable pub bytes_of : Vehicle → List ℕ → (ℕ → ℕ) → ℕ → ℕ
bytes_of car vs g i = if moving (at vs i) then byte car vs i (g i) else if moving (at vs (suc i)) then pressed + g (suc i) else 0

-- it refuses where the table does, and otherwise leaves the bytes of such gears
unfoldable pub shows_gears : (Vehicle → List ℕ → List ℕ → ℕ → ℕ) → CardMaker
shows_gears g car vs hs old =
    let f = work_fault car vs hs old in
    record { says = f; card = left f old (table (bytes_of car vs (g car vs hs)) 0 (length vs)) }

-- "the one that prints first gear everywhere"
unfoldable pub first_gear_everywhere : CardMaker
first_gear_everywhere = shows_gears (λ car vs hs i. 1)

-- one trip worked properly, that of the second `which` tells, and first choices copied for the others
unfoldable pub one_trip_worked : (List ℕ → ℕ) → CardMaker
one_trip_worked which = shows_gears (λ car vs hs i. if eqb (start vs i) (start vs (which vs)) then gear_at car vs hs i else first_at car vs hs i)

-- "the one that works the first trip properly and copies first choices for later trips", whichever trip is first: that of the first moving second
unfoldable pub first_trip_worked : CardMaker
first_trip_worked = one_trip_worked (λ vs. option_get_or (first (λ i. moving (at vs i)) 0 (length vs)) 0)

-- ---- quick ways

-- what one gives: nothing or a refusal, and the screen as it leaves it
pub record Quick : Type 0 where
  pub says : Option Fault
  pub screen : Screen

-- "the quick way that does nothing", whatever it says
unfoldable pub does_nothing : (Vehicle → Edit → Screen → Option Fault) → Vehicle → Edit → Screen → Quick
does_nothing f car e x = record { says = f car e x; screen = x }
