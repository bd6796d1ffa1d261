-- The words of the theorems on what is said of a second.
use Rattle.std.specs.Prelude.{ℕ, ◌+◌, ◌-◌, ◌*◌, ◌≤◌, ◌≡◌, true, false, leb, eqb, ℤ, get_or, if◌then◌else◌}
use Rattle.rules.specs.Words.{◌and◌, ◌or◌}
use Rattle.rules.specs.declared.Vehicle.{Vehicle}
use Rattle.rules.specs.declared.Role.{Role}
use Rattle.rules.specs.declared.GearFacts.{GearFacts}
use Rattle.rules.specs.declared.Reasons.{Reasons}
use Rattle.rules.specs.Units.{low}
use Rattle.rules.specs.Gears.{fits, power, enough}
use Rattle.rules.specs.Corrections.{pressed, shown}
use Rattle.rules.specs.Vocabulary.Choosing.{HighestEnough, MostPower, FirstChoice}
use Rattle.rules.specs.Why.{no_facts}

-- what is listed of gear g
abbrev pub fact : Reasons → ℕ → GearFacts
fact r g = get_or r.gears (g - 1) no_facts

-- the card's byte b is the one that is explained: its gear the last of the chain, its bit the clutch
pub record Shows (r : Reasons) (b : ℕ) : Type 0 where
  pub the_byte : r.byte ≡ b
  pub the_gear : shown b ≡ r.after_c
  pub the_clutch : b ≡ (if r.clutch then r.after_c + pressed else r.after_c)

-- what is listed of a gear is what the rules say of it; power where it fits
pub record Listed (car : Vehicle) (here : Role) (v : ℕ) (d : ℤ) (g : ℕ) (f : GearFacts) : Type 0 where
  pub fitting : f.fits ≡ fits car here v g
  pub sufficing : fits car here v g ≡ true → f.enough ≡ enough car v d g
  pub Q_is : fits car here v g ≡ true → f.q ≡ (power car v g).Q
  pub w_is : fits car here v g ≡ true → f.w ≡ (power car v g).w

-- what is listed of a gear agrees with itself: over its minimum is X at least 1000 x that minimum, and the lowest gear also fits below
pub record Agrees (car : Vehicle) (g : ℕ) (f : GearFacts) : Type 0 where
  pub over_said : f.over_minimum ≡ leb (1000 * f.minimum) f.engine
  pub fits_said : f.fits ≡ (f.allowed and ((eqb g (low car) or f.over_minimum) and f.under_nmax))

-- the gear marked as chosen is the first choice of the facts listed, and the sentence that is given for it holds
pub record Chooses (car : Vehicle) (here : Role) (v : ℕ) (d : ℤ) (r : Reasons) : Type 0 where
  pub chosen : FirstChoice car here v d r.choice
  pub listed : (g : ℕ) → low car ≤ g → g ≤ car.ng → Listed car here v d g (fact r g)
  pub enough_said : r.sentence ≡ 2 → HighestEnough car here v d r.choice
  pub most_said : r.sentence ≡ 3 → MostPower car here v r.choice
  pub first_said : r.sentence ≡ 4 → r.choice ≡ low car
  pub none_said : r.sentence ≡ 5 → r.choice ≡ 0

-- no gear is chosen, and none of those listed fits
pub record Wants (r : Reasons) : Type 0 where
  pub none_chosen : r.choice ≡ 0
  pub the_sentence : r.sentence ≡ 5
  pub none_fits : (g : ℕ) → 1 ≤ g → g ≤ 10 → (fact r g).fits ≡ false
