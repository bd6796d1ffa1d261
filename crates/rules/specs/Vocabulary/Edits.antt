-- Words of the theorems on finished cards, edits of the screen and the summary.
use Rattle.std.specs.Prelude.{ℕ, suc, ◌+◌, ◌-◌, ◌*◌, ◌≤◌, ◌<◌, zero, ◌≡◌, ◌≢◌, ◌⊎◌, Bool, true, false, List, length, eqb}
use Rattle.rules.specs.Words.{none, at}
use Rattle.rules.specs.declared.Vehicle.{Vehicle}
use Rattle.rules.specs.declared.Summary.{Summary}
use Rattle.rules.specs.Units.{most_gears, low, moving, start}
use Rattle.rules.specs.Gears.{engine}
use Rattle.rules.specs.Refusals.{work_fault}
use Rattle.rules.specs.Corrections.{floor, card, shown}
use Rattle.rules.specs.Summary.{summary}
use Rattle.rules.specs.declared.Edit.{Edit}
use Rattle.rules.specs.declared.Edit.TheVariants.{Hold, Release, Mend}
use Rattle.rules.specs.Edit.{Screen}
use Rattle.rules.specs.Vocabulary.Choosing.{IsTrip}

-- ---- request Twelve, over a finished card: `shown` is the gear that a byte shows

-- the gear at second i, one of the vehicle's, turns the engine at nmax or below
pub record AtMostNmax (car : Vehicle) (vs bs : List ℕ) (i : ℕ) : Type 0 where
  pub from : low car ≤ shown (at bs i)
  pub to : shown (at bs i) ≤ car.ng
  pub in_limits : engine car (shown (at bs i)) (at vs i) ≤ 1000 * car.nmax

-- a second without a hold, not the first of its trip, whose speed is above the second before
pub record FreeRise (vs hs : List ℕ) (i : ℕ) : Type 0 where
  pub moves : moving (at vs i) ≡ true
  pub no_hold : at hs i ≡ 0
  pub not_first : i ≢ start vs i
  pub above : at vs (i - 1) < at vs i

-- what the request asks of a card at second i
pub record Spares (car : Vehicle) (vs hs bs : List ℕ) (i : ℕ) : Type 0 where
  -- the gear at each moving second turns the engine at nmax or below
  pub never_over_revs : moving (at vs i) ≡ true → AtMostNmax car vs bs i
  -- there the gear is at most one above the gear before, or is no higher than that second's floor
  pub rises_by_one_or_floor : FreeRise vs hs i → (shown (at bs i) ≤ shown (at bs (i - 1)) + 1) ⊎ (shown (at bs i) ≤ floor car (at vs i))

-- ---- an edit of one second

-- i is outside the places from lo up to hi
abbrev pub Out : ℕ → ℕ → ℕ → Type 0
Out lo hi i = (i < lo) ⊎ (hi ≤ i)

-- holding with gear 0
unfoldable pub none_held : Edit → Bool
none_held (Hold s g) = eqb g 0
none_held (Release s) = false
none_held (Mend s v) = false

-- two traces with their holds that say the same of each second from lo up to hi
pub record SameSpan (vs hs ws ks : List ℕ) (lo hi : ℕ) : Type 0 where
  pub speeds : length ws ≡ length vs
  pub holds : length ks ≡ length hs
  pub speed_at : (i : ℕ) → lo ≤ i → i < hi → at ws i ≡ at vs i
  pub hold_at : (i : ℕ) → lo ≤ i → i < hi → at ks i ≡ at hs i

-- a trip that holds s or a neighbour, at second k
pub record NearTrip (ws : List ℕ) (s a b : ℕ) : Type 0 where
  pub trip : IsTrip ws a b
  pub k : ℕ
  pub one_of : (suc k ≡ s) ⊎ (k ≡ s) ⊎ (k ≡ suc s)
  pub from : a ≤ k
  pub below : k < b

-- second i lies in such a trip
pub record InNear (ws : List ℕ) (s i : ℕ) : Type 0 where
  pub a : ℕ
  pub b : ℕ
  pub near : NearTrip ws s a b
  pub from : a ≤ i
  pub below : i < b

-- what mending at s may change: s itself, the second before it, a second of such a trip, the standing second before one
pub data MayChange (ws : List ℕ) (s i : ℕ) : Type 0 where
  itself : i ≡ s → MayChange ws s i
  just_before : suc i ≡ s → MayChange ws s i
  in_near : InNear ws s i → MayChange ws s i
  before_near : moving (at ws i) ≡ false → InNear ws s (suc i) → MayChange ws s i

-- ---- edits, one after the other

-- the card on the screen is the right one for the present speeds and holds
pub record Right (car : Vehicle) (x : Screen) : Type 0 where
  pub accepted : work_fault car x.speeds x.holds x.card ≡ none
  pub its_card : x.card ≡ card car x.speeds x.holds

-- the summary on it is the count over the whole card
abbrev pub Counted : Screen → Type 0
Counted x = x.summary ≡ summary x.speeds x.card

-- ---- the summary

-- f lo + f (lo + 1) + ..: k summands
unfoldable pub total : (ℕ → ℕ) → ℕ → ℕ → ℕ
total f lo zero = 0
total f lo (suc k) = f lo + total f (suc lo) k

-- the seconds in a summary: standing, and moving in each gear
unfoldable pub seconds_in : Summary → ℕ
seconds_in m = m.standing + total (at m.gears) 0 most_gears
