-- Trips, first choices and power, with requests Two, Four and Six.
use Rattle.rules.proofs.Base.{ℕ, suc, ◌-◌, ◌*◌, ◌≤◌, ◌<◌, arith, ◌≡◌, ◌↔◌, ◌⊎◌, inl, inr, true, false, none, List, eqb, length, drop, ℤ, pos, nat_abs}
use Rattle.rules.proofs.Base.{◌*ℤ◌, Vehicle, Role, AfterLow}
use Rattle.rules.specs.Words.{if◌then◌else◌, at}
use Rattle.rules.specs.Units.{bad_field, fastest, steepest, moving, start, stop, rise}
use Rattle.rules.specs.Gears.{engine, fits, required, on_segment, segment, power_speed, choose, is_first, minimum, power, enough, more}
use Rattle.rules.specs.Corrections.{closing, first_at}
use Rattle.rules.specs.Vocabulary.{IsTrip, FirstChoice, OnSegment, ◌times◌, In64, nested, nested_sum, engine_sum, idle_sum, required_sum, w_sum, Q_sum}
use Rattle.rules.specs.Vocabulary.{NoMargins, full_load, enough_before, available_sum, role_at}
use Rattle.rules.proofs.Laws.Words.{by_order}
use Rattle.rules.proofs.Laws.Trips.{trip_of, trip_le, trip_start, trip_stop, start-before, stop-after, stop_in}
use Rattle.rules.proofs.Laws.Vehicle.{in_bounds}
use Rattle.rules.proofs.Laws.Power.{gear_segment, same_power as shared-point}
use Rattle.rules.proofs.Laws.Margins.{enough_none, more_none}
use Rattle.rules.proofs.Laws.Sizes.{comparison_in_64_bits, more_in_64_bits, speed_in_64_bits}
use Rattle.rules.proofs.Laws.Nested.{required-nested, nested_inside}
use Rattle.rules.proofs.Laws.Closing.{closing_plainly}
use Rattle.rules.proofs.Laws.Choice.{first_choice_plainly}
use Rattle.rules.proofs.Laws.Cards.{first_at_is}
use Rattle.rules.proofs.Laws.Minimum.{minimum_most, fits_anywhere}

-- ---- 1. Trips

-- each moving second lies in a trip, of which `start` is the first second and `stop` the second after the last
pub trip_at : (vs : List ℕ) (i : ℕ) → moving (at vs i) ≡ true → IsTrip vs (start vs i) (stop vs i) × (start vs i ≤ i) × (i < stop vs i)
trip_at = trip_of

-- seconds of one trip have the same first and last
pub same_first-and_last : (vs : List ℕ) {a b : ℕ} → IsTrip vs a b → (i : ℕ) → a ≤ i → i < b → (start vs i ≡ a) × (stop vs i ≡ b)
same_first-and_last vs T i p q = (trip_start vs T i p q, trip_stop vs T i p q)

-- two trips that share a second are one
pub one_trip : (vs : List ℕ) {a b c d : ℕ} → IsTrip vs a b → IsTrip vs c d → (i : ℕ) → a ≤ i → i < b → c ≤ i → i < d → (a ≡ c) × (b ≡ d)
one_trip vs T U i p q r s = let x = trip_le vs T U i p q r s in let y = trip_le vs U T i r s p q in omega arith

-- its neighbours are standing, or the trace ends
pub neighbours : (vs : List ℕ) (i : ℕ) → moving (at vs i) ≡ true
    → ((start vs i ≡ 0) ⊎ (moving (at vs (start vs i - 1)) ≡ false))
    × ((stop vs i ≡ length vs) ⊎ ((stop vs i < length vs) × (moving (at vs (stop vs i)) ≡ false)))
neighbours vs i m =
    let c = stop_in vs i m in (
      by_order 0 (start vs i) (λ h. inr (start-before vs i (start vs i - 1) (omega arith))) (λ h. inl (omega arith)),
      by_order (stop vs i) (length vs) (λ h. inr (h, stop-after vs i)) (λ h. inl (omega arith)),
    )

-- ---- 2. First choice, said plainly

pub first_choice : (car : Vehicle) (here : Role) (v : ℕ) (d : ℤ) → bad_field car ≡ none → FirstChoice car here v d (choose car here v d)
first_choice car here v d e = first_choice_plainly car here v d (in_bounds car e)

-- first choices run from left to right through a trip: the held gear, else the rules' choice for what the second is, which may ask for the first choice before
pub first_choice-at : (car : Vehicle) (vs hs : List ℕ) → length hs ≡ length vs → (i : ℕ) → moving (at vs i) ≡ true
    → first_at car vs hs i ≡ (if eqb (at hs i) 0 then choose car (role_at car vs hs i) (at vs i) (rise vs i) else at hs i)
first_choice-at = first_at_is

-- of the minimum speeds of a gear the one after the lowest gear is the highest: a gear that fits there fits at every second but a trip's first
pub highest-minimum : (car : Vehicle) (here : Role) (g : ℕ) → minimum car here g ≤ minimum car AfterLow g
highest-minimum = minimum_most

pub fits-at_any : (car : Vehicle) (here : Role) (v g : ℕ) → is_first here ≡ false → fits car AfterLow v g ≡ true → fits car here v g ≡ true
fits-at_any = fits_anywhere

-- the closing run: a second of a trip is in it exactly when from there to the trip's end every V is above the V that follows
pub closing-run : (vs : List ℕ) (i : ℕ) → moving (at vs i) ≡ true → stop vs i < length vs
    → (closing (drop i vs) ≡ true) ↔ ((k : ℕ) → i ≤ k → k < stop vs i → at vs (suc k) < at vs k)
closing-run = closing_plainly

-- ---- 3. Power

-- the segment found holds x
pub segment_found : (car : Vehicle) → bad_field car ≡ none → (here : Role) (v g : ℕ) → fits car here v g ≡ true
    → OnSegment car (power_speed car v g) (segment car (power_speed car v g))
segment_found car e = gear_segment car (in_bounds car e)

-- at a shared point both neighbours give the same power: Q/w is Q'/w'
pub same_power : (car : Vehicle) (k : ℕ) → let x = 1000 * at car.n (suc k) in
    (on_segment car x k).Q *ℤ (on_segment car x (suc k)).w ≡ (on_segment car x (suc k)).Q *ℤ (on_segment car x k).w
same_power = shared-point

-- Request Six: where no point of the curve has a margin of its own, power is compared as in document 01, by full-load power and M alone. The rules look at
-- power through these two tests and in no other way, so they choose as they chose

module _ (car : Vehicle) (ok : bad_field car ≡ none) (none-own : NoMargins car) where
  pub enough_by_M : (here : Role) (v g : ℕ) → fits car here v g ≡ true → (d : ℤ) → enough car v d g ≡ enough_before car v d g
  enough_by_M = enough_none car (in_bounds car ok) none-own

  pub most_by_full_load : (here : Role) (v g h : ℕ) → fits car here v g ≡ true → fits car here v h ≡ true
      → more (power car v g) (power car v h) ≡ more (full_load car v g) (full_load car v h)
  most_by_full_load = more_none car (in_bounds car ok) none-own

-- ---- 4. Every product and sum of the power comparison, the engine speeds X and 1000 x idle among them, stays inside a signed 64-bit number

pub speeds_in_64_bits : (car : Vehicle) → bad_field car ≡ none → (v : ℕ) → v ≤ fastest → (g : ℕ) → 1 ≤ g → g ≤ car.ng
    → In64 (engine_sum car g v) (pos (engine car g v)) × In64 (idle_sum car) (pos (1000 * car.idle))
speeds_in_64_bits car e = speed_in_64_bits car (in_bounds car e)

pub enough_in_64_bits : (car : Vehicle) → bad_field car ≡ none → (v : ℕ) → v ≤ fastest → (d : ℤ) → nat_abs d ≤ steepest → (x k : ℕ) → OnSegment car x k
    → In64 (required_sum car v d times w_sum car k) (required car v d *ℤ (on_segment car x k).w)
    × In64 (available_sum car x k) ((on_segment car x k).Q *ℤ pos 3240000)
enough_in_64_bits car e = comparison_in_64_bits car (in_bounds car e)

pub most_in_64_bits : (car : Vehicle) → bad_field car ≡ none → (x k : ℕ) → OnSegment car x k → (y j : ℕ) → OnSegment car y j
    → In64 (Q_sum car y j times w_sum car k) ((on_segment car y j).Q *ℤ (on_segment car x k).w)
    × In64 (Q_sum car x k times w_sum car j) ((on_segment car x k).Q *ℤ (on_segment car y j).w)
most_in_64_bits car e = more_in_64_bits car (in_bounds car e)

-- Request Four: the required power as the bench writes it has the same value at every input, and stays inside a signed 64-bit number too

pub as_the_bench_writes_it : (car : Vehicle) (v : ℕ) (d : ℤ) → required car v d ≡ nested car v d
as_the_bench_writes_it = required-nested

pub bench_in_64_bits : (car : Vehicle) → bad_field car ≡ none → (v : ℕ) → v ≤ fastest → (d : ℤ) → nat_abs d ≤ steepest
    → In64 (nested_sum car v d) (nested car v d)
bench_in_64_bits car e = nested_inside car (in_bounds car e)
