-- The power curve at an engine speed: the search from a segment near it, up while the segment does not reach x, then down while its lower end does; and the
-- power on the segment found.
use Rattle.rules.proofs.Offered.{ℕ, suc, ◌+◌, ◌*◌, ◌≤◌, ◌<◌, add-one, le-max_right, max-le, arith, ◌≡◌, sym, ◌⊎◌, List, pos, le-leb, at, engine, reaches}
use Rattle.rules.proofs.Offered.{between, on_segment, segment, power_speed, power, OnSegment, InBounds, segment_unique, segment-holds}
use Rattle.rules.specs.declared.Vehicle.{Vehicle}
use Rattle.gears.specs.Powers.{Powers}
use Rattle.gears.specs.Choosing.{Curve, Segment, Turning}

-- the segment that reaches x and whose lower end is under x, or the first
pub ends : {car : Vehicle} {x : ℕ} → Curve car x → (s : ℕ) → s + 1 < car.points → x ≤ 1000 * at car.n (s + 1)
    → (s ≡ 0) ⊎ (1000 * at car.n s < x) → s ≡ segment car x
unfolding reaches
ends {car} {x} curve s last r p = sym (segment_unique car curve.rises x s (omega arith) (le-leb _ _ (rw add-one at r)) p)

module _ {car : Vehicle} (B : InBounds car) (v g : ℕ) (t : Turning car v g) where
  -- the engine speed at which power is read is at most nmax
  speed_to : power_speed car v g ≤ 1000 * car.nmax
  unfolding power_speed
  speed_to = max-le t.under (omega (arith, B.rated_from, B.nmax_from))

  -- it lies on the segment found
  turning_on : OnSegment car (power_speed car v g) (segment car (power_speed car v g))
  unfolding power_speed
  turning_on = segment-holds car B (power_speed car v g) (le-max_right (engine car g v) (1000 * car.idle)) speed_to

  module _ {x s : ℕ} (e : x ≡ power_speed car v g) (f : s ≡ segment car (power_speed car v g)) where
    -- which can be read
    pub turning-segment : Segment x s
    turning-segment =
        let on = turning_on in
        rw (e, f) (record { next = omega (arith, on.next_point, B.points_to); small = omega (arith, speed_to, B.nmax_to) })

    -- the power there is the gear's
    pub power_is : (p : List ℕ) → Powers car p → between (at car.n s) (pos (at p s)) (at car.n (suc s)) (pos (at p (suc s))) x ≡ power car v g
    unfolding power on_segment
    power_is p P =
        let on = turning_on in
        let r = segment car (power_speed car v g) in
        rw (f, e, ← P r (omega (arith, on.next_point)), ← P (suc r) on.next_point)
