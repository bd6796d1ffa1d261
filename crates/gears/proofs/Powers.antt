-- The power at a gear, from the points that the code works it out of.
use Rattle.rules.proofs.Offered.{ℕ, zero, suc, ◌+◌, ◌-◌, ◌*◌, ◌≤◌, ◌<◌, le_trans, mul_assoc, mul_left_comm, mul-le-mul_left, max-le, le-max_right, arith}
use Rattle.rules.proofs.Offered.{◌≡◌, sym, ap, ◌∙◌, subst, true, List, ℤ, pos, negsuc, neg_ℤ, nat_abs, ◌+ℤ◌, ◌-ℤ◌, ◌*ℤ◌, +ℤ_assoc, le_z, lt_z, leb-true, le-leb}
use Rattle.rules.proofs.Offered.{at, Power, more, engine, is_under_nmax, fits, between, on_segment, segment, power_speed, power, OnSegment, InBounds, and_right}
use Rattle.rules.proofs.Offered.{+ℤ-*ℤ, neg_*ℤ, pos_sub, leZ_trans, leZ_scale, segment-holds, derated_is, Q_size, w_size}
use Rattle.rules.specs.declared.Vehicle.{Vehicle}
use Rattle.rules.specs.declared.Role.{Role}
use Rattle.gears.specs.Powers.{Powers}
use Rattle.gears.specs.Choosing.{Curve, Segment, power_of, Turning, PowerSized, enough_for, InGear}
use Rattle.gears.specs.declared.Power as code

-- ---- no power is too little while coasting or braking

-- Q of two points with powers p1 and p2, w apart, at a speed t above the first: not negative up to the second
Q_pos : (p1 p2 w t : ℕ) → t ≤ 1000 * w
    → pos 1000 *ℤ pos p1 *ℤ pos w +ℤ (pos p2 -ℤ pos p1) *ℤ pos t ≡ pos (1000 * p1 * w + p2 * t - p1 * t)
Q_pos p1 p2 w t h =
    let a = 1000 * p1 * w in
    let l : p1 * t ≤ a = rw (mul_assoc 1000 p1 w, ← mul_left_comm p1 1000 w) (mul-le-mul_left p1 h) in
    ap (λ (z : ℤ). pos a +ℤ z) (+ℤ-*ℤ (pos p2) (neg_ℤ (pos p1)) (pos t) ∙ ap (λ (z : ℤ). pos (p2 * t) +ℤ z) (neg_*ℤ (pos p1) (pos t)))
    ∙ sym (+ℤ_assoc (pos a) (pos (p2 * t)) (neg_ℤ (pos (p1 * t))))
    ∙ pos_sub (a + p2 * t) (p1 * t) (omega arith)

-- where w is positive and Q is not negative, an E of at most 0 is met
enough_none : (e : ℤ) → le_z e (pos 0) ≡ true → (w q : ℕ) → 0 < w → le_z (e *ℤ pos w) (pos q *ℤ pos 3240000) ≡ true
enough_none e h w q l = leZ_trans (e *ℤ pos w) (pos 0 *ℤ pos w) (pos (q * 3240000)) (leZ_scale e (pos 0) w l ∙ h) (le-leb (0 * w) (q * 3240000) (omega arith))

-- less than every power
abbrev pub nothing : Power
nothing = record { Q = negsuc 0; w = pos 1 }

-- where w is positive and Q is not negative
more-nothing : (w q : ℕ) → 0 < w → lt_z (negsuc 0 *ℤ pos w) (pos q *ℤ pos 1) ≡ true
more-nothing zero q l = absurd (omega arith)
more-nothing (suc w) q l = let e : 1 * suc w ≡ suc w = omega arith in ap (λ (m : ℕ). lt_z (neg_ℤ (pos m)) (pos (q * 1))) e

module _ {car : Vehicle} (B : InBounds car) (v g : ℕ) (t : Turning car v g) where
  -- the engine speed at which power is read is at most nmax
  speed_to : power_speed car v g ≤ 1000 * car.nmax
  unfolding power_speed
  speed_to = max-le t.under (omega (arith, B.rated_from, B.nmax_from))

  -- it lies on the segment found
  pub turning_on : OnSegment car (power_speed car v g) (segment car (power_speed car v g))
  unfolding power_speed
  turning_on = segment-holds car B (power_speed car v g) (le-max_right (engine car g v) (1000 * car.idle)) speed_to

  -- the search can be made
  pub turned-curve : Curve car (power_speed car v g)
  turned-curve = record {
    from = B.points_from;
    to = B.points_to;
    rises = B.n_rises;
    reaches_to = le_trans speed_to (mul-le-mul_left 1000 B.last_point);
  }

  -- it finds a segment of the curve
  pub turned-next : {s : ℕ} → s ≡ segment car (power_speed car v g) → s + 1 < car.points
  turned-next e = let on = turning_on in rw e (omega (arith, on.next_point))

  module _ {x s : ℕ} (e : x ≡ power_speed car v g) (f : s ≡ segment car (power_speed car v g)) where
    -- which can be read
    pub turning-segment : Segment x s
    turning-segment =
        let on = turning_on in
        rw (e, f) (record { next = omega (arith, on.next_point, B.points_to); small = omega (arith, speed_to, B.nmax_to) })

    -- the power there is the gear's
    pub power_is : (p : List ℕ) → Powers car p → between (at car.n s) (pos (at p s)) (at car.n (suc s)) (pos (at p (suc s))) x ≡ power car v g
    unfolding power on_segment
    power_is p P =
        let on = turning_on in
        let r = segment car (power_speed car v g) in
        rw (f, e, ← P r (omega (arith, on.next_point)), ← P (suc r) on.next_point)

  -- a power that is the gear's is within its bounds
  pub sized_of : (a : code.Power) → power_of a ≡ power car v g → PowerSized a
  unfolding power
  sized_of a e =
      let x = power_speed car v g in
      record {
        q_in = subst (λ (z : Power). nat_abs z.Q ≤ 1000000000000) (sym e) (Q_size car B x (segment car x) turning_on);
        w_in = subst (λ (z : Power). nat_abs z.w ≤ 1000) (sym e) (w_size car B x (segment car x) turning_on);
      }

  -- no power is too little for an E of at most 0
  pub turning_enough : (e : ℤ) → le_z e (pos 0) ≡ true → enough_for (power car v g) e ≡ true
  unfolding enough_for power on_segment between
  turning_enough e h =
      let x = power_speed car v g in
      let s = segment car x in
      let on = turning_on in
      let rise = B.n_rises s on.next_point in
      rw (
        derated_is car B s (omega (arith, on.next_point)),
        derated_is car B (suc s) on.next_point,
        pos_sub (at car.n (suc s)) (at car.n s) (omega arith),
        pos_sub x (1000 * at car.n s) on.from,
        Q_pos _ _ (at car.n (suc s) - at car.n s) (x - 1000 * at car.n s) (omega (arith, on.to)),
      ) (enough_none e h _ _ (omega arith))

  -- and each is more than nothing
  pub turning_more : more (power car v g) nothing ≡ true
  unfolding more power on_segment between
  turning_more =
      let x = power_speed car v g in
      let s = segment car x in
      let on = turning_on in
      let rise = B.n_rises s on.next_point in
      rw (
        derated_is car B s (omega (arith, on.next_point)),
        derated_is car B (suc s) on.next_point,
        pos_sub (at car.n (suc s)) (at car.n s) (omega arith),
        pos_sub x (1000 * at car.n s) on.from,
        Q_pos _ _ (at car.n (suc s) - at car.n s) (x - 1000 * at car.n s) (omega (arith, on.to)),
      ) (more-nothing (at car.n (suc s) - at car.n s) _ (omega arith))

-- a gear that fits turns the engine no faster than nmax
pub turning_of : (car : Vehicle) (here : Role) (v g : ℕ) → InGear car g → fits car here v g ≡ true → Turning car v g
unfolding fits is_under_nmax
turning_of car here v g b t = record {
  from = b.from;
  to = b.to;
  under = leb-true (engine car g v) (1000 * car.nmax) (and_right _ _ (and_right _ _ t));
}
