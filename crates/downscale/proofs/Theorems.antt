-- What a reader of request Eleven may conclude of the scaled cycle and of the two ways, each by name.
use Rattle.rules.proofs.Offered.{ℕ, suc, ◌+◌, ◌-◌, ◌*◌, ◌≤◌, ◌<◌, arith, ◌≡◌, sym, ◌∙◌, none, List, lit<, lit≤, ext_get_or, pos, ◌-ℤ◌}
use Rattle.rules.proofs.Offered.{said_once, at, part, longest, by_order, by_eq}
use Rattle.rules.specs.declared.Vehicle.{Vehicle}
use Rattle.rules.specs.Refusals.{Answer}
use Rattle.cycles.specs.Cycle.{cycle}
use Rattle.cycles.specs.Parts.{trace_checks, first_second, last_second}
use Rattle.cycles.proofs.Table.{Near}
use Rattle.cycles.proofs.Drives.{Driven, passes, driven_part}
use Rattle.cycles.proofs.Theorems.{whole, never_fast, never_steep, parts_rest}
use Rattle.downscale.specs.Steps.{own, rise_steps, fall_steps, scaled_at, scaled_cycle}
use Rattle.downscale.specs.Closed.{drawn, drawn_speed, closed_at}
use Rattle.downscale.proofs.Demands.{Scaled}
use Rattle.downscale.proofs.Fractions as fractions
use Rattle.downscale.proofs.Rounding.{nearest_most, nearest_near, nearest_same, nearest_exact, drawn_most, drawn_near, drawn_none}
use Rattle.downscale.proofs.ScaledRoom.{in_rise, in_fall, ahead, behind, by_run, scaled_there, length-scaled, rise_speed, fall_speed, stays}

-- ---- the two ways agree

-- as fractions: at each second of the rise and of the fall the numerator of the steps
-- is the closed form's, over the same 1,000 or 487,000; so no numerator is negative
pub rise_closed : (f : ℕ) → f ≤ 500 → (i : ℕ) → rise_steps f i ≡ pos (drawn 1000 f 600 (at cycle (1533 + i)))
rise_closed = fractions.rise_closed

pub fall_closed : (f : ℕ) → f ≤ 500 → (i : ℕ) → fall_steps f i ≡ pos (drawn 487000 (713 * f) 826 (at cycle (1724 + i)))
fall_closed = fractions.fall_closed

-- the denominator of the correction factor is the cycle's own 131.3 less 82.6
pub correction_denominator : own 1724 -ℤ own 1763 ≡ pos 487
unfolding own
correction_denominator = rw (fractions.top, fractions.foot)

-- and so after rounding, at every second
pub agree : (f : ℕ) → f ≤ 500 → (i : ℕ) → scaled_at f i ≡ closed_at f i
unfolding scaled_at closed_at
agree f h i =
    by_run i
    (λ l. ahead i _ _ _ l ∙ sym (ahead i _ _ _ l))
    (λ l m. in_rise i _ _ _ l m ∙ sym (in_rise i _ _ _ l m ∙ rise_speed f i h l))
    (λ l m. in_fall i _ _ _ l m ∙ sym (in_fall i _ _ _ l m ∙ fall_speed f i h (omega arith)))
    (λ l. behind i _ _ _ l ∙ sym (behind i _ _ _ l))

-- called with the same factor and the same room, both functions answer the same and leave the same
pub one_outcome : {f : ℕ} {room : List ℕ} {z z' : Answer} {new new' : List ℕ} → Scaled f room z new → Scaled f room z' new' → (z ≡ z') × (new ≡ new')
one_outcome {z = z} {z' = z'} D E = (said_once z z' (D.answer ∙ sym E.answer), D.room_left ∙ sym E.room_left)

-- ---- factor 0

unscaled : (w r v : ℕ) → 1 ≤ w → drawn_speed w 0 r v ≡ v
unfolding drawn_speed
unscaled w r v h = rw (drawn_none w r v) (nearest_exact w h v)

own_at : (i : ℕ) → closed_at 0 i ≡ at cycle i
unfolding closed_at
own_at i =
    by_run i
    (λ l. ahead i _ _ _ l)
    (λ l m. in_rise i _ _ _ l m ∙ unscaled 1000 600 (at cycle i) (lit≤ tt))
    (λ l m. in_fall i _ _ _ l m ∙ unscaled 487000 826 (at cycle i) (lit≤ tt))
    (λ l. behind i _ _ _ l)

-- factor 0 gives the cycle back
pub factor_0 : scaled_cycle 0 ≡ cycle
factor_0 = ext_get_or 0 (scaled_cycle 0) cycle (length-scaled 0 ∙ sym whole)
    (λ i l. scaled_there 0 i (omega (arith, length-scaled 0)) ∙ agree 0 (lit≤ tt) i ∙ own_at i)

-- ---- a scaled cycle is a trace

module _ (f : ℕ) (h : f ≤ 500) where
  -- the rise and the fall meet at the peak, and each meets the cycle where its stretch begins or ends
  meet : drawn_speed 1000 f 600 1313 ≡ drawn_speed 487000 (713 * f) 826 1313
  unfolding drawn_speed drawn
  meet =
      let e : (487000 - 713 * f) * 1313 + 713 * f * 826 ≡ 487 * ((1000 - f) * 1313 + f * 600) = omega arith in
      sym (rw e (nearest_same 1000 (lit≤ tt) 487 ((1000 - f) * 1313 + f * 600) (lit< tt)))

  up_to_rise : (i : ℕ) → i ≤ 1533 → closed_at f i ≡ at cycle i
  unfolding closed_at
  up_to_rise i l =
      by_eq l
      (λ e. in_rise i _ _ _ (omega arith) (omega arith) ∙ rw (e, fractions.begins) (stays 1000 f 600 (lit≤ tt) (omega arith)))
      (λ m. ahead i _ _ _ m)

  rising : (i : ℕ) → 1533 ≤ i → i ≤ 1724 → closed_at f i ≡ drawn_speed 1000 f 600 (at cycle i)
  unfolding closed_at
  rising i l m = in_rise i _ _ _ l (omega arith)

  falling : (i : ℕ) → 1724 ≤ i → i ≤ 1763 → closed_at f i ≡ drawn_speed 487000 (713 * f) 826 (at cycle i)
  unfolding closed_at
  falling i l m =
      by_eq l
      (λ e. in_rise i _ _ _ (omega arith) (omega arith) ∙ rw (← e, fractions.top) meet)
      (λ k.
      by_eq m
      (λ e. behind i _ _ _ (omega arith) ∙ rw (e, fractions.foot) (sym (stays 487000 (713 * f) 826 (lit≤ tt) (omega arith))))
      (λ n. in_fall i _ _ _ k n))

  after_fall : (i : ℕ) → 1763 ≤ i → closed_at f i ≡ at cycle i
  unfolding closed_at
  after_fall i l = behind i _ _ _ l

-- speeds at most 150 apart are so when they are drawn, and none is drawn over 2,000
module _ (w p r : ℕ) (a : 1 ≤ w) (b : p ≤ w) where
  drawn_apart : {u v : ℕ} → Near u v → Near (drawn_speed w p r u) (drawn_speed w p r v)
  unfolding drawn_speed
  drawn_apart {u} {v} n = record {
    up = nearest_near w a (drawn w p r v) (drawn w p r u) 150 (drawn_near w p r b u v 150 n.up);
    down = nearest_near w a (drawn w p r u) (drawn w p r v) 150 (drawn_near w p r b v u 150 n.down);
  }

  drawn_slow : {v : ℕ} → r ≤ 2000 → v ≤ 2000 → drawn_speed w p r v ≤ 2000
  unfolding drawn_speed
  drawn_slow {v} c l = nearest_most w a (drawn w p r v) 2000 (drawn_most w p r b v 2000 l c)

module _ (f : ℕ) (h : f ≤ 500) where
  -- two neighbouring seconds lie in one of four runs, ends included, in which one formula holds
  closed_near : (i : ℕ) → suc i < 1801 → Near (closed_at f i) (closed_at f (suc i))
  closed_near i l =
      let n : Near (at cycle i) (at cycle (suc i)) = never_steep i l in
      by_order i 1533
      (λ m. rw (up_to_rise f h i (omega arith), up_to_rise f h (suc i) m) n)
      (λ m.
      by_order i 1724
      (λ k. rw (rising f h i m (omega arith), rising f h (suc i) (omega arith) k) (drawn_apart 1000 f 600 (lit≤ tt) (omega arith) n))
      (λ k.
      by_order i 1763
      (λ q. rw (falling f h i k (omega arith), falling f h (suc i) (omega arith) q) (drawn_apart 487000 (713 * f) 826 (lit≤ tt) (omega arith) n))
      (λ q. rw (after_fall f h i q, after_fall f h (suc i) (omega arith)) n)))

  closed_slow : (i : ℕ) → i < 1801 → closed_at f i ≤ 2000
  closed_slow i l =
      let n : at cycle i ≤ 2000 = never_fast i l in
      by_order i 1533
      (λ m. rw (up_to_rise f h i (omega arith)) n)
      (λ m.
      by_order i 1724
      (λ k. rw (rising f h i m (omega arith)) (drawn_slow 1000 f 600 (lit≤ tt) (omega arith) (lit≤ tt) n))
      (λ k.
      by_order i 1763
      (λ q. rw (falling f h i k (omega arith)) (drawn_slow 487000 (713 * f) 826 (lit≤ tt) (omega arith) (lit≤ tt) n))
      (λ q. rw (after_fall f h i q) n)))

  there : (i : ℕ) → i < 1801 → at (scaled_cycle f) i ≡ closed_at f i
  there i l = scaled_there f i l ∙ agree f h i

  scaled_driven : Driven (scaled_cycle f)
  unfolding longest first_second last_second
  scaled_driven = record {
    some_second = rw (length-scaled f) (lit≤ tt);
    not_long = rw (length-scaled f) (lit≤ tt);
    slow_at = λ i l. let m : i < 1801 = rw (length-scaled f) at l in rw (there i m) (closed_slow i m);
    near_at = λ i l. let m : suc i < 1801 = rw (length-scaled f) at l in rw (there i (omega arith), there (suc i) m) (closed_near i m);
    begins = rw (there 0 (lit< tt), up_to_rise f h 0 (lit≤ tt)) (parts_rest 0 (lit≤ tt)).0;
    comes_to_rest = rw (length-scaled f, there 1800 (lit< tt), after_fall f h 1800 (lit≤ tt)) (parts_rest 0 (lit≤ tt)).1;
  }

  -- a scaled cycle passes checks 1, 4, 5 and 6, for every factor and vehicle and whatever is held
  pub scaled_passes : (car : Vehicle) (hs : List ℕ) → trace_checks car (scaled_cycle f) hs ≡ none
  scaled_passes car hs = passes scaled_driven car hs

  -- and so does its extra high part by itself
  pub extra_high_passes : (car : Vehicle) (hs : List ℕ) → trace_checks car (part (scaled_cycle f) (first_second 4) (last_second 4 + 1)) hs ≡ none
  unfolding first_second last_second
  extra_high_passes car hs =
      passes
      (driven_part scaled_driven 1477 1800 (lit≤ tt) (rw (length-scaled f) (lit< tt))
      (rw (there 1477 (lit< tt), up_to_rise f h 1477 (lit≤ tt)) (parts_rest 4 (lit≤ tt)).0)
      (rw (there 1800 (lit< tt), after_fall f h 1800 (lit≤ tt)) (parts_rest 4 (lit≤ tt)).1)) car hs
