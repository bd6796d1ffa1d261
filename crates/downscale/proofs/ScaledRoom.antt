-- The room as both ways leave it is the scaled cycle.
use Rattle.rules.proofs.Offered.{ℕ, ◌+◌, ◌-◌, ◌*◌, ◌≤◌, ◌<◌, zero-add, arith, ◌≡◌, refl, sym, ap, ◌∙◌, not, none, some, fault, said, List}
use Rattle.rules.proofs.Offered.{append-nil, length, drop-length}
use Rattle.rules.proofs.Offered.{ext_get_or, ltb, eqb, lit≤, pos, nat_abs, ltb-false, eqb-true, not-false, le-leb, lt-leb, ◌and◌, within, nearest, at, filled}
use Rattle.rules.proofs.Offered.{left, by_order, by_eq, length-table, at_table, orelse_none, when_none, pos_sub}
use Rattle.std.proofs.Common.{Err}
use Rattle.rules.specs.declared.Refusal.{Refusal}
use Rattle.cycles.specs.Cycle.{cycle}
use Rattle.cycles.specs.Parts.{fill_fault, fill_room}
use Rattle.cycles.proofs.Stretches.{accepted}
use Rattle.cycles.proofs.Table.{length-cycle}
use Rattle.downscale.specs.Steps.{own, steps, rise_steps, peak, fall_steps, by_stretch, scaled_at, scaled_cycle, down_fault}
use Rattle.downscale.specs.Closed.{drawn, drawn_speed, Drawing, Changed, Stepping}
use Rattle.downscale.proofs.Fractions.{begins, top, drawn_rest, rise_closed, peak_closed, correction_closed, fall_closed}
use Rattle.downscale.proofs.Rounding.{nearest_exact}
use Rattle.downscale.proofs.Stepping.{left_at}

-- ---- what was not refused

pub accepted_factor : (f n : ℕ) → down_fault f n ≡ none → f ≤ 500
unfolding down_fault
accepted_factor f n e = ltb-false 500 f (when_none 23 (ltb 500 f) 0 (orelse_none _ _ e).0)

pub accepted_length : (f n : ℕ) → down_fault f n ≡ none → n ≡ 1801
unfolding down_fault
accepted_length f n e = eqb-true n 1801 (not-false _ (when_none 2 (not (eqb n 1801)) 0 (orelse_none _ _ e).1))

-- ---- the room filled with the cycle

-- a room that is not refused is not refused when it is filled
pub fills : (f : ℕ) (room : List ℕ) (r : Refusal) → down_fault f (length room) ≡ none → said {A = Unit {0}} (Err r) ≡ fill_fault 0 (length room) → ⊥
unfolding said
fills f room r e g =
    let n = accepted_length f (length room) e in
    let z : some (fault r) ≡ none = g ∙ accepted 0 (length room) (lit≤ tt) (omega arith) in
    cc

-- a room of 1,801 places that is filled is the cycle
pub filled-cycle : (room : List ℕ) → length room ≡ 1801 → fill_room 0 room ≡ cycle
unfolding fill_room left filled
filled-cycle room e =
    rw (accepted 0 (length room) (lit≤ tt) (omega arith), length-cycle ∙ sym e, drop-length room) (append-nil cycle)

-- ---- each second of the scaled cycle

module _ (i a b c : ℕ) where
  pub in_rise : 1533 ≤ i → i < 1725 → by_stretch i a b c ≡ a
  unfolding by_stretch within ◌and◌
  in_rise l m = rw (le-leb 1533 i l, le-leb i 1724 (omega arith))

  pub in_fall : 1725 ≤ i → i < 1763 → by_stretch i a b c ≡ b
  unfolding by_stretch within ◌and◌
  in_fall l m = rw (le-leb 1533 i (omega arith), lt-leb i 1724 (omega arith), le-leb 1725 i l, le-leb i 1762 (omega arith))

  pub ahead : i < 1533 → by_stretch i a b c ≡ c
  unfolding by_stretch within ◌and◌
  ahead l = rw (lt-leb 1533 i l, lt-leb 1725 i (omega arith))

  pub behind : 1763 ≤ i → by_stretch i a b c ≡ c
  unfolding by_stretch within ◌and◌
  behind l = rw (le-leb 1533 i (omega arith), lt-leb i 1724 (omega arith), le-leb 1725 i (omega arith), lt-leb i 1762 (omega arith))

-- what is so in each of the four runs of seconds is so at each second
pub by_run : {P : Type 0} (i : ℕ) → (i < 1533 → P) → (1533 ≤ i → i < 1725 → P) → (1725 ≤ i → i < 1763 → P) → (1763 ≤ i → P) → P
by_run i a b c d = by_order i 1533 a (λ l. by_order i 1725 (b l) (λ m. by_order i 1763 (c m) d))

pub scaled_there : (f i : ℕ) → i < 1801 → at (scaled_cycle f) i ≡ scaled_at f i
unfolding scaled_cycle
scaled_there f i l = at_table (scaled_at f) 0 1801 i l ∙ rw zero-add

pub length-scaled : (f : ℕ) → length (scaled_cycle f) ≡ 1801
unfolding scaled_cycle
length-scaled f = length-table (scaled_at f) 0 1801

module _ (f : ℕ) (room : List ℕ) (n : length room ≡ 1801)
    (a : (j : ℕ) → j < 1533 → at room j ≡ at cycle j)
    (b : (j : ℕ) → 1533 ≤ j → j < 1725 → at room j ≡ nearest (nat_abs (rise_steps f (j - 1533))) 1000)
    (c : (j : ℕ) → 1725 ≤ j → j < 1763 → at room j ≡ nearest (nat_abs (fall_steps f (j - 1724))) 487000)
    (d : (j : ℕ) → 1763 ≤ j → at room j ≡ at cycle j) where
  each : (j : ℕ) → at room j ≡ scaled_at f j
  unfolding scaled_at
  each j =
      by_run j
      (λ h. a j h ∙ sym (ahead j _ _ _ h))
      (λ h k. b j h k ∙ sym (in_rise j _ _ _ h k))
      (λ h k. c j h k ∙ sym (in_fall j _ _ _ h k))
      (λ h. d j h ∙ sym (behind j _ _ _ h))

  -- a room that is the scaled cycle stretch by stretch is the scaled cycle
  pub whole : room ≡ scaled_cycle f
  whole = ext_get_or 0 room (scaled_cycle f) (n ∙ sym (length-scaled f)) (λ j l. each j ∙ sym (scaled_there f j (omega arith)))

-- ---- the closed form

-- each speed as the closed form has it, from the cycle's own
pub rise_speed : (f j : ℕ) → f ≤ 500 → 1533 ≤ j → drawn_speed 1000 f 600 (at cycle j) ≡ nearest (nat_abs (rise_steps f (j - 1533))) 1000
unfolding drawn_speed
rise_speed f j h l = let e : 1533 + (j - 1533) ≡ j = omega arith in rw (rise_closed f h (j - 1533), e)

pub fall_speed : (f j : ℕ) → f ≤ 500 → 1724 ≤ j → drawn_speed 487000 (713 * f) 826 (at cycle j) ≡ nearest (nat_abs (fall_steps f (j - 1724))) 487000
unfolding drawn_speed
fall_speed f j h l = let e : 1724 + (j - 1724) ≡ j = omega arith in rw (fall_closed f h (j - 1724), e)

pub rise_draws : (f : ℕ) → f ≤ 500 → Drawing 1000 f 600
rise_draws f h = record { from = omega arith; to = omega arith; parts = omega arith; speed = omega arith }

pub fall_draws : (f : ℕ) → f ≤ 500 → Drawing 487000 (713 * f) 826
fall_draws f h = record { from = omega arith; to = omega arith; parts = omega arith; speed = omega arith }

-- the speed towards which all are drawn stays
pub stays : (w p r : ℕ) → 1 ≤ w → p ≤ w → drawn_speed w p r r ≡ r
unfolding drawn_speed
stays w p r h l = rw (drawn_rest w p r l) (nearest_exact w h r)

at_stays : (w p r : ℕ) {v : ℕ} → 1 ≤ w → p ≤ w → v ≡ r → v ≡ drawn_speed w p r v
at_stays w p r h l e = e ∙ sym (ap (drawn_speed w p r) e ∙ stays w p r h l)

-- two stretches drawn, one after the other
pub drawn-whole : (f : ℕ) {A B C : List ℕ} → f ≤ 500 → A ≡ cycle
    → Changed (λ j. drawn_speed 1000 f 600 (at A j)) 1533 1725 A B
    → Changed (λ j. drawn_speed 487000 (713 * f) 826 (at B j)) 1725 1763 B C
    → C ≡ scaled_cycle f
drawn-whole f {A} {B} {C} h e x y =
    let same : (j : ℕ) → at A j ≡ at cycle j = λ j. ap (λ (l : List ℕ). at l j) e in
    whole f C (y.size ∙ x.size ∙ ap length e ∙ length-cycle)
    (λ j l. y.before j (omega arith) ∙ x.before j l ∙ same j)
    (λ j l m. y.before j m ∙ x.inside j l m ∙ ap (drawn_speed 1000 f 600) (same j) ∙ rise_speed f j h l)
    (λ j l m. y.inside j l m ∙ ap (drawn_speed 487000 (713 * f) 826) (x.behind j l ∙ same j) ∙ fall_speed f j h (omega arith))
    (λ j l. y.behind j l ∙ x.behind j (omega arith) ∙ same j)

-- ---- the steps

module _ (f : ℕ) (h : f ≤ 500) where
  -- the code's numerators are the definition's
  rise_is : (i : ℕ) → steps 1533 (pos (1000 * 600)) (pos (1000 - f)) i ≡ rise_steps f i
  unfolding rise_steps own
  rise_is i = rw (begins, pos_sub 1000 f (omega arith))

  pub peak_is : {m : ℕ} → pos m ≡ steps 1533 (pos (1000 * 600)) (pos (1000 - f)) (1725 - 1 - 1533) → m ≡ (1000 - f) * 1313 + f * 600
  unfolding peak
  peak_is e = ap nat_abs (e ∙ rise_is 191 ∙ peak_closed f h)

  module _ {A : List ℕ} (e : A ≡ cycle) where
    same : (j : ℕ) → at A j ≡ at cycle j
    same j = ap (λ (l : List ℕ). at l j) e

    size : length A ≡ 1801
    size = ap length e ∙ length-cycle

    pub rise_begins : Stepping 1533 1725 1000 (1000 - f) 600 (1000 * 600) A
    rise_begins = record {
      p = f;
      r = 600;
      draws = rise_draws f h;
      factor_is = refl;
      begins = sym (drawn_rest 1000 f 600 (omega arith));
      own_there = sym begins;
      ordered = omega arith;
      long = omega (arith, size);
      in_cycle = omega arith;
      theirs = λ j l m. same j;
    }

    module _ {B : List ℕ} (x : Changed (left_at 1533 1000 (1000 - f) (1000 * 600)) 1534 1725 A B) {m : ℕ} (q : m ≡ (1000 - f) * 1313 + f * 600) where
      fall_is : (i : ℕ) → steps 1724 (pos (487 * m)) (pos (m - 826000)) i ≡ fall_steps f i
      unfolding fall_steps
      fall_is i = let c : m - 826000 ≡ 487000 - 713 * f = omega arith in rw (peak_closed f h, correction_closed f h, c, q)

      pub fall_begins : Stepping 1724 1763 487000 (m - 826000) 1313 (487 * m) B
      unfolding drawn
      fall_begins = record {
        p = 713 * f;
        r = 826;
        draws = fall_draws f h;
        factor_is = omega arith;
        begins = omega arith;
        own_there = sym top;
        ordered = omega arith;
        long = omega (arith, x.size, size);
        in_cycle = omega arith;
        theirs = λ j l k. x.behind j l ∙ same j;
      }

      -- two stretches stepped, one after the other
      pub stepped_whole : {C : List ℕ} → Changed (left_at 1724 487000 (m - 826000) (487 * m)) 1725 1763 B C → C ≡ scaled_cycle f
      stepped_whole {C} y =
          whole f C (y.size ∙ x.size ∙ size)
          (λ j l. y.before j (omega arith) ∙ x.before j (omega arith) ∙ same j)
          (λ j l k.
          y.before j k
          ∙ by_eq l (λ s. x.before j (omega arith) ∙ same j ∙ at_stays 1000 f 600 (omega arith) (omega arith) (rw (← s) begins) ∙ rise_speed f j h l)
          (λ s. x.inside j s k ∙ ap (λ z. nearest (nat_abs z) 1000) (rise_is (j - 1533))))
          (λ j l k. y.inside j l k ∙ ap (λ z. nearest (nat_abs z) 487000) (fall_is (j - 1724)))
          (λ j l. y.behind j l ∙ x.behind j (omega arith) ∙ same j)
