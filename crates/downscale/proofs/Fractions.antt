-- Annex 1's steps in closed form, as fractions: one law for both stretches.
use Rattle.rules.proofs.Offered.{ℕ, zero, suc, ◌+◌, ◌-◌, ◌*◌, ◌≤◌, add-zero, add_comm, add-mul, arith, ◌≡◌, refl, sym, ap, ◌∙◌, ℤ, pos, neg_ℤ, ◌+ℤ◌, ◌-ℤ◌, ◌*ℤ◌}
use Rattle.rules.proofs.Offered.{+ℤ_assoc, at, *ℤ-+ℤ, *ℤ_neg, add_back, pos_sub}
use Rattle.cycles.specs.Cycle.{cycle, low_phase, medium_phase, high_phase, extra_high_phase}
use Rattle.downscale.specs.Steps.{own, steps, rise_steps, peak, correction, fall_steps}
use Rattle.downscale.specs.Closed.{drawn}

-- ---- the cycle where the stretches begin and end

pub begins : at cycle 1533 ≡ 600
unfolding cycle low_phase medium_phase high_phase extra_high_phase
begins = refl

pub top : at cycle 1724 ≡ 1313
unfolding cycle low_phase medium_phase high_phase extra_high_phase
top = refl

pub foot : at cycle 1763 ≡ 826
unfolding cycle low_phase medium_phase high_phase extra_high_phase
foot = refl

-- ---- one step

-- k times a difference
times : (k x y : ℕ) → pos k *ℤ (pos x -ℤ pos y) ≡ pos (k * x) -ℤ pos (k * y)
times k x y = *ℤ-+ℤ (pos k) (pos x) (neg_ℤ (pos y)) ∙ ap (λ z. pos (k * x) +ℤ z) (*ℤ_neg (pos k) (pos y))

-- what is k times y, and b, becomes k times x, and b
step_on : (k x y b : ℕ) → pos (k * y + b) +ℤ pos k *ℤ (pos x -ℤ pos y) ≡ pos (k * x + b)
step_on k x y b =
    ap (λ z. pos (k * y + b) +ℤ z) (times k x y)
    ∙ ap (λ (n : ℕ). pos n +ℤ (pos (k * x) -ℤ pos (k * y))) (add_comm (k * y) b)
    ∙ +ℤ_assoc (pos b) (pos (k * y)) (pos (k * x) -ℤ pos (k * y))
    ∙ ap (λ z. pos b +ℤ z) (add_back (pos (k * y)) (pos (k * x)))
    ∙ ap pos (add_comm b (k * x))

-- ---- a stretch

-- steps that begin as the closed form does go on as it does
pub steps_closed : (from w p r : ℕ) {n k : ℤ} → n ≡ pos (drawn w p r (at cycle from)) → k ≡ pos (w - p)
    → (i : ℕ) → steps from n k i ≡ pos (drawn w p r (at cycle (from + i)))
unfolding steps drawn own
steps_closed from w p r e g zero = e ∙ rw (add-zero from)
steps_closed from w p r e g (suc i) = rw (steps_closed from w p r e g i, g) (step_on (w - p) (at cycle (from + suc i)) (at cycle (from + i)) (p * r))

-- the speed towards which all are drawn stays
pub drawn_rest : (w p r : ℕ) → p ≤ w → drawn w p r r ≡ w * r
unfolding drawn
drawn_rest w p r h = let e : w - p + p ≡ w = omega arith in sym (add-mul (w - p) p r) ∙ ap (λ (m : ℕ). m * r) e

-- ---- the rise and the fall, for every factor 0 to 500

module _ (f : ℕ) (h : f ≤ 500) where
  -- as fractions, over 1,000
  pub rise_closed : (i : ℕ) → rise_steps f i ≡ pos (drawn 1000 f 600 (at cycle (1533 + i)))
  unfolding rise_steps own
  rise_closed = steps_closed 1533 1000 f 600 (rw begins (ap pos (sym (drawn_rest 1000 f 600 (omega arith))))) (pos_sub 1000 f (omega arith))

  pub peak_closed : peak f ≡ pos ((1000 - f) * 1313 + f * 600)
  unfolding peak drawn
  peak_closed = rise_closed 191 ∙ rw top

  pub correction_closed : correction f ≡ pos (487000 - 713 * f)
  unfolding correction own
  correction_closed =
      let e : (1000 - f) * 1313 + f * 600 - 826000 ≡ 487000 - 713 * f = omega arith in
      rw (peak_closed, foot) (pos_sub ((1000 - f) * 1313 + f * 600) 826000 (omega arith) ∙ ap pos e)

  -- as fractions, over 1,000 x 487
  pub fall_closed : (i : ℕ) → fall_steps f i ≡ pos (drawn 487000 (713 * f) 826 (at cycle (1724 + i)))
  unfolding fall_steps drawn
  fall_closed =
      let e : 487 * ((1000 - f) * 1313 + f * 600) ≡ (487000 - 713 * f) * 1313 + 713 * f * 826 = omega arith in
      steps_closed 1724 487000 (713 * f) 826 (rw (peak_closed, top) (ap pos e)) correction_closed
