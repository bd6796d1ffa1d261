-- The gears of one trip: how long the lists are, what a first choice is, and that a held second keeps its hold through every pass.
use Rattle.rules.proofs.Base.{ℕ, ◌<◌, ◌≡◌, refl, ◌∙◌, ◌≢◌, false, List, length, replicate, length-replicate, ne_eqb, Vehicle}
use Rattle.rules.specs.Words.{◌and◌, at, pass}
use Rattle.rules.specs.Corrections.{first_choice, free, is_peak, peak, too_high, rising, too_low, slowing, firsts, after_A, after_B, gears}
use Rattle.rules.proofs.Laws.Words.{clash, if_ind, and_left, length-pass, pass-at, pass_keeps}

module _ (car : Vehicle) (us hs : List ℕ) where
  pub length-firsts : length (firsts car us hs) ≡ length hs
  unfolding firsts
  length-firsts = length-pass (first_choice car us hs) (replicate (length hs) 0) (length hs) ∙ length-replicate (length hs) 0

  pub length_A : length (after_A car us hs) ≡ length hs
  unfolding after_A
  length_A = length-pass _ (firsts car us hs) (length hs) ∙ length-firsts

  pub length_B : length (after_B car us hs) ≡ length hs
  unfolding after_B
  length_B = length-pass _ (after_A car us hs) (length hs) ∙ length_A

  pub length-gears : length (gears car us hs) ≡ length hs
  unfolding gears after_A after_B
  length-gears = length-pass _ (after_B car us hs) (length hs) ∙ length_B

  -- a second that is not free is left alone by each pass
  module _ (j : ℕ) (rs : List ℕ) (n : free car us hs j ≡ false) where
    pub peak_fixed : peak car us hs j rs ≡ at rs j
    unfolding peak is_peak
    peak_fixed = if_ind (λ g. g ≡ at rs j) (is_peak car us hs j rs) (λ t. clash (and_left _ _ (and_left _ _ (and_left _ _ (and_left _ _ t)))) n) (λ t. refl)

    pub rising_fixed : rising car us hs j rs ≡ at rs j
    unfolding rising too_high
    rising_fixed = if_ind (λ g. g ≡ at rs j) (too_high car us hs j rs) (λ t. clash (and_left _ _ (and_left _ _ t)) n) (λ t. refl)

    pub slowing_fixed : slowing car us hs j rs ≡ at rs j
    unfolding slowing too_low
    slowing_fixed = if_ind (λ g. g ≡ at rs j) (too_low car us hs j rs) (λ t. clash (and_left _ _ (and_left _ _ t)) n) (λ t. refl)

  module _ (j : ℕ) (l : j < length hs) where
    pub first_is : at (firsts car us hs) j ≡ first_choice car us hs j (pass (first_choice car us hs) j (replicate (length hs) 0))
    unfolding firsts
    first_is = pass-at (first_choice car us hs) (replicate (length hs) 0) (length hs) j l (rw length-replicate l)

    -- where the second is not free, its gear is its first choice
    pub fixed_gear : free car us hs j ≡ false → at (gears car us hs) j ≡ at (firsts car us hs) j
    unfolding gears after_B after_A
    fixed_gear n =
        pass_keeps _ (after_B car us hs) (length hs) j (rw length_B l) (λ rs. slowing_fixed j rs n)
        ∙ pass_keeps _ (after_A car us hs) (length hs) j (rw length_A l) (λ rs. rising_fixed j rs n)
        ∙ pass_keeps _ (firsts car us hs) (length hs) j (rw length-firsts l) (λ rs. peak_fixed j rs n)

    module _ (h : at hs j ≢ 0) where
      -- a held second is not free
      pub not_free : free car us hs j ≡ false
      unfolding free ◌and◌
      not_free = rw (ne_eqb (at hs j) 0 h)

      -- and shows its hold
      pub held_gear : at (gears car us hs) j ≡ at hs j
      unfolding first_choice
      held_gear = fixed_gear not_free ∙ rw (first_is, ne_eqb (at hs j) 0 h)
