-- The minimum speeds of a gear at the places of a trip: the one after the lowest gear is the highest. So a gear that is fast enough there is
-- fast enough at every second, and a test of a whole trip need not know its first choices.
use Rattle.rules.proofs.Base.{ℕ, zero, suc, ◌-◌, ◌*◌, ◌≤◌, le_refl, arith, ◌≡◌, true, false, eqb, leb-true, le-leb, Vehicle, Role, First, Closing}
use Rattle.rules.proofs.Base.{AfterLow, Inner}
use Rattle.rules.specs.Words.{◌or◌}
use Rattle.rules.specs.Units.{low}
use Rattle.rules.specs.Gears.{is_first, engine, next_minimum, minimum_of, minimum, is_over_minimum, allowed, fits}
use Rattle.rules.proofs.Laws.Words.{by_test, both, and_left, and_right}

module _ (car : Vehicle) where
  next_most : (here : Role) → next_minimum car here ≤ next_minimum car AfterLow
  unfolding next_minimum
  next_most First = omega arith
  next_most Closing = omega arith
  next_most AfterLow = le_refl _
  next_most Inner = omega arith

  of_most : (here : Role) (r : ℕ) → minimum_of car here r ≤ minimum_of car AfterLow r
  unfolding minimum_of
  of_most here zero = le_refl _
  of_most here (suc zero) = next_most here
  of_most here (suc (suc r)) = le_refl _

  -- the highest of a gear's minimum speeds
  pub minimum_most : (here : Role) (g : ℕ) → minimum car here g ≤ minimum car AfterLow g
  unfolding minimum
  minimum_most here g = of_most here (g - low car)

  over_anywhere : (here : Role) (v g : ℕ) → eqb g (low car) or is_over_minimum car AfterLow v g ≡ true → eqb g (low car) or is_over_minimum car here v g ≡ true
  unfolding is_over_minimum ◌or◌
  over_anywhere here v g t =
      by_test (eqb g (low car)) (λ e. rw e)
      (λ e. rw e (le-leb (1000 * minimum car here g) (engine car g v)
      (omega (arith, minimum_most here g, leb-true (1000 * minimum car AfterLow g) (engine car g v) (rw e at t)))))

  -- a gear that fits after the lowest gear fits at every second but a trip's first
  pub fits_anywhere : (here : Role) (v g : ℕ) → is_first here ≡ false → fits car AfterLow v g ≡ true → fits car here v g ≡ true
  unfolding fits allowed is_first
  fits_anywhere here v g n t =
      rw n (both (and_left _ _ t) (both (over_anywhere here v g (and_left _ _ (and_right _ _ t))) (and_right _ _ (and_right _ _ t))))
