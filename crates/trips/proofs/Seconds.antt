-- What passes A, B and C make of one second, where the code does not look at all that the rule looks at.
use Rattle.rules.proofs.Offered.{ℕ, suc, ◌-◌, ◌≤◌, arith, ◌≡◌, true, false, List, length, drop, ◌and◌, at, low, closing, ceiling}
use Rattle.rules.proofs.Offered.{free, is_peak, peak, too_low, slowing}
use Rattle.std.proofs.lemmas.Bool.Decides.{nat_tests}
use Rattle.rules.specs.declared.Vehicle.{Vehicle}
use Rattle.trips.specs.Second.{slowed}

-- ---- the ceiling

module _ (j : ℕ) (gs : List ℕ) where
  -- it is the gear before, or one more
  pub ceiling_from : at gs (j - 1) ≤ ceiling j gs
  unfolding ceiling ◌and◌
  ceiling_from = grind (arith, nat_tests)

-- ---- the passes

module _ (car : Vehicle) (us hs : List ℕ) (j : ℕ) (gs : List ℕ) where
  -- the trip's last second is no peak
  pub peak_last : length gs ≤ suc j → peak car us hs j gs ≡ at gs j
  unfolding peak is_peak ◌and◌
  peak_last l = grind (arith, nat_tests)

  -- before the closing run the gear stays
  pub slowing_open : closing (drop j us) ≡ false → slowing car us hs j gs ≡ at gs j
  unfolding slowing too_low ◌and◌
  slowing_open e = grind (arith, nat_tests)

  -- in it, past the trip's first second, it looks at the hold and at the gear
  pub slowing_is : {least : ℕ} → least ≡ low car → 1 ≤ j → closing (drop j us) ≡ true → slowing car us hs j gs ≡ slowed (at hs j) least (at gs j)
  unfolding slowing too_low free slowed ◌and◌
  slowing_is o l e = grind (arith, nat_tests)
