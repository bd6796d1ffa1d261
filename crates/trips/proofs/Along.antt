-- Passes A, B and C as loops: how such a loop begins and ends.
use Rattle.rules.proofs.Offered.{ℕ, suc, ◌≤◌, max, arith, ◌≡◌, sym, ap, ◌∙◌, List, length, lt-leb, at, pass, by_order, free, peak, rising, slowing}
use Rattle.rules.proofs.Offered.{peak_fixed, rising_fixed, slowing_fixed, and_no, le-ltb, false}
use Rattle.rules.specs.declared.Vehicle.{Vehicle}
use Rattle.trips.proofs.Passes.{pass-first, pass_still, pass_skip, pass_over}
use Rattle.trips.proofs.Seconds.{slowing_open}
use Rattle.trips.specs.Trip.{RunFrom}

module _ (car : Vehicle) (us hs gs : List ℕ) where
  -- a trip's first second is not free
  not_free : free car us hs 0 ≡ false
  unfolding free
  not_free = and_no _ _ (le-ltb 0 0 (omega arith))

  -- so passes A and B leave it as it is, and a loop begins behind it; C begins with the closing run, or behind it
  pub peak-first : gs ≡ pass (peak car us hs) 1 gs
  peak-first = pass-first (peak car us hs) gs 1 (omega arith) (sym (peak_fixed car us hs 0 gs not_free))

  pub rising-first : gs ≡ pass (rising car us hs) 1 gs
  rising-first = pass-first (rising car us hs) gs 1 (omega arith) (sym (rising_fixed car us hs 0 gs not_free))

  pub slowing-first : {run : ℕ} → RunFrom us run → {k : ℕ} → k ≡ max run 1 → gs ≡ pass (slowing car us hs) k gs
  slowing-first {run} R {k} e =
      sym (pass_skip (slowing car us hs) gs k
      (λ i l. by_order i run
      (λ h. slowing_open car us hs i gs (R.run i (omega (arith, R.within)) ∙ lt-leb run i h))
      (λ h. let z : i ≡ 0 = omega arith in rw z (slowing_fixed car us hs 0 gs not_free))))

module _ (f : ℕ → List ℕ → ℕ) (gs₀ : List ℕ) {gs : List ℕ} {j n : ℕ} (so_far : gs ≡ pass f j gs₀) (size : length gs₀ ≡ n) where
  -- the trip ends
  pub along_end : n ≤ j → gs ≡ pass f n gs₀
  along_end l = so_far ∙ pass_over f gs₀ size j l

  -- or only its last second is left, which stays
  pub along_last : n ≤ suc j → f j gs ≡ at gs j → gs ≡ pass f n gs₀
  along_last l stays =
      by_order j n
      (λ m. let e : suc j ≡ n = omega arith in so_far ∙ sym (pass_still f gs₀ j so_far stays) ∙ ap (λ (i : ℕ). pass f i gs₀) e)
      along_end
