-- What is listed of each gear, held or not: it agrees with itself, and request Two's minimum in the closing run.
use Rattle.rules.proofs.Offered.{ℕ, ◌+◌, ◌-◌, ◌≤◌, arith, ◌≡◌, refl, sym, ◌≢◌, Bool, true, false, not, none, List, leb, eqb, ℤ, drop, ◌and◌, ◌or◌, at, low}
use Rattle.rules.proofs.Offered.{rise, is_first, next_minimum, minimum, minimum_of, is_under_nmax, is_over_minimum, allowed, fits, closing, role_of, start}
use Rattle.rules.proofs.Offered.{role_at, kind, about, minimum_role, driven_facts, gear_facts, gear_list, early_fault, said_of, why, clash, by_test, and_no}
use Rattle.rules.proofs.Offered.{low_from}
use Rattle.rules.specs.declared.Vehicle.{Vehicle}
use Rattle.rules.specs.declared.Role.{Role}
use Rattle.rules.specs.declared.Role.TheVariants.{Closing}
use Rattle.reasons.specs.Says.{fact, Agrees}
use Rattle.reasons.proofs.Passed.{bounds, said_there}
use Rattle.reasons.proofs.Chosen.{place, driven_is}

-- a later second of the closing run is that
abbrev Ends : Role → Bool → Type 0
Ends here closes = is_first here ≡ false → closes ≡ true → here ≡ Closing

module _ (car : Vehicle) (here : Role) (closes : Bool) (E : Ends here closes) (v : ℕ) (d : ℤ) where
  -- at a later second the minimum is that of the choice
  same_role : is_first here ≡ false → minimum_role here closes ≡ here
  unfolding minimum_role
  same_role n = by_test closes (λ t. rw t (sym (E n t))) (λ t. rw t)

  fits_listed : (g : ℕ)
      → fits car here v g ≡ (allowed car here g and ((eqb g (low car) or is_over_minimum car (minimum_role here closes) v g) and is_under_nmax car v g))
  unfolding fits allowed ◌and◌ ◌or◌
  fits_listed g =
      by_test (eqb g (low car)) (λ t. rw t)
      (λ t. by_test (is_first here) (λ f. rw (t, f, and_no (leb (low car) g) (not true) refl)) (λ f. rw (same_role f)))

  agrees : (g : ℕ) → low car ≤ g → g ≤ car.ng → Agrees car g (gear_facts car here closes v d g)
  unfolding driven_facts is_over_minimum
  agrees g a b = rw (driven_is car here closes v d g a b) (record { over_said = refl; fits_said = fits_listed g })

-- the minimum of the gear above the lowest, in the closing run
idle_listed : (car : Vehicle) (here : Role) (v : ℕ) (d : ℤ) → low car + 1 ≤ car.ng → (gear_facts car here true v d (low car + 1)).minimum ≡ car.idle
unfolding driven_facts minimum_role minimum minimum_of next_minimum
idle_listed car here v d h = let e : low car + 1 - low car ≡ 1 = omega arith in rw (driven_is car here true v d (low car + 1) (omega arith) h, e)

-- what the second is, and whether it lies in the closing run
role_ends : (car : Vehicle) (vs hs : List ℕ) (i : ℕ) → Ends (role_at car vs hs i) (closing (drop i vs))
unfolding role_at role_of is_first
role_ends car vs hs i =
    by_test (eqb i (start vs i)) (λ t n c. clash refl (rw t at n))
    (λ t n c. rw (t, c))

module _ (car : Vehicle) (vs hs : List ℕ) (s : ℕ) (e : early_fault car vs hs s ≡ none) (z : kind vs s ≢ 0) where
  listed_there : (g : ℕ) → low car ≤ g → g ≤ car.ng
      → let i = about vs s in fact (why car vs hs s) g ≡ gear_facts car (role_at car vs hs i) (closing (drop i vs)) (at vs i) (rise vs i) g
  unfolding said_of gear_list
  listed_there g a b =
      let B = bounds car vs hs s e in
      let l = low_from car in
      rw (said_there car vs hs s e z)
      (place (gear_facts car (role_at car vs hs (about vs s)) (closing (drop (about vs s) vs)) (at vs (about vs s)) (rise vs (about vs s))) g (omega arith)
      (omega (arith, B.ng_to)))

  pub agrees_there : (g : ℕ) → low car ≤ g → g ≤ car.ng → Agrees car g (fact (why car vs hs s) g)
  agrees_there g a b =
      let i = about vs s in rw (listed_there g a b) (agrees car (role_at car vs hs i) (closing (drop i vs)) (role_ends car vs hs i) (at vs i) (rise vs i) g a b)

  pub idle_there : closing (drop (about vs s) vs) ≡ true → (fact (why car vs hs s) (low car + 1)).minimum ≡ car.idle
  idle_there c =
      let h = (bounds car vs hs s e).low_ng in
      rw (listed_there (low car + 1) (omega arith) (omega arith), c)
      (idle_listed car (role_at car vs hs (about vs s)) (at vs (about vs s)) (rise vs (about vs s)) (omega arith))
