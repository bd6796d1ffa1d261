-- No gap between two gears' speeds is enough: no second of a span that passes the checks before wants a gear.
use Rattle.rules.proofs.Offered.{ℕ, zero, suc, ◌-◌, ◌*◌, ◌≤◌, ◌<◌, mul_comm, mul_assoc, mul-le-mul_left, mul-le-mul_right, le_of_mul-le-mul_right}
use Rattle.rules.proofs.Offered.{le_trans, le_of_eq, le_of_lt, zero-mul, add-one, arith, ◌≡◌, refl, sym, ap, ◌∙◌, Bool, true, false, not, List, none, some, eqb}
use Rattle.rules.proofs.Offered.{length, drop, le-leb, leb-false, eqb-true, eqb-false, ne_eqb, not-true, eq-eqb, ◌and◌, ◌or◌, at, first, highest}
use Rattle.rules.proofs.Offered.{low, ratio_of, steepest, moving, start, is_first, minimum, engine, is_under_nmax, is_over_minimum, allowed, fits, closing}
use Rattle.rules.proofs.Offered.{role_of, first_at, refuse_at, ◌orelse◌, no-gear, bad, seconds_fault, clash, by_test, by_order, by_eq, first_none}
use Rattle.rules.proofs.Offered.{one_holds, start_le, step_passed, role_at, gear_fault}
use Rattle.rules.proofs.Theorems.Choosing.{fits-at_any}
use Rattle.rules.specs.declared.Vehicle.{Vehicle}
use Rattle.rules.specs.declared.Role.{Role}
use Rattle.rules.specs.declared.Role.TheVariants.{AfterLow}
use Rattle.checks.specs.Calm.{first_fastest, Each, AtMost, gap_at, Stands, Follows, NoGap}
use Rattle.checks.proofs.Tests.{step_large, gear_standing, gear_held, gear_free}
use Rattle.checks.proofs.Scans.{start-more}

-- ---- some gear fits

-- of a gear's ratio a and the next gear's b: where the one turns past nmax, the other has reached its minimum m
reached : (a b v m most : ℕ) → 1000 * most < a * v → m * a ≤ most * b → 1000 * m ≤ b * v
reached a b v m most over on =
    by_order 0 a
    (λ h.
    le_of_mul-le-mul_right
    (le_trans (le_of_eq (mul_assoc 1000 m a))
    (le_trans (mul-le-mul_left 1000 on)
    (le_trans (le_of_eq (sym (mul_assoc 1000 most b)))
    (le_trans (mul-le-mul_right b (le_of_lt over)) (le_of_eq (mul_comm (a * v) b ∙ ap (λ (x : ℕ). b * x) (mul_comm a v) ∙ sym (mul_assoc b v a)))))))
    h)
    (λ h. let e : a ≡ 0 = omega arith in let z : 1000 * most < 0 * v = rw e at over in absurd (omega (arith, zero-mul v)))

-- a second is its trip's first where its trip begins
first-place : (car : Vehicle) (begins closes : Bool) (before : ℕ) → is_first (role_of car begins closes before) ≡ begins
unfolding role_of is_first
first-place car true closes before = refl
first-place car false true before = refl
first-place car false false before = by_test (eqb before (low car)) (λ t. rw t) (λ t. rw t)

-- the lowest gear is one
pub low_some : (car : Vehicle) → 1 ≤ low car
unfolding low
low_some car = omega arith

module _ (car : Vehicle) (v : ℕ) where
  -- a gear turns no faster at this speed than at a higher one
  turns_less : (g : ℕ) {w : ℕ} → v ≤ w → engine car g v ≤ engine car g w
  unfolding engine
  turns_less g h = mul-le-mul_left (ratio_of car g) h

  -- the lowest gear has no minimum, and may fit at any second
  low_fits : (here : Role) → engine car (low car) v ≤ 1000 * car.nmax → fits car here v (low car) ≡ true
  unfolding fits allowed is_over_minimum is_under_nmax ◌and◌ ◌or◌
  low_fits here h = rw (le-leb (low car) (low car) (omega arith), eq-eqb (low car) (low car) refl, le-leb _ _ h)

  -- a gear above it, after the lowest gear, where its minimum is highest
  high_fits : (g : ℕ) → low car < g → 1000 * minimum car AfterLow g ≤ engine car g v → engine car g v ≤ 1000 * car.nmax → fits car AfterLow v g ≡ true
  unfolding fits allowed is_over_minimum is_under_nmax is_first ◌and◌ ◌or◌
  high_fits g a up to = rw (le-leb (low car) g (omega arith), ne_eqb g (low car) (λ z. omega arith), le-leb _ _ up, le-leb _ _ to)

  module _ (on : Each (Follows car) (low car) car.ng) (here : Role) (later : is_first here ≡ false) where
    -- the gear after one that turns past nmax
    next_fits : (g : ℕ) → low car ≤ g → g < car.ng → 1000 * car.nmax < engine car g v → engine car (suc g) v ≤ 1000 * car.nmax
        → fits car here v (suc g) ≡ true
    unfolding engine ratio_of
    next_fits g b a over under =
        let m = minimum car AfterLow (suc g) in
        let x : suc g - 1 ≡ g = omega arith in
        let o : m * at car.ratio (g - 1) ≤ car.nmax * at car.ratio g = rw (add-one g) at (on g b a) in
        fits-at_any car here v (suc g) later
        (high_fits (suc g) (omega arith) (rw x (reached (at car.ratio (g - 1)) (at car.ratio g) v m car.nmax over o)) under)

    -- from a gear that turns no faster than nmax down to the floor, which fits: it is the lowest, or the gear below it turns past nmax
    floor-fits : (g : ℕ) → low car ≤ g → g ≤ car.ng → engine car g v ≤ 1000 * car.nmax → true ≡ not (eqb (highest (fits car here v) car.ng) 0)
    floor-fits zero b a h = let l = low_some car in absurd (omega arith)
    floor-fits (suc g) b a h =
        by_eq b
        (λ e. one_holds _ car.ng (low car) (low_some car) (omega arith) (low_fits here (rw e h)))
        (λ above. by_order (1000 * car.nmax) (engine car g v)
        (λ over. one_holds _ car.ng (suc g) (omega arith) a (next_fits g (omega arith) (omega arith) over h))
        (λ under. floor-fits g (omega arith) (omega arith) under))

  -- so that some gear fits at every speed up to `most`, and at the first second of a trip at every one that it can have
  some_gear : {most : ℕ} → NoGap car most → v ≤ most → (here : Role) → (is_first here ≡ true → v ≤ first_fastest)
      → true ≡ not (eqb (highest (fits car here v) car.ng) 0)
  some_gear d a here b =
      by_test (is_first here)
      (λ t. one_holds _ car.ng (low car) (low_some car) d.some (low_fits here (le_trans (turns_less (low car) (b t)) d.at_first)))
      (λ t. floor-fits d.covered here t car.ng d.some (omega arith) (le_trans (turns_less car.ng a) d.at_most))

-- ---- so no second wants one

module _ (car : Vehicle) (vs hs : List ℕ) (lo hi : ℕ) {most : ℕ}
    (rooms : length hs ≡ length vs) (rest : Stands vs lo hi) (speeds : AtMost (at vs) lo hi most) (gears : NoGap car most)
    (before : none ≡ seconds_fault car vs hs lo hi) where
  module _ (i : ℕ) (since : lo ≤ i) (until : i < hi) where
    -- a moving second is not the span's first
    inner : moving (at vs i) ≡ true → lo < i
    inner m = by_eq since (λ e. clash (rw e m) rest.first) (λ l. l)

    -- the step into it passed
    step_in : lo < i → gap_at vs i ≤ steepest
    step_in l =
        by_order steepest (gap_at vs i)
        (λ h. clash (sym (step_large car vs hs lo i l h)) (step_passed car vs hs lo hi (sym before) i since until)) (λ h. h)

    -- a trip's first second is one step above a standing one
    first_slow : moving (at vs i) ≡ true → eqb i (start vs i) ≡ true → at vs i ≤ first_fastest
    unfolding moving
    first_slow m t =
        let l : lo < i = inner m in
        let g : gap_at vs i ≤ steepest = step_in l in
        let z : i ≡ start vs i = eqb-true _ _ t in
        by_test (moving (at vs (i - 1)))
        (λ s.
        let e : start vs i ≡ start vs (i - 1) = start-more vs i (omega arith) s in
        let b : start vs (i - 1) ≤ i - 1 = start_le vs (i - 1) in
        absurd (omega arith))
        (λ s. let u : at vs (i - 1) < 10 = leb-false 10 (at vs (i - 1)) s in omega arith)

    gear_good : bad no-gear car vs hs lo i ≡ false
    unfolding role_at
    gear_good =
        by_test (moving (at vs i))
        (λ m. by_test (eqb (at hs i) 0)
        (λ t.
        let free : at hs i ≡ 0 = eqb-true _ _ t in
        let here = role_at car vs hs i in
        gear_free car vs hs lo i rooms m free
        ∙ not-true _
        (sym (some_gear car (at vs i) gears (speeds i since until) here
        (λ f. first_slow m (sym (first-place car (eqb i (start vs i)) (closing (drop i vs)) (first_at car vs hs (i - 1))) ∙ f)))))
        (λ t. sym (gear_held car vs hs lo i rooms m (eqb-false _ _ t))))
        (λ m. sym (gear_standing car vs hs lo i m))

  pub no_want : none ≡ gear_fault car vs hs lo hi
  unfolding gear_fault refuse_at ◌orelse◌
  no_want = rw (first_none (bad no-gear car vs hs lo) (hi - lo) lo (λ i a b. gear_good i a (omega arith)))

-- ---- the exact pass

-- the second found, or none
pub wanted : (car : Vehicle) (vs hs : List ℕ) (lo hi i : ℕ) → some i ≡ first (bad no-gear car vs hs lo) lo (hi - lo)
    → some (record { no = 10; spot = i }) ≡ gear_fault car vs hs lo hi
unfolding gear_fault refuse_at ◌orelse◌
wanted car vs hs lo hi i e = rw (← e)

pub not_wanted : (car : Vehicle) (vs hs : List ℕ) (lo hi : ℕ) → none ≡ first (bad no-gear car vs hs lo) lo (hi - lo) → none ≡ gear_fault car vs hs lo hi
unfolding gear_fault refuse_at ◌orelse◌
not_wanted car vs hs lo hi e = rw (← e)
