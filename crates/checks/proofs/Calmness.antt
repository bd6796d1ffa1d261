-- What the cheap test of a span finds is enough: no second of it fails one of the checks 4 to 9.
use Rattle.rules.proofs.Offered.{ℕ, zero, suc, ◌+◌, ◌-◌, ◌≤◌, ◌<◌, max, add-zero, arith, ◌≡◌, refl, sym, true, false, List, none, eqb, length, eqb-true}
use Rattle.rules.proofs.Offered.{eqb-false, at, fastest, moving, step, ends, checks, bad, seconds_fault, clash, by_test, by_eq}
use Rattle.rules.specs.declared.Vehicle.{Vehicle}
use Rattle.checks.specs.Checks.{fault_no, kept, lower, hold_checks}
use Rattle.checks.specs.Calm.{Each, AtMost, most_of, Stands, HoldsPass}
use Rattle.checks.proofs.OnePass.{seconds_none, seconds_more}
use Rattle.checks.proofs.Tests.{ends_standing, ends_between, free_good, onward}

-- ---- each place, one further

pub each_none : (P : ℕ → Type 0) (lo : ℕ) → Each P lo lo
each_none P lo i a b = absurd (omega arith)

pub each_more : (P : ℕ → Type 0) (lo j : ℕ) → Each P lo j → P j → Each P lo (j + 1)
each_more P lo j s h i a b = by_eq {P = P i} {i = i} {j = j} (omega arith) (λ e. rw e h) (λ l. s i a l)

-- ---- the highest of the places

module _ (f : ℕ → ℕ) (lo : ℕ) where
  -- of none
  pub most_none : (j : ℕ) → j ≤ lo → 0 ≡ most_of f lo (j - lo)
  unfolding most_of
  most_none j h = let e : j - lo ≡ 0 = omega arith in rw e

  -- and of one more: the larger of the highest so far and of what stands there
  pub most_more : (j : ℕ) → lo ≤ j → {m r : ℕ} → m ≡ most_of f lo (j - lo) → r ≡ max m (f j) → r ≡ most_of f lo (j + 1 - lo)
  unfolding most_of
  most_more j h e g =
      let x : j + 1 - lo ≡ suc (j - lo) = omega arith in
      let y : lo + (j - lo) ≡ j = omega arith in
      rw (x, y, ← e) g

  -- nothing is above it
  most_tops : (k : ℕ) → AtMost f lo (lo + k) (most_of f lo k)
  unfolding most_of
  most_tops zero i a b = absurd (omega arith)
  most_tops (suc k) i a b =
      by_eq {P = f i ≤ max (most_of f lo k) (f (lo + k))} {i = i} {j = lo + k} (omega arith) (λ e. rw e (omega arith))
      (λ l. let z = most_tops k i a l in omega arith)

  pub at_most : (hi : ℕ) {m : ℕ} → m ≡ most_of f lo (hi - lo) → AtMost f lo hi m
  at_most hi e i a b = rw e (most_tops (hi - lo) i a (omega arith))

-- ---- nothing is wrong

-- a second that fails none of the checks of its hold passes, and so does each other one of its speed and its hold
pub hold_passes : (car : Vehicle) (vs hs : List ℕ) (lo i : ℕ) → 10 ≡ fault_no car vs hs lo i hold_checks → HoldsPass car vs hs i
unfolding fault_no hold_checks bad
hold_passes car vs hs lo i e n us ks lo' j v g = rw (v, g) e

-- second i fails none of the checks 4 to 9
abbrev pub Good : Vehicle → List ℕ → List ℕ → ℕ → ℕ → Type 0
Good car vs hs lo i = 10 ≡ fault_no car vs hs lo i checks

module _ (car : Vehicle) (vs hs : List ℕ) (lo hi : ℕ) where
  module _ (inside : hi ≤ length vs) (rest : Stands vs lo hi) (i : ℕ) (since : lo ≤ i) (until : i < hi) where
    -- a moving second is not the span's first
    inner : moving (at vs i) ≡ true → lo < i
    inner m = by_eq since (λ e. clash (rw e m) rest.first) (λ l. l)

    -- the trace's ends can be no others than the span's
    ends_good : bad ends car vs hs lo i ≡ false
    ends_good =
        by_test (moving (at vs i))
        (λ m.
        let l : lo < i = inner m in
        let last : (i + 1 ≡ length vs → ⊥) = λ z. let e : hi - 1 ≡ i = omega arith in clash m (rw e at rest.last) in
        sym (ends_between car vs hs lo i m (λ z. omega arith) last))
        (λ s. sym (ends_standing car vs hs lo i s))

    hold_good : HoldsPass car vs hs i → 10 ≡ fault_no car vs hs lo i hold_checks
    hold_good p = by_test (eqb (at hs i) 0) (λ t. free_good car vs hs lo i (eqb-true _ _ t)) (λ t. p (eqb-false _ _ t) vs hs lo i refl refl)

    pub second_good : at vs i ≤ fastest → bad step car vs hs lo i ≡ false → HoldsPass car vs hs i → Good car vs hs lo i
    second_good slow small held = onward car vs hs lo i slow small ends_good (hold_good held)

  module _ (order : lo ≤ hi) (good : Each (Good car vs hs lo) lo hi) where
    -- so no second so far is refused
    so_far : (j : ℕ) → lo + j ≤ hi → none ≡ seconds_fault car vs hs lo (lo + j)
    unfolding kept lower
    so_far zero h = rw add-zero (seconds_none car vs hs lo)
    so_far (suc j) h =
        let e : lo + suc j ≡ lo + j + 1 = omega arith in
        rw (e, ← seconds_more car vs hs lo (lo + j) (omega arith), ← so_far j (omega arith), ← good (lo + j) (omega arith) (omega arith))

    pub nothing_wrong : none ≡ seconds_fault car vs hs lo hi
    nothing_wrong = let e : lo + (hi - lo) ≡ hi = omega arith in rw e at (so_far (hi - lo) (omega arith))
