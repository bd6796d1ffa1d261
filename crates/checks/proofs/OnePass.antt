-- The checks of a span in one pass from left to right, where the table has one search a number: what one second more adds.
use Rattle.rules.proofs.Offered.{ℕ, zero, suc, ◌+◌, ◌-◌, ◌≤◌, ◌<◌, suc-add, add-suc, add-zero, sub_self, add-one, arith, ◌≡◌, refl, sym, Bool, true, false}
use Rattle.rules.proofs.Offered.{Option, none, some, List, [], ◌∷◌, ltb, ltb-true, lt-ltb, le-leb, lt-leb, if◌then◌else◌, ◌and◌, first, Fault, refuse_at}
use Rattle.rules.proofs.Offered.{◌orelse◌, when, Check, check_number, checks, bad, fault_of, seconds_fault, by_test, if_ind, and_left, and_right}
use Rattle.rules.proofs.Offered.{ltb-false, said, ap}
use Rattle.std.specs.Prelude.{Ok, Err}
use Rattle.std.specs.Result.{is_err}
use Rattle.rules.specs.Refusals.{Answer}
use Rattle.rules.specs.declared.Vehicle.{Vehicle}
use Rattle.checks.specs.Checks.{fault_no, kept, lower, hold_checks}

-- ---- numbers that rise

-- the numbers of a list of checks rise from n on and stay below 10: only then is the first check that fails the lowest number
unfoldable pub rises : ℕ → List Check → Bool
rises n [] = ltb n 10
rises n (c ∷ cs) = ltb n (check_number c) and rises (check_number c) cs

-- a refusal's number is above n
unfoldable Above : ℕ → Option Fault → Type 0
Above n none = n < 10
Above n (some f) = n < f.no

-- ---- a search, one place further

-- what the places before found, else what the last finds
unfoldable or_last : Option ℕ → Option ℕ → Option ℕ
or_last none b = b
or_last (some j) b = some j

-- the last place matters only where no place before it was found
first_last : (p : ℕ → Bool) (k lo : ℕ) → first p lo (suc k) ≡ or_last (first p lo k) (when (p (lo + k)) (lo + k))
unfolding first or_last when
first_last p zero lo = rw add-zero
first_last p (suc k) lo = by_test (p lo) (λ t. rw t) (λ t. rw (t, add-suc, ← suc-add) (first_last p k (suc lo)))

-- ---- the checks, one second further

-- what is above m is above what is below m
above_less : (n m : ℕ) (f : Option Fault) → n < m → Above m f → Above n f
unfolding Above
above_less n m none h a = omega arith
above_less n m (some f) h a = omega arith

-- a row is above n where its first check is, and the rest
above-row : (n m : ℕ) (o : Option ℕ) (f : Option Fault) → n < m → Above n f → Above n (refuse_at m o orelse f)
unfolding Above refuse_at ◌orelse◌
above-row n m none f h a = a
above-row n m (some j) f h a = h

-- one check, of number n, at the next second: below it in the list stand higher numbers alone, so where it fails it is the lowest
row_lower : (n m i : ℕ) (o : Option ℕ) (t : Bool) (f : Option Fault) → n < 10 → n < m → Above n f
    → refuse_at n (or_last o (when t i)) orelse lower f (kept m i) ≡ lower (refuse_at n o orelse f) (kept (if t then n else m) i)
unfolding Above refuse_at ◌orelse◌ or_last when lower kept
row_lower n m i (some j) true f a b c = rw (lt-ltb n 10 a, le-leb n n (omega arith))
row_lower n m i (some j) false f a b c = by_test (ltb m 10) (λ t. rw (t, le-leb n m (omega arith))) (λ t. rw t)
row_lower n m i none true none a b c = rw (lt-ltb n 10 a)
row_lower n m i none true (some f) a b c = rw (lt-ltb n 10 a, lt-leb f.no n c)
row_lower n m i none false f a b c = refl

-- so that a check's own number is never taken for none
rises_below : (n : ℕ) (cs : List Check) → rises n cs ≡ true → n < 10
unfolding rises
rises_below n [] r = ltb-true n 10 r
rises_below n (c ∷ cs) r =
    let l : n < check_number c = ltb-true _ _ (and_left _ _ r) in
    omega (arith, rises_below (check_number c) cs (and_right _ _ r))

module _ (car : Vehicle) (vs hs : List ℕ) (lo i : ℕ) where
  -- below a list whose numbers rise from n on no second gives n or less, and no span does
  no_above : (n : ℕ) (cs : List Check) → rises n cs ≡ true → n < fault_no car vs hs lo i cs
  unfolding fault_no rises
  no_above n [] r = ltb-true n 10 r
  no_above n (c ∷ cs) r =
      let l : n < check_number c = ltb-true _ _ (and_left _ _ r) in
      if_ind (λ x. n < x) (bad c car vs hs lo i) (λ t. l) (λ t. omega (arith, no_above (check_number c) cs (and_right _ _ r)))

  -- nor more than 10
  no_most : (n : ℕ) (cs : List Check) → rises n cs ≡ true → fault_no car vs hs lo i cs ≤ 10
  unfolding fault_no rises
  no_most n [] r = omega arith
  no_most n (c ∷ cs) r =
      if_ind (λ x. x ≤ 10) (bad c car vs hs lo i) (λ t. omega (arith, rises_below (check_number c) cs (and_right _ _ r)))
      (λ t. no_most (check_number c) cs (and_right _ _ r))

  fault-above : (n : ℕ) (cs : List Check) → rises n cs ≡ true → Above n (fault_of (λ c. bad c car vs hs lo) lo i cs)
  unfolding fault_of rises Above
  fault-above n [] r = ltb-true n 10 r
  fault-above n (c ∷ cs) r =
      let l : n < check_number c = ltb-true _ _ (and_left _ _ r) in
      let rest : Above (check_number c) (fault_of (λ c. bad c car vs hs lo) lo i cs) = fault-above (check_number c) cs (and_right _ _ r) in
      above-row n (check_number c) _ (fault_of (λ c. bad c car vs hs lo) lo i cs) l
      (above_less n (check_number c) (fault_of (λ c. bad c car vs hs lo) lo i cs) l rest)

  -- the key: over checks whose numbers rise, second i adds its first check that fails, and only where that number is the lowest yet
  fault-more : (n : ℕ) (cs : List Check) → rises n cs ≡ true → lo ≤ i
      → fault_of (λ c. bad c car vs hs lo) lo (suc i) cs ≡ lower (fault_of (λ c. bad c car vs hs lo) lo i cs) (kept (fault_no car vs hs lo i cs) i)
  unfolding fault_of fault_no rises lower kept
  fault-more n [] r h = refl
  fault-more n (c ∷ cs) r h =
      let m = check_number c in
      let up = and_right _ _ r in
      let z : suc i - lo ≡ suc (i - lo) = omega arith in
      let y : lo + (i - lo) ≡ i = omega arith in
      rw (z, first_last (bad c car vs hs lo) (i - lo) lo, y, fault-more m cs up h)
      (row_lower m (fault_no car vs hs lo i cs) i (first (bad c car vs hs lo) lo (i - lo)) (bad c car vs hs lo i) (fault_of (λ c. bad c car vs hs lo) lo i cs)
      (rises_below m cs up) (no_above m cs up) (fault-above m cs up))

-- ---- the refusal that is kept

-- its number, 10 where there is none
unfoldable pub least_of : Option Fault → ℕ
least_of none = 10
least_of (some f) = f.no

-- a refusal with a lower number takes its place; another leaves it, and so does none
pub lower_than : (x : Option Fault) (f : Fault) → f.no < least_of x → lower x (some f) ≡ some f
unfolding lower least_of
lower_than none f l = refl
lower_than (some g) f l = rw (lt-leb g.no f.no l)

pub lower_not : (x : Option Fault) (f : Fault) → f.no < 10 → least_of x ≤ f.no → lower x (some f) ≡ x
unfolding lower least_of
lower_not none f t l = absurd (omega arith)
lower_not (some g) f t l = rw (le-leb g.no f.no l)

pub lower_none : (x : Option Fault) → lower x none ≡ x
unfolding lower
lower_none none = refl
lower_none (some g) = refl

-- what a number and a place stand for has a number below 10
pub kept_below : (n i : ℕ) (f : Fault) → kept n i ≡ some f → f.no < 10
unfolding kept least_of
kept_below n i f e =
    by_test (ltb n 10)
    (λ t. let z : n ≡ f.no = ap least_of (rw t at e) in let l : n < 10 = ltb-true n 10 t in omega arith)
    (λ t. let z = rw t at e in cc)

-- the numbers of the checks 4 to 9 rise
pub table_rises : rises 3 checks ≡ true
unfolding checks rises check_number ◌and◌
table_rises = refl

-- and those of the checks that look at a hold
holds_rise : rises 6 hold_checks ≡ true
unfolding hold_checks rises check_number ◌and◌
holds_rise = refl

-- what no number below 10 stands for is none
none_kept : (n i : ℕ) (r : Answer) → said r ≡ kept n i → is_err r ≡ false → n ≤ 10 → 10 ≡ n
unfolding said kept
none_kept n i (Ok x) e f h =
    by_test (ltb n 10) (λ t. let z = rw t at e in cc) (λ t. let l : 10 ≤ n = ltb-false n 10 t in omega arith)
none_kept n i (Err r) e f h = cc

module _ (car : Vehicle) (vs hs : List ℕ) (lo i : ℕ) (r : Answer) where
  -- a second that is not refused fails none
  pub second_passes : said r ≡ kept (fault_no car vs hs lo i checks) i → is_err r ≡ false → 10 ≡ fault_no car vs hs lo i checks
  second_passes e f = none_kept _ i r e f (no_most car vs hs lo i 3 checks table_rises)

  pub held_passes : said r ≡ kept (fault_no car vs hs lo i hold_checks) i → is_err r ≡ false → 10 ≡ fault_no car vs hs lo i hold_checks
  held_passes e f = none_kept _ i r e f (no_most car vs hs lo i 6 hold_checks holds_rise)

module _ (car : Vehicle) (vs hs : List ℕ) (lo : ℕ) where
  none_of : (cs : List Check) → none ≡ fault_of (λ c. bad c car vs hs lo) lo lo cs
  unfolding fault_of first refuse_at ◌orelse◌
  none_of [] = refl
  none_of (c ∷ cs) = rw sub_self (none_of cs)

  -- the pass over k seconds: after each of them the lower of what is refused so far and of what that second fails
  unfoldable pub one_pass : List Check → ℕ → Option Fault
  one_pass cs zero = none
  one_pass cs (suc k) = lower (one_pass cs k) (kept (fault_no car vs hs lo (lo + k) cs) (lo + k))

  -- over any list of checks whose numbers rise it refuses what check after check refuses, each over all seconds
  pub one_pass_is : (n : ℕ) (cs : List Check) → rises n cs ≡ true → (k : ℕ) → one_pass cs k ≡ fault_of (λ c. bad c car vs hs lo) lo (lo + k) cs
  unfolding one_pass
  one_pass_is n cs r zero = rw add-zero (none_of cs)
  one_pass_is n cs r (suc k) = rw (one_pass_is n cs r k, add-suc) (sym (fault-more car vs hs lo (lo + k) n cs r (omega arith)))

  -- of no seconds nothing is refused
  pub seconds_none : none ≡ seconds_fault car vs hs lo lo
  unfolding seconds_fault
  seconds_none = none_of checks

  -- of one second more the lower of what is refused so far and of what that second fails
  pub seconds_more : (i : ℕ) → lo ≤ i → lower (seconds_fault car vs hs lo i) (kept (fault_no car vs hs lo i checks) i) ≡ seconds_fault car vs hs lo (i + 1)
  unfolding seconds_fault
  seconds_more i h = rw add-one (sym (fault-more car vs hs lo i 3 checks table_rises h))
