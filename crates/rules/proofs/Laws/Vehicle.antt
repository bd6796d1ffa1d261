-- A vehicle in bounds: what the thirteen tests say, as facts.
use Rattle.rules.proofs.Base.{ℕ, zero, suc, ◌+◌, ◌-◌, ◌≤◌, ◌<◌, not-suc-le-zero, le_of_suc-le-suc, arith, ◌≡◌, refl, Bool, true, false, Option, none}
use Rattle.rules.proofs.Base.{some, List, [], ◌∷◌, length, get_or, leb, eqb, lit<, ℤ, pos, negsuc, neg_ℤ, nat_abs, le_z, leb-true, ltb-true, eqb-true, eq-eqb}
use Rattle.rules.proofs.Base.{ne_eqb, Vehicle}
use Rattle.rules.specs.Inside.{InBounds}
use Rattle.rules.specs.Words.{◌and◌, ◌or◌, within, at, every}
use Rattle.rules.specs.Units.{newest, ratio_good, margin_good, point_good, bounds, first_failed, bad_field, low}
use Rattle.rules.proofs.Laws.Words.{by_test, by_eq, and_left, and_right, or_skip}

-- ---- the lowest gear, of which only this is known

-- gears count from 1
pub low_from : (car : Vehicle) → 1 ≤ low car
unfolding low
low_from car = omega arith

-- it is the one that the profile says
pub low_plainly : (car : Vehicle) → low car ≡ 1 + car.profile
unfolding low
low_plainly car = refl

-- where no test fails, each holds
none_failed : (ts : List Bool) (k : ℕ) → first_failed k ts ≡ none → (j : ℕ) → j < length ts → get_or ts j true ≡ true
unfolding first_failed
none_failed [] k e j h = absurd (not-suc-le-zero h)
none_failed (t ∷ ts) k e zero h =
    by_test t (λ x. x) (λ x. let z : ◌≡◌ {A = Option ℕ} (some k) none = rw x at e in let y : ◌≡◌ {A = ℕ} 0 1 = cc in absurd (omega arith))
none_failed (t ∷ ts) k e (suc j) h =
    by_test t (λ x. none_failed ts (suc k) (rw x at e) j (le_of_suc-le-suc h))
    (λ x. let z : ◌≡◌ {A = Option ℕ} (some k) none = rw x at e in let y : ◌≡◌ {A = ℕ} 0 1 = cc in absurd (omega arith))

pub every-at : (p : ℕ → Bool) (k lo : ℕ) → every p lo k ≡ true → (i : ℕ) → lo ≤ i → i < lo + k → p i ≡ true
unfolding every
every-at p zero lo e i a b = absurd (omega arith)
every-at p (suc k) lo e i a b = by_eq a (λ x. rw (← x) (and_left _ _ e)) (λ x. every-at p k (suc lo) (and_right _ _ e) i x (omega arith))

pub every_all : (p : ℕ → Bool) (k lo : ℕ) → ((i : ℕ) → lo ≤ i → i < lo + k → p i ≡ true) → every p lo k ≡ true
unfolding every ◌and◌
every_all p zero lo h = refl
every_all p (suc k) lo h = rw (h lo (omega arith) (omega arith)) (every_all p k (suc lo) (λ i a b. h i (omega arith) (omega arith)))

pub within_lo : (lo hi x : ℕ) → within lo hi x ≡ true → lo ≤ x
unfolding within
within_lo lo hi x t = leb-true _ _ (and_left _ _ t)

pub within_hi : (lo hi x : ℕ) → within lo hi x ≡ true → x ≤ hi
unfolding within
within_hi lo hi x t = leb-true _ _ (and_right _ _ t)

-- from -n to n
size_in : (z : ℤ) (n : ℕ) → le_z (neg_ℤ (pos n)) z ≡ true → le_z z (pos n) ≡ true → nat_abs z ≤ n
size_in (pos m) n a b = leb-true m n b
size_in (negsuc m) zero a b = let z : ◌≡◌ {A = ℕ} 0 1 = cc in absurd (omega arith)
size_in (negsuc m) (suc n) a b = let h : m ≤ n = leb-true m n a in omega arith

-- the tests of a version's bounds
module _ (v : ℕ) (car : Vehicle) (e : first_failed 1 (bounds v car) ≡ none) where
  pub each_holds : (j : ℕ) → j < 13 → get_or (bounds v car) j true ≡ true
  unfolding bounds
  each_holds = none_failed (bounds v car) 1 e

  margin-holds : (k : ℕ) → k < car.points → margin_good v car k ≡ true
  unfolding bounds point_good
  margin-holds k a = and_right _ _ (every-at (point_good v car) car.points 0 (each_holds 11 (lit< tt)) k (omega arith) (omega arith))

  -- what the version has no place for is 0
  pub no_profile : leb 3 v ≡ false → car.profile ≡ 0
  unfolding bounds
  no_profile l = eqb-true _ _ (or_skip _ _ l (and_right _ _ (and_left _ _ (each_holds 0 (lit< tt)))))

  pub no_margins : leb 2 v ≡ false → (k : ℕ) → k < car.points → at car.m k ≡ 0
  unfolding margin_good
  no_margins l k a = eqb-true _ _ (or_skip _ _ l (and_right _ _ (margin-holds k a)))

-- and where it is, the bounds are those of the newest
pub every_ext : (p q : ℕ → Bool) (k lo : ℕ) → ((i : ℕ) → lo ≤ i → i < lo + k → p i ≡ q i) → every p lo k ≡ every q lo k
unfolding every
every_ext p q zero lo h = refl
every_ext p q (suc k) lo h = rw (h lo (omega arith) (omega arith), every_ext p q k (suc lo) (λ i a b. h i (omega arith) (omega arith)))

or_true : (a b : Bool) → (a ≡ false → b ≡ true) → a or b ≡ true
unfolding ◌or◌
or_true true b h = refl
or_true false b h = h refl

same_point : (v : ℕ) (car : Vehicle) (k : ℕ) → (leb 2 v ≡ false → at car.m k ≡ 0) → point_good v car k ≡ point_good newest car k
unfolding point_good margin_good ◌or◌
same_point v car k h =
    let one : leb 2 v or eqb (at car.m k) 0 ≡ true = or_true _ _ (λ l. eq-eqb _ _ (h l)) in
    rw one

pub same_bounds : (v : ℕ) (car : Vehicle) → (leb 3 v ≡ false → car.profile ≡ 0) → (leb 2 v ≡ false → (k : ℕ) → k < car.points → at car.m k ≡ 0)
    → bounds v car ≡ bounds newest car
unfolding bounds ◌or◌
same_bounds v car plain none-marked =
    let one : leb 3 v or eqb car.profile 0 ≡ true = or_true _ _ (λ l. eq-eqb _ _ (plain l)) in
    rw (one, every_ext (point_good v car) (point_good newest car) car.points 0 (λ k a b. same_point v car k (λ l. none-marked l k (omega arith))))

pub bounds_in : (v : ℕ) (car : Vehicle) → first_failed 1 (bounds v car) ≡ none → InBounds car
unfolding bounds ratio_good margin_good point_good low
bounds_in v car e =
    let t = each_holds v car e in
    let ratio : (g : ℕ) → 1 ≤ g → g ≤ car.ng → ratio_good car g ≡ true = λ g a b. every-at (ratio_good car) car.ng 1 (t 1 (lit< tt)) g a (omega arith) in
    let point : (k : ℕ) → k < car.points
    → point_good v car k ≡ true = λ k a. every-at (point_good v car) car.points 0 (t 11 (lit< tt)) k (omega arith) (omega arith) in
    let rising : (k : ℕ) → suc k < car.points → within (at car.n k + 1) (at car.n k + 1000) (at car.n (suc k)) ≡ true =
    λ k a. let x : suc k - 1 ≡ k = omega arith in
    rw x at (or_skip _ _ (ne_eqb (suc k) 0 (λ z. omega arith)) (and_right _ _ (and_left _ _ (and_left _ _ (point (suc k) a))))) in
    record {
      low_to = let h : car.profile ≤ 1 = leb-true _ _ (and_left _ _ (and_left _ _ (t 0 (lit< tt)))) in omega arith;
      low_ng = let h : 2 + car.profile ≤ car.ng = within_lo _ _ _ (and_right _ _ (t 0 (lit< tt))) in omega arith;
      ng_to = within_hi _ _ _ (and_right _ _ (t 0 (lit< tt)));
      ratio_to = λ g a b. within_hi _ _ _ (and_left _ _ (ratio g a b));
      falling = λ g a b. let x : suc g - 1 ≡ g = omega arith in
          ltb-true _ _ (rw x at (or_skip _ _ (ne_eqb (suc g) 1 (λ z. omega arith)) (and_right _ _ (ratio (suc g) (omega arith) b))));
      idle_to = within_hi _ _ _ (t 2 (lit< tt));
      rated_from = ltb-true _ _ (and_left _ _ (t 3 (lit< tt)));
      nmax_from = within_lo _ _ _ (t 4 (lit< tt));
      nmax_to = within_hi _ _ _ (t 4 (lit< tt));
      f0_to = leb-true _ _ (t 5 (lit< tt));
      f1_in = size_in car.f1 5000 (and_left _ _ (t 6 (lit< tt))) (and_right _ _ (t 6 (lit< tt)));
      f2_to = leb-true _ _ (t 7 (lit< tt));
      tm_to = within_hi _ _ _ (t 8 (lit< tt));
      margin_to = leb-true _ _ (t 9 (lit< tt));
      points_from = within_lo _ _ _ (t 10 (lit< tt));
      points_to = within_hi _ _ _ (t 10 (lit< tt));
      n_to = λ k a. within_hi _ _ _ (and_left _ _ (and_left _ _ (and_left _ _ (point k a))));
      n_rises = λ k a. let h : at car.n k + 1 ≤ at car.n (suc k) = within_lo _ _ _ (rising k a) in omega arith;
      n_rises_by = λ k a. within_hi _ _ _ (rising k a);
      p_to = λ k a. leb-true _ _ (and_right _ _ (and_left _ _ (point k a)));
      m_to = λ k a. leb-true _ _ (and_left _ _ (and_left _ _ (and_right _ _ (point k a))));
      margins_to = λ k a. leb-true _ _ (and_right _ _ (and_left _ _ (and_right _ _ (point k a))));
      first_point = leb-true _ _ (and_left _ _ (t 12 (lit< tt)));
      last_point = leb-true _ _ (and_right _ _ (t 12 (lit< tt)));
    }

pub in_bounds : (car : Vehicle) → bad_field car ≡ none → InBounds car
unfolding bad_field
in_bounds car e = bounds_in newest car e
