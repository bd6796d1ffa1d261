-- Laws of the searches `first` and `highest`.
use Rattle.rules.proofs.Base.{ℕ, zero, suc, ◌+◌, ◌-◌, ◌≤◌, ◌<◌, suc-add, add-suc, zero-add, add-zero, le_of_suc-le-suc, arith, ◌≡◌, refl, ap, ◌∙◌, ◌≢◌}
use Rattle.rules.proofs.Base.{◌⊎◌, inl, inr, Bool, true, false, Option, none, some}
use Rattle.rules.specs.Words.{if◌then◌else◌, first, highest}
use Rattle.rules.proofs.Laws.Words.{by_test, by_eq}

-- ---- a search

pub first_skip : (p : ℕ → Bool) (j k lo : ℕ) → ((i : ℕ) → lo ≤ i → i < lo + j → p i ≡ false) → first p lo (j + k) ≡ first p (lo + j) k
unfolding first
first_skip p zero k lo h = rw (zero-add, add-zero)
first_skip p (suc j) k lo h =
    rw (suc-add, h lo (omega arith) (omega arith)) (first_skip p j k (suc lo) (λ i a b. h i (omega arith) (omega arith)) ∙ rw (suc-add, add-suc))

pub first_ext : (p q : ℕ → Bool) (k lo : ℕ) → ((i : ℕ) → lo ≤ i → i < lo + k → p i ≡ q i) → first p lo k ≡ first q lo k
unfolding first
first_ext p q zero lo h = refl
first_ext p q (suc k) lo h = rw (h lo (omega arith) (omega arith), first_ext p q k (suc lo) (λ i a b. h i (omega arith) (omega arith)))

pub first_none : (p : ℕ → Bool) (k lo : ℕ) → ((i : ℕ) → lo ≤ i → i < lo + k → p i ≡ false) → first p lo k ≡ none
unfolding first
first_none p zero lo h = refl
first_none p (suc k) lo h = rw (h lo (omega arith) (omega arith)) (first_none p k (suc lo) (λ i a b. h i (omega arith) (omega arith)))

-- past the places at which p and q agree, nothing is found by p
pub first_cut : (p q : ℕ → Bool) (k r lo : ℕ)
    → ((i : ℕ) → lo ≤ i → i < lo + k → p i ≡ q i) → ((i : ℕ) → lo + k ≤ i → i < lo + k + r → p i ≡ false)
    → first p lo (k + r) ≡ first q lo k
unfolding first
first_cut p q zero r lo h z = rw zero-add (first_none p r lo (λ i a b. z i (omega arith) (omega arith)))
first_cut p q (suc k) r lo h z =
    rw (suc-add, h lo (omega arith) (omega arith))
    (ap (λ (o : Option ℕ). if q lo then some lo else o)
    (first_cut p q k r (suc lo) (λ i a b. h i (omega arith) (omega arith)) (λ i a b. z i (omega arith) (omega arith))))

pub none_first : (p : ℕ → Bool) (k lo : ℕ) → first p lo k ≡ none → (i : ℕ) → lo ≤ i → i < lo + k → p i ≡ false
unfolding first
none_first p zero lo e i a b = absurd (omega arith)
none_first p (suc k) lo e i a b =
    by_test (p lo)
    (λ t. let z : ◌≡◌ {A = Option ℕ} (some lo) none = rw t at e in cc)
    (λ t. by_eq a (λ x. rw (← x) t) (λ x. none_first p k (suc lo) (rw t at e) i x (omega arith)))

-- a search of all n places finds what a search of those from lo up to hi finds, if nothing is to be found elsewhere
pub first_window : (p q : ℕ → Bool) (n lo hi : ℕ) → lo ≤ hi → hi ≤ n
    → ((i : ℕ) → i < n → (i < lo) ⊎ (hi ≤ i) → p i ≡ false) → ((i : ℕ) → lo ≤ i → i < hi → p i ≡ q i)
    → first p 0 n ≡ first q lo (hi - lo)
first_window p q n lo hi a b out ins =
    let e : n ≡ lo + (hi - lo + (n - hi)) = omega arith in
    rw e (first_skip p lo (hi - lo + (n - hi)) 0 (λ i x y. out i (omega arith) (inl (omega arith)))
    ∙ rw zero-add (first_cut p q (hi - lo) (n - hi) lo (λ i x y. ins i x (omega arith)) (λ i x y. out i (omega arith) (inr (omega arith)))))

-- ---- what a search finds

pub record Found (p : ℕ → Bool) (lo hi i : ℕ) : Type 0 where
  pub holds : p i ≡ true
  pub from : lo ≤ i
  pub below : i < hi
  pub lowest : (j : ℕ) → lo ≤ j → j < i → p j ≡ false

pub first_found : (p : ℕ → Bool) (k lo i : ℕ) → first p lo k ≡ some i → Found p lo (lo + k) i
unfolding first
first_found p zero lo i e = let z : ◌≡◌ {A = ℕ} 0 1 = cc in absurd (omega arith)
first_found p (suc k) lo i e =
    by_test (p lo)
    (λ t. let z : ◌≡◌ {A = Option ℕ} (some lo) (some i) = rw t at e in let y : lo ≡ i = cc in
    record { holds = rw (← y) t; from = omega arith; below = omega arith; lowest = λ j a b. absurd (omega arith) })
    (λ t. let r = first_found p k (suc lo) i (rw t at e) in
    record { holds = r.holds; from = omega arith; below = omega arith; lowest = λ j a b. by_eq a (λ x. rw (← x) t) (λ x. r.lowest j x b) })

pub highest-holds : (p : ℕ → Bool) (k : ℕ) → highest p k ≢ 0 → (p (highest p k) ≡ true) × (highest p k ≤ k)
unfolding highest
highest-holds p zero n = absurd (n refl)
highest-holds p (suc k) n =
    by_test (p (suc k))
    (λ t. rw t (t, omega arith))
    (λ t. let r = highest-holds p k (rw t at n) in rw t (r.0, omega arith))

-- above the highest place at which a test holds it fails
pub highest-above : (p : ℕ → Bool) (k h : ℕ) → highest p k < h → h ≤ k → p h ≡ false
unfolding highest
highest-above p zero h a b = absurd (omega arith)
highest-above p (suc k) h a b =
    by_test (p (suc k))
    (λ t. let x : suc k < h = rw t at a in absurd (omega arith))
    (λ t. by_eq b (λ e. rw e t) (λ l. highest-above p k h (rw t at a) (le_of_suc-le-suc l)))

-- where it holds nowhere from 1 to k, there is none
pub highest_none : (p : ℕ → Bool) (k : ℕ) → ((j : ℕ) → 1 ≤ j → j ≤ k → p j ≡ false) → highest p k ≡ 0
unfolding highest
highest_none p zero h = refl
highest_none p (suc k) h = rw (h (suc k) (omega arith) (omega arith)) (highest_none p k (λ j a b. h j a (omega arith)))
