-- A search, and a test of every place, as a loop from left to right meets them: what is left, from here, is what was asked.
use Rattle.rules.proofs.Base.{ℕ, suc, ◌+◌, ◌-◌, ◌≤◌, ◌<◌, add-one, arith, ◌≡◌, Bool, true, false, not, Option, none, some, eqb, ne_eqb}
use Rattle.rules.specs.Words.{◌and◌, every, first, highest}
use Rattle.rules.proofs.Laws.Words.{clash}
use Rattle.rules.proofs.Laws.Searches.{highest-above}

-- ---- the lowest place, from i up to hi, at which the test holds

pub record Left (p : ℕ → Bool) (i hi : ℕ) (r : Option ℕ) : Type 0 where
  pub same : first p i (hi - i) ≡ r

pub start : {p : ℕ → Bool} {lo k hi : ℕ} → hi - lo ≡ k → Left p lo hi (first p lo k)
start e = record { same = rw e }

module _ {p : ℕ → Bool} {i hi : ℕ} {r : Option ℕ} (inv : Left p i hi r) where
  pub ends : hi ≤ i → none ≡ r
  unfolding first
  ends h = let z : hi - i ≡ 0 = omega arith in rw z at inv.same

  pub stops : i < hi → p i ≡ true → some i ≡ r
  unfolding first
  stops h t = let z : hi - i ≡ suc (hi - suc i) = omega arith in rw (z, t) at inv.same

  pub again : i < hi → p i ≡ false → Left p (i + 1) hi r
  unfolding first
  again h t = let z : hi - i ≡ suc (hi - suc i) = omega arith in record { same = rw add-one (rw (z, t) at inv.same) }

-- ---- the test holds at every place from i up to hi

pub record Every (p : ℕ → Bool) (i hi : ℕ) (r : Bool) : Type 0 where
  pub same : every p i (hi - i) ≡ r

pub all_start : {p : ℕ → Bool} {lo k hi : ℕ} → hi - lo ≡ k → Every p lo hi (every p lo k)
all_start e = record { same = rw e }

module _ {p : ℕ → Bool} {i hi : ℕ} {r : Bool} (inv : Every p i hi r) where
  pub all_ends : hi ≤ i → true ≡ r
  unfolding every
  all_ends h = let z : hi - i ≡ 0 = omega arith in rw z at inv.same

  pub all_stops : i < hi → p i ≡ false → false ≡ r
  unfolding every ◌and◌
  all_stops h t = let z : hi - i ≡ suc (hi - suc i) = omega arith in rw (z, t) at inv.same

  pub all_again : i < hi → p i ≡ true → Every p (i + 1) hi r
  unfolding every ◌and◌
  all_again h t = let z : hi - i ≡ suc (hi - suc i) = omega arith in record { same = rw add-one (rw (z, t) at inv.same) }

-- ---- whether the test holds at one of the places 1 to k

pub one_holds : (p : ℕ → Bool) (k i : ℕ) → 1 ≤ i → i ≤ k → p i ≡ true → true ≡ not (eqb (highest p k) 0)
one_holds p k i a b t = rw (ne_eqb (highest p k) 0 (λ z. clash t (highest-above p k i (omega (arith, z)) b)))
