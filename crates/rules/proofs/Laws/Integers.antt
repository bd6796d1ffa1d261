-- Ring laws of ℤ that lib.IntN lacks, and the order of ℤ under a product with a positive number.
use Rattle.rules.proofs.Base.{ℕ, zero, suc, ◌+◌, ◌*◌, ◌-◌, ◌≤◌, ◌<◌, not-suc-le-zero, suc-mul, add-suc, le_trans, lt_irrefl, lt_of_lt_of_le}
use Rattle.rules.proofs.Base.{le_of_mul-le-mul_right, mul-le-mul_right, arith, ◌≡◌, refl, sym, ap, ◌∙◌, subst, true, false, leb, leb-suc_suc, ℤ, pos}
use Rattle.rules.proofs.Base.{negsuc, neg_ℤ, suc_ℤ, pred_ℤ, ℤ_ind, ◌+ℤ◌, ◌*ℤ◌, ◌-ℤ◌, +ℤ_one, -ℤ_one, +ℤ_assoc, +ℤ_comm, +ℤ_idl, +ℤ_idr, +ℤ_invr, *ℤ_comm}
use Rattle.rules.proofs.Base.{suc_ℤ-*ℤ, pred_ℤ-*ℤ, suc_ℤ-+ℤ, pred_ℤ-+ℤ, zero-*ℤ, neg_ℤ-+ℤ, neg_ℤ-suc_ℤ, neg_ℤ-pred_ℤ, neg_ℤ-neg_ℤ, le_z, lt_z}
use Rattle.rules.proofs.Base.{leb-true, leb-false}
use Rattle.rules.proofs.Base.{ltb-true, ltb-false, le-leb, le-ltb}
use Rattle.rules.proofs.Laws.Words.{by_test}

-- ---- sums and products

-- induction by one more and one less
by_ones : (P : ℤ → Type 0) → P (pos 0) → ((z : ℤ) → P z → P (suc_ℤ z)) → ((z : ℤ) → P z → P (pred_ℤ z)) → (z : ℤ) → P z
by_ones P o s p z =
    ℤ_ind P o (λ n h. subst P (sym (+ℤ_one (pos n))) (s (pos n) h)) (λ n h. subst P (sym (-ℤ_one (neg_ℤ (pos n)))) (p (neg_ℤ (pos n)) h)) z

-- the second and third of three summands change places
pub swap : (a b c : ℤ) → a +ℤ b +ℤ c ≡ a +ℤ c +ℤ b
swap a b c = +ℤ_assoc a b c ∙ ap (λ x. a +ℤ x) (+ℤ_comm b c) ∙ sym (+ℤ_assoc a c b)

-- a sum times k is the sum of the products
pub +ℤ-*ℤ : (m n k : ℤ) → (m +ℤ n) *ℤ k ≡ m *ℤ k +ℤ n *ℤ k
+ℤ-*ℤ m n k =
    by_ones (λ m. (m +ℤ n) *ℤ k ≡ m *ℤ k +ℤ n *ℤ k)
    (ap (λ x. x *ℤ k) (+ℤ_idl n) ∙ sym (ap (λ x. x +ℤ n *ℤ k) (zero-*ℤ k) ∙ +ℤ_idl (n *ℤ k)))
    (λ z h. ap (λ x. x *ℤ k) (suc_ℤ-+ℤ z n) ∙ suc_ℤ-*ℤ (z +ℤ n) k ∙ ap (λ x. x +ℤ k) h ∙ swap (z *ℤ k) (n *ℤ k) k ∙ ap (λ x. x +ℤ n *ℤ k) (sym (suc_ℤ-*ℤ z k)))
    (λ z h. ap (λ x. x *ℤ k) (pred_ℤ-+ℤ z n) ∙ pred_ℤ-*ℤ (z +ℤ n) k ∙ ap (λ x. x -ℤ k) h ∙ swap (z *ℤ k) (n *ℤ k) (neg_ℤ k)
    ∙ ap (λ x. x +ℤ n *ℤ k) (sym (pred_ℤ-*ℤ z k))) m

-- k times a sum is the sum of the products
pub *ℤ-+ℤ : (k m n : ℤ) → k *ℤ (m +ℤ n) ≡ k *ℤ m +ℤ k *ℤ n
*ℤ-+ℤ k m n = *ℤ_comm k (m +ℤ n) ∙ +ℤ-*ℤ m n k ∙ ap (λ x. x +ℤ n *ℤ k) (*ℤ_comm m k) ∙ ap (λ x. k *ℤ m +ℤ x) (*ℤ_comm n k)

-- the sign of the first factor is the product's
pub neg_*ℤ : (m k : ℤ) → neg_ℤ m *ℤ k ≡ neg_ℤ (m *ℤ k)
neg_*ℤ m k =
    by_ones (λ m. neg_ℤ m *ℤ k ≡ neg_ℤ (m *ℤ k))
    (zero-*ℤ k ∙ sym (ap neg_ℤ (zero-*ℤ k)))
    (λ z h. ap (λ x. x *ℤ k) (neg_ℤ-suc_ℤ z) ∙ pred_ℤ-*ℤ (neg_ℤ z) k ∙ ap (λ x. x -ℤ k) h ∙ sym (ap neg_ℤ (suc_ℤ-*ℤ z k) ∙ neg_ℤ-+ℤ (z *ℤ k) k))
    (λ z h. ap (λ x. x *ℤ k) (neg_ℤ-pred_ℤ z) ∙ suc_ℤ-*ℤ (neg_ℤ z) k ∙ ap (λ x. x +ℤ k) h
    ∙ sym (ap neg_ℤ (pred_ℤ-*ℤ z k) ∙ neg_ℤ-+ℤ (z *ℤ k) (neg_ℤ k) ∙ ap (λ x. neg_ℤ (z *ℤ k) +ℤ x) (neg_ℤ-neg_ℤ k))) m

-- the sign of the second factor is the product's
pub *ℤ_neg : (m k : ℤ) → m *ℤ neg_ℤ k ≡ neg_ℤ (m *ℤ k)
*ℤ_neg m k = *ℤ_comm m (neg_ℤ k) ∙ neg_*ℤ k m ∙ ap neg_ℤ (*ℤ_comm k m)

-- three factors may be bracketed either way
pub *ℤ_assoc : (m n k : ℤ) → (m *ℤ n) *ℤ k ≡ m *ℤ (n *ℤ k)
*ℤ_assoc m n k =
    by_ones (λ m. (m *ℤ n) *ℤ k ≡ m *ℤ (n *ℤ k))
    (ap (λ x. x *ℤ k) (zero-*ℤ n) ∙ zero-*ℤ k ∙ sym (zero-*ℤ (n *ℤ k)))
    (λ z h. ap (λ x. x *ℤ k) (suc_ℤ-*ℤ z n) ∙ +ℤ-*ℤ (z *ℤ n) n k ∙ ap (λ x. x +ℤ n *ℤ k) h ∙ sym (suc_ℤ-*ℤ z (n *ℤ k)))
    (λ z h. ap (λ x. x *ℤ k) (pred_ℤ-*ℤ z n) ∙ +ℤ-*ℤ (z *ℤ n) (neg_ℤ n) k ∙ ap (λ x. x +ℤ neg_ℤ n *ℤ k) h ∙ ap (λ x. z *ℤ (n *ℤ k) +ℤ x) (neg_*ℤ n k)
    ∙ sym (pred_ℤ-*ℤ z (n *ℤ k))) m

-- the first two of three factors change places
pub left_comm : (a b c : ℤ) → a *ℤ (b *ℤ c) ≡ b *ℤ (a *ℤ c)
left_comm a b c = sym (*ℤ_assoc a b c) ∙ ap (λ x. x *ℤ c) (*ℤ_comm a b) ∙ *ℤ_assoc b a c

-- what is added and taken away again is gone
pub add_back : (a b : ℤ) → a +ℤ (b -ℤ a) ≡ b
add_back a b = ap (λ x. a +ℤ x) (+ℤ_comm b (neg_ℤ a)) ∙ sym (+ℤ_assoc a (neg_ℤ a) b) ∙ ap (λ x. x +ℤ b) (+ℤ_invr a) ∙ +ℤ_idl b

-- a difference of naturals that is not negative
pub pos_sub : (m n : ℕ) → n ≤ m → pos m -ℤ pos n ≡ pos (m - n)
pos_sub m zero h = +ℤ_idr (pos m) ∙ ap pos (omega arith)
pos_sub m (suc n) h = rw (le-ltb m (suc n) h)

-- ---- the order

-- not below itself
pub ltZ_irrefl : (a : ℤ) → lt_z a a ≡ false
ltZ_irrefl (pos a) = le-ltb a a (omega arith)
ltZ_irrefl (negsuc a) = le-ltb a a (omega arith)

-- not below is at least
pub ltZ_leZ : (a b : ℤ) → lt_z a b ≡ false → le_z b a ≡ true
ltZ_leZ (pos a) (pos b) h = le-leb b a (ltb-false a b h)
ltZ_leZ (pos a) (negsuc b) h = refl
ltZ_leZ (negsuc a) (pos b) h = let z : ◌≡◌ {A = ℕ} 0 1 = cc in absurd (omega arith)
ltZ_leZ (negsuc a) (negsuc b) h = le-leb a b (ltb-false b a h)

-- at least is not below
pub leZ_ltZ : (a b : ℤ) → le_z b a ≡ true → lt_z a b ≡ false
leZ_ltZ (pos a) (pos b) h = le-ltb a b (leb-true b a h)
leZ_ltZ (pos a) (negsuc b) h = refl
leZ_ltZ (negsuc a) (pos b) h = let z : ◌≡◌ {A = ℕ} 0 1 = cc in absurd (omega arith)
leZ_ltZ (negsuc a) (negsuc b) h = le-ltb b a (leb-true a b h)

-- of two numbers one alone is below the other
pub ltZ_asym : (a b : ℤ) → lt_z a b ≡ true → lt_z b a ≡ false
ltZ_asym (pos a) (pos b) h = let x : a < b = ltb-true a b h in le-ltb b a (omega arith)
ltZ_asym (pos a) (negsuc b) h = let z : ◌≡◌ {A = ℕ} 0 1 = cc in absurd (omega arith)
ltZ_asym (negsuc a) (pos b) h = refl
ltZ_asym (negsuc a) (negsuc b) h = let x : b < a = ltb-true b a h in le-ltb a b (omega arith)

-- at most, from one to the next
pub leZ_trans : (a b c : ℤ) → le_z a b ≡ true → le_z b c ≡ true → le_z a c ≡ true
leZ_trans (pos a) (pos b) (pos c) h k = le-leb a c (le_trans (leb-true a b h) (leb-true b c k))
leZ_trans (pos a) (pos b) (negsuc c) h k = k
leZ_trans (pos a) (negsuc b) c h k = let z : ◌≡◌ {A = ℕ} 0 1 = cc in absurd (omega arith)
leZ_trans (negsuc a) (pos b) (pos c) h k = refl
leZ_trans (negsuc a) (pos b) (negsuc c) h k = let z : ◌≡◌ {A = ℕ} 0 1 = cc in absurd (omega arith)
leZ_trans (negsuc a) (negsuc b) (pos c) h k = refl
leZ_trans (negsuc a) (negsuc b) (negsuc c) h k = le-leb c a (le_trans (leb-true c b k) (leb-true b a h))

-- a test of naturals is the same of both times a positive number
leb_scale : (a b c : ℕ) → 0 < c → leb (a * c) (b * c) ≡ leb a b
leb_scale a b c h =
    by_test (leb a b)
    (λ t. le-leb _ _ (mul-le-mul_right c (leb-true a b t)) ∙ sym t)
    (λ t. by_test (leb (a * c) (b * c)) (λ s. absurd (lt_irrefl b (lt_of_lt_of_le (leb-false a b t) (le_of_mul-le-mul_right (leb-true _ _ s) h))))
    (λ s. s ∙ sym t))

-- a negative number times a positive one is negative
neg_scale : (a c : ℕ) → negsuc a *ℤ pos (suc c) ≡ negsuc (a * suc c + c)
neg_scale a c = ap (λ (n : ℕ). neg_ℤ (pos n)) (suc-mul a (suc c) ∙ add-suc (a * suc c) c)

-- the order is the same of both sides times a positive number
pub leZ_scale : (a b : ℤ) (c : ℕ) → 0 < c → le_z (a *ℤ pos c) (b *ℤ pos c) ≡ le_z a b
leZ_scale a b zero h = absurd (not-suc-le-zero h)
leZ_scale (pos a) (pos b) (suc c) h = leb_scale a b (suc c) h
leZ_scale (pos a) (negsuc b) (suc c) h = rw neg_scale
leZ_scale (negsuc a) (pos b) (suc c) h = rw neg_scale
leZ_scale (negsuc a) (negsuc b) (suc c) h =
    rw (
      neg_scale a c,
      neg_scale b c,
      ← leb-suc_suc (b * suc c + c) (a * suc c + c),
      ← add-suc (b * suc c) c,
      ← add-suc (a * suc c) c,
      ← suc-mul b (suc c),
      ← suc-mul a (suc c),
    )
    (leb_scale (suc b) (suc a) (suc c) h ∙ leb-suc_suc b a)
