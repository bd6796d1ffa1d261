-- Sums and products of 64-bit signed numbers whose parts have known sizes: each step fits the machine, and is what ℤ says.
use Rattle.rules.proofs.Base.{◌≡◌, refl, sym, ap, ◌∙◌, subst, Bool, true, false, ◌&&◌, ℕ, zero, suc, ◌+◌, ◌*◌, ◌^◌, ◌≤◌, ◌<◌, add_comm, le_refl}
use Rattle.rules.proofs.Base.{lt_of_le_of_lt, mul-le-mul, arith, T, ltb, ltb→lt, ℤ, pos, negsuc, neg_ℤ, nat_abs, sub_ℕ, ◌+ℤ◌, ◌-ℤ◌, ◌*ℤ◌, mag, le_z, lt_z}
use Rattle.rules.proofs.Base.{ltb-true, ltb-false, w32, w64, Fits, SFits, to_z, of_z, to_z-of_z, sfits_widen}
use Rattle.rules.proofs.Laws.Words.{by_test}

-- ---- sizes

pub natAbs_neg : (z : ℤ) → nat_abs (neg_ℤ z) ≡ nat_abs z
natAbs_neg (pos zero) = refl
natAbs_neg (pos (suc n)) = refl
natAbs_neg (negsuc n) = refl

-- the size of a product is the product of the sizes
pub nat_abs_mul : (a b : ℤ) → nat_abs (a *ℤ b) ≡ nat_abs a * nat_abs b
nat_abs_mul (pos a) (pos b) = refl
nat_abs_mul (pos a) (negsuc b) = natAbs_neg (pos (a * suc b))
nat_abs_mul (negsuc a) (pos b) = natAbs_neg (pos (suc a * b))
nat_abs_mul (negsuc a) (negsuc b) = refl

-- two numbers no further than n apart
natAbs_sub : (a b n : ℕ) → a ≤ b + n → b ≤ a + n → nat_abs (sub_ℕ a b) ≤ n
natAbs_sub a b n p q =
    by_test (ltb a b)
    (λ t. let h : a < b = ltb-true a b t in rw t (omega arith))
    (λ t. let h : b ≤ a = ltb-false a b t in rw t (omega arith))

-- the size of a sum is at most the sum of the sizes
pub natAbs_add : (a b : ℤ) → nat_abs (a +ℤ b) ≤ nat_abs a + nat_abs b
natAbs_add (pos a) (pos b) = le_refl (a + b)
natAbs_add (pos a) (negsuc b) = natAbs_sub a (suc b) (a + suc b) (omega arith) (omega arith)
natAbs_add (negsuc a) (pos b) = rw add_comm (natAbs_sub b (suc a) (b + suc a) (omega arith) (omega arith))
natAbs_add (negsuc a) (negsuc b) = omega arith

-- the size of a difference of two numbers no further than n apart
pub natAbs_gap : (a b n : ℕ) → a ≤ b + n → b ≤ a + n → nat_abs (pos a -ℤ pos b) ≤ n
natAbs_gap a zero n p q = omega arith
natAbs_gap a (suc b) n p q = natAbs_sub a (suc b) n p q

-- ---- expressions

-- a number as the machine reads it back from its 64 bits
abbrev pub rd : ℤ → ℤ
rd z = to_z w64 (of_z w64 z)

infixl 6 ◌⊕◌ ◌⊖◌
infixl 7 ◌⊗◌
pub data E : Type 0 where
  lit : ℤ → E
  -- a value of size at most n
  var : (z : ℤ) (n : ℕ) → nat_abs z ≤ n → E
  -- a value m that is known to be z, as what a callee returned
  is : {m z : ℤ} (n : ℕ) → m ≡ z → nat_abs z ≤ n → E
  ◌⊕◌ ◌⊖◌ ◌⊗◌ : E → E → E

-- the value as the machine makes it, each operand read back from its bits
abbrev pub machine : E → ℤ
machine (lit z) = z
machine (var z n h) = z
machine (is {m} {z} n e h) = m
machine (a ⊕ b) = rd (machine a) +ℤ rd (machine b)
machine (a ⊖ b) = rd (machine a) -ℤ rd (machine b)
machine (a ⊗ b) = rd (machine a) *ℤ rd (machine b)

-- the value as a contract has it
abbrev pub pure : E → ℤ
pure (lit z) = z
pure (var z n h) = z
pure (is {m} {z} n e h) = z
pure (a ⊕ b) = pure a +ℤ pure b
pure (a ⊖ b) = pure a -ℤ pure b
pure (a ⊗ b) = pure a *ℤ pure b

-- a bound on its size
abbrev pub size : E → ℕ
size (lit z) = nat_abs z
size (var z n h) = n
size (is n e h) = n
size (a ⊕ b) = size a + size b
size (a ⊖ b) = size a + size b
size (a ⊗ b) = size a * size b

-- a size below 2^63, over two parts that pass
abbrev pub step : ℕ → Bool → Bool → Bool
step n x y = ltb n (2 ^ 63) && (x && y)

-- the test that antt computes: each size is below 2^63
abbrev pub ok : E → Bool
ok (lit z) = ltb (nat_abs z) (2 ^ 63)
ok (var z n h) = ltb n (2 ^ 63)
ok (is n e h) = ltb n (2 ^ 63)
ok (a ⊕ b) = step (size a + size b) (ok a) (ok b)
ok (a ⊖ b) = step (size a + size b) (ok a) (ok b)
ok (a ⊗ b) = step (size a * size b) (ok a) (ok b)

-- ---- an expression that passes the test

and_left : (a b : Bool) → T (a && b) → T a
and_left true b t = tt
and_left false b t = t

and_right : (a b : Bool) → T (a && b) → T b
and_right true b t = t
and_right false b t = absurd t

step_size : (n : ℕ) (x y : Bool) → T (step n x y) → n < 2 ^ 63
step_size n x y t = ltb→lt n (2 ^ 63) (and_left (ltb n (2 ^ 63)) (x && y) t)

pub step_left : (n : ℕ) (x y : Bool) → T (step n x y) → T x
step_left n x y t = and_left x y (and_right (ltb n (2 ^ 63)) (x && y) t)

pub step_right : (n : ℕ) (x y : Bool) → T (step n x y) → T y
step_right n x y t = and_right x y (and_right (ltb n (2 ^ 63)) (x && y) t)

-- the value is within the size
pub within : (e : E) → nat_abs (pure e) ≤ size e
within (lit z) = le_refl (nat_abs z)
within (var z n h) = h
within (is n e h) = h
within (a ⊕ b) = omega (arith, natAbs_add (pure a) (pure b), within a, within b)
within (a ⊖ b) = omega (arith, natAbs_add (pure a) (neg_ℤ (pure b)), natAbs_neg (pure b), within a, within b)
within (a ⊗ b) = rw nat_abs_mul (mul-le-mul (within a) (within b))

-- the size is below 2^63
pub below : (e : E) → T (ok e) → size e < 2 ^ 63
below (lit z) t = ltb→lt (nat_abs z) (2 ^ 63) t
below (var z n h) t = ltb→lt n (2 ^ 63) t
below (is n e h) t = ltb→lt n (2 ^ 63) t
below (a ⊕ b) t = step_size (size a + size b) (ok a) (ok b) t
below (a ⊖ b) t = step_size (size a + size b) (ok a) (ok b) t
below (a ⊗ b) t = step_size (size a * size b) (ok a) (ok b) t

-- so the value is
pub natAbs_below : (e : E) → T (ok e) → nat_abs (pure e) < 2 ^ 63
natAbs_below e t = lt_of_le_of_lt (within e) (below e t)

-- ---- the machine

pub small : (z : ℤ) → nat_abs z < 2 ^ 63 → SFits w64 z
small (pos n) h = record { sfits = h }
small (negsuc n) h = record { sfits = omega arith }

pub pure_fits : (e : E) → T (ok e) → SFits w64 (pure e)
pure_fits e t = small (pure e) (natAbs_below e t)

back : {m z : ℤ} → m ≡ z → SFits w64 z → rd m ≡ z
back e f = ap rd e ∙ to_z-of_z f

-- the machine's value is the contract's
pub same : (e : E) → T (ok e) → machine e ≡ pure e
same (lit z) t = refl
same (var z n h) t = refl
same (is n e h) t = e
same (a ⊕ b) t =
    let x = step_left (size a + size b) (ok a) (ok b) t in
    let y = step_right (size a + size b) (ok a) (ok b) t in
    λ i. back (same a x) (pure_fits a x) i +ℤ back (same b y) (pure_fits b y) i
same (a ⊖ b) t =
    let x = step_left (size a + size b) (ok a) (ok b) t in
    let y = step_right (size a + size b) (ok a) (ok b) t in
    λ i. back (same a x) (pure_fits a x) i -ℤ back (same b y) (pure_fits b y) i
same (a ⊗ b) t =
    let x = step_left (size a * size b) (ok a) (ok b) t in
    let y = step_right (size a * size b) (ok a) (ok b) t in
    λ i. back (same a x) (pure_fits a x) i *ℤ back (same b y) (pure_fits b y) i

-- a result, read back from its bits
pub read : (e : E) → T (ok e) → rd (machine e) ≡ pure e
read e t = back (same e t) (pure_fits e t)

-- each step of the machine fits
pub fits : (e : E) → T (ok e) → SFits w64 (machine e)
fits e t = subst (SFits w64) (sym (same e t)) (pure_fits e t)

-- a comparison, as the machine makes it and as a contract says it
pub le_read : (a b : E) → T (ok a) → T (ok b) → le_z (rd (machine a)) (rd (machine b)) ≡ le_z (pure a) (pure b)
le_read a b s t i = le_z (read a s i) (read b t i)

pub lt_read : (a b : E) → T (ok a) → T (ok b) → lt_z (rd (machine a)) (rd (machine b)) ≡ lt_z (pure a) (pure b)
lt_read a b s t i = lt_z (read a s i) (read b t i)

-- ---- casts: `x as i64` of an unsigned x is `to_z w64 x`, and of an i32 z the 64 bits of what is read from its 32

pub from_i32_fits : {z : ℤ} → SFits w32 z → SFits w64 (to_z w32 (of_z w32 z))
from_i32_fits f = rw (to_z-of_z f) (sfits_widen tt f)

pub small_i32 : (z : ℤ) → nat_abs z < 2 ^ 31 → SFits w32 z
small_i32 (pos n) h = record { sfits = h }
small_i32 (negsuc n) h = record { sfits = omega arith }

-- what a callee returned, read back: its `.ok`
pub result : {z : ℤ} → mag z < 2 ^ 63 → rd z ≡ z
result {z} h = to_z-of_z {w = w64} {z = z} (record { sfits = h })

-- a product of two unsigned numbers of known sizes fits
pub product : {a b : ℕ} (m n : ℕ) → a ≤ m → b ≤ n → T (ltb (m * n) (2 ^ 64)) → Fits w64 (a * b)
product m n p q t = record { fits = lt_of_le_of_lt (mul-le-mul p q) (ltb→lt (m * n) (2 ^ 64) t) }
