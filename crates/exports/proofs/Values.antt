-- The way of the code comes to the exact value: from a float's fields as whole numbers, denormals included, its scaled value, and where it is beyond
-- every bound.
use Rattle.rules.proofs.Base.{fits}
use Rattle.rules.proofs.Offered.{ℕ, zero, suc, ◌+◌, ◌-◌, ◌*◌, ◌/◌, ◌%◌, ◌^◌, ◌<◌, ◌≤◌, add-mul, mul-one, mul_comm, mul_assoc, mul_left_comm, mul-le-mul, arith}
use Rattle.rules.proofs.Offered.{◌≡◌, refl, sym, ap, ◌∙◌, Bool, true, false, not, T, leb, eqb, ℤ, pos, negsuc, neg_ℤ, le_z, pow_pos, pow-add, Float, nan, inf}
use Rattle.rules.proofs.Offered.{fin, up, down, binary32, of_bits, of_fields, to_bits, is_nan, odd, of_bits-to_bits, HasValue, odd_sign, div_same}
use Rattle.rules.proofs.Offered.{lt-leb, ne_eqb}
use Rattle.rules.proofs.Offered.{leb-true, nearest, ◌and◌, by_test, by_order, and_no}
use Rattle.exports.specs.declared.Field.{Field}
use Rattle.exports.specs.Floats.{float_of, finite, signed, scaled}
use Rattle.exports.specs.Fields.{units, in_bounds}
use Rattle.exports.specs.Bits.{negative, exponent, mantissa, significand, shift, size_of, Moderate, Finite, InField, Fair}

-- ---- rounding sees only the value of its fraction

doubled : (a b d : ℕ) → (2 * a + b) * (2 * d) ≡ 4 * (a * d) + 2 * (b * d)
doubled a b d =
    let s : (2 * a + b) * (2 * d) ≡ 2 * a * (2 * d) + b * (2 * d) = add-mul (2 * a) b (2 * d) in
    let x : 2 * a * (2 * d) ≡ 2 * (a * (2 * d)) = mul_assoc 2 a (2 * d) in
    let y : a * (2 * d) ≡ 2 * (a * d) = mul_left_comm a 2 d in
    let z : b * (2 * d) ≡ 2 * (b * d) = mul_left_comm b 2 d in
    omega arith

pub nearest_same : (a b c d : ℕ) → 0 < b → 0 < d → a * d ≡ c * b → nearest a b ≡ nearest c d
unfolding nearest
nearest_same a b c d p q e = div_same (2 * a + b) (2 * b) (2 * c + d) (2 * d) (omega arith) (omega arith)
    (let x = doubled a b d in let y = doubled c d b in let z = mul_comm d b in omega arith)

nearest-whole : (n : ℕ) → nearest n 1 ≡ n
unfolding nearest
nearest-whole n = omega arith

down_pos : (e : ℤ) → 0 < down e
down_pos (pos k) = omega arith
down_pos (negsuc k) = pow_pos (suc k)

-- a float that is the fraction a / c in size, in units of which k make one
pub scaled_by : (k : ℕ) (x : Float) (s : Bool) (a c : ℕ) → 0 < c → HasValue x s a c → scaled k x ≡ signed s (nearest (k * a) c)
unfolding scaled
scaled_by k nan s a c p v = absurd v
scaled_by k (inf t) s a c p v = absurd v
scaled_by k (fin t m e) s a c p v =
    ap (λ (u : Bool). signed u (nearest (k * (m * up e)) (down e))) v.0
    ∙ ap (signed s)
    (nearest_same (k * (m * up e)) (down e) (k * a) c (down_pos e) p
    (mul_assoc k (m * up e) c ∙ ap (λ (n : ℕ). k * n) v.1 ∙ sym (mul_assoc k a (down e))))

-- ---- a float's fields

fields : (b : ℕ) → float_of b ≡ of_fields binary32 (negative b) (exponent b) (mantissa b)
unfolding float_of of_bits negative exponent mantissa
fields b = let e : b % 2147483648 / 8388608 ≡ b / 8388608 % 256 = omega arith in ap (λ (x : ℕ). of_fields binary32 (leb 2147483648 b) x (b % 8388608)) e

odd_finite : (d : ℕ) (s : Bool) (q k l : ℕ) → finite (odd d s q k l) ≡ true
unfolding odd finite
odd_finite d s zero k l = refl
odd_finite d s (suc q) k l = refl

fields-finite : (s : Bool) (x t : ℕ) → x < 255 → finite (of_fields binary32 s x t) ≡ true
unfolding of_fields
fields-finite s zero t h = odd_finite 24 s t 0 149
fields-finite s (suc x) t h = rw (ne_eqb (suc x) 255 (λ e. absurd (omega arith))) (odd_finite 24 s (8388608 + t) x 149)

fields-not-finite : (s : Bool) (t : ℕ) → finite (of_fields binary32 s 255 t) ≡ false
unfolding of_fields finite
fields-not-finite s t = by_test (eqb t 0) (λ e. rw e) (λ e. rw e)

pub is_finite : (b : ℕ) → exponent b < 255 → finite (float_of b) ≡ true
is_finite b h = rw (fields b) (fields-finite (negative b) (exponent b) (mantissa b) h)

pub not_finite : (b : ℕ) → exponent b ≡ 255 → finite (float_of b) ≡ false
not_finite b e = rw (fields b, e) (fields-not-finite (negative b) (mantissa b))

-- ---- its exact value

fields_value : (s : Bool) (x t : ℕ) → x < 254 → HasValue (of_fields binary32 s (suc x) t) s ((8388608 + t) * 2 ^ x) (2 ^ 149)
unfolding of_fields
fields_value s x t h = rw (ne_eqb (suc x) 255 (λ e. absurd (omega arith))) (odd_sign 24 s (8388608 + t) x 149)

fields_denormal : (s : Bool) (t : ℕ) → HasValue (of_fields binary32 s zero t) s (t * 2 ^ 0) (2 ^ 149)
unfolding of_fields
fields_denormal s t = odd_sign 24 s t 0 149

module _ (k b : ℕ) where
  denormal : exponent b ≡ 0 → scaled k (float_of b) ≡ signed (negative b) (size_of k b)
  unfolding size_of significand shift
  denormal e =
      rw (fields b, e)
      (scaled_by k (of_fields binary32 (negative b) 0 (mantissa b)) (negative b) (mantissa b * 2 ^ 0) (2 ^ 149) (pow_pos 149)
      (fields_denormal (negative b) (mantissa b))
      ∙ ap (λ (n : ℕ). signed (negative b) (nearest (k * n) (2 ^ 149))) (mul-one (mantissa b)))

  module _ (x : ℕ) (e : exponent b ≡ suc x) (h : x < 254) where
    normal : scaled k (float_of b) ≡ signed (negative b) (nearest (k * ((8388608 + mantissa b) * 2 ^ x)) (2 ^ 149))
    normal = rw (fields b, e)
        (scaled_by k (of_fields binary32 (negative b) (suc x) (mantissa b)) (negative b) _ (2 ^ 149) (pow_pos 149) (fields_value (negative b) x (mantissa b) h))

    small : x < 149 → scaled k (float_of b) ≡ signed (negative b) (size_of k b)
    unfolding size_of significand shift
    small l =
        let sum : x + (149 - x) ≡ 149 = omega arith in
        let less : 150 - suc x ≡ 149 - x = omega arith in
        let q = 8388608 + mantissa b in
        normal ∙ rw (e, ne_eqb (suc x) 0 (λ z. absurd (omega arith)), less)
        (ap (signed (negative b))
        (nearest_same (k * (q * 2 ^ x)) (2 ^ 149) (k * q) (2 ^ (149 - x)) (pow_pos 149) (pow_pos (149 - x))
        (mul_assoc k (q * 2 ^ x) (2 ^ (149 - x))
        ∙ ap (λ (n : ℕ). k * n) (mul_assoc q (2 ^ x) (2 ^ (149 - x)) ∙ ap (λ (n : ℕ). q * n) (sym (pow-add 2 x (149 - x)) ∙ ap (λ (n : ℕ). 2 ^ n) sum))
        ∙ sym (mul_assoc k q (2 ^ 149)))))

    -- from 2^23 on the value is whole, and at least its digits
    far : 149 ≤ x → scaled k (float_of b) ≡ signed (negative b) (k * ((8388608 + mantissa b) * 2 ^ (x - 149)))
    far l =
        let sum : x - 149 + 149 ≡ x = omega arith in
        let q = 8388608 + mantissa b in
        let y = 2 ^ (x - 149) in
        normal
        ∙ ap (signed (negative b))
        (nearest_same (k * (q * 2 ^ x)) (2 ^ 149) (k * (q * y)) 1 (pow_pos 149) (omega arith)
        (mul-one (k * (q * 2 ^ x))
        ∙ ap (λ (n : ℕ). k * n) (ap (λ (n : ℕ). q * n) (ap (λ (n : ℕ). 2 ^ n) (sym sum) ∙ pow-add 2 (x - 149) 149) ∙ sym (mul_assoc q y (2 ^ 149)))
        ∙ sym (mul_assoc k (q * y) (2 ^ 149)))
        ∙ nearest-whole (k * (q * y)))

by_field : {P : Type 0} (n : ℕ) → (n ≡ 0 → P) → ((x : ℕ) → n ≡ suc x → P) → P
by_field zero f g = f refl
by_field (suc x) f g = g x refl

-- the integer way is the exact value, rounded
pub scaled_bits : (k b : ℕ) → exponent b < 150 → scaled k (float_of b) ≡ signed (negative b) (size_of k b)
scaled_bits k b h = by_field (exponent b) (λ e. denormal k b e) (λ x e. small k b x e (omega arith) (omega arith))

-- ---- beyond every bound

no_and : (t u : Bool) → t ≡ false → t and u ≡ false
unfolding ◌and◌
no_and t u e = rw e

above_hi : (n : ℕ) (hi : ℤ) → 8388608 ≤ n → le_z hi (pos 8388607) ≡ true → le_z (pos n) hi ≡ false
above_hi n (pos h) l t = let u = leb-true h 8388607 t in lt-leb n h (omega arith)
above_hi n (negsuc h) l t = refl

below_lo : (n : ℕ) (lo : ℤ) → 8388608 ≤ suc n → le_z (neg_ℤ (pos 8388607)) lo ≡ true → le_z lo (negsuc n) ≡ false
below_lo n (pos a) l t = refl
below_lo n (negsuc a) l t = let u = leb-true a 8388606 t in lt-leb n a (omega arith)

signed_far : (field : Field) → Fair field → (s : Bool) (n : ℕ) → 8388608 ≤ n → le_z field.lo (signed s n) and le_z (signed s n) field.hi ≡ false
unfolding signed
signed_far field f false n l = rw (above_hi n field.hi l f.upper) (and_no (le_z field.lo (pos n)) false refl)
signed_far field f true zero l = absurd (omega arith)
signed_far field f true (suc n) l = no_and (le_z field.lo (negsuc n)) (le_z (negsuc n) field.hi) (below_lo n field.lo l f.lower)

large : (k q y : ℕ) → 1 ≤ k → 8388608 ≤ q → 1 ≤ y → 8388608 ≤ k * (q * y)
large k q y a b c =
    let m : 8388608 * 1 ≤ q * y = mul-le-mul b c in
    let l : 8388608 ≤ q * y = omega arith in
    let n : 1 * 8388608 ≤ k * (q * y) = mul-le-mul a l in
    omega arith

-- an exponent's field of 150 or more, and not that of an infinity: 2^23 or more in size
far_out : (field : Field) → Fair field → (b : ℕ) → 150 ≤ exponent b → exponent b < 255 → in_bounds field (float_of b) ≡ false
unfolding in_bounds units
far_out field f b l h =
    by_field (exponent b)
    (λ e. absurd (omega arith))
    (λ x e.
    rw (far field.scale b x e (omega arith) (omega arith))
    (signed_far field f (negative b) (field.scale * ((8388608 + mantissa b) * 2 ^ (x - 149)))
    (large field.scale (8388608 + mantissa b) (2 ^ (x - 149)) f.least (omega arith) (pow_pos (x - 149)))))

-- ---- of a float by its own bits

exponent-low : (b : ℕ) → exponent b < 256
unfolding exponent
exponent-low b = omega arith

finite-low : (b : ℕ) → finite (float_of b) ≡ true → exponent b < 255
finite-low b t =
    by_order (exponent b) 255
    (λ l. l)
    (λ l. let u = exponent-low b in let n = not_finite b (omega arith) in let z : ◌≡◌ {A = ℕ} 0 1 = cc in absurd (omega arith))

pub same_float : (x : Float) → T (fits binary32 x) → float_of (to_bits binary32 x) ≡ x
unfolding float_of
same_float x h = of_bits-to_bits binary32 x h

-- no NaN, as asked where its bits are taken
pub no_nan : (x : Float) → finite x ≡ true → T (not (is_nan x))
unfolding finite is_nan
no_nan nan t = let z : ◌≡◌ {A = ℕ} 0 1 = cc in absurd (omega arith)
no_nan (inf s) t = tt
no_nan (fin s m e) t = tt

pub scaled_is : (k : ℕ) (x : Float) → Moderate k x → scaled k x ≡ signed (negative (to_bits binary32 x)) (size_of k (to_bits binary32 x))
scaled_is k x m = ap (scaled k) (sym (same_float x m.held)) ∙ scaled_bits k (to_bits binary32 x) m.below

pub beyond : (field : Field) (x : Float) → Fair field → Finite x → 150 ≤ exponent (to_bits binary32 x) → in_bounds field x ≡ false
beyond field x f t l =
    ap (in_bounds field) (sym (same_float x t.held))
    ∙ far_out field f (to_bits binary32 x) l (finite-low (to_bits binary32 x) (rw (same_float x t.held) t.number))

-- a float that was judged is below 2^23 in size
pub moderate : (field : Field) (x : Float) → Fair field → InField field x → Moderate field.scale x
moderate field x f j = record {
  held = j.is.held;
  number = j.is.number;
  below =
      by_order (exponent (to_bits binary32 x)) 150
      (λ l. l)
      (λ l. let n = beyond field x f j.is l in let t = j.bounded in let z : ◌≡◌ {A = ℕ} 0 1 = cc in absurd (omega arith));
  scale = f.most;
}
