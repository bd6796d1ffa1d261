-- Sizes: what fits the code's types, and what a judged value is in them.
use Rattle.rules.proofs.Offered.{ℕ, zero, suc, ◌+◌, ◌*◌, ◌/◌, ◌%◌, ◌^◌, ◌<◌, ◌≤◌, mul-le-mul, mul_comm, div-eq_of_lt, mod-eq_of_lt, one-mul, arith, ◌≡◌, refl}
use Rattle.rules.proofs.Offered.{ap, ◌∙◌, Bool, true, false, ℤ, pos, negsuc, neg_ℤ, ◌-ℤ◌, +ℤ_idl, le_z, pow-add, pow_mono, shr_le, Float}
use Rattle.rules.proofs.Offered.{binary32, to_bits}
use Rattle.rules.proofs.Offered.{to_z-of_z, to_z_pos, sfits_lit, SFits, to_z, of_z, w32, w64, le-leb, lt-leb, leb-true, nearest, ◌and◌}
use Rattle.rules.proofs.Offered.{and_left, and_right}
use Rattle.exports.specs.declared.Field.{Field}
use Rattle.exports.specs.Floats.{signed, scaled}
use Rattle.exports.specs.Fields.{f0_field, f1_field, f2_field, tm_field, units, in_bounds}
use Rattle.exports.specs.Bits.{negative, significand, shift, size_of, Moderate, InField, Fair, Unsigned}
use Rattle.exports.proofs.Values.{scaled_is, moderate}

-- ---- products

pub product_low : (k q : ℕ) → k ≤ 100000 → q < 16777216 → k * q ≤ 1677721500000
product_low k q a b =
    let l : q ≤ 16777215 = omega arith in
    let m : k * q ≤ 100000 * 16777215 = mul-le-mul a l in
    omega arith

-- what is below one half comes to 0
pub tiny : (a c : ℕ) → 2 * a < c → nearest a c ≡ 0
unfolding nearest
tiny a c h = div-eq_of_lt (omega arith)

pub tiny_size : (k bits : ℕ) → k * significand bits ≤ 1677721500000 → 60 < shift bits → size_of k bits ≡ 0
unfolding size_of
tiny_size k bits h l =
    let p : 2 ^ 61 ≤ 2 ^ shift bits = pow_mono l in
    tiny (k * significand bits) (2 ^ shift bits) (omega arith)

-- shifts as the definition has them
pub one_shifted : (s : ℕ) → s ≤ 60 → 1 * 2 ^ s % 18446744073709551616 ≡ 2 ^ s
one_shifted s h = let p : 2 ^ s ≤ 2 ^ 60 = pow_mono h in ap (λ (n : ℕ). n % 18446744073709551616) (one-mul (2 ^ s)) ∙ mod-eq_of_lt (omega arith)

pub rounded : (a s : ℕ) → s ≤ 60 → (2 * a + 1 * 2 ^ s % 18446744073709551616) / 2 ^ (s + 1) ≡ nearest a (2 ^ s)
unfolding nearest
rounded a s h = rw (one_shifted s h, pow-add 2 s 1, mul_comm (2 ^ s) (2 ^ 1))

pub sum_low : (a s : ℕ) → a ≤ 1677721500000 → s ≤ 60 → 2 * a + 1 * 2 ^ s % 18446744073709551616 < 4611686018427387904
sum_low a s l h = let p : 2 ^ s ≤ 2 ^ 60 = pow_mono h in rw (one_shifted s h) (omega arith)

pub rounded_low : (n s : ℕ) → n < 4611686018427387904 → n / 2 ^ (s + 1) < 4611686018427387904
rounded_low n s h = let l : n / 2 ^ (s + 1) ≤ n = shr_le n (s + 1) in omega arith

-- ---- a value within bounds

inside : (field : Field) (x : Float) → in_bounds field x ≡ true → le_z field.lo (scaled field.scale x) and le_z (scaled field.scale x) field.hi ≡ true
unfolding in_bounds units
inside field x t = t

-- within bounds that are not negative a value is its size
low-enough : (n : ℕ) (hi : ℤ) → le_z hi (pos 65535) ≡ true → le_z (pos n) hi ≡ true → n ≤ 65535
low-enough n (pos b) h m = let u = leb-true n b m in let v = leb-true b 65535 h in omega arith
low-enough n (negsuc b) h m = let q : ◌≡◌ {A = ℕ} 0 1 = cc in absurd (omega arith)

not_below : (n : ℕ) (lo : ℤ) → le_z (pos 0) lo ≡ true → le_z lo (negsuc n) ≡ true → ⊥
not_below n (pos a) z l = let q : ◌≡◌ {A = ℕ} 0 1 = cc in absurd (omega arith)
not_below n (negsuc a) z l = let q : ◌≡◌ {A = ℕ} 0 1 = cc in absurd (omega arith)

sided : (s : Bool) (n : ℕ) (lo hi : ℤ) → le_z (pos 0) lo ≡ true → le_z hi (pos 65535) ≡ true → le_z lo (signed s n) ≡ true → le_z (signed s n) hi ≡ true
    → (pos n ≡ signed s n) × (n ≤ 65535)
unfolding signed
sided false n lo hi z h l m = (refl, low-enough n hi h m)
sided true zero lo hi z h l m = (refl, omega arith)
sided true (suc n) lo hi z h l m = absurd (not_below n lo z l)

module _ (field : Field) (x : Float) (u : Unsigned field) (j : InField field x) where
  pub size_is : (pos (size_of field.scale (to_bits binary32 x)) ≡ units field x) × (size_of field.scale (to_bits binary32 x) ≤ 65535)
  unfolding units
  size_is =
      let e = scaled_is field.scale x (moderate field x u.fair j) in
      let t = j.bounded in
      rw e
      (sided (negative (to_bits binary32 x)) (size_of field.scale (to_bits binary32 x)) field.lo field.hi u.from_zero u.short
      (rw e at (and_left _ _ (inside field x t)))
      (rw e at (and_right _ _ (inside field x t))))

short : (z : ℤ) → le_z (neg_ℤ (pos 5000)) z ≡ true → le_z z (pos 5000) ≡ true → SFits w32 z
short (pos n) l m = let u = leb-true n 5000 m in record { sfits = omega arith }
short (negsuc n) l m = let u = leb-true n 4999 l in record { sfits = omega arith }

-- F1 fits 32 bits
pub f1_short : (x : Float) → InField f1_field x → SFits w32 (units f1_field x)
unfolding units f1_field
f1_short x j = let t = inside f1_field x j.bounded in short (scaled 1000 x) (and_left _ _ t) (and_right _ _ t)

-- ---- the sign in front

signed_short : (s : Bool) (n : ℕ) → n < 4611686018427387904 → SFits w64 (signed s n)
unfolding signed
signed_short false n h = record { sfits = omega arith }
signed_short true zero h = record { sfits = omega arith }
signed_short true (suc n) h = record { sfits = omega arith }

module _ (k : ℕ) (x : Float) (m : Moderate k x) (n : ℕ) (e : n ≡ size_of k (to_bits binary32 x)) (low : n < 4611686018427387904) where
  value_short : SFits w64 (scaled k x)
  value_short = rw (scaled_is k x m, ← e) (signed_short (negative (to_bits binary32 x)) n low)

  pub plain : to_bits binary32 x < 2147483648 → (to_z w64 n ≡ scaled k x) × SFits w64 (to_z w64 n)
  unfolding signed negative
  plain l =
      let same : to_z w64 n ≡ scaled k x = to_z_pos w64 {n = n} (omega arith) ∙ rw (scaled_is k x m, lt-leb 2147483648 (to_bits binary32 x) l, ← e) in
      (same, rw same value_short)

  minus_is : pos 0 -ℤ to_z w64 n ≡ neg_ℤ (pos n)
  minus_is = rw (to_z_pos w64 {n = n} (omega arith)) (+ℤ_idl (neg_ℤ (pos n)))

  pub minus_short : SFits w64 (pos 0 -ℤ to_z w64 n)
  unfolding signed
  minus_short = rw minus_is (signed_short true n low)

  pub turned : 2147483648 ≤ to_bits binary32 x → (to_z w64 (of_z w64 (pos 0 -ℤ to_z w64 n)) ≡ scaled k x) × SFits w64
      (to_z w64 (of_z w64 (pos 0 -ℤ to_z w64 n)))
  unfolding signed negative
  turned l =
      let same : to_z w64 (of_z w64 (pos 0 -ℤ to_z w64 n)) ≡ scaled k x = to_z-of_z minus_short ∙ minus_is
      ∙ rw (scaled_is k x m, le-leb 2147483648 (to_bits binary32 x) l, ← e) in
      (same, rw same value_short)

-- ---- the fields

pub f0_plain : Unsigned f0_field
unfolding f0_field
f0_plain = record {
  fair = record { least = omega arith; most = omega arith; lower = refl; upper = refl; lo_held = sfits_lit tt; hi_held = sfits_lit tt };
  from_zero = refl;
  short = refl;
}

pub f1_fair : Fair f1_field
unfolding f1_field
f1_fair = record { least = omega arith; most = omega arith; lower = refl; upper = refl; lo_held = sfits_lit tt; hi_held = sfits_lit tt }

pub f2_plain : Unsigned f2_field
unfolding f2_field
f2_plain = record {
  fair = record { least = omega arith; most = omega arith; lower = refl; upper = refl; lo_held = sfits_lit tt; hi_held = sfits_lit tt };
  from_zero = refl;
  short = refl;
}

pub tm_plain : Unsigned tm_field
unfolding tm_field
tm_plain = record {
  fair = record { least = omega arith; most = omega arith; lower = refl; upper = refl; lo_held = sfits_lit tt; hi_held = sfits_lit tt };
  from_zero = refl;
  short = refl;
}
