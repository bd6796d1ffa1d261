-- What a reader of request Five may conclude of the definitions, each theorem by name.
use Rattle.rules.proofs.Offered.{ℕ, ◌+◌, ◌*◌, ◌/◌, ◌%◌, ◌<◌, ◌≤◌, div-mul-le_self, div-add-mod', mod-lt, mul_left_comm, arith, ◌≡◌, refl, true, false}
use Rattle.rules.proofs.Offered.{get_or, ℤ}
use Rattle.rules.proofs.Offered.{pos, neg_ℤ, le_z, Float, fin, le-leb, nearest, ◌and◌, within, newest, bounds}
use Rattle.rules.specs.declared.Vehicle.{Vehicle}
use Rattle.exports.specs.Floats.{signed, scaled}
use Rattle.exports.specs.Fields.{f0_field, f1_field, f2_field, tm_field, units, in_bounds}

-- ---- rounding

-- the nearest whole number n of a / b: n - 1/2 is at most a / b, which is below n + 1/2
pub nearest_from : (a b : ℕ) → 0 < b → 2 * (nearest a b * b) ≤ 2 * a + b
unfolding nearest
nearest_from a b p =
    let d : (2 * a + b) / (2 * b) * (2 * b) ≤ 2 * a + b = div-mul-le_self (2 * a + b) (2 * b) in
    let m = mul_left_comm ((2 * a + b) / (2 * b)) 2 b in
    omega arith

pub nearest_below : (a b : ℕ) → 0 < b → 2 * a < 2 * (nearest a b * b) + b
unfolding nearest
nearest_below a b p =
    let d = div-add-mod' (2 * a + b) (2 * b) in
    let r : (2 * a + b) % (2 * b) < 2 * b = mod-lt (2 * a + b) (omega arith) in
    let m = mul_left_comm ((2 * a + b) / (2 * b)) 2 b in
    omega arith

-- the same on both sides of zero: a float and its negative come to a number and its negative
pub both_sides : (k m : ℕ) (e : ℤ) → scaled k (fin true m e) ≡ neg_ℤ (scaled k (fin false m e))
unfolding scaled signed
both_sides k m e = refl

-- ---- the bounds are those of the vehicle record: for a car with the rounded values, the tests of its fields 6 to 9

from_zero : (n hi : ℕ) → le_z (pos 0) (pos n) and le_z (pos n) (pos hi) ≡ le_z (pos n) (pos hi)
unfolding ◌and◌
from_zero n hi = rw (le-leb 0 n (omega arith))

module _ (car : Vehicle) (x : Float) where
  pub bounds_f0 : pos car.f0 ≡ units f0_field x → in_bounds f0_field x ≡ get_or (bounds newest car) 5 true
  unfolding in_bounds f0_field bounds
  bounds_f0 e = rw (← e) (from_zero car.f0 10000)

  pub bounds_f1 : car.f1 ≡ units f1_field x → in_bounds f1_field x ≡ get_or (bounds newest car) 6 true
  unfolding in_bounds f1_field bounds
  bounds_f1 e = rw (← e)

  pub bounds_f2 : pos car.f2 ≡ units f2_field x → in_bounds f2_field x ≡ get_or (bounds newest car) 7 true
  unfolding in_bounds f2_field bounds
  bounds_f2 e = rw (← e) (from_zero car.f2 20000)

  pub bounds_tm : pos car.tm ≡ units tm_field x → in_bounds tm_field x ≡ get_or (bounds newest car) 8 true
  unfolding in_bounds tm_field bounds within
  bounds_tm e = rw (← e)
