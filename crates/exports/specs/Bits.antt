-- The way of the code: a float's fields as whole numbers, and its scaled value from them. The reader of a contract need not believe these: `proofs/Values.antt`
-- shows that they come to the exact value.
use Rattle.rules.specs.Words.{le_z, nearest}
use Rattle.std.specs.Prelude.{Float, ℕ, ◌+◌, ◌-◌, ◌*◌, ◌/◌, ◌%◌, ◌^◌, ◌≤◌, ◌<◌, ◌≡◌, Bool, true, T, leb, eqb, pos, neg_ℤ, if◌then◌else◌}
use Rattle.std.specs.Float.{binary32}
use Rattle.std.specs.Float.Ieee.{fits, to_bits}
use Rattle.std.proofs.Common.{SFits}
use Rattle.std.specs.Int.{w64}
use Rattle.exports.specs.declared.Field.{Field}
use Rattle.exports.specs.declared.Coefficients.{Coefficients}
use Rattle.exports.specs.declared.Units.{Units}
use Rattle.exports.specs.Floats.{finite}
use Rattle.exports.specs.Fields.{f0_field, f1_field, f2_field, units, in_bounds}

-- the sign, the exponent's field and the digits below the leading one
unfoldable pub negative : ℕ → Bool
negative bits = leb 2147483648 bits

unfoldable pub exponent : ℕ → ℕ
exponent bits = bits / 8388608 % 256

unfoldable pub mantissa : ℕ → ℕ
mantissa bits = bits % 8388608

-- all the digits: a field of 0 has no leading one
unfoldable pub significand : ℕ → ℕ
significand bits = if eqb (exponent bits) 0 then mantissa bits else 8388608 + mantissa bits

-- the value is the significand / 2 ^ shift, for an exponent below 150; a field of 0 counts as one of 1
unfoldable pub shift : ℕ → ℕ
shift bits = if eqb (exponent bits) 0 then 149 else 150 - exponent bits

-- the scaled value's size
unfoldable pub size_of : ℕ → ℕ → ℕ
size_of k bits = nearest (k * significand bits) (2 ^ shift bits)

-- a float that is held, is finite and is below 2^23 in size, and a scale that keeps every product within 64 bits
pub record Moderate (k : ℕ) (x : Float) : Type 0 where
  pub held : T (fits binary32 x)
  pub number : finite x ≡ true
  pub below : exponent (to_bits binary32 x) < 150
  pub scale : k ≤ 100000

-- a float whose bytes were read
pub record Finite (x : Float) : Type 0 where
  pub held : T (fits binary32 x)
  pub number : finite x ≡ true

-- a float that was judged
pub record InField (field : Field) (x : Float) : Type 0 where
  pub is : Finite x
  pub bounded : in_bounds field x ≡ true

-- a field with a scale of 1 to 100,000 and with bounds below 2^23 in size
pub record Fair (field : Field) : Type 0 where
  pub least : 1 ≤ field.scale
  pub most : field.scale ≤ 100000
  pub lower : le_z (neg_ℤ (pos 8388607)) field.lo ≡ true
  pub upper : le_z field.hi (pos 8388607) ≡ true
  pub lo_held : SFits w64 field.lo
  pub hi_held : SFits w64 field.hi

-- a field with no negative values, and with bounds that 16 bits hold
pub record Unsigned (field : Field) : Type 0 where
  pub fair : Fair field
  pub from_zero : le_z (pos 0) field.lo ≡ true
  pub short : le_z field.hi (pos 65535) ≡ true

-- coefficients that were judged
pub record Bounded (c : Coefficients) : Type 0 where
  pub f0_in : InField f0_field c.f0
  pub f1_in : InField f1_field c.f1
  pub f2_in : InField f2_field c.f2

-- these in document 01's units
pub record InUnits (c : Coefficients) (r : Units) : Type 0 where
  pub f0_is : pos r.f0 ≡ units f0_field c.f0
  pub f1_is : r.f1 ≡ units f1_field c.f1
  pub f2_is : pos r.f2 ≡ units f2_field c.f2
