-- The fields of the vehicle that the bench gives: how many of document 01's units make one of the bench's, and document 01's bounds.
use Rattle.rules.specs.Words.{le_z, ◌and◌}
use Rattle.std.specs.Prelude.{Float, Bool, ℤ, pos, neg_ℤ}
use Rattle.exports.specs.declared.Field.{Field}
use Rattle.exports.specs.Floats.{scaled}

-- F0, tenths of N, 0 to 10,000
unfoldable pub f0_field : Field
f0_field = record { scale = 10; lo = pos 0; hi = pos 10000 }

-- F1, thousandths of N/(km/h), -5,000 to 5,000
unfoldable pub f1_field : Field
f1_field = record { scale = 1000; lo = neg_ℤ (pos 5000); hi = pos 5000 }

-- F2, hundred-thousandths of N/(km/h)^2, 0 to 20,000
unfoldable pub f2_field : Field
f2_field = record { scale = 100000; lo = pos 0; hi = pos 20000 }

-- test mass TM, 400 to 4,000 kg
unfoldable pub tm_field : Field
tm_field = record { scale = 1; lo = pos 400; hi = pos 4000 }

-- a float in the units of a field
unfoldable pub units : Field → Float → ℤ
units field x = scaled field.scale x

-- the rounded value lies within the field's bounds
unfoldable pub in_bounds : Field → Float → Bool
in_bounds field x = le_z field.lo (units field x) and le_z (units field x) field.hi
