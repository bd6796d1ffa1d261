-- Request Five, "the nearest whole number of their units to the exact value of the float, halves away from zero".
-- A `Float` is the logic's own of IEEE 754: `fin s m e` is the number m x 2^e, negative where s is true, and 2^e is the fraction up e / down e.
use Rattle.rules.specs.Words.{nearest, at}
use Rattle.std.specs.Prelude.{Float, ℕ, ◌+◌, ◌*◌, Bool, true, false, List, ℤ, pos, neg_ℤ}
use Rattle.std.specs.Float.{nan, inf, fin, binary32}
use Rattle.std.specs.Float.Ieee.{up, down, of_bits}

-- little-endian: four bytes as one number, the least significant first
unfoldable pub four_bytes : List ℕ → ℕ → ℕ
four_bytes bytes i = at bytes i + 256 * at bytes (i + 1) + 65536 * at bytes (i + 2) + 16777216 * at bytes (i + 3)

-- the single-precision float of these 32 bits
unfoldable pub float_of : ℕ → Float
float_of bits = of_bits binary32 bits

-- a finite number: not infinite, not "not a number"
unfoldable pub finite : Float → Bool
finite nan = false
finite (inf s) = false
finite (fin s m e) = true

-- so large, on this side of zero: what is rounded up in size is rounded away from zero
unfoldable pub signed : Bool → ℕ → ℤ
signed true n = neg_ℤ (pos n)
signed false n = pos n

-- the exact value of a finite float, times k, to the nearest whole number, halves away from zero
unfoldable pub scaled : ℕ → Float → ℤ
scaled k nan = pos 0
scaled k (inf s) = pos 0
scaled k (fin s m e) = signed s (nearest (k * (m * up e)) (down e))
