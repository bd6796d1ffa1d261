-- Sums done by hand: what the definitions give for floats and for whole exports, one table each, each under one theorem.
use Rattle.rules.proofs.Offered.{ℕ, ◌*◌, ◌^◌, ◌≡◌, refl, none, some, List, [], ◌∷◌, ◌++◌, ℤ, pos, neg_ℤ, count_trailing_zeros, odd, of_fields}
use Rattle.rules.proofs.Offered.{of_bits, nearest, ◌and◌}
use Rattle.rules.proofs.Offered.{early, hand_on, demand, read_fault}
use Rattle.rules.proofs.Cases.Rows.{Value, scaled as amount, refusal, ◌beside◌, Row, row, sums, papers}
use Rattle.exports.specs.declared.Field.{Field}
use Rattle.exports.specs.Floats.{four_bytes, float_of, finite, signed, scaled}
use Rattle.exports.specs.Fields.{f0_field, f1_field, f2_field, tm_field, units, in_bounds}
use Rattle.exports.specs.Export.{kind, float, finite_float, judged, coefficients_read, mass_read, end_read, of_kind, record_read, export_read}
use Rattle.exports.specs.Export.{figure, figures_of}

-- ---- a float's bits, and its value in a field's units

-- the value of a float's bits in a field's units
pub sum : Field → ℕ → ℤ → Row
sum field bits value = row (amount (units field (float_of bits))) (amount value)

pub floats : List Row
floats =
    -- 0.25 N are 2.5 tenths: halves away from zero, on both sides
    sum f0_field 1048576000 (pos 3)
    ∷ sum f0_field 3196059648 (neg_ℤ (pos 3))
    -- -0.0, and -0.04 N
    ∷ sum f0_field 2147483648 (pos 0)
    ∷ sum f0_field 3173242634 (pos 0)
    -- 103.35 N as a float is below 1033.5 tenths; its product with 10, rounded to a float, is 1033.5
    ∷ sum f0_field 1120842547 (pos 1033)
    -- 0.0625 and -0.0625 N/(km/h) are 62.5 thousandths in size
    ∷ sum f1_field 1031798784 (pos 63)
    ∷ sum f1_field 3179282432 (neg_ℤ (pos 63))
    -- the smallest denormal, the largest denormal, and the largest finite float
    ∷ sum f2_field 1 (pos 0)
    ∷ sum f2_field 8388607 (pos 0)
    ∷ sum f2_field 2139095039 (pos (100000 * (16777215 * 2 ^ 104)))
    -- 399.5 kg
    ∷ sum tm_field 1137164288 (pos 400)
    ∷ []

pub every_sum : sums floats ≡ papers floats
unfolding sums papers row sum floats f0_field f1_field f2_field tm_field units scaled float_of of_bits of_fields odd count_trailing_zeros nearest signed
every_sum = refl

-- ---- whole exports

pub told : Value → ℤ → ℤ → ℤ → ℤ → Value
told fault f0 f1 f2 tm = fault beside amount f0 beside amount f1 beside amount f2 beside amount tm

pub told_of : List ℕ → Value
told_of bytes =
    let read = export_read bytes 0 in
    told (refusal (read_fault read)) (figures_of read).f0 (figures_of read).f1 (figures_of read).f2 (figures_of read).tm

-- kind 1 with 100.0, 0.0 and 0.04, and kind 2 with 1500.0: car Z's coefficients
pub three : List ℕ
three = 1 ∷ 0 ∷ 0 ∷ 200 ∷ 66 ∷ 0 ∷ 0 ∷ 0 ∷ 0 ∷ 10 ∷ 215 ∷ 35 ∷ 61 ∷ []

pub mass : List ℕ
mass = 2 ∷ 0 ∷ 128 ∷ 187 ∷ 68 ∷ []

pub taken : List ℕ → Row
taken bytes = row (told_of bytes) (told (refusal none) (pos 1000) (pos 0) (pos 4000) (pos 1500))

pub refused_by : ℕ → ℕ → List ℕ → Row
refused_by n p bytes = row (told_of bytes) (told (refusal (some (record { no = n; spot = p }))) (pos 0) (pos 0) (pos 0) (pos 0))

pub rows : List Row
rows =
    -- in either order
    taken (three ++ mass ++ (0 ∷ []))
    ∷ taken (mass ++ three ++ (0 ∷ []))
    -- empty; cut in a float
    ∷ refused_by 12 0 []
    ∷ refused_by 12 4 (1 ∷ 0 ∷ 0 ∷ 200 ∷ [])
    -- f0 is judged before f1's bytes are looked at: not a number, infinite, and 10,000 N
    ∷ refused_by 20 0 (1 ∷ 0 ∷ 0 ∷ 192 ∷ 127 ∷ [])
    ∷ refused_by 20 5 (mass ++ (1 ∷ 0 ∷ 0 ∷ 128 ∷ 255 ∷ []))
    ∷ refused_by 21 0 (1 ∷ 0 ∷ 64 ∷ 28 ∷ 70 ∷ [])
    -- unknown, and met twice, as the kind is read
    ∷ refused_by 19 5 (mass ++ (3 ∷ []))
    ∷ refused_by 19 5 (mass ++ (2 ∷ []))
    ∷ refused_by 19 18 (three ++ mass ++ (1 ∷ []))
    -- ended with a kind missing; bytes after
    ∷ refused_by 22 0 (0 ∷ 7 ∷ [])
    ∷ refused_by 22 13 (three ++ (0 ∷ []))
    ∷ refused_by 16 19 (three ++ mass ++ (0 ∷ 0 ∷ []))
    ∷ []

pub every-row : sums rows ≡ papers rows
unfolding sums papers row told told_of rows three mass taken refused_by ◌and◌ hand_on demand read_fault four_bytes float_of finite of_bits of_fields odd
    count_trailing_zeros nearest signed scaled f0_field f1_field f2_field tm_field units in_bounds early kind float finite_float judged
    coefficients_read mass_read end_read of_kind
    record_read export_read figure figures_of
every-row = refl
