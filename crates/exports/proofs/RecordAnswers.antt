-- What the reading answers, one law for each way through it.
use Rattle.std.specs.Option.{is_some}
use Rattle.rules.proofs.Offered.{ℕ, ◌+◌, ◌<◌, ◌≤◌, ◌≡◌, true, false, List, length, Float, binary32, of_bits-fits, le-leb, lt-leb, lt-ltb, le-ltb, ne_eqb, ◌and◌}
use Rattle.rules.proofs.Offered.{at, Fault, fault, early, Read, got, refused, hand_on, demand}
use Rattle.rules.specs.declared.Refusal.TheVariants.{JobEndsEarly, BadKind, NotFinite, OutOfBounds}
use Rattle.exports.specs.declared.Record.{Record}
use Rattle.exports.specs.declared.Record.TheVariants as record_is
use Rattle.exports.specs.declared.Found.{Found}
use Rattle.exports.specs.declared.Field.{Field}
use Rattle.exports.specs.Floats.{four_bytes, float_of}
use Rattle.exports.specs.Fields.{f0_field, f1_field, f2_field, tm_field, in_bounds}
use Rattle.exports.specs.Export.{kind, float, finite_float, judged, coefficients_read, mass_read, end_read, of_kind, record_read}
use Rattle.exports.specs.Bits.{exponent, Finite}
use Rattle.exports.proofs.Values.{is_finite, not_finite}

-- a float of finite bits
pub comes : (b : ℕ) → exponent b < 255 → Finite (float_of b)
unfolding float_of
comes b h = record { held = of_bits-fits binary32 b; number = is_finite b h }

module _ (bytes : List ℕ) (spot i : ℕ) where
  -- ---- a float

  pub float_short : length bytes < i + 4 → refused (fault (JobEndsEarly (length bytes))) ≡ finite_float bytes spot i
  unfolding finite_float float early hand_on
  float_short h = rw (lt-ltb (length bytes) (i + 4) h)

  module _ (h : i + 4 ≤ length bytes) where
    pub float-bad : exponent (four_bytes bytes i) ≡ 255 → refused (fault (NotFinite spot)) ≡ finite_float bytes spot i
    unfolding finite_float float hand_on demand
    float-bad e = rw (le-ltb (length bytes) (i + 4) h, not_finite (four_bytes bytes i) e)

    pub float_good : exponent (four_bytes bytes i) < 255 → got (float_of (four_bytes bytes i)) (i + 4) ≡ finite_float bytes spot i
    unfolding finite_float float hand_on demand
    float_good e = rw (le-ltb (length bytes) (i + 4) h, is_finite (four_bytes bytes i) e)

  -- ---- for a field

  module _ (field : Field) where
    pub judged_stops : {f : Fault} → refused f ≡ finite_float bytes spot i → refused f ≡ judged bytes spot field i
    unfolding judged hand_on
    judged_stops e = rw (← e)

    module _ {x : Float} {j : ℕ} (e : got x j ≡ finite_float bytes spot i) where
      pub judged_out : in_bounds field x ≡ false → refused (fault (OutOfBounds spot)) ≡ judged bytes spot field i
      unfolding judged hand_on demand
      judged_out t = rw (← e, t)

      pub judged_good : in_bounds field x ≡ true → got x j ≡ judged bytes spot field i
      unfolding judged hand_on demand
      judged_good t = rw (← e, t)

  -- ---- a record's floats

  pub mass_stops : {f : Fault} → refused f ≡ judged bytes spot tm_field i → refused f ≡ mass_read bytes spot i
  unfolding mass_read hand_on
  mass_stops e = rw (← e)

  pub mass_comes : {x : Float} {j : ℕ} → got x j ≡ judged bytes spot tm_field i → got (record_is.Mass x) j ≡ mass_read bytes spot i
  unfolding mass_read hand_on
  mass_comes e = rw (← e)

  pub f0_stops : {f : Fault} → refused f ≡ judged bytes spot f0_field i → refused f ≡ coefficients_read bytes spot i
  unfolding coefficients_read hand_on
  f0_stops e = rw (← e)

  module _ {x : Float} {j : ℕ} (e : got x j ≡ judged bytes spot f0_field i) where
    pub f1_stops : {f : Fault} → refused f ≡ judged bytes spot f1_field j → refused f ≡ coefficients_read bytes spot i
    unfolding coefficients_read hand_on
    f1_stops g = rw (← e, ← g)

    module _ {y : Float} {k : ℕ} (g : got y k ≡ judged bytes spot f1_field j) where
      pub f2_stops : {f : Fault} → refused f ≡ judged bytes spot f2_field k → refused f ≡ coefficients_read bytes spot i
      unfolding coefficients_read hand_on
      f2_stops h = rw (← e, ← g, ← h)

      pub three_come : {z : Float} {l : ℕ} → got z l ≡ judged bytes spot f2_field k → got (record_is.Coefficients (record { f0 = x; f1 = y; f2 = z })) l
          ≡ coefficients_read bytes spot i
      unfolding coefficients_read hand_on
      three_come h = rw (← e, ← g, ← h)

-- ---- a record by its kind

module _ (bytes : List ℕ) (found : Found) (i : ℕ) where
  pub no_kind : length bytes ≤ i → refused (fault (JobEndsEarly (length bytes))) ≡ record_read bytes found i
  unfolding record_read kind early hand_on
  no_kind h = rw (le-leb (length bytes) i h)

  module _ (h : i < length bytes) where
    pub by_kind : record_read bytes found i ≡ of_kind bytes i (at bytes i) found (i + 1)
    unfolding record_read kind hand_on
    by_kind = rw (lt-leb (length bytes) i h)

    pub kind_0 : at bytes i ≡ 0 → {r : Read Record} → r ≡ end_read bytes i found (i + 1) → r ≡ record_read bytes found i
    unfolding of_kind
    kind_0 e g = rw (by_kind, e) g

    module _ (e : at bytes i ≡ 1) where
      pub kind_1_twice : is_some found.coefficients ≡ true → refused (fault (BadKind i)) ≡ record_read bytes found i
      unfolding of_kind ◌and◌
      kind_1_twice t = rw (by_kind, e, t)

      pub kind_1 : is_some found.coefficients ≡ false → {r : Read Record} → r ≡ coefficients_read bytes i (i + 1) → r ≡ record_read bytes found i
      unfolding of_kind ◌and◌
      kind_1 t g = rw (by_kind, e, t) g

    module _ (e : at bytes i ≡ 2) where
      pub kind_2_twice : is_some found.mass ≡ true → refused (fault (BadKind i)) ≡ record_read bytes found i
      unfolding of_kind ◌and◌
      kind_2_twice t = rw (by_kind, e, t)

      pub kind_2 : is_some found.mass ≡ false → {r : Read Record} → r ≡ mass_read bytes i (i + 1) → r ≡ record_read bytes found i
      unfolding of_kind ◌and◌
      kind_2 t g = rw (by_kind, e, t) g

    pub kind_unknown : (at bytes i ≡ 0 → ⊥) → (at bytes i ≡ 1 → ⊥) → (at bytes i ≡ 2 → ⊥) → refused (fault (BadKind i)) ≡ record_read bytes found i
    unfolding of_kind ◌and◌
    kind_unknown a b c = rw (by_kind, ne_eqb (at bytes i) 0 a, ne_eqb (at bytes i) 1 b, ne_eqb (at bytes i) 2 c)
