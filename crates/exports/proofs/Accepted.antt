-- Request Five: "Each kind 1 and 2 exactly once, in either order", and "kind 0 ends the export". An export that is accepted is two records of different
-- kinds, each with its floats, the end, and no byte more.
use Rattle.std.specs.Option.{is_some}
use Rattle.rules.proofs.Offered.{ℕ, ◌+◌, arith, ◌≡◌, sym, ap, ◌∙◌, ◌⊎◌, inl, inr, not, List, length, ltb, eqb, Float, eqb-true, ◌and◌, at, early, Read, got}
use Rattle.rules.proofs.Offered.{hand_on, demand, by_test, by_order, and_left}
use Rattle.exports.specs.declared.Record.{Record}
use Rattle.exports.specs.declared.Record.TheVariants as record_is
use Rattle.exports.specs.declared.Found.{Found}
use Rattle.exports.specs.declared.Field.{Field}
use Rattle.exports.specs.Fields.{f0_field, f1_field, f2_field, tm_field}
use Rattle.exports.specs.Export.{none_yet, with_record, float, finite_float, judged, coefficients_read, mass_read, end_read, of_kind, record_read}
use Rattle.exports.specs.Export.{export_read}
use Rattle.exports.specs.Answers.{Fresh}
use Rattle.exports.proofs.RecordAnswers.{no_kind, by_kind}
use Rattle.exports.proofs.Once.{never, went, passed, two_kinds, both_met, third_is_end, record_fresh}

-- the record r stands in the export from i up to j: its kind is one byte, each of its floats four
abbrev pub RecordStands : List ℕ → ℕ → Record → ℕ → Type 0
RecordStands bytes i (record_is.Coefficients c) j = (at bytes i ≡ 1) × (j ≡ i + 13)
RecordStands bytes i (record_is.Mass m) j = (at bytes i ≡ 2) × (j ≡ i + 5)
RecordStands bytes i record_is.End j = (at bytes i ≡ 0) × (j ≡ i + 1)

-- coefficients and mass, in either order, from the export's first byte on; then the end; and no byte more
pub record TwoRecords (bytes : List ℕ) : Type 0 where
  pub two_kinds : ((at bytes 0 ≡ 1) × (at bytes 13 ≡ 2)) ⊎ ((at bytes 0 ≡ 2) × (at bytes 5 ≡ 1))
  pub end : at bytes 18 ≡ 0
  pub no_more : length bytes ≡ 19

module _ (bytes : List ℕ) where
  same_place : {A : Type 0} {a b : A} {j k : ℕ} → ◌≡◌ {A = Read A} (got a j) (got b k) → k ≡ j
  same_place e = cc

  same_record : {q r : Record} {j k : ℕ} → ◌≡◌ {A = Read Record} (got q j) (got r k) → q ≡ r
  same_record e = cc

  float_ends : (i : ℕ) {x : Float} {j : ℕ} → float bytes i ≡ got x j → j ≡ i + 4
  unfolding float early
  float_ends i e = by_test (ltb (length bytes) (i + 4)) (λ t. never (rw t at e)) (λ t. same_place (rw t at e))

  judged_ends : (spot : ℕ) (field : Field) (i : ℕ) {x : Float} {j : ℕ} → judged bytes spot field i ≡ got x j → j ≡ i + 4
  unfolding judged finite_float
  judged_ends spot field i e =
      went (finite_float bytes spot i) _ e (λ y k a e.
      passed _ 21 spot k _ e (λ e.
      went (float bytes i) _ a (λ w l c a. passed _ 20 spot l _ a (λ a. same_place e ∙ same_place a ∙ float_ends i c))))

  -- a record that is read stands there
  module _ (found : Found) (spot : ℕ) {r : Record} {j : ℕ} where
    end_stands : at bytes spot ≡ 0 → end_read bytes spot found (spot + 1) ≡ got r j → RecordStands bytes spot r j
    unfolding end_read
    end_stands z e = passed _ 22 spot (spot + 1) _ e (λ e. rw (← same_record e) (z, same_place e))

    coefficients_stand : at bytes spot ≡ 1 → coefficients_read bytes spot (spot + 1) ≡ got r j → RecordStands bytes spot r j
    unfolding coefficients_read
    coefficients_stand z e =
        went (judged bytes spot f0_field (spot + 1)) _ e (λ x k a e.
        went (judged bytes spot f1_field k) _ e (λ y l b e.
        went (judged bytes spot f2_field l) _ e (λ w m c e.
        let p = judged_ends spot f0_field (spot + 1) a in
        let q = judged_ends spot f1_field k b in
        let s = judged_ends spot f2_field l c in
        let t = same_place e in
        let n : j ≡ spot + 13 = omega arith in
        rw (← same_record e) (z, n))))

    mass_stands : at bytes spot ≡ 2 → mass_read bytes spot (spot + 1) ≡ got r j → RecordStands bytes spot r j
    unfolding mass_read
    mass_stands z e =
        went (judged bytes spot tm_field (spot + 1)) _ e (λ x k a e.
        let p = judged_ends spot tm_field (spot + 1) a in
        let t = same_place e in
        let n : j ≡ spot + 5 = omega arith in
        rw (← same_record e) (z, n))

    kind-stands : of_kind bytes spot (at bytes spot) found (spot + 1) ≡ got r j → RecordStands bytes spot r j
    unfolding of_kind
    kind-stands e =
        by_test (eqb (at bytes spot) 0)
        (λ z. end_stands (eqb-true _ _ z) (rw z at e))
        (λ z.
        by_test (eqb (at bytes spot) 1 and not (is_some found.coefficients))
        (λ a. coefficients_stand (eqb-true _ _ (and_left _ _ a)) (rw (z, a) at e))
        (λ a.
        by_test (eqb (at bytes spot) 2 and not (is_some found.mass))
        (λ b. mass_stands (eqb-true _ _ (and_left _ _ b)) (rw (z, a, b) at e))
        (λ b. never (rw (z, a, b) at e))))

    pub record_stands : record_read bytes found spot ≡ got r j → RecordStands bytes spot r j
    record_stands e =
        by_order spot (length bytes)
        (λ l. kind-stands (sym (by_kind bytes found spot l) ∙ e))
        (λ l. never (no_kind bytes found spot l ∙ e))

  -- two such records from the first byte on, and the end after them
  both_stand : (one two : Record) (i j k : ℕ) → Fresh none_yet one → Fresh (with_record none_yet one) two
      → RecordStands bytes 0 one i → RecordStands bytes i two j → RecordStands bytes j record_is.End k → k ≡ length bytes → TwoRecords bytes
  both_stand one two i j k p q a b c e =
      two_kinds (λ one two. RecordStands bytes 0 one i → RecordStands bytes i two j → TwoRecords bytes)
      (λ x m a b.
      let n : i ≡ 13 = a.1 in
      let l : j ≡ 18 = omega arith in
      record { two_kinds = inl (a.0, ap (at bytes) (sym n) ∙ b.0); end = ap (at bytes) (sym l) ∙ c.0; no_more = omega arith })
      (λ m x a b.
      let n : i ≡ 5 = a.1 in
      let l : j ≡ 18 = omega arith in
      record { two_kinds = inr (a.0, ap (at bytes) (sym n) ∙ b.0); end = ap (at bytes) (sym l) ∙ c.0; no_more = omega arith })
      one two p q a b

  pub five_two_records : {found : Found} {k : ℕ} → export_read bytes 0 ≡ got found k → TwoRecords bytes
  unfolding export_read hand_on demand
  five_two_records e =
      went (record_read bytes none_yet 0) _ e (λ one i a e.
      went (record_read bytes (with_record none_yet one) i) _ e (λ two j b e.
      went (record_read bytes (with_record (with_record none_yet one) two) j) _ e (λ three k c e.
      by_test (eqb k (length bytes))
      (λ t.
      let p = record_fresh bytes none_yet 0 a in
      let q = record_fresh bytes (with_record none_yet one) i b in
      let third = third_is_end (with_record (with_record none_yet one) two) three (both_met one two p q) (record_fresh bytes _ j c) in
      both_stand one two i j k p q (record_stands none_yet 0 a) (record_stands (with_record none_yet one) i b) (rw third at (record_stands _ j c))
      (eqb-true _ _ t))
      (λ t. never (rw t at e)))))
