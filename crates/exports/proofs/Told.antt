-- Whatever the reader of an export refuses, it refuses by number and place of a row of the table.
use Rattle.std.specs.Option.{is_some}
use Rattle.rules.proofs.Offered.{ℕ, ◌+◌, refl, not, List, length, leb, ltb, eqb, ◌and◌, early, Reader, hand_on, read_fault, if_ind, Told, ToldRead, told_got}
use Rattle.rules.proofs.Offered.{told-refused, told_then, told-demand}
use Rattle.rules.specs.declared.Refusal.TheVariants.{JobEndsEarly, BadKind, NotFinite, OutOfBounds, KindMissing, BytesAfter}
use Rattle.exports.specs.declared.Record.{Record}
use Rattle.exports.specs.declared.Found.{Found}
use Rattle.exports.specs.declared.Field.{Field}
use Rattle.exports.specs.Fields.{f0_field, f1_field, f2_field, tm_field}
use Rattle.exports.specs.Export.{kind, float, finite_float, judged, coefficients_read, mass_read, end_read, of_kind, record_read, export_read}

module _ (bytes : List ℕ) where
  kind-told : (i : ℕ) → ToldRead (kind bytes i)
  unfolding kind early
  kind-told i = if_ind ToldRead (leb (length bytes) i) (λ _. told-refused (JobEndsEarly (length bytes), refl)) (λ _. told_got _ _)

  float-told : (i : ℕ) → ToldRead (float bytes i)
  unfolding float early
  float-told i = if_ind ToldRead (ltb (length bytes) (i + 4)) (λ _. told-refused (JobEndsEarly (length bytes), refl)) (λ _. told_got _ _)

  judged-told : (spot : ℕ) (field : Field) (i : ℕ) → ToldRead (judged bytes spot field i)
  unfolding judged finite_float
  judged-told spot field i =
      told_then _ _
      (told_then _ _ (float-told i) (λ x j. told_then _ _ (told-demand _ 20 spot j (NotFinite spot, refl)) (λ t k. told_got x k)))
      (λ x j. told_then _ _ (told-demand _ 21 spot j (OutOfBounds spot, refl)) (λ t k. told_got x k))

  kinds_told : (spot k : ℕ) (found : Found) (i : ℕ) → ToldRead (of_kind bytes spot k found i)
  unfolding of_kind end_read coefficients_read mass_read
  kinds_told spot k found i =
      if_ind (λ (f : Reader Record). ToldRead (f i)) (eqb k 0)
      (λ _. told_then _ _ (told-demand _ 22 spot i (KindMissing spot, refl)) (λ t j. told_got _ j)) (λ _.
      if_ind (λ (f : Reader Record). ToldRead (f i)) (eqb k 1 and not (is_some found.coefficients))
      (λ _.
      told_then _ _ (judged-told spot f0_field i) (λ x j. told_then _ _ (judged-told spot f1_field j)
      (λ y j. told_then _ _ (judged-told spot f2_field j) (λ z j. told_got _ j))))
      (λ _.
      if_ind (λ (f : Reader Record). ToldRead (f i)) (eqb k 2 and not (is_some found.mass))
      (λ _. told_then _ _ (judged-told spot tm_field i) (λ x j. told_got _ j))
      (λ _. told-refused (BadKind spot, refl))))

  record_told : (found : Found) (i : ℕ) → ToldRead (record_read bytes found i)
  unfolding record_read hand_on
  record_told found i = told_then _ _ (kind-told i) (λ k j. kinds_told i k found j)

  pub export_told : Told (read_fault (export_read bytes 0))
  unfolding export_read hand_on
  export_told =
      (told_then _ _ (record_told _ 0) (λ one i. told_then _ _ (record_told _ i) (λ two j. told_then _ _ (record_told _ j) (λ three k.
      told_then _ _ (told-demand _ 16 k k (BytesAfter k, refl)) (λ t k. told_got _ k))))).told
