-- Each kind exactly once: an export that is accepted has met both kinds, and its third record is the end.
use Rattle.std.specs.Option.{is_some}
use Rattle.rules.proofs.Offered.{ℕ, arith, ◌≡◌, refl, sym, ◌∙◌, Bool, true, false, not, List, length, eqb, Float, not-true, ◌and◌, at, by_test, by_order}
use Rattle.rules.proofs.Offered.{and_left, and_right, Fault, Read, got, refused, Reader, hand_on, give, demand}
use Rattle.exports.specs.declared.Record.{Record}
use Rattle.exports.specs.declared.Record.TheVariants as record_is
use Rattle.exports.specs.declared.Found.{Found}
use Rattle.exports.specs.declared.Coefficients.{Coefficients}
use Rattle.exports.specs.Fields.{f0_field, f1_field, f2_field, tm_field}
use Rattle.exports.specs.Export.{none_yet, with_record, judged, coefficients_read, mass_read, end_read, of_kind, record_read, export_read}
use Rattle.exports.specs.Answers.{Fresh}
use Rattle.exports.proofs.RecordAnswers.{no_kind, by_kind}

-- ---- a reading that came to its end went by each step

pub never : {A : Type 0} {f : Fault} {a : A} {j : ℕ} {P : Type 0} → ◌≡◌ {A = Read A} (refused f) (got a j) → P
never e = cc

pub went : {A B P : Type 0} (m : Read A) (f : A → Reader B) {b : B} {j : ℕ} → hand_on m f ≡ got b j → ((a : A) (k : ℕ) → m ≡ got a k → f a k ≡ got b j → P) → P
unfolding hand_on
went (got a k) f e next = next a k refl e
went (refused x) f e next = never e

pub passed : {B P : Type 0} (t : Bool) (n s i : ℕ) (f : Bool → Reader B) {b : B} {j : ℕ} → hand_on (demand t n s i) f ≡ got b j → (f true i ≡ got b j → P) → P
unfolding hand_on demand
passed true n s i f e next = next e
passed false n s i f e next = never e

same_record : {q r : Record} {j k : ℕ} → ◌≡◌ {A = Read Record} (got q j) (got r k) → q ≡ r
same_record e = cc

module _ (bytes : List ℕ) (found : Found) (i : ℕ) {r : Record} {j : ℕ} where
  end_fresh : (k : ℕ) → end_read bytes i found k ≡ got r j → Fresh found r
  unfolding end_read hand_on demand
  end_fresh k e =
      by_test (is_some found.coefficients and is_some found.mass)
      (λ t. let s = same_record (rw t at e) in rw (← s) (and_left _ _ t, and_right _ _ t))
      (λ t. never (rw t at e))

  coefficients_fresh : (k : ℕ) → is_some found.coefficients ≡ false → coefficients_read bytes i k ≡ got r j → Fresh found r
  unfolding coefficients_read
  coefficients_fresh k t e =
      went (judged bytes i f0_field k) _ e (λ x k _ e. went (judged bytes i f1_field k) _ e
      (λ y k _ e. went (judged bytes i f2_field k) _ e (λ z k _ e. rw (← same_record e) t)))

  mass_fresh : (k : ℕ) → is_some found.mass ≡ false → mass_read bytes i k ≡ got r j → Fresh found r
  unfolding mass_read
  mass_fresh k t e = went (judged bytes i tm_field k) _ e (λ x k _ e. rw (← same_record e) t)

  kind_fresh : (n k : ℕ) → of_kind bytes i n found k ≡ got r j → Fresh found r
  unfolding of_kind
  kind_fresh n k e =
      by_test (eqb n 0)
      (λ z. end_fresh k (rw z at e))
      (λ z.
      by_test (eqb n 1 and not (is_some found.coefficients))
      (λ a. coefficients_fresh k (not-true _ (and_right _ _ a)) (rw (z, a) at e))
      (λ a.
      by_test (eqb n 2 and not (is_some found.mass))
      (λ b. mass_fresh k (not-true _ (and_right _ _ b)) (rw (z, a, b) at e))
      (λ b. never (rw (z, a, b) at e))))

  pub record_fresh : record_read bytes found i ≡ got r j → Fresh found r
  record_fresh e =
      by_order i (length bytes)
      (λ l. kind_fresh (at bytes i) _ (sym (by_kind bytes found i l) ∙ e))
      (λ l. never (no_kind bytes found i l ∙ e))

-- ---- the export

-- two records, each of a kind not met before, are the coefficients and the mass in either order
pub two_kinds : (P : Record → Record → Type 0)
    → ((c : Coefficients) (m : Float) → P (record_is.Coefficients c) (record_is.Mass m))
    → ((m : Float) (c : Coefficients) → P (record_is.Mass m) (record_is.Coefficients c))
    → (one two : Record) → Fresh none_yet one → Fresh (with_record none_yet one) two → P one two
two_kinds P f g (record_is.Coefficients a) (record_is.Coefficients b) p q = cc
two_kinds P f g (record_is.Coefficients a) (record_is.Mass b) p q = f a b
two_kinds P f g (record_is.Coefficients a) record_is.End p q = cc
two_kinds P f g (record_is.Mass a) (record_is.Coefficients b) p q = g a b
two_kinds P f g (record_is.Mass a) (record_is.Mass b) p q = cc
two_kinds P f g (record_is.Mass a) record_is.End p q = cc
two_kinds P f g record_is.End two p q = cc

-- both kinds were met
abbrev pub Both : Found → Type 0
Both found = Fresh found record_is.End

pub both_met : (one two : Record) → Fresh none_yet one → Fresh (with_record none_yet one) two → Both (with_record (with_record none_yet one) two)
both_met = two_kinds (λ one two. Both (with_record (with_record none_yet one) two)) (λ c m. (refl, refl)) (λ m c. (refl, refl))

-- then only the end comes
pub third_is_end : (found : Found) (r : Record) → Both found → Fresh found r → r ≡ record_is.End
third_is_end found (record_is.Coefficients c) b f = let t = b.0 in let z : ◌≡◌ {A = ℕ} 0 1 = cc in absurd (omega arith)
third_is_end found (record_is.Mass m) b f = let t = b.1 in let z : ◌≡◌ {A = ℕ} 0 1 = cc in absurd (omega arith)
third_is_end found record_is.End b f = refl

same_found : {q r : Found} {j k : ℕ} → ◌≡◌ {A = Read Found} (got q j) (got r k) → q ≡ r
same_found e = cc

-- an export that is accepted has met kind 1 and kind 2, once each
pub each_once : (bytes : List ℕ) {found : Found} {k : ℕ} → export_read bytes 0 ≡ got found k → Both found
unfolding export_read hand_on
each_once bytes e =
    went (record_read bytes none_yet 0) _ e (λ one i a e.
    went (record_read bytes (with_record none_yet one) i) _ e (λ two j b e.
    went (record_read bytes (with_record (with_record none_yet one) two) j) _ e (λ three k d e.
    passed (eqb k (length bytes)) 16 k k (λ t. give (with_record (with_record none_yet one) two)) e (λ e.
    rw (← same_found e) (both_met one two (record_fresh bytes none_yet 0 a) (record_fresh bytes (with_record none_yet one) i b))))))
