-- The whole export: one law for each end of the reading.
use Rattle.std.proofs.Common.{Some, Ok, Err, Float}
use Rattle.rules.proofs.Offered.{ℕ, ◌≡◌, List, length, ℤ, pos, eq-eqb, ne_eqb, Fault, fault, said, got, refused, hand_on, demand, read_fault}
use Rattle.rules.specs.declared.Refusal.{Refusal}
use Rattle.rules.specs.declared.Refusal.TheVariants.{BytesAfter}
use Rattle.exports.specs.declared.Coefficients.{Coefficients}
use Rattle.exports.specs.declared.Record.{Record}
use Rattle.exports.specs.declared.Found.{Found}
use Rattle.exports.specs.Fields.{tm_field, units}
use Rattle.exports.specs.Export.{none_yet, with_record, record_read, export_read, figure, figures_of, ExportAs}
use Rattle.exports.specs.Bits.{InField, Bounded, InUnits}
use Rattle.exports.specs.Answers.{Fresh, Good}
use Rattle.exports.proofs.Once.{two_kinds}

-- what was found of two records that come, and is both the coefficients and the mass, was judged
abbrev pub BothJudged : Record → Record → Type 0
BothJudged one two =
    Good one → Good two → (c : Coefficients) (m : Float) → (with_record (with_record none_yet one) two).coefficients ≡ Some c
    → (with_record (with_record none_yet one) two).mass ≡ Some m → Bounded c × InField tm_field m

pub both-judged : (one two : Record) → Fresh none_yet one → Fresh (with_record none_yet one) two → BothJudged one two
both-judged =
    two_kinds BothJudged
    (λ a b p q c m e f. let x : a ≡ c = cc in let y : b ≡ m = cc in rw (← x, ← y) (p, q))
    (λ b a p q c m e f. let x : a ≡ c = cc in let y : b ≡ m = cc in rw (← x, ← y) (q, p))

module _ (bytes : List ℕ) where
  pub first_stops : {f : Fault} → refused f ≡ record_read bytes none_yet 0 → refused f ≡ export_read bytes 0
  unfolding export_read hand_on
  first_stops e = rw (← e)

  module _ {one : Record} {i : ℕ} (a : got one i ≡ record_read bytes none_yet 0) where
    pub second_stops : {f : Fault} → refused f ≡ record_read bytes (with_record none_yet one) i → refused f ≡ export_read bytes 0
    unfolding export_read hand_on
    second_stops e = rw (← a, ← e)

    module _ {two : Record} {j : ℕ} (b : got two j ≡ record_read bytes (with_record none_yet one) i) where
      pub third_stops : {f : Fault} → refused f ≡ record_read bytes (with_record (with_record none_yet one) two) j → refused f ≡ export_read bytes 0
      unfolding export_read hand_on
      third_stops e = rw (← a, ← b, ← e)

      module _ {three : Record} {k : ℕ} (d : got three k ≡ record_read bytes (with_record (with_record none_yet one) two) j) where
        pub more_bytes : (k ≡ length bytes → ⊥) → refused (fault (BytesAfter k)) ≡ export_read bytes 0
        unfolding export_read hand_on demand
        more_bytes n = rw (← a, ← b, ← d, ne_eqb k (length bytes) n)

        pub all_read : k ≡ length bytes → got (with_record (with_record none_yet one) two) k ≡ export_read bytes 0
        unfolding export_read hand_on demand
        all_read e = rw (← a, ← b, ← d, eq-eqb k (length bytes) e)

-- ---- the reader's two ends

pub refused_as : (bytes : List ℕ) {f : Refusal} → refused (fault f) ≡ export_read bytes 0 → ExportAs bytes (Err f)
unfolding said read_fault figures_of
refused_as bytes e = record { answered = cc; the_f0 = cc; the_f1 = cc; the_f2 = cc; the_tm = cc }

-- what was found, where both kinds were met
pub found_is : (found : Found) {c : Coefficients} {m : Float} → found.coefficients ≡ Some c → found.mass ≡ Some m
    → found ≡ record { coefficients = Some c; mass = Some m }
found_is found e f i = record { coefficients = e i; mass = f i }

pub read_as_found : (bytes : List ℕ) {c : Coefficients} {m : Float} {k : ℕ} → got (record { coefficients = Some c; mass = Some m }) k ≡ export_read bytes 0
    → {a b t : ℕ} {s : ℤ} → InUnits c (record { f0 = a; f1 = s; f2 = b }) → pos t ≡ units tm_field m
    → ExportAs bytes (Ok (record { f0 = a; f1 = s; f2 = b; tm = t }))
unfolding said read_fault figures_of figure
read_as_found bytes e u m =
    let f0 = u.f0_is in
    let f1 = u.f1_is in
    let f2 = u.f2_is in record { answered = cc; the_f0 = cc; the_f1 = cc; the_f2 = cc; the_tm = cc }
