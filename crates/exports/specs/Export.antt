-- Request Five: the export, read from left to right, each float judged once its bytes are read.
-- Place is the byte where the record begins, for 12 the length, for 16 the first extra byte.
use Rattle.rules.specs.Words.{◌and◌, at}
use Rattle.std.specs.Prelude.{Float, ℕ, ◌+◌, ◌≡◌, not, List, length, leb, ltb, eqb, ℤ, pos, if◌then◌else◌, Option, Some, None, is_some, Result}
use Rattle.std.specs.Result.{result_unwrap_or}
use Rattle.rules.specs.declared.Refusal.{Refusal}
use Rattle.rules.specs.Refusals.{said}
use Rattle.rules.specs.Groups.{Read, got, refused, Reader, ◌>>=◌, ◌>>◌, give, cursor, demand, early}
use Rattle.rules.specs.Job.{read_fault}
use Rattle.exports.specs.declared.Record.{Record}
use Rattle.exports.specs.declared.Record.TheVariants as record_is
use Rattle.exports.specs.declared.Coefficients.{Coefficients}
use Rattle.exports.specs.declared.Found.{Found}
use Rattle.exports.specs.declared.Field.{Field}
use Rattle.exports.specs.declared.Export.{Export}
use Rattle.exports.specs.Floats.{four_bytes, float_of, finite}
use Rattle.exports.specs.Fields.{f0_field, f1_field, f2_field, tm_field, units, in_bounds}

-- ---- what was found

-- no record yet: neither kind was met
abbrev pub none_yet : Found
none_yet = record { coefficients = None; mass = None }

-- and this record
abbrev pub with_record : Found → Record → Found
with_record found (record_is.Coefficients c) = record { coefficients = Some c; mass = found.mass }
with_record found (record_is.Mass m) = record { coefficients = found.coefficients; mass = Some m }
with_record found record_is.End = found

-- ---- reading

module _ (bytes : List ℕ) where
  -- the kind is one byte; 12 ends early, place the length
  unfoldable pub kind : Reader ℕ
  kind i = if leb (length bytes) i then early bytes else got (at bytes i) (i + 1)

  -- a float is four bytes, little-endian
  unfoldable pub float : Reader Float
  float i = if ltb (length bytes) (i + 4) then early bytes else got (float_of (four_bytes bytes i)) (i + 4)

  -- of the record that begins at spot: 20 not a finite number
  unfoldable pub finite_float : ℕ → Reader Float
  finite_float spot = do
    x ← float
    demand (finite x) 20 spot
    give x

  -- and for a field: 21 rounded value outside document 01's bounds
  unfoldable pub judged : ℕ → Field → Reader Float
  judged spot field = do
    x ← finite_float spot
    demand (in_bounds field x) 21 spot
    give x

  -- kind 1 carries f0, f1, f2 in N and km/h
  unfoldable pub coefficients_read : ℕ → Reader Record
  coefficients_read spot = do
    f0 ← judged spot f0_field
    f1 ← judged spot f1_field
    f2 ← judged spot f2_field
    give (record_is.Coefficients (record { f0 = f0; f1 = f1; f2 = f2 }))

  -- kind 2 carries the test mass in kg
  unfoldable pub mass_read : ℕ → Reader Record
  mass_read spot = do
    m ← judged spot tm_field
    give (record_is.Mass m)

  -- kind 0 ends the export: 22 ended with a kind missing
  unfoldable pub end_read : ℕ → Found → Reader Record
  end_read spot found = do
    demand (is_some found.coefficients and is_some found.mass) 22 spot
    give record_is.End

  -- what follows the kind byte k: 19 kind unknown or met twice
  unfoldable pub of_kind : ℕ → ℕ → Found → Reader Record
  of_kind spot k found =
      if eqb k 0 then end_read spot found
      else if eqb k 1 and not (is_some found.coefficients) then coefficients_read spot
      else if eqb k 2 and not (is_some found.mass) then mass_read spot
      else (λ i. refused (record { no = 19; spot = spot }))

  -- a record, after those that were found
  unfoldable pub record_read : Found → Reader Record
  record_read found = do
    spot ← cursor
    k ← kind
    of_kind spot k found

  -- each kind 1 and 2 exactly once, in either order, and the end: a kind met twice is 19 and an end before both is 22, so the third record is the end;
  -- 16 bytes after
  unfoldable pub export_read : Reader Found
  export_read = do
    one ← record_read none_yet
    two ← record_read (with_record none_yet one)
    three ← record_read (with_record (with_record none_yet one) two)
    end ← cursor
    demand (eqb end (length bytes)) 16 end
    give (with_record (with_record none_yet one) two)

-- ---- what the reader answers

-- F0, F1, F2 and TM in document 01's units
pub record Figures : Type 0 where
  pub f0 : ℤ
  pub f1 : ℤ
  pub f2 : ℤ
  pub tm : ℤ

-- the figure of what was met; where it was not, which no export that is accepted leaves, 0
unfoldable pub figure : {A : Type 0} → (A → ℤ) → Option A → ℤ
figure of (Some x) = of x
figure of None = pos 0

-- those of what was found; all 0 where the export is refused
unfoldable pub figures_of : Read Found → Figures
figures_of (got found j) = record {
  f0 = figure (λ (c : Coefficients). units f0_field c.f0) found.coefficients;
  f1 = figure (λ (c : Coefficients). units f1_field c.f1) found.coefficients;
  f2 = figure (λ (c : Coefficients). units f2_field c.f2) found.coefficients;
  tm = figure (units tm_field) found.mass;
}
figures_of (refused f) = record { f0 = pos 0; f1 = pos 0; f2 = pos 0; tm = pos 0 }

-- what stands for the figures where there are none
abbrev pub no_export : Export
no_export = record { f0 = 0; f1 = pos 0; f2 = 0; tm = 0 }

-- the answer r is what is read of the export: an `Err` is its refusal, an `Ok` its figures; with `no_export` in the place of an `Err` all four are 0
pub record ExportAs (bytes : List ℕ) (r : Result Export Refusal) : Type 0 where
  pub answered : said r ≡ read_fault (export_read bytes 0)
  pub the_f0 : pos (result_unwrap_or r no_export).f0 ≡ (figures_of (export_read bytes 0)).f0
  pub the_f1 : (result_unwrap_or r no_export).f1 ≡ (figures_of (export_read bytes 0)).f1
  pub the_f2 : pos (result_unwrap_or r no_export).f2 ≡ (figures_of (export_read bytes 0)).f2
  pub the_tm : pos (result_unwrap_or r no_export).tm ≡ (figures_of (export_read bytes 0)).tm
