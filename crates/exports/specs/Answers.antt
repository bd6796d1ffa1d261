-- What the functions of the reader answer, stage by stage.
use Rattle.std.specs.Prelude.{ℕ, ◌≡◌, true, false, is_some, Result, Ok, Err, IfOk}
use Rattle.rules.specs.declared.Refusal.{Refusal}
use Rattle.rules.specs.Refusals.{fault}
use Rattle.rules.specs.Groups.{Read, got, refused}
use Rattle.exports.specs.declared.Record.{Record}
use Rattle.exports.specs.declared.Record.TheVariants as record_is
use Rattle.exports.specs.declared.Found.{Found}
use Rattle.exports.specs.Fields.{tm_field}
use Rattle.exports.specs.Bits.{InField, Bounded}

-- what the answer for a float, or for a record, says: it and the place after it, or the refusal
abbrev pub read_as : {A : Type 0} → Result (A × ℕ) Refusal → Read A
read_as (Ok r) = got r.0 r.1
read_as (Err f) = refused (fault f)

-- a record that comes after those found is of a kind not met; the end comes once both were met
abbrev pub Fresh : Found → Record → Type 0
Fresh found (record_is.Coefficients c) = is_some found.coefficients ≡ false
Fresh found (record_is.Mass m) = is_some found.mass ≡ false
Fresh found record_is.End = (is_some found.coefficients ≡ true) × (is_some found.mass ≡ true)

-- and each of its floats was judged
abbrev pub Good : Record → Type 0
Good (record_is.Coefficients c) = Bounded c
Good (record_is.Mass m) = InField tm_field m
Good record_is.End = Unit {0}

abbrev pub ComesAfter : Found → Result (Record × ℕ) Refusal → Type 0
ComesAfter found r = IfOk r (λ x. Fresh found x.0 × Good x.0)
