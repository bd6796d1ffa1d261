-- The demands on the reader of an export, over the contract of `read_export` as the check reads it.
use Rattle.rules.proofs.Offered.{ℕ, ◌≡◌, refl, sym, ◌∙◌, none, List, arith, said, Read, got, refused, read_fault}
use Rattle.rules.specs.Determined.{AsksNothing, Promises}
use Rattle.std.proofs.Common.{Result}
use Rattle.rules.specs.declared.Refusal.{Refusal}
use Rattle.exports.specs.declared.Export.{Export}
use Rattle.exports.specs.declared.Found.{Found}
use Rattle.exports.specs.Export.{export_read, ExportAs}
use Rattle.exports.proofs.Accepted.{TwoRecords, five_two_records}
use Rattle.exports.proofs.read_export.Kinds as read-kinds
use Rattle.exports.proofs.read_export.Reads as read-reads

-- demand 1: every list of bytes gets an answer, for `read_export` asks nothing of its caller
pub demand_1_asks_nothing : AsksNothing read-kinds.ps read-reads.Asked
demand_1_asks_nothing κs a = tt

-- what the contract says
pub export_says : Promises read-kinds.ps read-kinds.r read-reads.Asked read-reads.Learnt
    (λ κs a z ws. ExportAs (a.0.now) z)
export_says κs a asked z ws p = p

-- refused by number and place exactly where request Five says
pub demand_1_table : {bytes : List ℕ} {z : Result Export Refusal} → ExportAs bytes z → said z ≡ read_fault (export_read bytes 0)
demand_1_table E = E.answered

-- what is read where nothing is refused
was_read : (m : Read Found) → read_fault m ≡ none → (found : Found) × (k : ℕ) × (m ≡ got found k)
unfolding read_fault
was_read (got found k) e = (found, k, refl)
was_read (refused f) e = let z : ◌≡◌ {A = ℕ} 0 1 = cc in absurd (omega arith)

-- request Five: an export that is accepted is exactly two records, of different kinds, and the end: by the definition ..
pub accepted_two : {bytes : List ℕ} → read_fault (export_read bytes 0) ≡ none → TwoRecords bytes
accepted_two {bytes} e = let r = was_read (export_read bytes 0) e in five_two_records bytes r.2

-- .. and so by what the contract says
pub five_accepted : {bytes : List ℕ} {z : Result Export Refusal} → ExportAs bytes z → said z ≡ none → TwoRecords bytes
five_accepted E e = accepted_two (sym E.answered ∙ e)
