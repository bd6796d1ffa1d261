-- Demand 1 of each C function that gives a verdict, by one definition: number 0 exactly where the papers' table refuses nothing, else the number and the place
-- of the table. That another number changes no byte stands in Demands and Answers, of those that are lent something to write.
use Rattle.rules.proofs.Offered.{ℕ, ◌≡◌, ap, ◌∙◌, ◌↔◌, Option, none, some, List, length, Fault, work_fault, Screen, edit_fault, job_read, read_fault}
use Rattle.rules.proofs.Offered.{write_fault, summary_fault, why_fault, Told, work-told, edit_told, job-told, write-told, summary_told}
use Rattle.rules.specs.declared.Vehicle.{Vehicle}
use Rattle.rules.specs.declared.Edit.{Edit}
use Rattle.cycles.specs.Parts.{fill_fault}
use Rattle.downscale.specs.Steps.{down_fault}
use Rattle.exports.specs.Export.{export_read}
use Rattle.exports.proofs.Told.{export_told}
use Rattle.reasons.proofs.Contracts.{why-told}
use Rattle.capi.specs.declared.Verdict.{Verdict}
use Rattle.capi.specs.declared.JobAnswer.{JobAnswer}
use Rattle.capi.specs.declared.WriteAnswer.{WriteAnswer}
use Rattle.capi.specs.declared.SummaryAnswer.{SummaryAnswer}
use Rattle.capi.specs.declared.ExportAnswer.{ExportAnswer}
use Rattle.capi.specs.declared.WhyAnswer.{WhyAnswer}
use Rattle.capi.specs.Verdicts.{as_verdict, JobRead, JobWritten, ExportRead}
use Rattle.capi.proofs.Demands.{number_0, CWorked, CEdited}
use Rattle.capi.proofs.Answers.{fill-told, down_told, CCounted, CFilled, CScaled, CWhy}

-- z is the verdict where q is what the table refuses
pub record Answered (q : Option Fault) (z : Verdict) : Type 0 where
  pub accepts : (z.number ≡ 0) ↔ (q ≡ none)
  pub refuses : (f : Fault) → q ≡ some f → z ≡ record { number = f.no; place = f.spot }

answered : (q : Option Fault) {z : Verdict} → Told q → z ≡ as_verdict q → Answered q z
unfolding as_verdict
answered q t e = record { accepts = rw e (number_0 q t); refuses = λ f r. e ∙ ap as_verdict r }

pub demand_1_work : {car : Vehicle} {vs hs old : List ℕ} {z : Verdict} {new : List ℕ} → CWorked car vs hs old z new → Answered (work_fault car vs hs old) z
demand_1_work {car} {vs} {hs} {old} W = answered _ (work-told car vs hs old) W.answer

-- of holding, releasing and mending
pub demand_1_edit : {car : Vehicle} {e : Edit} {x : Screen} {z : Verdict} {y : Screen} → CEdited car e x z y → Answered (edit_fault car e x) z
demand_1_edit {car} {e} {x} E = answered _ (edit_told car e x) E.answer

pub demand_1_read : {job speeds holds : List ℕ} {r : JobAnswer} {speeds' holds' : List ℕ} → JobRead job speeds holds r speeds' holds'
    → Answered (read_fault (job_read job (length speeds) (length holds))) r.verdict
demand_1_read {job} {speeds} {holds} R = answered _ (job-told job (length speeds) (length holds)) R.answered

pub demand_1_write : {v : ℕ} {car : Vehicle} {vs hs room : List ℕ} {r : WriteAnswer} {room' : List ℕ} → JobWritten v car vs hs room r room'
    → Answered (write_fault v car vs hs room) r.verdict
demand_1_write {v} {car} {vs} {hs} {room} W = answered _ (write-told v car vs hs room) W.answered

pub demand_1_summary_of : {vs bs : List ℕ} {r : SummaryAnswer} → CCounted vs bs r → Answered (summary_fault vs bs) r.verdict
demand_1_summary_of {vs} {bs} C = answered _ (summary_told vs bs) C.answer

pub demand_1_why : {car : Vehicle} {vs hs : List ℕ} {s : ℕ} {r : WhyAnswer} → CWhy car vs hs s r → Answered (why_fault car vs hs s) r.verdict
demand_1_why {car} {vs} {hs} {s} W = answered _ (why-told car vs hs s) W.answer

pub demand_1_cycle : {part : ℕ} {room : List ℕ} {z : Verdict} {room' : List ℕ} → CFilled part room z room' → Answered (fill_fault part (length room)) z
demand_1_cycle {part} {room} F = answered _ (fill-told part (length room)) F.answer

pub demand_1_downscale : {factor : ℕ} {room : List ℕ} {z : Verdict} {room' : List ℕ} → CScaled factor room z room'
    → Answered (down_fault factor (length room)) z
demand_1_downscale {factor} {room} S = answered _ (down_told factor (length room)) S.answer

pub demand_1_export : {bytes : List ℕ} {r : ExportAnswer} → ExportRead bytes r → Answered (read_fault (export_read bytes 0)) r.verdict
demand_1_export {bytes} E = answered _ (export_told bytes) E.answered
