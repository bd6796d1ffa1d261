-- Each public function's contract allows one outcome. `Reads` is the contract's own reading, which the check makes of the clauses.
use mathlib.Core.Path.{refl, sym, ◌∙◌}
use Rattle.rules.specs.Determined.{Determined}
use Rattle.exports.proofs.Determined.{one_number}
use Rattle.capi.proofs.gearcard_read.Kinds as read-kinds
use Rattle.capi.proofs.gearcard_read.Reads as read-reads
use Rattle.capi.proofs.gearcard_write.Kinds as write-kinds
use Rattle.capi.proofs.gearcard_write.Reads as write-reads
use Rattle.capi.proofs.gearcard_work.Kinds as work-kinds
use Rattle.capi.proofs.gearcard_work.Reads as work-reads
use Rattle.capi.proofs.gearcard_summary_of.Kinds as summary-of-kinds
use Rattle.capi.proofs.gearcard_summary_of.Reads as summary-of-reads
use Rattle.capi.proofs.gearcard_hold.Kinds as hold-kinds
use Rattle.capi.proofs.gearcard_hold.Reads as hold-reads
use Rattle.capi.proofs.gearcard_release.Kinds as release-kinds
use Rattle.capi.proofs.gearcard_release.Reads as release-reads
use Rattle.capi.proofs.gearcard_mend.Kinds as mend-kinds
use Rattle.capi.proofs.gearcard_mend.Reads as mend-reads
use Rattle.capi.proofs.gearcard_why.Kinds as why-kinds
use Rattle.capi.proofs.gearcard_why.Reads as why-reads
use Rattle.capi.proofs.gearcard_cycle.Kinds as cycle-kinds
use Rattle.capi.proofs.gearcard_cycle.Reads as cycle-reads
use Rattle.capi.proofs.gearcard_cycle_part.Kinds as cycle-part-kinds
use Rattle.capi.proofs.gearcard_cycle_part.Reads as cycle-part-reads
use Rattle.capi.proofs.gearcard_downscale.Kinds as downscale-kinds
use Rattle.capi.proofs.gearcard_downscale.Reads as downscale-reads
use Rattle.capi.proofs.gearcard_export.Kinds as export-kinds
use Rattle.capi.proofs.gearcard_export.Reads as export-reads

pub gearcard_read : Determined read-kinds.ps read-kinds.r read-reads.Asked read-reads.Learnt
gearcard_read κs a asked z z' ws ws' p q = (
  λ i. record {
    verdict = (p.answered ∙ sym q.answered) i;
    version = (p.the_version ∙ sym q.the_version) i;
    vehicle = (p.the_vehicle ∙ sym q.the_vehicle) i;
    count = (p.the_count ∙ sym q.the_count) i;
  },
  λ i. (tt, ((p.speeds_left ∙ sym q.speeds_left) i, ((p.holds_left ∙ sym q.holds_left) i, tt))),
)

pub gearcard_write : Determined write-kinds.ps write-kinds.r write-reads.Asked write-reads.Learnt
gearcard_write κs a asked z z' ws ws' p q = (
  λ i. record { verdict = (p.answered ∙ sym q.answered) i; length = (p.the_length ∙ sym q.the_length) i },
  λ i. (tt, (tt, (tt, (tt, ((p.room_left ∙ sym q.room_left) i, tt))))),
)

pub gearcard_work : Determined work-kinds.ps work-kinds.r work-reads.Asked work-reads.Learnt
gearcard_work κs a asked z z' ws ws' p q = (p.0 ∙ sym q.0, λ i. (tt, (tt, (tt, ((p.1 ∙ sym q.1) i, tt)))))

pub gearcard_summary_of : Determined summary-of-kinds.ps summary-of-kinds.r summary-of-reads.Asked summary-of-reads.Learnt
gearcard_summary_of κs a asked z z' ws ws' p q = (λ i. record { verdict = (p.0 ∙ sym q.0) i; summary = (p.1 ∙ sym q.1) i }, refl)

pub gearcard_hold : Determined hold-kinds.ps hold-kinds.r hold-reads.Asked hold-reads.Learnt
gearcard_hold κs a asked z z' ws ws' p q = (
  λ i. record { verdict = (p.0 ∙ sym q.0) i; summary = (p.1.0 ∙ sym q.1.0) i },
  λ i. (tt, (tt, ((p.1.1.0 ∙ sym q.1.1.0) i, ((p.1.1.1 ∙ sym q.1.1.1) i, (tt, (tt, (tt, tt))))))),
)

pub gearcard_release : Determined release-kinds.ps release-kinds.r release-reads.Asked release-reads.Learnt
gearcard_release κs a asked z z' ws ws' p q = (
  λ i. record { verdict = (p.0 ∙ sym q.0) i; summary = (p.1.0 ∙ sym q.1.0) i },
  λ i. (tt, (tt, ((p.1.1.0 ∙ sym q.1.1.0) i, ((p.1.1.1 ∙ sym q.1.1.1) i, (tt, (tt, tt)))))),
)

pub gearcard_mend : Determined mend-kinds.ps mend-kinds.r mend-reads.Asked mend-reads.Learnt
gearcard_mend κs a asked z z' ws ws' p q = (
  λ i. record { verdict = (p.0 ∙ sym q.0) i; summary = (p.1.0 ∙ sym q.1.0) i },
  λ i. (tt, ((p.1.1.0 ∙ sym q.1.1.0) i, (tt, ((p.1.1.1 ∙ sym q.1.1.1) i, (tt, (tt, (tt, tt))))))),
)

pub gearcard_why : Determined why-kinds.ps why-kinds.r why-reads.Asked why-reads.Learnt
gearcard_why κs a asked z z' ws ws' p q = (λ i. record { verdict = (p.0 ∙ sym q.0) i; reasons = (p.1 ∙ sym q.1) i }, refl)

pub gearcard_cycle : Determined cycle-kinds.ps cycle-kinds.r cycle-reads.Asked cycle-reads.Learnt
gearcard_cycle κs a asked z z' ws ws' p q = (p.0 ∙ sym q.0, λ i. (tt, ((p.1 ∙ sym q.1) i, tt)))

pub gearcard_cycle_part : Determined cycle-part-kinds.ps cycle-part-kinds.r cycle-part-reads.Asked cycle-part-reads.Learnt
gearcard_cycle_part κs a asked z z' ws ws' p q = (p ∙ sym q, refl)

pub gearcard_downscale : Determined downscale-kinds.ps downscale-kinds.r downscale-reads.Asked downscale-reads.Learnt
gearcard_downscale κs a asked z z' ws ws' p q = (p.0 ∙ sym q.0, λ i. (tt, ((p.1 ∙ sym q.1) i, tt)))

pub gearcard_export : Determined export-kinds.ps export-kinds.r export-reads.Asked export-reads.Learnt
gearcard_export κs a asked z z' ws ws' p q = (
  λ i. record {
    verdict = (p.answered ∙ sym q.answered) i;
    f0 = one_number z.f0 z'.f0 (p.the_f0 ∙ sym q.the_f0) i;
    f1 = (p.the_f1 ∙ sym q.the_f1) i;
    f2 = one_number z.f2 z'.f2 (p.the_f2 ∙ sym q.the_f2) i;
    tm = one_number z.tm z'.tm (p.the_tm ∙ sym q.the_tm) i;
  },
  refl,
)
