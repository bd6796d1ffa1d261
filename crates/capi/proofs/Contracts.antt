-- What the contracts of the C functions say, as the check reads them: of the working and of the edits what Demands has the demands of, of the others what
-- Answers has.
use Rattle.rules.proofs.Offered.{sym, showing, hold_no_speed, release_no_speed, mend_no_hold}
use Rattle.rules.specs.Determined.{AsksNothing, Promises}
use Rattle.rules.specs.declared.Edit.TheVariants.{Hold, Release, Mend}
use Rattle.edits.specs.Asks.{screen}
use Rattle.capi.specs.Verdicts.{JobRead, JobWritten, ExportRead}
use Rattle.capi.proofs.Demands.{CWorked, CEdited}
use Rattle.capi.proofs.Answers.{CCounted, CFilled, CScaled, CWhy}
use Rattle.capi.proofs.gearcard_read.Kinds as read-kinds
use Rattle.capi.proofs.gearcard_read.Reads as read-reads
use Rattle.capi.proofs.gearcard_write.Kinds as write-kinds
use Rattle.capi.proofs.gearcard_write.Reads as write-reads
use Rattle.capi.proofs.gearcard_work.Kinds as work-kinds
use Rattle.capi.proofs.gearcard_work.Reads as work-reads
use Rattle.capi.proofs.gearcard_summary_of.Kinds as summary-of-kinds
use Rattle.capi.proofs.gearcard_summary_of.Reads as summary-of-reads
use Rattle.capi.proofs.gearcard_hold.Kinds as hold-kinds
use Rattle.capi.proofs.gearcard_hold.Reads as hold-reads
use Rattle.capi.proofs.gearcard_release.Kinds as release-kinds
use Rattle.capi.proofs.gearcard_release.Reads as release-reads
use Rattle.capi.proofs.gearcard_mend.Kinds as mend-kinds
use Rattle.capi.proofs.gearcard_mend.Reads as mend-reads
use Rattle.capi.proofs.gearcard_why.Kinds as why-kinds
use Rattle.capi.proofs.gearcard_why.Reads as why-reads
use Rattle.capi.proofs.gearcard_cycle.Kinds as cycle-kinds
use Rattle.capi.proofs.gearcard_cycle.Reads as cycle-reads
use Rattle.capi.proofs.gearcard_cycle_part.Kinds as cycle-part-kinds
use Rattle.capi.proofs.gearcard_cycle_part.Reads as cycle-part-reads
use Rattle.capi.proofs.gearcard_downscale.Kinds as downscale-kinds
use Rattle.capi.proofs.gearcard_downscale.Reads as downscale-reads
use Rattle.capi.proofs.gearcard_export.Kinds as export-kinds
use Rattle.capi.proofs.gearcard_export.Reads as export-reads

-- ---- demand 1: every input gets an answer, for none of them asks anything of its caller

pub read_asks_nothing : AsksNothing read-kinds.ps read-reads.Asked
read_asks_nothing κs a = tt

pub write_asks_nothing : AsksNothing write-kinds.ps write-reads.Asked
write_asks_nothing κs a = tt

pub work_asks_nothing : AsksNothing work-kinds.ps work-reads.Asked
work_asks_nothing κs a = tt

pub summary_of_asks_nothing : AsksNothing summary-of-kinds.ps summary-of-reads.Asked
summary_of_asks_nothing κs a = tt

pub hold_asks_nothing : AsksNothing hold-kinds.ps hold-reads.Asked
hold_asks_nothing κs a = tt

pub release_asks_nothing : AsksNothing release-kinds.ps release-reads.Asked
release_asks_nothing κs a = tt

pub mend_asks_nothing : AsksNothing mend-kinds.ps mend-reads.Asked
mend_asks_nothing κs a = tt

pub why_asks_nothing : AsksNothing why-kinds.ps why-reads.Asked
why_asks_nothing κs a = tt

pub cycle_asks_nothing : AsksNothing cycle-kinds.ps cycle-reads.Asked
cycle_asks_nothing κs a = tt

pub cycle-part_asks_nothing : AsksNothing cycle-part-kinds.ps cycle-part-reads.Asked
cycle-part_asks_nothing κs a = tt

pub downscale_asks_nothing : AsksNothing downscale-kinds.ps downscale-reads.Asked
downscale_asks_nothing κs a = tt

pub export_asks_nothing : AsksNothing export-kinds.ps export-reads.Asked
export_asks_nothing κs a = tt

-- ---- what the working and each edit say

pub work-says : Promises work-kinds.ps work-kinds.r work-reads.Asked work-reads.Learnt
    (λ κs a z ws. CWorked a.0 a.1.0.now a.1.1.0.now (a.1.1.1.0.now) z ws.1.1.1.0)
work-says κs a asked z ws p = record { answer = p.0; card_left = p.1 }

pub hold-says : Promises hold-kinds.ps hold-kinds.r hold-reads.Asked hold-reads.Learnt
    (λ κs a z ws. CEdited a.0 (Hold a.1.1.1.1.0 a.1.1.1.1.1.0) (screen a.1.0.now a.1.1.0.now a.1.1.1.0.now a.1.1.1.1.1.1.0)
    z.verdict (showing a.1.0.now ws.1.1.0 ws.1.1.1.0 z.summary))
hold-says κs a asked z ws p = record {
  answer = p.0;
  speeds_left = sym (hold_no_speed _ _ _ _);
  holds_left = p.1.1.0;
  card_left = p.1.1.1;
  summary_left = p.1.0;
}

pub release-says : Promises release-kinds.ps release-kinds.r release-reads.Asked release-reads.Learnt
    (λ κs a z ws. CEdited a.0 (Release a.1.1.1.1.0) (screen a.1.0.now a.1.1.0.now a.1.1.1.0.now a.1.1.1.1.1.0) z.verdict
    (showing a.1.0.now ws.1.1.0 ws.1.1.1.0 z.summary))
release-says κs a asked z ws p = record {
  answer = p.0;
  speeds_left = sym (release_no_speed _ _ _);
  holds_left = p.1.1.0;
  card_left = p.1.1.1;
  summary_left = p.1.0;
}

pub mend-says : Promises mend-kinds.ps mend-kinds.r mend-reads.Asked mend-reads.Learnt
    (λ κs a z ws. CEdited a.0 (Mend a.1.1.1.1.0 a.1.1.1.1.1.0) (screen a.1.0.now a.1.1.0.now a.1.1.1.0.now a.1.1.1.1.1.1.0)
    z.verdict (showing ws.1.0 a.1.1.0.now ws.1.1.1.0 z.summary))
mend-says κs a asked z ws p = record {
  answer = p.0;
  speeds_left = p.1.1.0;
  holds_left = sym (mend_no_hold _ _ _ _);
  card_left = p.1.1.1;
  summary_left = p.1.0;
}

-- ---- what the others say

pub read-says : Promises read-kinds.ps read-kinds.r read-reads.Asked read-reads.Learnt
    (λ κs a z ws. JobRead (a.0.now) a.1.0.now a.1.1.0.now z ws.1.0 ws.1.1.0)
read-says κs a asked z ws p = p

pub write-says : Promises write-kinds.ps write-kinds.r write-reads.Asked write-reads.Learnt
    (λ κs a z ws. JobWritten a.0 a.1.0 a.1.1.0.now (a.1.1.1.0.now) (a.1.1.1.1.0.now) z ws.1.1.1.1.0)
write-says κs a asked z ws p = p

pub summary_of-says : Promises summary-of-kinds.ps summary-of-kinds.r summary-of-reads.Asked summary-of-reads.Learnt
    (λ κs a z ws. CCounted (a.0.now) a.1.0.now z)
summary_of-says κs a asked z ws p = record { answer = p.0; summary_told = p.1 }

pub why-says : Promises why-kinds.ps why-kinds.r why-reads.Asked why-reads.Learnt
    (λ κs a z ws. CWhy a.0 a.1.0.now a.1.1.0.now a.1.1.1.0 z)
why-says κs a asked z ws p = record { answer = p.0; reasons_told = p.1 }

pub cycle-says : Promises cycle-kinds.ps cycle-kinds.r cycle-reads.Asked cycle-reads.Learnt
    (λ κs a z ws. CFilled a.0 a.1.0.now z ws.1.0)
cycle-says κs a asked z ws p = record { answer = p.0; room_left = p.1 }

pub downscale-says : Promises downscale-kinds.ps downscale-kinds.r downscale-reads.Asked downscale-reads.Learnt
    (λ κs a z ws. CScaled a.0 a.1.0.now z ws.1.0)
downscale-says κs a asked z ws p = record { answer = p.0; room_left = p.1 }

pub export_says : Promises export-kinds.ps export-kinds.r export-reads.Asked export-reads.Learnt
    (λ κs a z ws. ExportRead (a.0.now) z)
export_says κs a asked z ws p = p
