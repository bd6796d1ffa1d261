-- What the contracts of `hold`, `release` and `mend` say, as the check reads them: each is one edit of the screen, of which rules/proofs/Demands has the
-- demands, requests Nine and Twelve, and runs of edits.
use Rattle.rules.proofs.Offered.{sym, ◌∙◌, showing, hold_no_speed, release_no_speed, mend_no_hold}
use Rattle.rules.specs.Determined.{AsksNothing, Promises}
use Rattle.rules.proofs.Demands.{EditedWith}
use Rattle.rules.specs.declared.Edit.TheVariants.{Hold, Release, Mend}
use Rattle.std.specs.Result.{result_unwrap_or}
use Rattle.edits.specs.Asks.{answer_in, screen}
use Rattle.edits.proofs.Answers.{said_in}
use Rattle.edits.proofs.buttons.hold.Kinds as hold-kinds
use Rattle.edits.proofs.buttons.hold.Reads as hold-reads
use Rattle.edits.proofs.buttons.release.Kinds as release-kinds
use Rattle.edits.proofs.buttons.release.Reads as release-reads
use Rattle.edits.proofs.buttons.mend.Kinds as mend-kinds
use Rattle.edits.proofs.buttons.mend.Reads as mend-reads

-- ---- demand 1: every input gets an answer, for none of them asks anything of its caller

pub hold_asks_nothing : AsksNothing hold-kinds.ps hold-reads.Asked
hold_asks_nothing κs a = tt

pub release_asks_nothing : AsksNothing release-kinds.ps release-reads.Asked
release_asks_nothing κs a = tt

pub mend_asks_nothing : AsksNothing mend-kinds.ps mend-reads.Asked
mend_asks_nothing κs a = tt

-- ---- what each says

pub hold-says : Promises hold-kinds.ps hold-kinds.r hold-reads.Asked hold-reads.Learnt
    (λ κs a z ws. EditedWith a.0 (Hold a.1.1.1.1.0 a.1.1.1.1.1.0) (screen a.1.0.now a.1.1.0.now a.1.1.1.0.now a.1.1.1.1.1.1.0)
    (answer_in z) (showing a.1.0.now ws.1.1.0 ws.1.1.1.0 (result_unwrap_or z a.1.1.1.1.1.1.0)))
hold-says κs a asked z ws p = record {
  lists = record { answer = said_in z ∙ p.0; speeds_left = sym (hold_no_speed _ _ _ _); holds_left = p.1.1.0; card_left = p.1.1.1 };
  summary_left = p.1.0;
}

pub release-says : Promises release-kinds.ps release-kinds.r release-reads.Asked release-reads.Learnt
    (λ κs a z ws. EditedWith a.0 (Release a.1.1.1.1.0) (screen a.1.0.now a.1.1.0.now a.1.1.1.0.now a.1.1.1.1.1.0) (answer_in z)
    (showing a.1.0.now ws.1.1.0 ws.1.1.1.0 (result_unwrap_or z a.1.1.1.1.1.0)))
release-says κs a asked z ws p = record {
  lists = record { answer = said_in z ∙ p.0; speeds_left = sym (release_no_speed _ _ _); holds_left = p.1.1.0; card_left = p.1.1.1 };
  summary_left = p.1.0;
}

pub mend-says : Promises mend-kinds.ps mend-kinds.r mend-reads.Asked mend-reads.Learnt
    (λ κs a z ws. EditedWith a.0 (Mend a.1.1.1.1.0 a.1.1.1.1.1.0) (screen a.1.0.now a.1.1.0.now a.1.1.1.0.now a.1.1.1.1.1.1.0)
    (answer_in z) (showing ws.1.0 a.1.1.0.now ws.1.1.1.0 (result_unwrap_or z a.1.1.1.1.1.1.0)))
mend-says κs a asked z ws p = record {
  lists = record { answer = said_in z ∙ p.0; speeds_left = p.1.1.0; holds_left = sym (mend_no_hold _ _ _ _); card_left = p.1.1.1 };
  summary_left = p.1.0;
}
