-- `Carried` has what carrying it out asks, and each way that it is left.
use Rattle.rules.proofs.Offered.{second, asked_speeds, asked_holds, handed_up}
use Rattle.rules.specs.declared.Edit.TheVariants.{Hold}
use Rattle.edits.proofs.Carried.{refused-left, in_holds_at, carries_at, carried_at}
use Rattle.edits.proofs.buttons.hold.Goals as goal

pub returns-in_err-judged-clause-answer : goal.returns-in_err-judged-clause-answer
returns-in_err-judged-clause-answer c =
    let a = c.args in
    rw (handed_up c.from_residual.ensures.1)
    (refused-left a.vehicle (Hold a.second a.gear) a.speeds.now a.holds.now a.card.now a.summary _ (c.in_err-judged.ensures.answer a.summary)).answer

pub returns-in_err-judged-clause-summary : goal.returns-in_err-judged-clause-summary
returns-in_err-judged-clause-summary c =
    let a = c.args in
    rw (handed_up c.from_residual.ensures.1)
    (refused-left a.vehicle (Hold a.second a.gear) a.speeds.now a.holds.now a.card.now a.summary _ (c.in_err-judged.ensures.answer a.summary)).summary

pub returns-in_err-judged-clause-holds : goal.returns-in_err-judged-clause-holds
returns-in_err-judged-clause-holds c =
    let a = c.args in
    (refused-left a.vehicle (Hold a.second a.gear) a.speeds.now a.holds.now a.card.now a.summary _ (c.in_err-judged.ensures.answer a.summary)).holds

pub returns-in_err-judged-clause-card : goal.returns-in_err-judged-clause-card
returns-in_err-judged-clause-card c =
    let a = c.args in
    (refused-left a.vehicle (Hold a.second a.gear) a.speeds.now a.holds.now a.card.now a.summary _ (c.in_err-judged.ensures.answer a.summary)).card

pub bounds-holds-second : goal.bounds-holds-second
unfolding second
bounds-holds-second c =
    let a = c.args in
    in_holds_at {e = (Hold a.second a.gear)} c.in_ok-judged.judged c.in_ok-judged.ensures.answer c.in_ok-judged.ensures.ready

pub carry_out-requires : goal.carry_out-requires
unfolding asked_speeds asked_holds
carry_out-requires c =
    let a = c.args in
    carries_at {e = (Hold a.second a.gear)} c.in_ok-judged.judged c.in_ok-judged.ensures.answer c.in_ok-judged.ensures.ready

pub returns-clause-answer : goal.returns-clause-answer
unfolding asked_speeds asked_holds
returns-clause-answer c =
    let a = c.args in
    (carried_at {e = (Hold a.second a.gear)} c.in_ok-judged.judged c.in_ok-judged.ensures.answer c.in_ok-judged.ensures.ready
    c.carry_out.ensures).answer

pub returns-clause-summary : goal.returns-clause-summary
unfolding asked_speeds asked_holds
returns-clause-summary c =
    let a = c.args in
    (carried_at {e = (Hold a.second a.gear)} c.in_ok-judged.judged c.in_ok-judged.ensures.answer c.in_ok-judged.ensures.ready
    c.carry_out.ensures).summary

pub returns-clause-holds : goal.returns-clause-holds
unfolding asked_speeds asked_holds
returns-clause-holds c =
    let a = c.args in
    (carried_at {e = (Hold a.second a.gear)} c.in_ok-judged.judged c.in_ok-judged.ensures.answer c.in_ok-judged.ensures.ready
    c.carry_out.ensures).holds

pub returns-clause-card : goal.returns-clause-card
unfolding asked_speeds asked_holds
returns-clause-card c =
    let a = c.args in
    (carried_at {e = (Hold a.second a.gear)} c.in_ok-judged.judged c.in_ok-judged.ensures.answer c.in_ok-judged.ensures.ready
    c.carry_out.ensures).card
