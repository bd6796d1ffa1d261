-- `Carried` has what carrying it out asks, and each way that it is left.
use Rattle.rules.proofs.Offered.{arith, second, asked_speeds, asked_holds, handed_up}
use Rattle.rules.specs.declared.Edit.TheVariants.{Mend}
use Rattle.edits.proofs.Carried.{refused-left, in_trace_at, carries_at, carried_at}
use Rattle.edits.proofs.buttons.mend.Goals as goal

pub returns-in_err-judged-clause-answer : goal.returns-in_err-judged-clause-answer
returns-in_err-judged-clause-answer c =
    let a = c.args in
    rw (handed_up c.from_residual.ensures.1)
    (refused-left a.vehicle (Mend a.second a.speed) a.speeds.now a.holds.now a.card.now a.summary _ (c.in_err-judged.ensures.answer a.summary)).answer

pub returns-in_err-judged-clause-summary : goal.returns-in_err-judged-clause-summary
returns-in_err-judged-clause-summary c =
    let a = c.args in
    rw (handed_up c.from_residual.ensures.1)
    (refused-left a.vehicle (Mend a.second a.speed) a.speeds.now a.holds.now a.card.now a.summary _ (c.in_err-judged.ensures.answer a.summary)).summary

pub returns-in_err-judged-clause-speeds : goal.returns-in_err-judged-clause-speeds
returns-in_err-judged-clause-speeds c =
    let a = c.args in
    (refused-left a.vehicle (Mend a.second a.speed) a.speeds.now a.holds.now a.card.now a.summary _ (c.in_err-judged.ensures.answer a.summary)).speeds

pub returns-in_err-judged-clause-card : goal.returns-in_err-judged-clause-card
returns-in_err-judged-clause-card c =
    let a = c.args in
    (refused-left a.vehicle (Mend a.second a.speed) a.speeds.now a.holds.now a.card.now a.summary _ (c.in_err-judged.ensures.answer a.summary)).card

pub offset_bounds-speeds-second : goal.offset_bounds-speeds-second
unfolding second
offset_bounds-speeds-second c =
    let a = c.args in
    let l = in_trace_at {e = (Mend a.second a.speed)} c.in_ok-judged.judged c.in_ok-judged.ensures.answer c.in_ok-judged.ensures.ready in
    omega (arith, l)

pub bounds-speeds-second : goal.bounds-speeds-second
unfolding second
bounds-speeds-second c =
    let a = c.args in
    let l = in_trace_at {e = (Mend a.second a.speed)} c.in_ok-judged.judged c.in_ok-judged.ensures.answer c.in_ok-judged.ensures.ready in
    omega (arith, l)

pub carry_out-requires : goal.carry_out-requires
unfolding asked_speeds asked_holds
carry_out-requires c =
    let a = c.args in
    carries_at {e = (Mend a.second a.speed)} c.in_ok-judged.judged c.in_ok-judged.ensures.answer c.in_ok-judged.ensures.ready

pub returns-clause-answer : goal.returns-clause-answer
unfolding asked_speeds asked_holds
returns-clause-answer c =
    let a = c.args in
    (carried_at {e = (Mend a.second a.speed)} c.in_ok-judged.judged c.in_ok-judged.ensures.answer c.in_ok-judged.ensures.ready
    c.carry_out.ensures).answer

pub returns-clause-summary : goal.returns-clause-summary
unfolding asked_speeds asked_holds
returns-clause-summary c =
    let a = c.args in
    (carried_at {e = (Mend a.second a.speed)} c.in_ok-judged.judged c.in_ok-judged.ensures.answer c.in_ok-judged.ensures.ready
    c.carry_out.ensures).summary

pub returns-clause-speeds : goal.returns-clause-speeds
unfolding asked_speeds asked_holds
returns-clause-speeds c =
    let a = c.args in
    (carried_at {e = (Mend a.second a.speed)} c.in_ok-judged.judged c.in_ok-judged.ensures.answer c.in_ok-judged.ensures.ready
    c.carry_out.ensures).speeds

pub returns-clause-card : goal.returns-clause-card
unfolding asked_speeds asked_holds
returns-clause-card c =
    let a = c.args in
    (carried_at {e = (Mend a.second a.speed)} c.in_ok-judged.judged c.in_ok-judged.ensures.answer c.in_ok-judged.ensures.ready
    c.carry_out.ensures).card
