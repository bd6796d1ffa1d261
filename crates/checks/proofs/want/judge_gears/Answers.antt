-- `checks::want::judge_gears` meets its contract: the span is gone through trip by trip.
use Rattle.rules.proofs.Offered.{◌+◌, ◌-◌, ◌≤◌, ◌<◌, arith, ◌≡◌, refl, sym, false, at, moving, said, stop_le, stop-after, stops, again}
use Rattle.rules.proofs.Laws.Walk.{start, ends}
use Rattle.checks.specs.Asked.{speeds_in, holds_in}
use Rattle.checks.proofs.Through.{length_speeds}
use Rattle.checks.proofs.Tests.{gear_standing}
use Rattle.checks.proofs.Wanting.{wanted, not_wanted}
use Rattle.checks.proofs.Dry.{passes_over, stop_by, ahead}
use Rattle.checks.proofs.want.judge_gears.Goals as goal

pub loop-a-init : goal.loop-a-init
loop-a-init c =
    let rest = c.requires.rest in
    let x : c.args.span.lo + 1 - 1 ≡ c.args.span.lo = omega arith in
    record {
      since = omega arith;
      until = omega (arith, rest.some);
      stands = rw x rest.first;
      left = again (start refl) rest.some (sym (gear_standing c.args.powered.car.now _ _ _ _ rest.first));
    }

pub wanting-requires : goal.wanting-requires
wanting-requires c =
    let inv = c.loop-a.invariant in
    rw c.stop_asked-b.ensures (ahead c.requires inv.since c.loop-a-test.true inv.stands)

pub returns-in-Some : goal.returns-in-Some
unfolding said
returns-in-Some c =
    let t = c.args.trace in
    let span = c.args.span in
    let inv = c.loop-a.invariant in
    let F = c.in-Some.ensures span.lo in
    let l : c.in-Some.i < span.hi = omega (arith, F.to, c.stop_asked-b.ensures, stop_by c.requires inv.since c.loop-a-test.true inv.stands) in
    wanted c.args.powered.car.now (speeds_in t) (holds_in t) span.lo span.hi c.in-Some.i
    (stops (passes_over inv.left c.in-Some.i F.from (omega arith) F.fails) l F.holds)

pub overflow_add-a-in-loop-a : goal.overflow_add-a-in-loop-a
overflow_add-a-in-loop-a c =
    let t = c.args.trace in
    let inv = c.loop-a.invariant in
    omega (arith, c.stop_asked-b.ensures, stop_by c.requires inv.since c.loop-a-test.true inv.stands, c.requires.inside, length_speeds t.asked t.speeds.now)

pub loop-a-smaller : goal.loop-a-smaller
loop-a-smaller c =
    let inv = c.loop-a.invariant in
    omega (arith, c.stop_asked-b.ensures, stop_le (speeds_in c.args.trace) c.loop-a.a, stop_by c.requires inv.since c.loop-a-test.true inv.stands)

pub loop-a-preserved : goal.loop-a-preserved
loop-a-preserved c =
    let vs = speeds_in c.args.trace in
    let inv = c.loop-a.invariant in
    let b = c.stop_asked-b.result in
    let until : b < c.args.span.hi = rw c.stop_asked-b.ensures (stop_by c.requires inv.since c.loop-a-test.true inv.stands) in
    let from : c.loop-a.a ≤ b = rw c.stop_asked-b.ensures (stop_le vs c.loop-a.a) in
    let rest : moving (at vs b) ≡ false = rw c.stop_asked-b.ensures (stop-after vs c.loop-a.a) in
    let x : b + 1 - 1 ≡ b = omega arith in
    record {
      since = omega (arith, inv.since);
      until = omega arith;
      stands = rw x rest;
      left = again (passes_over inv.left b from (omega arith) (c.in_default.ensures c.args.span.lo)) until
          (sym (gear_standing c.args.powered.car.now _ _ _ _ rest));
    }

pub returns : goal.returns
unfolding said
returns c =
    let t = c.args.trace in
    not_wanted c.args.powered.car.now (speeds_in t) (holds_in t) c.args.span.lo c.args.span.hi (ends c.loop-a.invariant.left c.loop-a-test.false)
