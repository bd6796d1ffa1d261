use Rattle.rules.proofs.Offered.{arith}
use Rattle.summaries.proofs.Counting.{fill_none, fill_more, fill_room, fill_done}
use Rattle.summaries.proofs.stretch.counts_in.Goals as goal

pub loop-i-init : goal.loop-i-init
loop-i-init c = fill_none c.args.speeds.now c.args.card.now c.args.span.lo

pub overflow_add-counts : goal.overflow_add-counts
overflow_add-counts c =
    let a = c.args in
    omega (
      arith,
      fill_room a.speeds.now a.card.now a.span.lo c.loop-i.invariant {hi = a.span.hi} (omega arith) c.requires.few
          c.place_of.result (omega (arith, c.place_of.ensures.few)),
    )

pub loop-i-preserved : goal.loop-i-preserved
loop-i-preserved c =
    fill_more c.args.speeds.now c.args.card.now c.args.span.lo c.loop-i.invariant c.place_of.ensures.value c.place_of.ensures.few

pub returns : goal.returns
returns c = fill_done c.args.speeds.now c.args.card.now c.args.span.lo c.loop-i.invariant c.args.span.hi (omega arith)
