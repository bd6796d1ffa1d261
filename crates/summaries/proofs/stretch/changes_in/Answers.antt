use Rattle.rules.proofs.Offered.{ℕ, ◌-◌, ◌≡◌, arith, ap, ◌∙◌, tally, changes}
use Rattle.summaries.proofs.Counting.{changes_none, changes-more, changes_to}
use Rattle.summaries.proofs.stretch.changes_in.Goals as goal

pub loop-i-init : goal.loop-i-init
loop-i-init c = (omega arith, omega arith, changes_none _ _ _)

pub overflow_add-changes : goal.overflow_add-changes
overflow_add-changes c =
    let t = changes_to c.args.speeds.now c.args.card.now c.args.span.lo c.loop-i.invariant.0 c.loop-i.invariant.2 c.change-changes.ensures in
    omega (arith, t.0, t.1, c.requires.few)

pub loop-i-preserved : goal.loop-i-preserved
loop-i-preserved c =
    (omega arith, omega arith, changes-more c.args.speeds.now c.args.card.now c.args.span.lo c.loop-i.invariant.0 c.loop-i.invariant.2 c.change-changes.ensures)

pub returns : goal.returns
returns c =
    let a = c.args in
    let e : c.loop-i.i - 1 - a.span.lo ≡ a.span.hi - 1 - a.span.lo = omega (arith, c.loop-i.invariant.0, c.loop-i.invariant.1) in
    c.loop-i.invariant.2 ∙ ap (λ (k : ℕ). tally (changes a.speeds.now a.card.now) a.span.lo k) e
