-- `checks::want::no_gap` meets its contract: each of its tests is one of the facts.
use Rattle.rules.proofs.Offered.{◌∙◌, arith, lt-leb, clash}
use Rattle.checks.proofs.Wanting.{low_some}
use Rattle.checks.proofs.want.no_gap.Goals as goal
use Rattle.checks.proofs.want.no_gap.Goals.{then-low-ng, else-low-ng}

pub engine-requires : goal.engine-requires
engine-requires c = record { from = omega (arith, low_some c.args.car.now); to = omega (arith, c.requires.ng_to) }

pub engine-requires-then-engine-top : goal.engine-requires-then-engine-top
engine-requires-then-engine-top c = record {
  from = elim c.if-low-ng.branch [
    | then-low-ng w ↦ omega (arith, low_some c.args.car.now)
    | else-low-ng w ↦ clash c.if-engine-top.true (w.value-is ∙ lt-leb _ _ w.if-low-ng.false)
  ];
  to = omega (arith, c.requires.ng_to);
}
