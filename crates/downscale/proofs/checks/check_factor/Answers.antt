-- What each return says is what the definition refuses.
use Rattle.rules.proofs.Offered.{lt-ltb, le-ltb, eq-eqb, ne_eqb, said, refuse_at, ◌orelse◌, when, arith}
use Rattle.downscale.specs.Steps.{down_fault}
use Rattle.downscale.proofs.checks.check_factor.Goals as goal

pub returns-then-factor-gt500 : goal.returns-then-factor-gt500
unfolding said down_fault refuse_at ◌orelse◌ when
returns-then-factor-gt500 c = rw (lt-ltb 500 c.args.factor (omega arith))

pub returns-then-length-ne1801 : goal.returns-then-length-ne1801
unfolding said down_fault refuse_at ◌orelse◌ when
returns-then-length-ne1801 c = rw (le-ltb 500 c.args.factor (omega arith), ne_eqb c.args.length 1801 (omega arith))

pub returns : goal.returns
unfolding said down_fault refuse_at ◌orelse◌ when
returns c = rw (le-ltb 500 c.args.factor (omega arith), eq-eqb c.args.length 1801 (omega arith))
