-- A second past the trace is written nowhere.
use Rattle.rules.proofs.Offered.{arith, set_out}
use Rattle.checks.proofs.trace.Trace.written.Goals as goal

pub returns-clause-nothing_asked : goal.returns-clause-nothing_asked
returns-clause-nothing_asked c = (set_out _ _ _ (omega arith), set_out _ _ _ (omega (arith, c.requires)))
