-- Where the card is refused, the summary of no seconds is told.
use Rattle.rules.proofs.Offered.{sym, ◌∙◌}
use Rattle.summaries.proofs.Totals.{default_is}
use Rattle.capi.proofs.gearcard_summary_of.Goals as goal

pub returns-clause-summary : goal.returns-clause-summary
returns-clause-summary c = rw (default_is _ c.default.ensures) at c.counted_of.ensures.summary ∙ c.summary_of.ensures.summary
