-- 2 is told as 1, any other number as it is.
use Rattle.rules.proofs.Offered.{sym, ◌∙◌}
use Rattle.gearcard.proofs.Jobs.{as_too_long, as_it_is}
use Rattle.gearcard.proofs.text.as_printed.Goals as goal

pub returns-then-number-eq2 : goal.returns-then-number-eq2
returns-then-number-eq2 c = as_too_long c.args.refusal (sym c.number.ensures ∙ c.if-number-eq2.true)

pub returns : goal.returns
returns c = as_it_is c.args.refusal (λ e. c.if-number-eq2.false (c.number.ensures ∙ e))
