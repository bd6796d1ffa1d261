-- The two scans, and the second before the first.
use Rattle.rules.proofs.Offered.{ℕ, ◌-◌, add-one, ap, ◌∙◌, stop, around}
use Rattle.edits.proofs.spans.around.Goals as goal

pub returns-clause-from : goal.returns-clause-from
unfolding around
returns-clause-from c = c.saturating_sub.ensures ∙ ap (λ (x : ℕ). x - 1) c.trip_start.ensures

pub returns-clause-to : goal.returns-clause-to
unfolding around
returns-clause-to c = c.trip_stop.ensures ∙ ap (stop c.args.speeds.now) (add-one c.args.second)
