-- `gears::choice::choice_after`: the held gear, or the choice at the step that the callee gave back.
use Rattle.rules.proofs.Offered.{◌∙◌, eq-eqb, ne_eqb, result}
use Rattle.gears.specs.Choosing.{first_of}
use Rattle.gears.proofs.choice.choice_after.Goals as goal

pub returns-then-hold-ne0-clause-gear : goal.returns-then-hold-ne0-clause-gear
unfolding first_of
returns-then-hold-ne0-clause-gear c = rw (ne_eqb _ 0 c.if-hold-ne0.true)

pub returns-clause-gear : goal.returns-clause-gear
unfolding first_of
returns-clause-gear c = rw (eq-eqb _ 0 c.if-hold-ne0.false, ← (result c.step_of.type_inv ∙ c.step_of.ensures)) c.choose.ensures.gear
