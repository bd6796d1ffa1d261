-- The step that the callee gave back is D.
use Rattle.rules.proofs.Offered.{required_size, rd, result, pos, ◌-ℤ◌, ◌≡◌, ◌∙◌}
use Rattle.reasons.proofs.explain.required_at.Goals as goal

pub returns-clause-sized : goal.returns-clause-sized
returns-clause-sized c =
    let e : rd c.step_of.result ≡ pos c.args.next -ℤ pos c.args.v = result c.step_of.type_inv ∙ c.step_of.ensures in
    rw (result c.required.type_inv, rw e at c.required.ensures)
    (required_size c.args.car.now c.requires.0 c.args.v c.requires.1.v_to _ c.requires.1.d_in)
