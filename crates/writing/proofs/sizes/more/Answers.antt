-- In each arm the form is known.
use Rattle.rules.proofs.Offered.{arith, form-one, form_two, form_three}
use Rattle.writing.proofs.sizes.more.Goals as goal

pub returns-in-0-to-127-clause-size : goal.returns-in-0-to-127-clause-size
returns-in-0-to-127-clause-size c = rw (form-one c.args.v (omega arith))

pub returns-in-128-to-16383-clause-size : goal.returns-in-128-to-16383-clause-size
returns-in-128-to-16383-clause-size c = rw (form_two c.args.v (omega arith) (omega arith))

pub returns-in_default-clause-size : goal.returns-in_default-clause-size
returns-in_default-clause-size c = rw (form_three c.args.v (omega arith))
