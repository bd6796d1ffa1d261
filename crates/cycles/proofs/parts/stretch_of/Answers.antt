-- The part's places, or no seconds where filling refuses.
use Rattle.rules.proofs.Offered.{arith, sym, said}
use Rattle.cycles.proofs.Stretches.{ordered, stretch-part, no_stretch, accepted_part}
use Rattle.cycles.proofs.parts.stretch_of.Goals as goal

pub ends_of-first-requires : goal.ends_of-first-requires
unfolding said
ends_of-first-requires c = accepted_part _ _ (sym c.in-Ok.ensures)

pub overflow_add-result : goal.overflow_add-result
overflow_add-result c = omega (arith, ordered c.args.part)

pub overflow_sub-result : goal.overflow_sub-result
overflow_sub-result c = omega (arith, ordered c.args.part)

pub returns-in-Ok : goal.returns-in-Ok
unfolding said
returns-in-Ok c = rw (c.ends_of-first.ensures.first, c.ends_of-first.ensures.last) (sym (stretch-part _ _ (sym c.in-Ok.ensures)))

pub returns-in-Err : goal.returns-in-Err
unfolding said
returns-in-Err c = sym (no_stretch _ _ (sym c.in-Err.ensures))
