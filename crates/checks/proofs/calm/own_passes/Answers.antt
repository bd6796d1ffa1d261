-- The second is judged, and then the step from it.
use Rattle.rules.proofs.Offered.{arith, sym, ◌∙◌, not-true}
use Rattle.checks.proofs.OnePass.{second_passes}
use Rattle.checks.proofs.calm.own_passes.Goals as goal

pub returns-then-span-next : goal.returns-then-span-next
returns-then-span-next c = λ e. record {
  here = λ hs g. second_passes _ _ hs _ _ _ (c.check_second.ensures hs g) (sym c.if-is_err.ensures.value);
  next = λ h. absurd (omega arith);
}

pub returns-else-span-next : goal.returns-else-span-next
returns-else-span-next c = λ e. record {
  here = λ hs g. second_passes _ _ hs _ _ _ (c.check_second.ensures hs g) (sym c.if-is_err.ensures.value);
  next = λ h car hs. sym (c.step_over.ensures car hs) ∙ not-true _ e;
}
