-- `checks::row::check_span` meets its contract: a refusal of 4 to 9 ends the row, and where there is none 10 decides.
use Rattle.rules.proofs.Offered.{arith, refl, sym, ◌∙◌, said, ◌orelse◌, none_orelse, gears_last}
use Rattle.std.proofs.lemmas.Result.{err_from_is_err_and}
use Rattle.checks.specs.Asked.{speeds_in, holds_in}
use Rattle.checks.proofs.Calmness.{at_most}
use Rattle.checks.proofs.Pieces.{most_asked}
use Rattle.checks.proofs.row.check_span.Goals as goal

pub returns-in_err-check_seen : goal.returns-in_err-check_seen
unfolding said ◌orelse◌
returns-in_err-check_seen c =
    let t = c.args.trace in
    let p = err_from_is_err_and c.from_residual.result c.from_residual.ensures.1 in
    rw (p.1, p.2, gears_last c.args.powered.car.now (speeds_in t) (holds_in t) c.args.span.lo c.args.span.hi, ← c.in_err-check_seen.ensures) refl

pub check_gears-requires : goal.check_gears-requires
unfolding said
check_gears-requires c =
    let t = c.args.trace in
    let most = c.max-most.ensures in (
      c.requires.0,
      most_asked t.asked t.speeds.now c.args.span.lo c.args.span.hi c.requires.0.inside (at_most _ _ _ c.look-seen.ensures.speeds)
          (omega (arith, most)) (omega (arith, most)),
      c.requires.2,
      c.in_ok-check_seen.ensures,
    )

pub returns : goal.returns
unfolding said
returns c =
    let t = c.args.trace in
    c.check_gears.ensures
    ∙ sym (none_orelse _ _ (sym c.in_ok-check_seen.ensures))
    ∙ sym (gears_last c.args.powered.car.now (speeds_in t) (holds_in t) c.args.span.lo c.args.span.hi)
