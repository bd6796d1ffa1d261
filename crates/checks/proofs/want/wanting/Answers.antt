-- `checks::want::wanting` meets its contract: the trip is gone through part by part.
use Rattle.rules.proofs.Offered.{arith}
use Rattle.checks.proofs.Dry.{dry_more, dry_stops}
use Rattle.checks.proofs.want.wanting.Goals as goal

pub returns-in-Err : goal.returns-in-Err
returns-in-Err c = λ lo.
    let inv = c.loop-i.invariant in
    let T = c.in-Err.ensures inv.dry.last in
    let to = c.part_end-to.ensures.to in
    dry_stops inv.dry T inv.since to (c.requires.moves _ (omega (arith, inv.since, T.until.from)) (omega (arith, T.until.to))) lo

pub loop-i-preserved : goal.loop-i-preserved
loop-i-preserved c =
    let inv = c.loop-i.invariant in
    let part = c.part_end-to.ensures in
    record { since = omega (arith, inv.since, part.some); until = part.to; dry = dry_more inv.dry (c.in-Ok.ensures inv.dry.last) }
