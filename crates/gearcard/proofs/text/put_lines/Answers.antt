use Rattle.rules.proofs.Offered.{◌<◌, arith, get_or, line_short}
use Rattle.gearcard.proofs.TextInTurn.{lines_begin, lines_again}
use Rattle.gearcard.proofs.text.put_lines.Goals as goal

pub loop-i-init : goal.loop-i-init
loop-i-init c = lines_begin _ _ _ _ (omega arith)

pub put_line-next-requires : goal.put_line-next-requires
put_line-next-requires c =
    let a = c.args in
    let v : get_or a.speeds.now c.loop-i.i 0 < 65536 = omega (arith, c.type_inv.speeds c.loop-i.i) in
    omega (
      arith,
      line_short c.loop-i.i (get_or a.speeds.now c.loop-i.i 0) (get_or a.card.now c.loop-i.i 0) (omega arith) v,
      c.loop-i.invariant.room,
      c.loop-i.invariant.same,
    )

pub loop-i-preserved : goal.loop-i-preserved
loop-i-preserved c =
    let v : get_or c.args.speeds.now c.loop-i.i 0 < 65536 = omega (arith, c.type_inv.speeds c.loop-i.i) in
    lines_again _ _ _ _ c.loop-i.invariant (omega arith) (omega arith) v c.put_line-next.ensures
