-- What a look finds quiet, with holds that pass, is refused nothing.
use Rattle.rules.proofs.Offered.{◌+◌, arith, sym, ◌∙◌, refl}
use Rattle.checks.proofs.Pieces.{quiet_part, calm_apart, calm_with}
use Rattle.checks.proofs.calm.calm.Goals as goal
use Rattle.checks.proofs.calm.calm.Goals.{then-holds_pass, else-holds_pass}

pub returns-then-span-s : goal.returns-then-span-s
returns-then-span-s c = λ e.
    let t = c.args.trace in
    let lo = c.args.span.lo in
    let hi = c.args.span.hi in
    let quiet = quiet_part c.requires.2 (omega arith) (omega arith) lo hi (omega arith) (omega arith) (c.holds_pass.ensures e) in
    calm_apart t.asked t.speeds.now lo hi c.args.car.now t.holds.now (omega arith) (c.if-not-stands.ensures refl) (omega arith) quiet

pub returns-then-holds_pass-2 : goal.returns-then-holds_pass-2
returns-then-holds_pass-2 c = λ e.
    let t = c.args.trace in
    let lo = c.args.span.lo in
    let hi = c.args.span.hi in
    let s = t.asked.second in
    elim c.if-holds_pass.branch [
      | then-holds_pass w ↦
          calm_with t.asked t.speeds.now lo hi c.args.car.now t.holds.now (omega arith) (c.if-not-stands.ensures refl) (omega arith) (omega arith) t.rooms
          (quiet_part c.requires.2 (omega arith) (omega arith) lo s (omega arith) (omega arith) (c.holds_pass-2.ensures w.if-holds_pass.true))
          (quiet_part c.requires.2 (omega arith) (omega arith) (s + 1) hi (omega arith) (omega arith)
          (w.holds_pass-then-holds_pass.ensures (sym w.value-is ∙ c.if-holds_pass-2.true)))
          (c.own_passes.ensures e)
      | else-holds_pass w ↦ cc
    ]
