-- Of a moving second its trip, of a standing one itself.
use Rattle.rules.proofs.Offered.{sym, ap, ◌∙◌, ◌≡◌, ℕ, suc, ◌-◌, min, stop, length, stop_to, arith}
use Rattle.reasons.proofs.Places.{span_standing, span-moving}
use Rattle.reasons.proofs.whole.hold_span.Goals as goal

pub overflow_add-trip : goal.overflow_add-trip
overflow_add-trip c = let l = stop_to c.args.speeds.now c.args.second (omega (arith, c.requires.0)) in omega arith

pub returns-then-moving-clause-from : goal.returns-then-moving-clause-from
returns-then-moving-clause-from c =
    c.saturating_sub.ensures ∙ ap (λ (a : ℕ). a - 1) c.requires.1
    ∙ (span-moving c.args.speeds.now c.args.second c.requires.0 (sym c.moving.ensures ∙ c.if-moving.true)).0

pub returns-then-moving-clause-to : goal.returns-then-moving-clause-to
returns-then-moving-clause-to c =
    let e : c.min.result ≡ min (suc (stop c.args.speeds.now c.args.second)) (length c.args.speeds.now) = omega (arith, c.requires.2) in
    e ∙ (span-moving c.args.speeds.now c.args.second c.requires.0 (sym c.moving.ensures ∙ c.if-moving.true)).1

pub returns-else-moving-clause-from : goal.returns-else-moving-clause-from
returns-else-moving-clause-from c =
    (span_standing c.args.speeds.now c.args.second c.requires.0 (sym c.moving.ensures ∙ c.if-moving.false)).0

pub returns-else-moving-clause-to : goal.returns-else-moving-clause-to
returns-else-moving-clause-to c =
    (span_standing c.args.speeds.now c.args.second c.requires.0 (sym c.moving.ensures ∙ c.if-moving.false)).1
