-- Before a trip the next second is spoken of, otherwise the second itself.
use Rattle.rules.proofs.Offered.{ap, ◌∙◌, ◌≡◌, arith, about, why_lo, why_end, hold_span, ℕ}
use Rattle.std.proofs.lemmas.Bool.Decides.{nat_tests}
use Rattle.reasons.proofs.Places.{before_is, about_in}
use Rattle.reasons.proofs.whole.view_of.Goals as goal

pub hold_span-requires : goal.hold_span-requires
unfolding about
hold_span-requires c =
    let l = about_in c.args.speeds.now c.args.second c.requires in
    let e : c.if-eq.about ≡ about c.args.speeds.now c.args.second = grind (arith, nat_tests, before_is) in
    (rw e l, c.trip_start.ensures, c.trip_stop.ensures)

pub returns-clause-view : goal.returns-clause-view
unfolding about why_lo why_end
returns-clause-view c =
    let vs = c.args.speeds.now in
    let e : c.if-eq.about ≡ about vs c.args.second = grind (arith, nat_tests, before_is) in
    record {
      kind_is = c.kind_of-kind.ensures;
      about_is = e;
      from = c.trip_start.ensures;
      to = c.trip_stop.ensures;
      checked_from = c.hold_span.ensures.from ∙ ap (λ (i : ℕ). (hold_span vs i).lo) e;
      checked_to = c.hold_span.ensures.to ∙ ap (λ (i : ℕ). (hold_span vs i).end) e;
    }
