-- Nothing of a standing second that no trip follows; otherwise all of it, or all but what was corrected.
use Rattle.rules.proofs.Offered.{arith, sym, ap, ◌∙◌}
use Rattle.std.proofs.lemmas.Bool.Decides.{nat_tests}
use Rattle.reasons.proofs.Places.{standing_is}
use Rattle.reasons.proofs.Passed.{in_trip, said_there, rests_there, ok_says, err_says}
use Rattle.reasons.proofs.Nothing.{nothing_is}
use Rattle.reasons.proofs.Saying.{said-wanting}
use Rattle.reasons.specs.Asks.{uncorrected}
use Rattle.reasons.proofs.whole.reasons_with.Goals as goal

pub returns-then-eq : goal.returns-then-eq
returns-then-eq c =
    let P = c.requires.0 in
    nothing_is c.default.result c.default.ensures ∙ sym (rests_there _ _ _ _ P.early (grind (arith, nat_tests, standing_is)))

pub explain-all-requires : goal.explain-all-requires
explain-all-requires c =
    let P = c.requires.0 in
    let T = in_trip P (λ z. grind (arith, nat_tests, standing_is)) in
    (T.0, T.1, P.viewed.kind_is)

pub returns-then-is_ok : goal.returns-then-is_ok
returns-then-is_ok c =
    let P = c.requires.0 in
    let n = ok_says c.args.answer (sym c.is_ok.ensures.value ∙ c.if-is_ok.true) in
    c.explain-all.ensures ∙ sym (said_there _ _ _ _ P.early (λ z. grind (arith, nat_tests, standing_is)) ∙ rw (← P.viewed.about_is, ← c.requires.1, n))

pub returns-else-is_ok : goal.returns-else-is_ok
returns-else-is_ok c =
    let P = c.requires.0 in
    let f = err_says c.args.answer (sym c.is_ok.ensures.value ∙ c.if-is_ok.false) in
    c.uncorrected.ensures ∙ ap uncorrected c.explain-all.ensures ∙ said-wanting _ _ _ _ _ f.0
    ∙ sym (said_there _ _ _ _ P.early (λ z. grind (arith, nat_tests, standing_is)) ∙ rw (← P.viewed.about_is, ← c.requires.1, f.1))
