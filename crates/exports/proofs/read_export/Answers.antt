-- One law for each end of the reading.
use Rattle.std.proofs.lemmas.Result.{err_from_is_err_and}
use Rattle.rules.proofs.Offered.{◌≡◌, to_z-of_z, SFits, w32}
use Rattle.exports.specs.Fields.{tm_field}
use Rattle.exports.specs.Bits.{InField, Bounded}
use Rattle.exports.specs.Export.{none_yet, with_record}
use Rattle.exports.proofs.Sizes.{f1_short, tm_plain}
use Rattle.exports.proofs.WholeExport.{both-judged, first_stops, second_stops, third_stops, more_bytes, all_read, refused_as, found_is, read_as_found}
use Rattle.exports.proofs.read_export.Goals as goal
use Rattle.exports.proofs.read_export.Goals.{After-and-both, After-unwrap-2}

-- both records are found
both : (c : After-and-both) → c.and-both.result ≡ with_record (with_record none_yet c.in_ok-one.one) c.in_ok-two.two
both c = rw c.and-half.ensures at c.and-both.ensures

-- and judged
judged : (c : After-unwrap-2) → Bounded c.unwrap.result × InField tm_field c.unwrap-2.result
judged c =
    let b = rw c.and-half.ensures at c.and-both.ensures in
    both-judged _ _ c.in_ok-one.ensures.good.0 (rw c.and-half.ensures at c.in_ok-two.ensures.good.0) c.in_ok-one.ensures.good.1 c.in_ok-two.ensures.good.1
    _ _ (rw b at c.unwrap.ensures) (rw b at c.unwrap-2.ensures)

pub returns-in_err-one : goal.returns-in_err-one
returns-in_err-one c =
    let p = err_from_is_err_and c.from_residual.result c.from_residual.ensures.1 in rw (p.1, p.2) (refused_as _ (first_stops _ c.in_err-one.ensures.said))

pub returns-in_err-two : goal.returns-in_err-two
returns-in_err-two c =
    let p = err_from_is_err_and c.from_residual-in_err-two.result c.from_residual-in_err-two.ensures.1 in
    rw (p.1, p.2) (refused_as _ (second_stops _ c.in_ok-one.ensures.said (rw c.and-half.ensures at c.in_err-two.ensures.said)))

pub returns-in_err-end : goal.returns-in_err-end
returns-in_err-end c =
    let p = err_from_is_err_and c.from_residual-in_err-end.result c.from_residual-in_err-end.ensures.1 in
    let two = rw c.and-half.ensures at c.in_ok-two.ensures.said in
    let b = both (goal.at.returns-in_err-end c).After-and-both in
    rw (p.1, p.2) (refused_as _ (third_stops _ c.in_ok-one.ensures.said two (rw b at c.in_err-end.ensures.said)))

pub returns-then-end-bytes : goal.returns-then-end-bytes
returns-then-end-bytes c =
    let two = rw c.and-half.ensures at c.in_ok-two.ensures.said in
    let b = both (goal.at.returns-then-end-bytes c).After-and-both in
    refused_as _ (more_bytes _ c.in_ok-one.ensures.said two (rw b at c.in_ok-end.ensures.said) c.if-end-bytes.true)

pub whole_number-tm-requires : goal.whole_number-tm-requires
unfolding tm_field
whole_number-tm-requires c = ((judged (goal.at.whole_number-tm-requires c).After-unwrap-2).1, tm_plain)

pub returns : goal.returns
unfolding tm_field
returns c =
    let p = goal.at.returns c in
    let b = both p.After-and-both in
    let u = c.in_units-f0.ensures in
    let short : SFits w32 c.in_units-f0.result.f1 = rw u.f1_is (f1_short _ (judged p.After-unwrap-2).0.f1_in) in
    let two = rw c.and-half.ensures at c.in_ok-two.ensures.said in
    let all = all_read _ c.in_ok-one.ensures.said two (rw b at c.in_ok-end.ensures.said) c.if-end-bytes.false in
    rw (to_z-of_z short) (read_as_found _ (rw (← b, found_is _ c.unwrap.ensures c.unwrap-2.ensures) at all) u c.whole_number-tm.ensures)
