-- One law of `Checked` for each `return`.
use Rattle.rules.proofs.Offered.{refl, arith, in_range, handed_up}
use Rattle.reading.proofs.GroupAnswers.{out_of_range}
use Rattle.checks.proofs.Rows.{said_none}
use Rattle.writing.proofs.Checked.{told-version, told_lengths, told-vehicle}
use Rattle.writing.proofs.writer.check_told.Goals as goal

pub returns-then-version-lt1 : goal.returns-then-version-lt1
returns-then-version-lt1 c =
    λ vs hs a b. told-version c.args.version c.args.car.now vs hs (out_of_range 1 3 _ (λ x y. omega (arith, c.then-version-lt1.either)))

pub returns-in_err-check_lengths : goal.returns-in_err-check_lengths
returns-in_err-check_lengths c =
    λ vs hs a b. rw (handed_up c.from_residual.ensures.1)
    (told_lengths c.args.version c.args.car.now vs hs (in_range 1 3 _ (omega arith) (omega arith)) _ (c.in_err-check_lengths.ensures vs hs hs a b b))

pub returns : goal.returns
returns c =
    λ vs hs a b.
    let passed = said_none (c.in_ok-check_lengths.ensures vs hs hs a b b) refl in
    told-vehicle c.args.version c.args.car.now vs hs (in_range 1 3 _ (omega arith) (omega arith)) passed c.check_vehicle.ensures
