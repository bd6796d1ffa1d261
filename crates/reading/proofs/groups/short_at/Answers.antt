-- The group comes in one byte or two, and one law of `group` says at each `return` what they come to.
use Rattle.rules.proofs.Offered.{◌+◌, arith, sym, at, one, two, of₃, of₅}
use Rattle.reading.proofs.GroupAnswers.{first_there, second_there, second_some, short_last, two_is}
use Rattle.reading.proofs.groups.short_at.Goals as goal

pub job_byte-a-requires : goal.job_byte-a-requires
job_byte-a-requires c = first_there _ _ c.requires.there

pub returns-then-a-lt128 : goal.returns-then-a-lt128
returns-then-a-lt128 c = rw c.job_byte-a.ensures.is (sym (one _ _ (omega arith) (omega arith)))

pub job_byte-b-requires : goal.job_byte-b-requires
job_byte-b-requires c = second_there _ _ c.requires.there (omega arith)

pub returns : goal.returns
returns c =
    let job = c.args.job.now in
    let i = c.args.at in
    let b = short_last job i c.requires (omega arith) in
    rw (c.job_byte-a.ensures.is, c.job_byte-b.ensures.is, of₃ (two_is (at job i) (at job (i + 1))) (omega (arith, b)))
    (sym (of₅ (two job i) (omega (arith, b, second_some job i c.requires.there (omega arith)))))
