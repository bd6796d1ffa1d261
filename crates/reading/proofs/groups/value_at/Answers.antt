-- The group comes, so its bytes are there, and one law of `group` says at each `return` what they come to.
use Rattle.rules.proofs.Offered.{◌+◌, ◌≤◌, arith, sym, at, one, two, three, of₃, of₄, of₅, of₈}
use Rattle.reading.proofs.GroupAnswers.{first_there, second_there, second_some, third_there, third_last, third_some, three_fits, two_is, three_is}
use Rattle.reading.proofs.groups.value_at.Goals as goal

pub job_byte-a-requires : goal.job_byte-a-requires
job_byte-a-requires c = first_there _ _ c.requires

pub returns-then-a-lt128 : goal.returns-then-a-lt128
returns-then-a-lt128 c = rw c.job_byte-a.ensures.is (sym (one _ _ (omega arith) (omega arith)))

pub job_byte-b-requires : goal.job_byte-b-requires
job_byte-b-requires c = second_there _ _ c.requires (omega arith)

pub returns-then-b-lt128 : goal.returns-then-b-lt128
returns-then-b-lt128 c =
    let job = c.args.job.now in
    let i = c.args.at in
    rw (c.job_byte-a.ensures.is, c.job_byte-b.ensures.is, of₃ (two_is (at job i) (at job (i + 1))) (omega arith))
    (sym (of₅ (two job i) (omega (arith, second_some job i c.requires (omega arith)))))

pub job_byte-c-requires : goal.job_byte-c-requires
job_byte-c-requires c = third_there _ _ c.requires (omega arith) (omega arith)

pub overflow_cast-result-2 : goal.overflow_cast-result-2
overflow_cast-result-2 c = omega (arith, three_fits c.args.job.now c.args.at c.requires (omega arith) (omega arith))

pub returns : goal.returns
returns c =
    let job = c.args.job.now in
    let i = c.args.at in
    let a : 128 ≤ at job i = omega arith in
    let b : 128 ≤ at job (i + 1) = omega arith in
    rw (
      c.job_byte-a.ensures.is,
      c.job_byte-b.ensures.is,
      c.job_byte-c.ensures.is,
      of₄ (three_is (at job i) (at job (i + 1)) (at job (i + 2))) (omega arith),
    )
    (sym (of₈ (three job i) (omega (arith, third_last job i c.requires a b, third_some job i c.requires a b, three_fits job i c.requires a b))))
