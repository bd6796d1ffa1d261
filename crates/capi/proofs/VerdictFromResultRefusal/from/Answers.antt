use Rattle.std.specs.Prelude.{◌≡◌, Result, Ok, Err}
use Rattle.rules.specs.declared.Refusal.{Refusal}
use Rattle.rules.specs.Refusals.{said, told}
use Rattle.capi.specs.declared.Verdict.{Verdict}
use Rattle.capi.specs.Verdicts.{as_verdict}
use Rattle.capi.proofs.VerdictFromResultRefusal.from.Goals as goal

-- number and place are those of the two functions of `rules`
by_told : {T : Type 0} (answer : Result T Refusal) (z : Verdict) → z.number ≡ (told answer).no → z.place ≡ (told answer).spot → z ≡ as_verdict (said answer)
unfolding said as_verdict
by_told (Ok x) z n p = λ i. record { number = n i; place = p i }
by_told (Err r) z n p = λ i. record { number = n i; place = p i }

pub returns : goal.returns
returns g c = by_told c.args.answer _ c.told_number.ensures c.told_place.ensures
