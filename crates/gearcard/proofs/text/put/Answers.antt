-- The bytes stand in their place, and the rest as it was.
use Rattle.rules.proofs.Offered.{ℕ, ◌+◌, arith, sym, ap, ◌∙◌, List, ◌++◌, take, drop, length, Post-is, append_assoc, sets-eq}
use Rattle.gearcard.proofs.text.put.Goals as goal

pub returns : goal.returns
returns c =
    let old : List ℕ = c.args.out.now in
    let z : List ℕ = c.copy_from_slice.new.self in
    let a = c.args.at in
    let b = c.args.at + length c.args.src.now in
    record {
      after = omega arith;
      inside = omega arith;
      now_is =
          ap (λ (r : List ℕ). take a old ++ (z ++ r)) (Post-is a b old (omega arith))
          ∙ rw c.copy_from_slice.ensures.after (sym (sets-eq c.args.src.now old a (omega arith) ∙ append_assoc (take a old) c.args.src.now (drop b old)));
    }
