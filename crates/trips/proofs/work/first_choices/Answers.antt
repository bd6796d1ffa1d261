-- From the trip's first second on, or from a later one.
use Rattle.rules.proofs.Offered.{◌≡◌, ◌<◌, refl, sym, arith, length, get_or-set_same, rise, and_no, ◌and◌}
use Rattle.std.proofs.lemmas.Bool.Decides.{nat_tests}
use Rattle.trips.proofs.Passes.{pass-start, pass-more}
use Rattle.trips.proofs.Along.{along_end}
use Rattle.trips.proofs.Trip.{way_begins}
use Rattle.trips.proofs.work.first_choices.Goals as goal

pub returns-then-not-begins : goal.returns-then-not-begins
unfolding ◌and◌
returns-then-not-begins c =
    c.later_choices.ensures c.args.begins c.args.last c.args.gs.now
    (record { not_first = rw c.if-not-begins.true; last_is = refl; so_far = pass-start _ _ })

pub returns-then-not-is_empty : goal.returns-then-not-is_empty
returns-then-not-is_empty c =
    let gs = c.args.gs.now in
    let some : 0 < length gs = grind (arith, nat_tests) in
    let first = way_begins _ _ _ _ _ c.args.last gs c.if-not-begins.false (c.choice_first-first.ensures (rise c.args.us.now 0)) in
    c.later_choices-then-not-is_empty.ensures c.args.begins c.args.last gs (record {
      not_first = and_no _ _ refl;
      last_is = sym (get_or-set_same gs 0 _ 0 some);
      so_far = pass-more _ gs gs 0 _ (pass-start _ gs) first;
    })

pub returns-else-not-is_empty : goal.returns-else-not-is_empty
returns-else-not-is_empty c = let none : length c.args.gs.now ≡ 0 = grind (arith, nat_tests) in along_end _ _ (pass-start _ _) (omega arith) (omega arith)
