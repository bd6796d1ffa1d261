-- What is handed on is what the second is, and D.
use Rattle.rules.proofs.Offered.{ℕ, ◌+◌, ◌-◌, ◌<◌, ◌≡◌, sym, ap, ◌∙◌, arith, List, pos, ◌-ℤ◌, at, part, at_part, length, false}
use Rattle.rules.proofs.Offered.{eqb, ne_eqb, get_or-set_same, and_no}
use Rattle.trips.proofs.Clutch.{rise-here}
use Rattle.trips.proofs.Passes.{pass-more}
use Rattle.trips.proofs.Trip.{way_step}
use Rattle.trips.proofs.work.later_choices.Goals as goal

-- the speed that follows second j, of those from the trip's second second on
follows : (us : List ℕ) (j : ℕ) → j + 1 < length us → at (part us 1 (length us)) j ≡ at us (j + 1)
follows us j l = let z : 1 + j ≡ j + 1 = omega arith in at_part us 1 (length us) j (omega arith) ∙ ap (λ i. at us i) z

pub choice_after-before-requires : goal.choice_after-before-requires
choice_after-before-requires c =
    let j = c.loop-j.j in
    let inside : j < length c.args.hs.now = omega (arith, c.requires.1.gears) in
    let further : j + 1 < length c.args.us.now = omega (arith, c.requires.1.speeds) in
    let d = rise-here c.args.us.now j further ∙ ap (λ v. pos v -ℤ pos (at c.args.us.now j)) (sym (follows c.args.us.now j further)) in
    (record { v_to = c.requires.0.speed j inside; d_in = rw (← d) (c.requires.0.step j inside) }, rw c.search_of-search.ensures.car c.loop-j.invariant.segment)

pub loop-j-preserved : goal.loop-j-preserved
loop-j-preserved c =
    let j = c.loop-j.j in
    let x : j + 1 - 1 ≡ j = omega arith in
    let y : eqb (j + 1) 0 ≡ false = ne_eqb (j + 1) 0 (λ z. omega arith) in
    let further : j + 1 < length c.args.us.now = omega (arith, c.requires.1) in
    let d = rise-here c.args.us.now j further ∙ ap (λ v. pos v -ℤ pos (at c.args.us.now j)) (sym (follows c.args.us.now j further)) in record {
      segment = rw c.search_of-search.ensures.car at c.choice_after-before.ensures.segment;
      way = λ begins was base start. let w = c.loop-j.invariant.way begins was base start in record {
        not_first = and_no _ _ y;
        last_is = rw (y, x) (sym (get_or-set_same c.loop-j.gs j c.choice_after-before.result.gear 0 (omega arith)));
        so_far = pass-more _ _ _ _ _ w.so_far
            (way_step _ _ _ begins _ was _ _ _ w.not_first w.last_is (rw d (rw c.search_of-search.ensures.car at c.choice_after-before.ensures.gear)));
      };
    }
