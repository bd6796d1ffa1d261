-- A trace that is no longer than the longest, never too fast or too steep, and at rest at both ends, passes the checks that look at the trace alone; so
-- does a part of it that begins and ends at rest.
use Rattle.rules.proofs.Offered.{ℕ, zero, suc, ◌+◌, ◌-◌, ◌≤◌, ◌<◌, add-zero, add-suc, arith, ◌≡◌, refl, ap, ◌∙◌, true, false, not, none, List, eqb, length}
use Rattle.rules.proofs.Offered.{lt-ltb, le-ltb, le-leb, eqb-true, ◌and◌, ◌or◌, within, at, part, first, longest, moving, refuse_at, trace_fault, Check, speed}
use Rattle.rules.proofs.Offered.{step, ends, check_number, bad, fault_of, by_test, and_no, length_part, at_part, first_none, none_orelse, none_when}
use Rattle.rules.specs.declared.Vehicle.{Vehicle}
use Rattle.cycles.specs.Parts.{trace_checks}
use Rattle.cycles.proofs.Table.{Near}

pub record Driven (vs : List ℕ) : Type 0 where
  pub some_second : 1 ≤ length vs
  pub not_long : length vs ≤ longest
  pub slow_at : (i : ℕ) → i < length vs → at vs i ≤ 2000
  pub near_at : (i : ℕ) → suc i < length vs → Near (at vs i) (at vs (suc i))
  pub begins : moving (at vs 0) ≡ false
  pub comes_to_rest : moving (at vs (length vs - 1)) ≡ false

both_hold : not (true and true) ≡ false
unfolding ◌and◌
both_hold = refl

module _ {vs : List ℕ} (d : Driven vs) (car : Vehicle) (hs : List ℕ) where
  no_speed : (i : ℕ) → i < length vs → bad speed car vs hs 0 i ≡ false
  unfolding bad
  no_speed i h = le-ltb 2000 (at vs i) (d.slow_at i h)

  no_step : (i : ℕ) → i < length vs → bad step car vs hs 0 i ≡ false
  unfolding bad ◌and◌ ◌or◌
  no_step zero h = refl
  no_step (suc i) h =
      let e : suc i - 1 ≡ i = omega arith in
      let n = d.near_at i h in
      rw (lt-ltb 0 (suc i) (omega arith), e, le-ltb (at vs i + 150) (at vs (suc i)) n.up, le-ltb (at vs (suc i) + 150) (at vs i) n.down)

  -- the ends are at rest, and no other second counts
  no_end : (i : ℕ) → i < length vs → bad ends car vs hs 0 i ≡ false
  unfolding bad ◌and◌ ◌or◌
  no_end i h =
      by_test (eqb i 0) (λ a. rw (eqb-true i 0 a, d.begins))
      (λ a.
      by_test (eqb (suc i) (length vs))
      (λ b. let e : i ≡ length vs - 1 = omega (arith, eqb-true (suc i) (length vs) b) in rw (e, d.comes_to_rest))
      (λ b. rw (a, b) (and_no (moving (at vs i)) false refl)))

  none_bad : (c : Check) → ((i : ℕ) → i < length vs → bad c car vs hs 0 i ≡ false) → refuse_at (check_number c) (first (bad c car vs hs 0) 0 (length vs - 0))
      ≡ none
  unfolding refuse_at
  none_bad c h = ap (refuse_at (check_number c)) (first_none (bad c car vs hs 0) (length vs - 0) 0 (λ i l m. h i (omega arith)))

  no_trace : trace_fault vs ≡ none
  unfolding trace_fault within
  no_trace = none_when 1 _ 0 (rw (le-leb 1 (length vs) d.some_second, le-leb (length vs) longest d.not_long) (both_hold))

  pub passes : trace_checks car vs hs ≡ none
  unfolding trace_checks fault_of
  passes = none_orelse _ _ no_trace ∙ none_orelse _ _ (none_bad speed no_speed) ∙ none_orelse _ _ (none_bad step no_step)
      ∙ none_orelse _ _ (none_bad ends no_end)

-- a part that begins at rest, at a, and ends at rest, at b
pub driven_part : {vs : List ℕ} → Driven vs → (a b : ℕ) → a ≤ b → b < length vs → moving (at vs a) ≡ false → moving (at vs b) ≡ false
    → Driven (part vs a (b + 1))
driven_part {vs} d a b le h first-rests last-rests =
    let n : length (part vs a (b + 1)) ≡ b + 1 - a = length_part vs a (b + 1) (omega arith) in
    record {
      some_second = omega arith;
      not_long = omega (arith, d.not_long);
      slow_at = λ i l. rw (at_part vs a (b + 1) i (omega arith)) (d.slow_at (a + i) (omega arith));
      near_at = λ i l. rw (at_part vs a (b + 1) i (omega arith), at_part vs a (b + 1) (suc i) (omega arith), add-suc a i) (d.near_at (a + i) (omega arith));
      begins = rw (at_part vs a (b + 1) 0 (omega arith), add-zero a) first-rests;
      comes_to_rest = let e : a + (length (part vs a (b + 1)) - 1) ≡ b = omega arith in
          rw (at_part vs a (b + 1) (length (part vs a (b + 1)) - 1) (omega arith), e) last-rests;
    }
