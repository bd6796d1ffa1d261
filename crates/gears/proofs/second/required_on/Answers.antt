-- `gears::second::required_on`: each product and sum is an expression whose size antt computes.
use Rattle.rules.proofs.Offered.{arith, sym, ◌∙◌, pos, to_z-of_z, small_i32, E, lit, var, is, ◌⊕◌, ◌⊗◌, read, nested, required-nested}
use Rattle.rules.proofs.Laws.Range.{fits}
use Rattle.gears.proofs.second.required_on.Goals as goal
use Rattle.gears.proofs.second.required_on.Goals.{After-from-2, After-from-4}

-- the part of the mass, and with F0
abbrev mass : After-from-2 → E
mass c = lit (pos 2575000) ⊗ var c.args.d 150 c.requires.d_in ⊗ is 4000 c.from-2.ensures c.requires.tm_to

abbrev first : After-from-2 → E
first c = lit (pos 9000000) ⊗ is 10000 c.from.ensures c.requires.f0_to ⊕ mass c

module _ (c : After-from-4) where
  abbrev v : E
  v = is 2000 c.from-v.ensures c.requires.v_to

  abbrev f1 : E
  f1 = is 5000 (c.from-3.ensures ∙ to_z-of_z (small_i32 c.args.road.f1 (omega (arith, c.requires.f1_in)))) c.requires.f1_in

  -- what speed multiplies, from the inside out
  abbrev inner : E
  inner = lit (pos 9000) ⊗ f1 ⊕ v ⊗ (lit (pos 9) ⊗ is 20000 c.from-4.ensures c.requires.f2_to)

  abbrev outer : E → E
  outer before = before ⊕ v ⊗ inner

pub overflow_mul-result-3 : goal.overflow_mul-result-3
overflow_mul-result-3 c = fits (mass c) tt

pub overflow_add-result : goal.overflow_add-result
overflow_add-result c = fits (first c) tt

pub overflow_mul-result-7 : goal.overflow_mul-result-7
overflow_mul-result-7 c = fits (v c ⊗ inner c) tt

pub overflow_add-result-3 : goal.overflow_add-result-3
overflow_add-result-3 c = fits (outer c (first search)) tt

pub overflow_mul-result-8 : goal.overflow_mul-result-8
overflow_mul-result-8 c = fits (v c ⊗ outer c (first search)) tt

pub returns : goal.returns
unfolding nested
returns c = λ car e. read (v c ⊗ outer c (first search)) tt ∙ rw e (sym (required-nested car c.args.v c.args.d))
