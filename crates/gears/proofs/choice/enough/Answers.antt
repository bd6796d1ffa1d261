-- `gears::choice::enough`: both products stay inside an i64, by the sizes of their parts.
use Rattle.rules.proofs.Offered.{ℤ, ◌≤◌, nat_abs, pos, E, lit, var, ◌⊗◌, le_read}
use Rattle.rules.proofs.Laws.Range.{fits}
use Rattle.gears.specs.Choosing.{most_E, PowerSized, enough_for}
use Rattle.gears.specs.declared.Power.{Power}
use Rattle.gears.proofs.choice.enough.Goals as goal

-- E x w
abbrev asked : (a : Power) (e : ℤ) → PowerSized a → nat_abs e ≤ most_E → E
asked a e s h = var e most_E h ⊗ var a.w 1000 s.w_in

pub overflow_mul-result-2 : goal.overflow_mul-result-2
overflow_mul-result-2 c = fits (asked c.args.a c.args.e c.requires.sized c.requires.e_in) tt

pub returns : goal.returns
unfolding enough_for
returns c =
    let r = c.requires in
    le_read (asked c.args.a c.args.e r.sized r.e_in) (var c.args.a.q 1000000000000 r.sized.q_in ⊗ lit (pos 3240000)) tt tt
