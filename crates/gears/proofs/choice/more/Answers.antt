-- `gears::choice::more`: both products stay inside an i64, by the sizes of their parts.
use Rattle.rules.proofs.Offered.{more, E, var, ◌⊗◌, lt_read}
use Rattle.rules.proofs.Laws.Range.{fits}
use Rattle.gears.specs.Choosing.{PowerSized}
use Rattle.gears.specs.declared.Power.{Power}
use Rattle.gears.proofs.choice.more.Goals as goal

-- the Q of one power by the w of another
abbrev product : (a b : Power) → PowerSized a → PowerSized b → E
product a b s t = var a.q 1000000000000 s.q_in ⊗ var b.w 1000 t.w_in

pub overflow_mul-result : goal.overflow_mul-result
overflow_mul-result c = fits (product c.args.b c.args.a c.requires.1 c.requires.0) tt

pub overflow_mul-result-2 : goal.overflow_mul-result-2
overflow_mul-result-2 c = fits (product c.args.a c.args.b c.requires.0 c.requires.1) tt

pub returns : goal.returns
unfolding more
returns c = lt_read (product c.args.b c.args.a c.requires.1 c.requires.0) (product c.args.a c.args.b c.requires.0 c.requires.1) tt tt
