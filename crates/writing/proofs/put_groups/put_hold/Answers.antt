-- At each `return` it is known whether there is a hold.
use Rattle.rules.proofs.Offered.{arith, ◌≡◌, ap, ◌≢◌, ℕ, ◌+◌, [], ◌++◌, length, length-append, eq-eqb, ne_eqb, form, form-one}
use Rattle.writing.specs.Writing.{hold_bytes}
use Rattle.reading.proofs.PutInTurn.{put_both, put_none}
use Rattle.writing.proofs.put_groups.put_hold.Goals as goal

no_hold : (s g : ℕ) → g ≡ 0 → hold_bytes s g ≡ []
unfolding hold_bytes
no_hold s g e = rw (eq-eqb g 0 e)

a_hold : (s g : ℕ) → g ≢ 0 → hold_bytes s g ≡ form s ++ form g
unfolding hold_bytes
a_hold s g e = rw (ne_eqb g 0 e)

size : (s g : ℕ) → g ≢ 0 → length (hold_bytes s g) ≡ length (form s) + length (form g)
size s g e = simp length-append at (ap length (a_hold s g e))

pub returns-then-gear-eq0 : goal.returns-then-gear-eq0
returns-then-gear-eq0 c = rw (no_hold c.args.second c.args.gear c.if-gear-eq0.true) (put_none (omega arith))

pub put_short-then-requires : goal.put_short-then-requires
put_short-then-requires c = (c.requires.0, omega (arith, size c.args.second c.args.gear c.if-gear-eq0.false))

pub put_byte-requires : goal.put_byte-requires
put_byte-requires c = omega (arith, ap length (form-one c.args.gear c.requires.1), size c.args.second c.args.gear c.if-gear-eq0.false)

pub returns : goal.returns
returns c =
    rw (a_hold c.args.second c.args.gear c.if-gear-eq0.false, form-one c.args.gear c.requires.1)
    (put_both c.put_short-then.ensures c.put_byte.ensures)
