-- Every step of Q stays inside an i64, by the sizes of its parts.
use Rattle.rules.proofs.Offered.{ℕ, ◌≤◌, ◌<◌, add-one, arith, ◌≡◌, ap, ◌∙◌, List, ℤ, pos, at, E, lit, var, is, ◌⊕◌, ◌⊖◌, ◌⊗◌, read, between, Power}
use Rattle.rules.proofs.Laws.Range.{fits}
use Rattle.gears.proofs.curve.on_segment.Goals as goal

-- numbers of the curve as the code reads them, each with its size
abbrev small : {r : ℤ} (n : List ℕ) (k : ℕ) → ((i : ℕ) → at n i < 65536) → r ≡ pos (at n k) → E
small n k to e = is 65535 e (omega (arith, to k))

abbrev large : {r : ℤ} (p : List ℕ) (k : ℕ) → ((i : ℕ) → at p i < 4294967296) → r ≡ pos (at p k) → E
large p k to e = is 4294967295 e (omega (arith, to k))

-- 1000 p1 w, of w = n2 - n1; Q, with the climb from p1 to p2 and how far x is past n1
abbrev whole : E → E → E → E
whole n1 p1 n2 = lit (pos 1000) ⊗ p1 ⊗ (n2 ⊖ n1)

abbrev climb : E → E → E → E → E
climb n1 p1 p2 x = (p2 ⊖ p1) ⊗ (x ⊖ lit (pos 1000) ⊗ n1)

abbrev speed : (x : ℕ) → x ≤ 65535000 → E
speed x h = var (pos x) 65535000 h

-- two powers are equal by their parts
both : {a b : ℤ} {c d : ℤ} → a ≡ b → c ≡ d → ◌≡◌ {A = Power} (record { Q = a; w = c }) (record { Q = b; w = d })
both e f i = record { Q = e i; w = f i }

pub overflow_mul-q-2 : goal.overflow_mul-q-2
overflow_mul-q-2 c =
    fits (whole (small _ _ c.fits-n c.from-n1.ensures) (large _ _ c.fits-p c.from-p1.ensures) (small _ _ c.fits-n c.from.ensures)) tt

pub overflow_mul-q-4 : goal.overflow_mul-q-4
overflow_mul-q-4 c =
    fits (climb (small _ _ c.fits-n c.from-n1.ensures) (large _ _ c.fits-p c.from-p1.ensures) (large _ _ c.fits-p c.from-2.ensures)
    (speed c.args.x c.requires.small)) tt

pub overflow_add-q : goal.overflow_add-q
overflow_add-q c =
    let n1 = small _ _ c.fits-n c.from-n1.ensures in
    let p1 = large _ _ c.fits-p c.from-p1.ensures in
    fits (whole n1 p1 (small _ _ c.fits-n c.from.ensures) ⊕ climb n1 p1 (large _ _ c.fits-p c.from-2.ensures) (speed c.args.x c.requires.small)) tt

pub returns : goal.returns
unfolding between
returns c =
    let a = c.args in
    let n1 = small _ _ c.fits-n c.from-n1.ensures in
    let p1 = large _ _ c.fits-p c.from-p1.ensures in
    let n2 = small _ _ c.fits-n c.from.ensures in
    both (read (whole n1 p1 n2 ⊕ climb n1 p1 (large _ _ c.fits-p c.from-2.ensures) (speed a.x c.requires.small)) tt) (read (n2 ⊖ n1) tt)
    ∙ ap (λ (t : ℕ). between (at a.n.now a.s) (pos (at a.p.now a.s)) (at a.n.now t) (pos (at a.p.now t)) a.x) (add-one a.s)
