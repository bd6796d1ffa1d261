-- "Room beyond is untouched": a lent room that is filled from its start keeps every place past the values, and its length where they fit.
use Rattle.rules.proofs.Base.{ℕ, ◌+◌, ◌-◌, ◌≤◌, zero-add, suc-add, arith, ◌≡◌, refl, sym, ap, ◌∙◌, Option, none, some, List, [], ◌∷◌, ◌++◌, length, drop}
use Rattle.rules.proofs.Base.{length-append, length-drop, get_or-drop}
use Rattle.rules.specs.Words.{at}
use Rattle.rules.specs.Refusals.{Fault, left}
use Rattle.rules.specs.Job.{filled}

past_first : (u v : List ℕ) (k : ℕ) → at (u ++ v) (length u + k) ≡ at v k
past_first [] v k = rw zero-add
past_first (x ∷ u) v k = rw suc-add (past_first u v k)

pub filled_beyond : (room values : List ℕ) (i : ℕ) → length values ≤ i → at (filled room values) i ≡ at room i
unfolding filled
filled_beyond room values i h =
    let e : length values + (i - length values) ≡ i = omega arith in
    ap (at (values ++ drop (length values) room)) (sym e) ∙ past_first values (drop (length values) room) (i - length values)
    ∙ get_or-drop (length values) room (i - length values) 0 ∙ ap (at room) e

pub filled-length : (room values : List ℕ) → length values ≤ length room → length (filled room values) ≡ length room
unfolding filled
filled-length room values h = rw (length-append, length-drop) (omega arith)

-- and where nothing is written all of it
pub left_beyond : (q : Option Fault) (room values : List ℕ) (i : ℕ) → left q 0 (length values) ≤ i → at (left q room (filled room values)) i ≡ at room i
unfolding left
left_beyond none room values i h = filled_beyond room values i h
left_beyond (some f) room values i h = refl
