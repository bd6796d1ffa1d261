-- D at a second of a trip.
use Rattle.rules.proofs.Offered.{ℕ, zero, suc, ◌+◌, ◌-◌, ◌≤◌, ◌<◌, add-one, arith, ◌≡◌, sym, ◌∙◌, true, false, List, leb, pos, ◌-ℤ◌, length, le_z, le-leb}
use Rattle.rules.proofs.Offered.{lt-leb, lt-ltb, at, rise, by_order, pos_sub}

-- a second of the trip has a next one
pub rise-here : (us : List ℕ) (j : ℕ) → j + 1 < length us → rise us j ≡ pos (at us (j + 1)) -ℤ pos (at us j)
unfolding rise
rise-here us j l = rw (lt-ltb (suc j) (length us) (omega arith), add-one j)

-- D is 0 or less where the next V is not above this V
pub fall_yes : (a b : ℕ) → b ≤ a → le_z (pos b -ℤ pos a) (pos 0) ≡ true
fall_yes zero b h = let e : b ≡ 0 = omega arith in rw e
fall_yes (suc a) b h =
    by_order b (suc a)
    (λ l. rw (lt-ltb b (suc a) l))
    (λ l. let e : b ≡ suc a = omega arith in rw (pos_sub b (suc a) l, e) (le-leb (suc a - suc a) 0 (omega arith)))

-- and above 0 where it is above
pub fall_no : (a b : ℕ) → a < b → le_z (pos b -ℤ pos a) (pos 0) ≡ false
fall_no a b h = rw (pos_sub b a (omega arith)) (lt-leb (b - a) 0 (omega arith))

-- so the clutch looks at the two speeds
pub falls : (us : List ℕ) (j : ℕ) → j + 1 < length us → le_z (rise us j) (pos 0) ≡ leb (at us (j + 1)) (at us j)
falls us j l =
    let v = at us j in
    let next = at us (j + 1) in
    rw (rise-here us j l)
    (by_order v next (λ h. fall_no v next h ∙ sym (lt-leb next v h)) (λ h. fall_yes v next h ∙ sym (le-leb next v h)))
