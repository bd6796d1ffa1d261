-- What the refusals and the parts of the cycle come to.
use Rattle.rules.proofs.Offered.{ℕ, zero, suc, ◌+◌, ◌-◌, ◌≤◌, ◌<◌, arith, ◌≡◌, refl, Option, none, some, List, [], length, ltb, lit≤, lt-ltb, le-ltb}
use Rattle.rules.proofs.Offered.{ltb-false, part, Fault, refuse_at, ◌orelse◌, when, left, orelse_none, when_none}
use Rattle.cycles.specs.Parts.{cycle_seconds, first_second, last_second, fill_fault, places, stretch, part_seconds}

-- ---- the refusals

pub by_fault : (P : Option Fault → Type 0) (f : Option Fault) → P none → ((g : Fault) → P (some g)) → P f
by_fault P none a b = a
by_fault P (some g) a b = b g

pub bad-part : (p n : ℕ) → 4 < p → fill_fault p n ≡ some (record { no = 18; spot = 0 })
unfolding fill_fault refuse_at when ◌orelse◌
bad-part p n h = rw (lt-ltb 4 p h)

pub short_room : (p n : ℕ) → p ≤ 4 → n < 1801 → fill_fault p n ≡ some (record { no = 2; spot = 0 })
unfolding fill_fault refuse_at when ◌orelse◌ cycle_seconds
short_room p n h l = rw (le-ltb 4 p h, lt-ltb n 1801 l)

pub accepted : (p n : ℕ) → p ≤ 4 → 1801 ≤ n → fill_fault p n ≡ none
unfolding fill_fault refuse_at when ◌orelse◌ cycle_seconds
accepted p n h l = rw (le-ltb 4 p h, le-ltb n 1801 l)

-- where nothing is refused the part is one, and the room is long enough
pub accepted_part : (p n : ℕ) → fill_fault p n ≡ none → p ≤ 4
unfolding fill_fault
accepted_part p n e = ltb-false 4 p (when_none 18 (ltb 4 p) 0 (orelse_none _ _ e).0)

pub accepted_room : (p n : ℕ) → fill_fault p n ≡ none → 1801 ≤ n
unfolding fill_fault cycle_seconds
accepted_room p n e = ltb-false n 1801 (when_none 2 (ltb n 1801) 0 (orelse_none _ _ e).1)

-- ---- the parts

-- what holds of each part, and of every number of no part, holds
by_part : (P : ℕ → Type 0) → P 0 → P 1 → P 2 → P 3 → P 4 → ((q : ℕ) → P (suc (suc (suc (suc (suc q)))))) → (p : ℕ) → P p
by_part P a b c d e f zero = a
by_part P a b c d e f (suc zero) = b
by_part P a b c d e f (suc (suc zero)) = c
by_part P a b c d e f (suc (suc (suc zero))) = d
by_part P a b c d e f (suc (suc (suc (suc zero)))) = e
by_part P a b c d e f (suc (suc (suc (suc (suc q))))) = f q

-- a part's last second is not before its first, and is one of the cycle's
pub ordered : (p : ℕ) → (first_second p ≤ last_second p) × (last_second p ≤ 1800)
unfolding first_second last_second
ordered p =
    by_part (λ q. (first_second q ≤ last_second q) × (last_second q ≤ 1800))
    (lit≤ tt, lit≤ tt) (lit≤ tt, lit≤ tt) (lit≤ tt, lit≤ tt) (lit≤ tt, lit≤ tt) (lit≤ tt, lit≤ tt) (λ q. (lit≤ tt, lit≤ tt)) p

-- what holds at the five seconds where parts begin and end holds at the first and the last second of each
pub at_ends : (P : ℕ → Type 0) → P 0 → P 589 → P 1022 → P 1477 → P 1800 → (p : ℕ) → p ≤ 4 → P (first_second p) × P (last_second p)
unfolding first_second last_second
at_ends P a b c d e p h =
    by_part (λ q. q ≤ 4 → P (first_second q) × P (last_second q)) (λ l. (a, e)) (λ l. (a, b)) (λ l. (b, c)) (λ l. (c, d)) (λ l. (d, e))
    (λ q l. absurd (omega arith)) p h

-- ---- a part's places

pub stretch-part : (p n : ℕ) → fill_fault p n ≡ none → stretch p n ≡ record { first = first_second p; count = last_second p + 1 - first_second p }
unfolding stretch places
stretch-part p n e = rw e

pub no_stretch : (p n : ℕ) {f : Fault} → fill_fault p n ≡ some f → stretch p n ≡ record { first = 0; count = 0 }
unfolding stretch places
no_stretch p n e = rw e

-- a part's places are in the room
pub in_room : (p n : ℕ) → (stretch p n).first + (stretch p n).count ≤ n
in_room p n =
    by_fault (λ f. fill_fault p n ≡ f → (stretch p n).first + (stretch p n).count ≤ n) (fill_fault p n)
    (λ e. rw (stretch-part p n e) (omega (arith, (ordered p).0, (ordered p).1, accepted_room p n e)))
    (λ f e. rw (no_stretch p n e) (omega arith)) refl

-- they hold the part
pub part_there : (p : ℕ) (room : List ℕ)
    → part room (stretch p (length room)).first ((stretch p (length room)).first + (stretch p (length room)).count) ≡ part_seconds p room
unfolding part_seconds left
part_there p room =
    by_fault (λ f. fill_fault p (length room) ≡ f → part room (stretch p (length room)).first
    ((stretch p (length room)).first + (stretch p (length room)).count)
    ≡ left f [] (part room (first_second p) (last_second p + 1))) (fill_fault p (length room))
    (λ e. let h : first_second p + (last_second p + 1 - first_second p) ≡ last_second p + 1 = omega (arith, (ordered p).0) in
    rw (stretch-part p (length room) e, h))
    (λ f e. rw (no_stretch p (length room) e)) refl
