-- Document 000, Annex 1, "Downscaling procedure for Class 3 vehicles", with exact fractions, and document 02, request Eleven.
use Rattle.std.specs.Prelude.{ℕ, zero, suc, ◌+◌, ◌-◌, not, List, length, ltb, eqb, ℤ, pos, nat_abs, ◌+ℤ◌, ◌-ℤ◌, ◌*ℤ◌, if◌then◌else◌}
use Rattle.rules.specs.Words.{Option, within, nearest, at}
use Rattle.rules.specs.Words.{table}
use Rattle.rules.specs.Refusals.{Fault, refuse_at, ◌orelse◌, when, left}
use Rattle.cycles.specs.Cycle.{cycle}

-- ---- step by step: a numerator over a denominator that never changes, nothing rounded on the way

-- the cycle's own speed at a second
unfoldable pub own : ℕ → ℤ
own i = pos (at cycle i)

-- i seconds after `from`: n there, and each second adds k times the cycle's own step
unfoldable pub steps : ℕ → ℤ → ℤ → ℕ → ℤ
steps from n k zero = n
steps from n k (suc i) = steps from n k i +ℤ k *ℤ (own (from + suc i) -ℤ own (from + i))

-- the rise, i seconds after 1533, over 1,000: the speed at 1533 as it is, then 1 - f times each step; f is in thousandths
unfoldable pub rise_steps : ℕ → ℕ → ℤ
rise_steps f i = steps 1533 (pos 1000 *ℤ own 1533) (pos 1000 -ℤ pos f) i

-- the peak, at 1724, over 1,000
unfoldable pub peak : ℕ → ℤ
peak f = rise_steps f (1724 - 1533)

-- the correction factor, over 1,000 x 487: the peak less 82.6 km/h, the cycle at 1763, over the cycle's 131.3 less 82.6
unfoldable pub correction : ℕ → ℤ
correction f = peak f -ℤ pos 1000 *ℤ own 1763

-- the fall, i seconds after 1724, over 1,000 x 487: from the peak, the correction factor times each step
unfoldable pub fall_steps : ℕ → ℕ → ℤ
fall_steps f i = steps 1724 (pos 487 *ℤ peak f) (correction f) i

-- ---- the scaled cycle

-- of a second i: one thing in the rise, another in the fall, a third before 1533 and from 1763 on
unfoldable pub by_stretch : ℕ → ℕ → ℕ → ℕ → ℕ
by_stretch i rising falling other = if within 1533 1724 i then rising else if within 1725 1762 i then falling else other

-- the scaled speed at a second, rounded once, to the nearest tenth, halves up; outside the stretches it is the cycle's own. No sum is negative (theorems
-- `rise_closed`, `fall_closed`)
unfoldable pub scaled_at : ℕ → ℕ → ℕ
scaled_at f i = by_stretch i (nearest (nat_abs (rise_steps f (i - 1533))) 1000) (nearest (nat_abs (fall_steps f (i - 1724))) 487000) (at cycle i)

-- the scaled cycle, seconds 0 to 1800
unfoldable pub scaled_cycle : ℕ → List ℕ
scaled_cycle f = table (scaled_at f) 0 1801

-- ---- the call

-- the refusals, in this order, of a factor and a room of n places: 23, factor over 500; 2, room not 1,801 seconds
unfoldable pub down_fault : ℕ → ℕ → Option Fault
down_fault f n = refuse_at 23 (when (ltb 500 f) 0) orelse refuse_at 2 (when (not (eqb n 1801)) 0)

-- the room that is left: the scaled cycle, or what was there
unfoldable pub down_room : ℕ → List ℕ → List ℕ
down_room f room = left (down_fault f (length room)) room (scaled_cycle f)
