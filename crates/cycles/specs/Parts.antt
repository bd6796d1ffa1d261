-- Document 02, request Three: the parts of the cycle, and what filling a room and taking a part of it refuse and give.
use Rattle.std.specs.Prelude.{ℕ, ◌+◌, ◌-◌, List, [], ◌∷◌, length, ltb}
use Rattle.rules.specs.Words.{Option, none, some, at, part}
use Rattle.rules.specs.declared.Vehicle.{Vehicle}
use Rattle.rules.specs.Job.{filled}
use Rattle.rules.specs.Refusals.{Fault, refuse_at, ◌orelse◌, when, left, trace_fault, bad, fault_of, speed, step, ends}
use Rattle.cycles.specs.declared.parts.Stretch.{Stretch}
use Rattle.cycles.specs.Cycle.{cycle}

-- ---- the checks

-- the checks of document 01 that look at the trace alone: 1, then 4 to 6
unfoldable pub trace_checks : Vehicle → List ℕ → List ℕ → Option Fault
trace_checks car vs hs = trace_fault vs orelse fault_of (λ c. bad c car vs hs 0) 0 (length vs) (speed ∷ step ∷ ends ∷ [])

-- ---- the parts

-- the seconds of the cycle, 0 to 1800
unfoldable pub cycle_seconds : ℕ
cycle_seconds = 1801

-- the first second of each part: 0 is the whole cycle, 1 to 4 are its parts, each with the standing second on either side
unfoldable pub first_second : ℕ → ℕ
first_second p = at (0 ∷ 0 ∷ 589 ∷ 1022 ∷ 1477 ∷ []) p

-- the last second of each part, itself included
unfoldable pub last_second : ℕ → ℕ
last_second p = at (1800 ∷ 589 ∷ 1022 ∷ 1477 ∷ 1800 ∷ []) p

-- ---- filling a room

-- the refusals, in this order, of a part number and a room of n places: 18, part number not 1 to 4 or 0 for all; 2, room under 1,801
unfoldable pub fill_fault : ℕ → ℕ → Option Fault
fill_fault p n = refuse_at 18 (when (ltb 4 p) 0) orelse refuse_at 2 (when (ltb n cycle_seconds) 0)

-- the room that filling leaves: the whole cycle, whatever the part, in the first 1,801 places, and beyond them what was there
unfoldable pub fill_room : ℕ → List ℕ → List ℕ
fill_room p room = left (fill_fault p (length room)) room (filled room cycle)

-- the part of a room, from its first second to its last; empty where filling refuses
unfoldable pub part_seconds : ℕ → List ℕ → List ℕ
part_seconds p room = left (fill_fault p (length room)) [] (part room (first_second p) (last_second p + 1))

-- the same as places of a room of n: the first and how many; none where filling refuses
unfoldable pub places : Option Fault → ℕ → Stretch
places none p = record { first = first_second p; count = last_second p + 1 - first_second p }
places (some f) p = record { first = 0; count = 0 }

unfoldable pub stretch : ℕ → ℕ → Stretch
stretch p n = places (fill_fault p n) p
