-- The places of the part are in the room and hold it.
use Rattle.rules.proofs.Offered.{◌+◌, ◌≤◌, length, rules}
use Rattle.cycles.proofs.Stretches.{in_room, part_there}
use Rattle.cycles.proofs.parts.part_of.Goals as goal
use Rattle.cycles.proofs.parts.part_of.Goals.{After-stretch_of-first}

-- where the part stands is known, and in the room
there : (c : After-stretch_of-first) → c.stretch_of-first.result.first + c.stretch_of-first.result.count ≤ length c.args.room.now
there c = rw c.stretch_of-first.ensures (in_room c.args.part (length c.args.room.now))

pub overflow_add-result : goal.overflow_add-result
overflow_add-result c = let h = there (goal.at.overflow_add-result c).After-stretch_of-first in search rules

pub offset_bounds-room-first : goal.offset_bounds-room-first
offset_bounds-room-first c = let h = there (goal.at.offset_bounds-room-first c).After-stretch_of-first in search rules

pub slice_bounds-result-end : goal.slice_bounds-result-end
slice_bounds-result-end c = let h = there (goal.at.slice_bounds-result-end c).After-stretch_of-first in search rules

pub returns : goal.returns
returns c = rw c.stretch_of-first.ensures (part_there _ _)
