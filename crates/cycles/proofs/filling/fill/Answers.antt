-- Refused, or the table is copied, which is the definition's cycle.
use Rattle.rules.proofs.Offered.{sym, said, left}
use Rattle.cycles.specs.Cycle.{cycle, low_phase, medium_phase, high_phase, extra_high_phase}
use Rattle.cycles.specs.Parts.{fill_room}
use Rattle.cycles.proofs.Stretches.{accepted_room}
use Rattle.cycles.proofs.filling.fill.Goals as goal
use Rattle.cycles.proofs.filling.fill.Goals.{In_ok-check_part}

pub returns-in_err-check_part-clause-room : goal.returns-in_err-check_part-clause-room
unfolding said fill_room left
returns-in_err-check_part-clause-room c = rw (← c.in_err-check_part.ensures)

-- past the check the room has a place for each second
pub copy_in-requires : goal.copy_in-requires
unfolding said
copy_in-requires c = accepted_room _ _ (sym (goal.at.copy_in-requires c).In_ok-check_part.in_ok-check_part.ensures)

pub returns-clause-room : goal.returns-clause-room
unfolding said fill_room left cycle low_phase medium_phase high_phase extra_high_phase
returns-clause-room c = rw (← c.in_ok-check_part.ensures, c.copy_in.ensures)
