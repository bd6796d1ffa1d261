-- The end, or a kind is missing.
use Rattle.rules.proofs.Offered.{◌and◌, hand_on, demand}
use Rattle.exports.specs.Export.{end_read}
use Rattle.exports.proofs.records.end_at.Goals as goal
use Rattle.exports.proofs.records.end_at.Goals.{then-is_none-via-then-is_none, then-is_none-via-else-is_none+then-is_none-2}

pub returns-then-is_none-clause-said : goal.returns-then-is_none-clause-said
unfolding end_read hand_on demand ◌and◌
returns-then-is_none-clause-said c = λ bytes. elim c.then-is_none.branch [
  | then-is_none-via-then-is_none w ↦ rw (c.is_none.ensures, w.if-is_none.true)
  | then-is_none-via-else-is_none+then-is_none-2 w ↦
      rw (c.is_none.ensures, w.if-is_none.false, w.is_none-else-is_none.ensures, w.if-is_none-2.true)
]

pub returns-clause-said : goal.returns-clause-said
unfolding end_read hand_on demand ◌and◌
returns-clause-said c = λ bytes. rw (c.if-is_none.ensures, c.if-is_none-2.ensures)
