-- The heading and the lines.
use Rattle.rules.proofs.Offered.{heading, card_text}
use Rattle.reading.proofs.PutInTurn.{put_both}
use Rattle.gearcard.proofs.text.put_card.Goals as goal

pub returns : goal.returns
unfolding card_text heading
returns c = put_both c.put-at.ensures c.put_lines.ensures
