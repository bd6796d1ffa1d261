-- What the working answers is what the text says.
use Rattle.rules.proofs.Offered.{rules}
use Rattle.gearcard.proofs.Jobs.{done_text, stop_text, room_is}
use Rattle.gearcard.proofs.text.put_worked.Goals as goal

pub put_card-requires-clause-speeds_len_bound : goal.put_card-requires-clause-speeds_len_bound
put_card-requires-clause-speeds_len_bound c = let e = room_is in search rules

pub put_refusal-requires : goal.put_refusal-requires
put_refusal-requires c = let e = room_is in search rules

pub returns-in-Ok : goal.returns-in-Ok
returns-in-Ok c =
    rw (done_text c.args.vehicle c.args.speeds.now c.args.holds.now c.args.card.now c.requires.card_len c.in-Ok.ensures.answer c.in-Ok.ensures.card)
    c.put_card.ensures

pub returns-in-Err : goal.returns-in-Err
returns-in-Err c =
    rw (stop_text c.args.vehicle c.args.speeds.now c.args.holds.now c.args.card.now c.requires.card_len _ c.in-Err.ensures.answer) c.put_refusal.ensures
