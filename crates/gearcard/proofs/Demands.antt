-- The demands on the card program's text, over the contract of `answer` as the check reads it.
use Rattle.rules.proofs.Offered.{printed}
use Rattle.rules.specs.Determined.{AsksNothing, Promises}
use Rattle.gearcard.specs.Printing.{Begins}
use Rattle.gearcard.proofs.text.answer.Kinds as answer-kinds
use Rattle.gearcard.proofs.text.answer.Reads as answer-reads

-- demand 1: every list of bytes gets an answer, for `answer` asks nothing of its caller
pub answer_asks_nothing : AsksNothing answer-kinds.ps answer-reads.Asked
answer_asks_nothing κs a = tt

-- what its contract says: the memory begins with what document 01 prints of the job, and goes on as it was
pub answer-says : Promises answer-kinds.ps answer-kinds.r answer-reads.Asked answer-reads.Learnt
    (λ κs a z ws. Begins (printed (a.0.now)) (a.1.0.now) z ws.1.0)
answer-says κs a asked z ws p = p
