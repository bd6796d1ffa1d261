-- The demands on the functions of the built-in cycle, over their contracts as the check reads them.
use Rattle.rules.proofs.Offered.{ℕ, ◌≡◌, sym, ◌∙◌, none, some, List, length, Fault, said, filled, left_none}
use Rattle.rules.proofs.Offered.{left_some}
use Rattle.rules.specs.Determined.{AsksNothing, Promises}
use Rattle.rules.specs.Refusals.{Answer}
use Rattle.cycles.specs.Cycle.{cycle}
use Rattle.cycles.specs.Parts.{fill_fault, fill_room}
use Rattle.cycles.proofs.filling.fill.Kinds as fill-kinds
use Rattle.cycles.proofs.filling.fill.Reads as fill-reads
use Rattle.cycles.proofs.parts.stretch_of.Kinds as stretch-kinds
use Rattle.cycles.proofs.parts.stretch_of.Reads as stretch-reads
use Rattle.cycles.proofs.parts.part_of.Kinds as part-kinds
use Rattle.cycles.proofs.parts.part_of.Reads as part-reads

-- ---- demand 1: every part number and every room get an answer, for none of them asks anything of its caller

pub fill_asks_nothing : AsksNothing fill-kinds.ps fill-reads.Asked
fill_asks_nothing κs a = tt

pub stretch_asks_nothing : AsksNothing stretch-kinds.ps stretch-reads.Asked
stretch_asks_nothing κs a = tt

pub part_asks_nothing : AsksNothing part-kinds.ps part-reads.Asked
part_asks_nothing κs a = tt

-- ---- refused exactly where request Three says, and a refusal writes nothing

-- what the contract of `fill` says: an answer, and the room that is left
pub record Filled (part : ℕ) (room : List ℕ) (z : Answer) (room' : List ℕ) : Type 0 where
  pub answer : said z ≡ fill_fault part (length room)
  pub room_left : room' ≡ fill_room part room

pub fill-says : Promises fill-kinds.ps fill-kinds.r fill-reads.Asked fill-reads.Learnt
    (λ κs a z ws. Filled a.0 (a.1.0.now) z ws.1.0)
fill-says κs a asked z ws p = record { answer = p.0; room_left = p.1 }

module _ {part : ℕ} {room : List ℕ} {z : Answer} {room' : List ℕ} (F : Filled part room z room') where
  pub demand_1_table : said z ≡ fill_fault part (length room)
  demand_1_table = F.answer

  pub demand_1_untouched : (q : Fault) → said z ≡ some q → room' ≡ room
  unfolding fill_room
  demand_1_untouched q e = F.room_left ∙ left_some _ _ (sym F.answer ∙ e)

  -- what is accepted fills the first 1,801 places with the cycle, and nothing beyond
  pub three_filled : said z ≡ none → room' ≡ filled room cycle
  unfolding fill_room
  three_filled e = F.room_left ∙ left_none _ _ (sym F.answer ∙ e)
