-- The demands on downscaling, over the contracts of its two functions as the check reads them.
use Rattle.rules.proofs.Offered.{ℕ, ◌≡◌, sym, ◌∙◌, none, some, List, length, Fault, said, left_none, left_some}
use Rattle.rules.specs.Determined.{AsksNothing, Promises}
use Rattle.rules.specs.Refusals.{Answer}
use Rattle.downscale.specs.Steps.{scaled_cycle, down_fault, down_room}
use Rattle.downscale.proofs.closed.downscale.Kinds as closed-kinds
use Rattle.downscale.proofs.closed.downscale.Reads as closed-reads
use Rattle.downscale.proofs.stepwise.downscale_steps.Kinds as steps-kinds
use Rattle.downscale.proofs.stepwise.downscale_steps.Reads as steps-reads

-- ---- demand 1: every factor and every room get an answer, for neither asks anything of its caller

pub downscale_asks_nothing : AsksNothing closed-kinds.ps closed-reads.Asked
downscale_asks_nothing κs a = tt

pub steps_ask_nothing : AsksNothing steps-kinds.ps steps-reads.Asked
steps_ask_nothing κs a = tt

-- ---- refused exactly where request Eleven says, and a refusal writes nothing

-- what both contracts say: an answer, and the room that is left
pub record Scaled (factor : ℕ) (room : List ℕ) (z : Answer) (room' : List ℕ) : Type 0 where
  pub answer : said z ≡ down_fault factor (length room)
  pub room_left : room' ≡ down_room factor room

pub downscale-says : Promises closed-kinds.ps closed-kinds.r closed-reads.Asked closed-reads.Learnt
    (λ κs a z ws. Scaled a.0 (a.1.0.now) z ws.1.0)
downscale-says κs a asked z ws p = record { answer = p.0; room_left = p.1 }

pub steps-say : Promises steps-kinds.ps steps-kinds.r steps-reads.Asked steps-reads.Learnt
    (λ κs a z ws. Scaled a.0 (a.1.0.now) z ws.1.0)
steps-say κs a asked z ws p = record { answer = p.0; room_left = p.1 }

module _ {factor : ℕ} {room : List ℕ} {z : Answer} {room' : List ℕ} (S : Scaled factor room z room') where
  pub demand_1_table : said z ≡ down_fault factor (length room)
  demand_1_table = S.answer

  pub demand_1_untouched : (q : Fault) → said z ≡ some q → room' ≡ room
  unfolding down_room
  demand_1_untouched q e = S.room_left ∙ left_some _ _ (sym S.answer ∙ e)

  -- what is accepted is the scaled cycle
  pub eleven_scaled : said z ≡ none → room' ≡ scaled_cycle factor
  unfolding down_room
  eleven_scaled e = S.room_left ∙ left_none _ _ (sym S.answer ∙ e)
