-- The demands on the whole working, over the contract of `work` as the check reads it, and document 01's definitions. Those on the edits stand in
-- rules/proofs/Demands, once for all.
use Rattle.rules.proofs.Offered.{ℕ, ◌<◌, zero-add, ◌≡◌, sym, ap, ◌∙◌, ◌↔◌, none, some, List, length, Lasts, at_exit, Lfts, Dens, ended_of, res_t, at}
use Rattle.rules.proofs.Offered.{card_at, card, Fault, said, work_fault, showing, Wanting, PassesOthers, Right, Spares, at_table, anew}
use Rattle.rules.proofs.Demands.{Worked}
use Rattle.rules.proofs.Outcomes.{work_meets_1, work_meets_2}
use Rattle.rules.specs.Vocabulary.Demands.{Demand1, Demand2}
use Rattle.rules.proofs.Theorems.Edits.{right_card_spares}
use Rattle.rules.specs.declared.Vehicle.{Vehicle}
use Rattle.rules.specs.Refusals.{Answer}
use Rattle.rules.specs.declared.Summary.{Summary}
use Rattle.cards.proofs.whole.work.Kinds as work-kinds
use Rattle.cards.proofs.whole.work.Reads as work-reads

-- what the contract of `work` says
pub work-says : (κs : Lfts 2) (a : Dens κs work-kinds.ps) → work-reads.Asked κs a
    → (z : (res_t work-kinds.r κs).Denot) (ws : Lasts (ended_of 2 work-kinds.ps work-kinds.r) κs a)
    → work-reads.Learnt κs a z (at_exit (ended_of 2 work-kinds.ps work-kinds.r) κs a ws)
    → Worked a.0 (a.1.0.now) (a.1.1.0.now) (a.1.1.1.0.now) z ws.1.1.1.0
work-says κs a asked z ws p = record { answer = p.0; card_left = p.1 }

-- demand 1: every input gets an answer, for `work` asks nothing of its caller
pub demand_1_asks_nothing : (κs : Lfts 2) (a : Dens κs work-kinds.ps) → work-reads.Asked κs a
demand_1_asks_nothing κs a = tt

module _ {car : Vehicle} {vs hs old : List ℕ} {z : Answer} {new : List ℕ} (W : Worked car vs hs old z new) where
  -- the demand as `Demand1` has it, by which impostors are turned away: refused by number and place exactly where the table says, and a refusal changes no byte
  pub demand_1 : Demand1 car vs hs old (said z) new
  demand_1 = rw (W.answer, W.card_left) (work_meets_1 car vs hs old)

  pub demand_1_table : said z ≡ work_fault car vs hs old
  demand_1_table = demand_1.table

  pub demand_1_untouched : (q : Fault) → said z ≡ some q → new ≡ old
  demand_1_untouched = demand_1.untouched

  -- ---- Demand 2. An accepted trace gets, at every second, the gear and clutch that document 01 prescribes. Of the job, in both directions, it stands in
  -- the Demands of `writing`

  pub demand_2 : Demand2 car vs hs old (said z) new
  demand_2 = rw (W.answer, W.card_left) (work_meets_2 car vs hs old)

  pub demand_2_card : said z ≡ none → new ≡ card car vs hs
  demand_2_card = demand_2.prescribed

  pub demand_2_second : said z ≡ none → (i : ℕ) → i < length vs → at new i ≡ card_at car vs hs i
  unfolding card
  demand_2_second e i l = ap (λ (c : List ℕ). at c i) (demand_2_card e) ∙ at_table (card_at car vs hs) 0 (length vs) i l ∙ rw zero-add

  -- a trace that passes the other checks is refused for want of a gear exactly when some second is wanting
  pub demand_2_want : PassesOthers car vs hs old → ((i : ℕ) × (said z ≡ some (record { no = 10; spot = i }))) ↔ ((i : ℕ) × Wanting car vs hs i)
  demand_2_want = demand_2.want

  -- and by nothing else than 10
  pub demand_2_by_10 : PassesOthers car vs hs old → (q : Fault) → said z ≡ some q → q.no ≡ 10
  demand_2_by_10 = demand_2.by_10

  -- the card is right where the working accepts, for the screen that shows it with any summary
  pub worked_right : (n : Summary) → said z ≡ none → Right car (showing vs hs new n)
  worked_right n e = anew car old (showing vs hs new n) (sym W.answer ∙ e) W.card_left

  -- ---- Request Twelve: no card over-revs an engine, after the whole working

  pub twelve_work : (n : Summary) → said z ≡ none → (i : ℕ) → Spares car vs hs new i
  twelve_work n e = right_card_spares car (showing vs hs new n) (worked_right n e)
