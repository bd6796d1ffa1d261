-- Request Nine, over the contract of `summary_of` as the check reads it. Of the edits it stands in rules/proofs/Demands.
use Rattle.rules.proofs.Offered.{ℕ, ◌≡◌, sym, ◌∙◌, none, List, [], Lasts, at_exit, Lfts, Dens, ended_of, res_t, said, summary, summary_fault, counted_summary}
use Rattle.rules.proofs.Offered.{left_none}
use Rattle.std.specs.Prelude.{Result}
use Rattle.std.specs.Result.{result_unwrap_or}
use Rattle.rules.specs.declared.Refusal.{Refusal}
use Rattle.rules.specs.declared.Summary.{Summary}
use Rattle.summaries.proofs.whole.summary_of.Kinds as summary-of-kinds
use Rattle.summaries.proofs.whole.summary_of.Reads as summary-of-reads

-- what the contract says: an answer, and the summary that is told
pub record CountedOf (vs bs : List ℕ) (z : Result Summary Refusal) : Type 0 where
  pub answer : said z ≡ summary_fault vs bs
  pub summary_told : result_unwrap_or z (summary [] []) ≡ counted_summary vs bs

pub summary-says : (κs : Lfts 1) (a : Dens κs summary-of-kinds.ps) → summary-of-reads.Asked κs a
    → (z : (res_t summary-of-kinds.r κs).Denot) (ws : Lasts (ended_of 1 summary-of-kinds.ps summary-of-kinds.r) κs a)
    → summary-of-reads.Learnt κs a z (at_exit (ended_of 1 summary-of-kinds.ps summary-of-kinds.r) κs a ws) → CountedOf (a.0.now) (a.1.0.now) z
summary-says κs a asked z ws p = record { answer = p.0; summary_told = p.1 }

-- every speeds and card get an answer
pub demand_1_asks_nothing : (κs : Lfts 1) (a : Dens κs summary-of-kinds.ps) → summary-of-reads.Asked κs a
demand_1_asks_nothing κs a = tt

-- the summary of a card that is not refused is the count over the whole of it
pub nine_whole : {vs bs : List ℕ} {z : Result Summary Refusal} → CountedOf vs bs z → said z ≡ none → result_unwrap_or z (summary [] []) ≡ summary vs bs
unfolding counted_summary
nine_whole C e = C.summary_told ∙ left_none _ _ (sym C.answer ∙ e)
