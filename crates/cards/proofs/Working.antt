-- Each way out of the whole working.
use Rattle.rules.proofs.Offered.{ℕ, suc, min, arith, ◌≡◌, refl, sym, ◌∙◌, inl, none, List, length, patch, card_at}
use Rattle.rules.proofs.Offered.{card, said, span_fault, work_fault, work_card, by_order, standing_past, trace_in}
use Rattle.rules.specs.declared.Vehicle.{Vehicle}
use Rattle.rules.specs.declared.Refusal.{Refusal}
use Rattle.std.specs.Prelude.{Ok, Err}
use Rattle.checks.specs.Want.{Resting}
use Rattle.checks.proofs.Rows.{opening, Opened, after_opening, opening_first, left_old, left_new}
use Rattle.cards.specs.Rework.{Range, Passes}
use Rattle.cards.proofs.Patches.{patch_all}
use Rattle.cards.proofs.Reworking.{ends_stand}

-- ---- the whole working

module _ (car : Vehicle) (vs hs old : List ℕ) where
  pub work_opening : (q : Refusal) → said {A = Unit {0}} (Err q) ≡ opening car vs hs old
      → (said {A = Unit {0}} (Err q) ≡ work_fault car vs hs old) × (old ≡ work_card car vs hs old)
  unfolding work_fault work_card
  work_opening q e = let f = opening_first car vs hs old (span_fault car vs hs 0 (length vs)) e refl refl in (f, left_old old (card car vs hs) f refl)

-- past the opening
module _ {car : Vehicle} {vs hs old : List ℕ} (O : Opened car vs hs old) where
  -- the whole trace begins and ends with itself
  pub whole_resting : Resting vs 0 (length vs)
  whole_resting = record { some = (trace_in vs O.trace).0; begins = λ z. absurd (z refl); ends = λ z. absurd (z refl) }

  work_is : work_fault car vs hs old ≡ span_fault car vs hs 0 (length vs)
  unfolding work_fault
  work_is = after_opening (span_fault car vs hs 0 (length vs)) O

  pub work-span : (q : Refusal) → said {A = Unit {0}} (Err q) ≡ span_fault car vs hs 0 (length vs)
      → (said {A = Unit {0}} (Err q) ≡ work_fault car vs hs old) × (old ≡ work_card car vs hs old)
  unfolding work_card
  work-span q e = let f = e ∙ sym work_is in (f, left_old old (card car vs hs) f refl)

  -- the whole card
  pub whole-card : patch old 0 (length vs) (card_at car vs hs) ≡ card car vs hs
  unfolding card
  whole-card = let e = O.card_long in rw (← e) (patch_all (card_at car vs hs) old)

  -- where nothing is refused: what the sweep of the whole trace asks, and leaves
  module _ (none_said : span_fault car vs hs 0 (length vs) ≡ none) where
    pub work_passes : Passes car vs hs 0 (length vs)
    work_passes = let m : min (suc (length vs)) (length vs) ≡ length vs = omega arith in rw m none_said

    pub work_range : Range vs hs old 0 (length vs)
    work_range = record {
      holds = O.holds_long;
      room = O.card_long;
      order = omega arith;
      inside = omega arith;
      begins = by_order 0 (length vs) (λ l. ends_stand car vs hs 0 (length vs) none_said 0 (omega arith) l (inl refl)) (λ l. standing_past vs 0 l);
      ends = standing_past vs (length vs) (omega arith);
    }

    pub work_done : {new : List ℕ} → new ≡ patch old 0 (length vs) (card_at car vs hs)
        → (said {A = Unit {0}} (Ok tt) ≡ work_fault car vs hs old) × (new ≡ work_card car vs hs old)
    unfolding work_card said
    work_done c = let f = work_is ∙ none_said in (sym f, c ∙ whole-card ∙ left_new old (card car vs hs) f)
