-- Refused for want of a gear.
use Rattle.rules.proofs.Offered.{ℕ, ◌-◌, ◌≤◌, ◌<◌, arith, ◌≡◌, refl, sym, ap, ◌∙◌, true, false, Option, none, some, List, eqb, length, leb-true, lt-ltb, eq-eqb}
use Rattle.rules.proofs.Offered.{eqb-true, eqb-false, within, at, first, drop, low, moving, rise, closing, fits, first_at, Fault, numbered, refuse_at, when}
use Rattle.rules.proofs.Offered.{no-gear, checks, bad, seconds_fault, work_fault, ◌orelse◌, gear_fault, PassesOthers, role_at, kind, about, driven_facts}
use Rattle.rules.proofs.Offered.{no_facts, gear_facts, gear_list, sentence, why_lo, why_end, row_fault, why_fault, early_fault, said_of, why, by_test, if_ind}
use Rattle.rules.proofs.Offered.{and_left, and_right, none_orelse, gears_last, first_found, moving_in, first_choice_plainly, first_at_is}
use Rattle.rules.specs.declared.Vehicle.{Vehicle}
use Rattle.rules.specs.declared.GearFacts.{GearFacts}
use Rattle.reasons.specs.Says.{Wants}
use Rattle.reasons.proofs.Places.{about_itself, kind-moving}
use Rattle.reasons.proofs.Passed.{even, bounds, said_there, narrower, end_in, later_start, own_rooms}
use Rattle.reasons.proofs.Chosen.{place}

within_to : (lo hi g : ℕ) → within lo hi g ≡ true → g ≤ hi
unfolding within
within_to lo hi g t = leb-true _ _ (and_right _ _ t)

-- ---- refused for want of a gear

module _ (car : Vehicle) (vs hs : List ℕ) (i : ℕ) (e : early_fault car vs hs i ≡ none) (w : bad no-gear car vs hs 0 i ≡ true) where
  wants_moves : moving (at vs i) ≡ true
  unfolding bad
  wants_moves = and_left _ _ w

  wants_none : first_at car vs hs i ≡ 0
  unfolding bad
  wants_none = eqb-true _ _ (and_right _ _ w)

  two : kind vs i ≡ 2
  two = sym (kind-moving vs i wants_moves)

  itself : i ≡ about vs i
  itself = about_itself vs i (λ y. omega (arith, y, two))

  -- no hold, and the rules choose none
  wants_free : at hs i ≡ 0
  wants_free =
      by_test (eqb (at hs i) 0) (λ t. eqb-true _ _ t)
      (λ t. absurd (eqb-false _ _ t (sym (rw t at (first_at_is car vs hs (even car vs hs i e) i wants_moves)) ∙ wants_none)))

  none_fit : (g : ℕ) → g ≤ car.ng → fits car (role_at car vs hs i) (at vs i) g ≡ false
  none_fit g l =
      (first_choice_plainly car (role_at car vs hs i) (at vs i) (rise vs i) (bounds car vs hs i e)).none_fits
      (sym (first_at_is car vs hs (even car vs hs i e) i wants_moves ∙ rw (eq-eqb (at hs i) 0 wants_free)) ∙ wants_none) g l

  listed_none : (g : ℕ) → (gear_facts car (role_at car vs hs i) (closing (drop i vs)) (at vs i) (rise vs i) g).fits ≡ false
  unfolding gear_facts driven_facts no_facts
  listed_none g = if_ind (λ (f : GearFacts). f.fits ≡ false) (within (low car) car.ng g) (λ t. none_fit g (within_to _ _ _ t)) (λ t. refl)

  wants_there : (f : Option Fault) → Wants (said_of car vs hs i i f)
  unfolding said_of gear_list sentence
  wants_there f = record {
    none_chosen = wants_none;
    the_sentence = rw (wants_free, wants_none);
    none_fits = λ g a b. rw (place (gear_facts car (role_at car vs hs i) (closing (drop i vs)) (at vs i) (rise vs i)) g a b) (listed_none g);
  }

  pub wants_said : Wants (why car vs hs i)
  wants_said = let a = itself in rw (said_there car vs hs i e (λ y. omega (arith, y, two)), ← a) (wants_there (why_fault car vs hs i))

nothing_found : {P : Type 0} {f : Fault} → some f ≡ none → P
nothing_found e = let z : ◌≡◌ {A = ℕ} 0 1 = cc in absurd (omega arith)

spot_of : ℕ → Option Fault → ℕ
spot_of i none = i
spot_of i (some f) = f.spot

-- the second that refusal 10 gives
gear_found : (car : Vehicle) (vs hs : List ℕ) (lo hi i : ℕ) → gear_fault car vs hs lo hi ≡ some (numbered 10 i) → bad no-gear car vs hs lo i ≡ true
unfolding gear_fault refuse_at spot_of
gear_found car vs hs lo hi i e = found (first (bad no-gear car vs hs lo) lo (hi - lo)) refl
  where
    found : (o : Option ℕ) → first (bad no-gear car vs hs lo) lo (hi - lo) ≡ o → bad no-gear car vs hs lo i ≡ true
    found none f = nothing_found (sym e ∙ ap (refuse_at 10) f)
    found (some j) f =
        let z : some (numbered 10 j) ≡ some (numbered 10 i) = sym (ap (refuse_at 10) f) ∙ e in
        let y : j ≡ i = ap (spot_of i) z in
        rw (← y) (first_found (bad no-gear car vs hs lo) (hi - lo) lo j f).holds

-- where a trace that passes the other checks is refused by 10, the second given has no gear among those listed that fits
module _ (car : Vehicle) (vs hs old : List ℕ) (P : PassesOthers car vs hs old) (i : ℕ) (r : work_fault car vs hs old ≡ some (numbered 10 i)) where
  wanting_there : bad no-gear car vs hs 0 i ≡ true
  unfolding work_fault
  wanting_there =
      gear_found car vs hs 0 (length vs) i
      (sym (none_orelse _ _ P.one ∙ none_orelse _ _ P.two ∙ none_orelse _ _ P.three ∙ gears_last car vs hs 0 (length vs)
      ∙ none_orelse _ _ P.four_to_nine) ∙ r)

  in_trace : i < length vs
  unfolding bad
  in_trace = moving_in vs i (and_left _ _ wanting_there)

  early_passes : early_fault car vs hs i ≡ none
  unfolding early_fault row_fault when refuse_at ◌orelse◌ seconds_fault
  early_passes =
      none_orelse _ _ P.one ∙ none_orelse _ _ (own_rooms vs hs old P.two) ∙ none_orelse _ _ P.three
      ∙ rw (lt-ltb i (length vs) in_trace)
      (narrower (λ c. bad c car vs hs 0) (λ c. bad c car vs hs (why_lo vs i)) 0 (length vs) (why_lo vs i) (why_end vs i) (omega arith) (end_in vs i in_trace)
      (λ c j a b. later_start car vs hs (why_lo vs i) c j) checks P.four_to_nine)

  pub wants_why : Wants (why car vs hs i)
  wants_why = wants_said car vs hs i early_passes wanting_there
