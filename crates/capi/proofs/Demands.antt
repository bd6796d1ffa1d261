-- The demands on the C functions, over their contracts as the check reads them. A C caller sees a number and a place: number 0 exactly where nothing is
-- refused. What the working and the edits promise stands in the Demands of `cards` and of `rules`, and is cited.
use Rattle.rules.proofs.Offered.{ℕ, ◌<◌, ◌≤◌, arith, ◌≡◌, refl, sym, ap, ◌∙◌, ◌≢◌, ◌↔◌, false, Option, none, some, List, [], length, at, card, card_at, shown}
use Rattle.rules.proofs.Offered.{Fault, said, work_fault, work_card, Screen, showing, second, asked_speeds, asked_holds, span, edit_fault, edited, Wanting}
use Rattle.rules.proofs.Offered.{PassesOthers, Right, Spares, Out, none_held, Told, told_from_1, work-told, edit_told, summary}
use Rattle.rules.proofs.Demands.{Worked, EditedBy, EditedWith}
use Rattle.rules.proofs.Theorems.Cards.{want_of_a_gear}
use Rattle.rules.proofs.Theorems.Edits.{edit_as_whole, zero_held_by_7}
use Rattle.rules.specs.declared.Vehicle.{Vehicle}
use Rattle.rules.specs.declared.Summary.{Summary}
use Rattle.rules.specs.declared.Edit.{Edit}
use Rattle.rules.specs.declared.Edit.TheVariants.{Hold}
use Rattle.rules.proofs.Demands as rules-says
use Rattle.cards.proofs.Demands as cards-says
use Rattle.capi.specs.declared.Verdict.{Verdict}
use Rattle.capi.specs.Verdicts.{as_verdict}

-- ---- a number and a place

-- number 0 exactly where nothing is refused
pub number_0 : (q : Option Fault) → Told q → ((as_verdict q).number ≡ 0) ↔ (q ≡ none)
unfolding as_verdict
number_0 none t = (λ e. refl, λ e. refl)
number_0 (some f) t = (λ e. absurd (told_from_1 t e), λ e. ap (λ (o : Option Fault). (as_verdict o).number) e)

-- any other number is a refusal's
pub some_refusal : (q : Option Fault) → (as_verdict q).number ≢ 0 → (f : Fault) × (q ≡ some f)
unfolding as_verdict
some_refusal none n = absurd (n refl)
some_refusal (some f) n = (f, refl)

-- number 10 is the refusal for want of a gear
by_ten : (q : Option Fault) (i : ℕ) → as_verdict q ≡ record { number = 10; place = i } → q ≡ some (record { no = 10; spot = i })
unfolding as_verdict
by_ten none i e = let n : ◌≡◌ {A = ℕ} 0 10 = ap (λ (v : Verdict). v.number) e in absurd (omega arith)
by_ten (some f) i e = let n : f.no ≡ 10 = ap (λ (v : Verdict). v.number) e in let p : f.spot ≡ i = ap (λ (v : Verdict). v.place) e in
    λ k. some (record { no = n k; spot = p k })

as_ten : {q : Option Fault} {i : ℕ} → q ≡ some (record { no = 10; spot = i }) → as_verdict q ≡ record { number = 10; place = i }
unfolding as_verdict
as_ten e = rw e

no_counts : Summary
no_counts = summary [] []

-- ---- the whole working

-- what a contract says: a number and a place, and the card that is left
pub record CWorked (car : Vehicle) (vs hs old : List ℕ) (z : Verdict) (new : List ℕ) : Type 0 where
  pub answer : z ≡ as_verdict (work_fault car vs hs old)
  pub card_left : new ≡ work_card car vs hs old

module _ {car : Vehicle} {vs hs old : List ℕ} {z : Verdict} {new : List ℕ} (W : CWorked car vs hs old z new) where
  -- an answer of the working that says so: with it all that the Demands of `cards` have
  pub as_worked : Worked car vs hs old (work-told car vs hs old).answer new
  as_worked = record { answer = (work-told car vs hs old).says; card_left = W.card_left }

  -- demand 1: accepted by number 0, and exactly where the table refuses nothing; any other number changes no byte
  pub demand_1_number_0 : (z.number ≡ 0) ↔ (work_fault car vs hs old ≡ none)
  demand_1_number_0 = rw W.answer (number_0 (work_fault car vs hs old) (work-told car vs hs old))

  accepted : z.number ≡ 0 → said (work-told car vs hs old).answer ≡ none
  accepted e = as_worked.answer ∙ demand_1_number_0.0 e

  pub demand_1_untouched : z.number ≢ 0 → new ≡ old
  demand_1_untouched n =
      let r = some_refusal (work_fault car vs hs old) (rw (← W.answer) n) in
      cards-says.demand_1_untouched as_worked r.0 (as_worked.answer ∙ r.1)

  -- demand 2: number 0 leaves, at every second, the gear and clutch that document 01 prescribes
  pub demand_2_card : z.number ≡ 0 → new ≡ card car vs hs
  demand_2_card e = cards-says.demand_2_card as_worked (accepted e)

  pub demand_2_second : z.number ≡ 0 → (i : ℕ) → i < length vs → at new i ≡ card_at car vs hs i
  demand_2_second e = cards-says.demand_2_second as_worked (accepted e)

  -- and a trace that passes the other checks is refused for want of a gear exactly when some second is wanting
  pub demand_2_want : PassesOthers car vs hs old → ((i : ℕ) × (z ≡ record { number = 10; place = i })) ↔ ((i : ℕ) × Wanting car vs hs i)
  demand_2_want P =
      let t = want_of_a_gear car vs hs old P in
      (λ r. t.0 (r.0, by_ten (work_fault car vs hs old) r.0 (sym W.answer ∙ r.1)), λ w. let r = t.1 w in (r.0, W.answer ∙ as_ten r.1))

  -- request Twelve: number 0 leaves no second at which the card over-revs the engine
  pub twelve_work : z.number ≡ 0 → (i : ℕ) → Spares car vs hs new i
  twelve_work e = cards-says.twelve_work as_worked no_counts (accepted e)

  -- and the card is right, for the screen that shows it with any summary
  pub worked_right : (n : Summary) → z.number ≡ 0 → Right car (showing vs hs new n)
  worked_right n e = cards-says.worked_right as_worked n (accepted e)

-- ---- the edits

-- what a contract says: a number and a place, and the screen y that is left of x
pub record CEdited (car : Vehicle) (e : Edit) (x : Screen) (z : Verdict) (y : Screen) : Type 0 where
  pub answer : z ≡ as_verdict (edit_fault car e x)
  pub speeds_left : y.speeds ≡ (edited car e x).speeds
  pub holds_left : y.holds ≡ (edited car e x).holds
  pub card_left : y.card ≡ (edited car e x).card
  pub summary_left : y.summary ≡ (edited car e x).summary

module _ {car : Vehicle} {e : Edit} {x : Screen} {z : Verdict} {y : Screen} (E : CEdited car e x z y) where
  -- an answer of the edit that says so: with it all that rules/proofs/Demands has of an edit and of a run of edits
  pub as_edited : EditedWith car e x (edit_told car e x).answer y
  as_edited = record {
    lists = record { answer = (edit_told car e x).says; speeds_left = E.speeds_left; holds_left = E.holds_left; card_left = E.card_left };
    summary_left = E.summary_left;
  }

  -- demand 1
  pub edit_number_0 : (z.number ≡ 0) ↔ (edit_fault car e x ≡ none)
  edit_number_0 = rw E.answer (number_0 (edit_fault car e x) (edit_told car e x))

  edit_accepted : z.number ≡ 0 → said (edit_told car e x).answer ≡ none
  edit_accepted n = (edit_told car e x).says ∙ edit_number_0.0 n

  pub edit_untouched : z.number ≢ 0 → (y.speeds ≡ x.speeds) × (y.holds ≡ x.holds) × (y.card ≡ x.card) × (y.summary ≡ x.summary)
  edit_untouched n =
      let r = some_refusal (edit_fault car e x) (rw (← E.answer) n) in
      let l = rules-says.demand_1_untouched as_edited.lists r.0 ((edit_told car e x).says ∙ r.1) in
      (l.0, l.1, l.2, rules-says.nine_refused as_edited r.0 ((edit_told car e x).says ∙ r.1))

  -- demand 3: the very card, or the very number and place, that working the whole afresh would give; of holding for gears from 1
  pub demand_3_as_whole : Right car x → second e < length x.speeds → none_held e ≡ false → {t : Verdict} {fresh : List ℕ}
      → CWorked car (asked_speeds e x.speeds) (asked_holds e x.holds) x.card t fresh → (z ≡ t) × (y.card ≡ fresh)
  demand_3_as_whole R l h W =
      let w = edit_as_whole car e x R l h in
      (E.answer ∙ ap as_verdict w.0 ∙ sym W.answer, E.card_left ∙ w.1 ∙ sym W.card_left)

  -- whether the card was right or not, no byte changes outside the span, and no speed and no hold but those of the second
  pub demand_3_frame : (i : ℕ) → Out (span e x.speeds).lo (span e x.speeds).hi i → at y.card i ≡ at x.card i
  demand_3_frame = rules-says.demand_3_frame as_edited.lists

  pub demand_3_frame_speeds : (i : ℕ) → i ≢ second e → at y.speeds i ≡ at x.speeds i
  demand_3_frame_speeds = rules-says.demand_3_frame_speeds as_edited.lists

  pub demand_3_frame_holds : (i : ℕ) → i ≢ second e → at y.holds i ≡ at x.holds i
  demand_3_frame_holds = rules-says.demand_3_frame_holds as_edited.lists

  -- a right card stays right
  pub demand_3_stays : Right car x → Right car y
  demand_3_stays = rules-says.demand_3_stays as_edited.lists

  -- request Twelve: right or not, at every second that an accepted edit re-works
  pub twelve_edit : z.number ≡ 0 → let r = span e (asked_speeds e x.speeds) in
      (i : ℕ) → r.lo ≤ i → i < r.hi → Spares car y.speeds y.holds y.card i
  twelve_edit n = rules-says.twelve_edit as_edited.lists (edit_accepted n)

-- a held second shows the held gear; gear 0 is refused by 7
pub demand_3_shows : {car : Vehicle} {s g : ℕ} {x : Screen} {z : Verdict} {y : Screen} → CEdited car (Hold s g) x z y → z.number ≡ 0
    → shown (at y.card s) ≡ g
demand_3_shows E n = rules-says.demand_3_shows (as_edited E).lists (edit_accepted E n)

pub demand_3_none_held : {car : Vehicle} {s : ℕ} {x : Screen} {z : Verdict} {y : Screen} → CEdited car (Hold s 0) x z y → Right car x → s < length x.speeds
    → z ≡ record { number = 7; place = s }
unfolding as_verdict
demand_3_none_held {car} {s} {x} E R l = E.answer ∙ ap as_verdict (zero_held_by_7 car s x R l)
