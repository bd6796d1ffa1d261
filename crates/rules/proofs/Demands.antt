-- The demands on one edit, said once over what a contract of an edit says: for `cards` an answer and the lists that are left, for `summaries` the summary too.
-- A crate above shows `EditedBy`, or `EditedWith`, of its functions' contracts, and cites these.
use Rattle.rules.proofs.Base.{ℕ, ◌≤◌, ◌<◌, ◌≡◌, refl, sym, ap, ◌∙◌, ◌≢◌, false, none, some, List, length, Vehicle, Answer, Edit, Hold}
use Rattle.rules.specs.Words.{at}
use Rattle.rules.specs.Corrections.{shown}
use Rattle.rules.specs.Refusals.{Fault, said, work_fault, work_card}
use Rattle.rules.specs.Summary.{summary}
use Rattle.rules.specs.Edit.{Screen, second, asked_speeds, asked_holds, span, edit_fault, edited}
use Rattle.rules.specs.Vocabulary.{Out, Right, Counted, Spares, seconds_in, none_held}
use Rattle.rules.specs.Vocabulary.{Demand3}
use Rattle.rules.proofs.Laws.Refusals.{said_once}
use Rattle.rules.proofs.Outcomes.{edit_meets_3}
use Rattle.rules.proofs.Theorems.{edit_as_whole, edit_right, edit_refused, edit_frame, edit_frame_speeds, edit_frame_holds, zero_held_by_7}
use Rattle.rules.proofs.Theorems.{right_card_spares, edit_spares, edit_counts, seconds_add_up}

-- ---- what a contract says

-- of the whole working: an answer, and the card that is left
pub record Worked (car : Vehicle) (vs hs old : List ℕ) (z : Answer) (new : List ℕ) : Type 0 where
  pub answer : said z ≡ work_fault car vs hs old
  pub card_left : new ≡ work_card car vs hs old

-- of an edit: an answer, and the lists that are left of the screen x, on y
pub record EditedBy (car : Vehicle) (e : Edit) (x : Screen) (z : Answer) (y : Screen) : Type 0 where
  pub answer : said z ≡ edit_fault car e x
  pub speeds_left : y.speeds ≡ (edited car e x).speeds
  pub holds_left : y.holds ≡ (edited car e x).holds
  pub card_left : y.card ≡ (edited car e x).card

-- and the summary
pub record EditedWith (car : Vehicle) (e : Edit) (x : Screen) (z : Answer) (y : Screen) : Type 0 where
  pub lists : EditedBy car e x z y
  pub summary_left : y.summary ≡ (edited car e x).summary

module _ {car : Vehicle} {e : Edit} {x : Screen} {z : Answer} {y : Screen} (E : EditedBy car e x z y) where
  -- ---- demand 1: refused exactly where the table says, and a refusal changes no byte

  pub demand_1_table : said z ≡ edit_fault car e x
  demand_1_table = E.answer

  pub demand_1_untouched : (q : Fault) → said z ≡ some q → (y.speeds ≡ x.speeds) × (y.holds ≡ x.holds) × (y.card ≡ x.card)
  demand_1_untouched q r =
      let u = edit_refused car e x q (sym E.answer ∙ r) in
      (E.speeds_left ∙ ap (λ (w : Screen). w.speeds) u, E.holds_left ∙ ap (λ (w : Screen). w.holds) u, E.card_left ∙ ap (λ (w : Screen). w.card) u)

  -- ---- demand 3: the very card, or the very refusal, that working the whole afresh would give; of holding for gears from 1

  pub demand_3_as_whole : Right car x → second e < length x.speeds → none_held e ≡ false → {t : Answer} {fresh : List ℕ}
      → Worked car (asked_speeds e x.speeds) (asked_holds e x.holds) x.card t fresh → (z ≡ t) × (y.card ≡ fresh)
  demand_3_as_whole R l h {t} W = let w = edit_as_whole car e x R l h in
      (said_once z t (E.answer ∙ w.0 ∙ sym W.answer), E.card_left ∙ w.1 ∙ sym W.card_left)

  -- whether the card was right or not, no byte changes outside the span, and no speed and no hold but those of the second
  pub demand_3_frame : (i : ℕ) → Out (span e x.speeds).lo (span e x.speeds).hi i → at y.card i ≡ at x.card i
  demand_3_frame i o = ap (λ (c : List ℕ). at c i) E.card_left ∙ edit_frame car e x i o

  pub demand_3_frame_speeds : (i : ℕ) → i ≢ second e → at y.speeds i ≡ at x.speeds i
  demand_3_frame_speeds i n = ap (λ (c : List ℕ). at c i) E.speeds_left ∙ edit_frame_speeds car e x i n

  pub demand_3_frame_holds : (i : ℕ) → i ≢ second e → at y.holds i ≡ at x.holds i
  demand_3_frame_holds i n = ap (λ (c : List ℕ). at c i) E.holds_left ∙ edit_frame_holds car e x i n

  -- a right card stays right
  pub demand_3_stays : Right car x → Right car y
  demand_3_stays R =
      let S = edit_right car e x R in
      record {
        accepted = rw (E.speeds_left, E.holds_left, E.card_left) S.accepted;
        its_card = rw (E.speeds_left, E.holds_left, E.card_left)
            S.its_card;
      }

  -- ---- request Twelve: right or not, at every second that an accepted edit re-works

  pub twelve_edit : said z ≡ none → let r = span e (asked_speeds e x.speeds) in
      (i : ℕ) → r.lo ≤ i → i < r.hi → Spares car y.speeds y.holds y.card i
  twelve_edit ok i a b = rw (E.speeds_left, E.holds_left, E.card_left) (edit_spares car e x (sym E.answer ∙ ok) i a b)

-- the demand as `Demand3` has it, by which an impostor is turned away
pub demand_3 : {car : Vehicle} {e : Edit} {x : Screen} {z : Answer} {y : Screen} → EditedBy car e x z y → Demand3 car e x (said z) y
demand_3 {car} {e} {x} {z} {y} E =
    let D = edit_meets_3 car e x in
    record {
      as_whole = λ R l h F G. let w = D.as_whole R l h F G in (E.answer ∙ w.0, E.card_left ∙ w.1);
      frame = demand_3_frame E;
      frame_speeds = demand_3_frame_speeds E;
      frame_holds = demand_3_frame_holds E;
      shows = λ s g k ok. ap (λ (c : List ℕ). shown (at c s)) E.card_left ∙ D.shows s g k (sym E.answer ∙ ok);
    }

-- a held second shows the held gear; gear 0 is refused by 7
pub demand_3_shows : {car : Vehicle} {s g : ℕ} {x : Screen} {z : Answer} {y : Screen} → EditedBy car (Hold s g) x z y → said z ≡ none
    → shown (at y.card s) ≡ g
demand_3_shows {s = s} {g = g} E = (demand_3 E).shows s g refl

pub demand_3_none_held : {car : Vehicle} {s : ℕ} {x : Screen} {z : Answer} {y : Screen} → EditedBy car (Hold s 0) x z y → Right car x → s < length x.speeds
    → said z ≡ some (record { no = 7; spot = s })
demand_3_none_held {car} {s} {x} E R l = E.answer ∙ zero_held_by_7 car s x R l

-- ---- edits one after the other, each perhaps refused

pub data Run (car : Vehicle) : Screen → Screen → Type 0 where
  no_more : {x : Screen} → Run car x x
  and_then : {e : Edit} {x y w : Screen} {z : Answer} → EditedWith car e x z y → Run car y w → Run car x w

pub demand_3_run : {car : Vehicle} {x y : Screen} → Run car x y → Right car x → Right car y
demand_3_run no_more R = R
demand_3_run (and_then E r) R = demand_3_run r (demand_3_stays E.lists R)

pub twelve_run : {car : Vehicle} {x y : Screen} → Run car x y → Right car x → (i : ℕ) → Spares car y.speeds y.holds y.card i
twelve_run {car} {y = y} r R = right_card_spares car y (demand_3_run r R)

-- ---- request Nine

nine_edit : {car : Vehicle} {e : Edit} {x : Screen} {z : Answer} {y : Screen} → EditedWith car e x z y → Counted x → Counted y
nine_edit {car} {e} {x} E c = E.summary_left ∙ edit_counts car e x c ∙ sym (λ i. summary (E.lists.speeds_left i) (E.lists.card_left i))

pub nine_refused : {car : Vehicle} {e : Edit} {x : Screen} {z : Answer} {y : Screen} → EditedWith car e x z y → (q : Fault) → said z ≡ some q
    → y.summary ≡ x.summary
nine_refused {car} {e} {x} E q r = E.summary_left ∙ ap (λ (w : Screen). w.summary) (edit_refused car e x q (sym E.lists.answer ∙ r))

pub nine_run : {car : Vehicle} {x y : Screen} → Run car x y → Counted x → Counted y
nine_run no_more c = c
nine_run (and_then E r) c = nine_run r (nine_edit E c)

-- from a right card the seconds in the summary add up to the trace's length, after any run
pub nine_adds_up : {car : Vehicle} {x y : Screen} → Run car x y → Right car x → Counted x → seconds_in y.summary ≡ length y.speeds
nine_adds_up {car} {y = y} r R c = ap seconds_in (nine_run r c) ∙ seconds_add_up car y (demand_3_run r R)
