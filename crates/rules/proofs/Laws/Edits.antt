-- One edit of the screen: where its span lies; against the whole working; what it leaves alone; and a right card stays right under edits one after the other.
use Rattle.rules.proofs.Base.{ℕ, suc, ◌-◌, ◌≤◌, ◌<◌, arith, ◌≡◌, refl, sym, ap, ◌∙◌, ◌≢◌, inl, inr, true, false, Option, none, some, List, [], ◌∷◌}
use Rattle.rules.proofs.Base.{length, length-set, get_or-set_other, eq-eqb, Vehicle, Edit, Hold, Release, Mend}
use Rattle.rules.specs.Words.{◌and◌, ◌or◌, at, patch}
use Rattle.rules.specs.Units.{moving, start, stop}
use Rattle.rules.specs.Corrections.{card_at, card}
use Rattle.rules.specs.Refusals.{Fault, room_fault, Check, over-ng, check_number, all_checks, bad, span_fault, work_fault, left, work_card}
use Rattle.rules.specs.Edit.{Screen, second, asked_speeds, asked_holds, Extent, around, hold_span, span, fails, asked_fault, edit_fault, asked_screen}
use Rattle.rules.specs.Edit.{edited, after}
use Rattle.rules.specs.Vocabulary.{Out, Right, none_held}
use Rattle.rules.proofs.Laws.Words.{clash, by_test, by_order, or_left, length-table, patch_out}
use Rattle.rules.proofs.Laws.Trips.{start_le, stop_le, stop_to}
use Rattle.rules.proofs.Laws.Checks.{accepted, edit_is, Taken, taken, all_pass, fault_ext, rooms_in, by_fault, left_none, left_some, left_same}
use Rattle.rules.proofs.Laws.Checks.{left-part, left_by}
use Rattle.rules.proofs.Laws.Reaches.{reach_of}
use Rattle.rules.proofs.Laws.Window.{fault_anew, card_anew, whole_is}
use Rattle.rules.proofs.Laws.Span.{span-kept, fails_is}

-- ---- where the span lies

-- the second is looked at, and what is re-worked lies in the trace
pub record Holds_second (r : Extent) (s n : ℕ) : Type 0 where
  pub from : r.lo ≤ s
  pub below : s < r.end
  pub in_order : r.hi ≤ n

pub around-holds : (ws : List ℕ) (s : ℕ) → s < length ws → Holds_second (around ws s) s (length ws)
unfolding around
around-holds ws s l = let x = start_le ws s in let y = stop_le ws (suc s) in record { from = omega arith; below = omega arith; in_order = stop_to ws (suc s) l }

pub hold_span-holds : (ws : List ℕ) (s : ℕ) → s < length ws → Holds_second (hold_span ws s) s (length ws)
unfolding hold_span
hold_span-holds ws s l =
    by_test (moving (at ws s)) (λ t. rw t (around-holds ws s l)) (λ t. rw t (record { from = omega arith; below = omega arith; in_order = omega arith }))

pub span-holds : (e : Edit) (ws : List ℕ) → second e < length ws → Holds_second (span e ws) (second e) (length ws)
unfolding span second
span-holds (Hold s g) ws l = hold_span-holds ws s l
span-holds (Release s) ws l = hold_span-holds ws s l
span-holds (Mend s v) ws l = around-holds ws s l

-- the trips next to the second, or at a standing second no byte at all
hold_by_kind : {P : Type 0} (ws : List ℕ) (s : ℕ) → (hold_span ws s ≡ around ws s → P) → ((hold_span ws s).lo ≡ (hold_span ws s).hi → P) → P
unfolding hold_span
hold_by_kind {P} ws s f g = by_test (moving (at ws s)) (λ t. f (rw t)) (λ t. g (rw t))

pub by_kind : {P : Type 0} (e : Edit) (ws : List ℕ) → (span e ws ≡ around ws (second e) → P) → ((span e ws).lo ≡ (span e ws).hi → P) → P
unfolding span second
by_kind (Hold s g) ws f k = hold_by_kind ws s f k
by_kind (Release s) ws f k = hold_by_kind ws s f k
by_kind (Mend s v) ws f k = f refl

-- no speed is written but that of the second, and no hold
pub length_asked : (e : Edit) (vs : List ℕ) → length (asked_speeds e vs) ≡ length vs
unfolding asked_speeds
length_asked (Hold s g) vs = refl
length_asked (Release s) vs = refl
length_asked (Mend s v) vs = length-set vs s v

pub length-holds : (e : Edit) (hs : List ℕ) → length (asked_holds e hs) ≡ length hs
unfolding asked_holds
length-holds (Hold s g) hs = length-set hs s g
length-holds (Release s) hs = length-set hs s 0
length-holds (Mend s v) hs = refl

pub speeds_kept : (e : Edit) (vs : List ℕ) (i : ℕ) → i ≢ second e → at (asked_speeds e vs) i ≡ at vs i
unfolding asked_speeds second
speeds_kept (Hold s g) vs i n = refl
speeds_kept (Release s) vs i n = refl
speeds_kept (Mend s v) vs i n = get_or-set_other vs s i v 0 n

pub holds_kept : (e : Edit) (hs : List ℕ) (i : ℕ) → i ≢ second e → at (asked_holds e hs) i ≡ at hs i
unfolding asked_holds second
holds_kept (Hold s g) hs i n = get_or-set_other hs s i g 0 n
holds_kept (Release s) hs i n = get_or-set_other hs s i 0 0 n
holds_kept (Mend s v) hs i n = refl

-- ---- against the whole working

-- but for gear 0 the checks are the table's own on the span
pub own-checks : (car : Vehicle) (e : Edit) (vs hs : List ℕ) → none_held e ≡ false
    → let r = span e (asked_speeds e vs) in asked_fault car e vs hs ≡ span_fault car (asked_speeds e vs) (asked_holds e hs) r.lo r.end
unfolding asked_fault span_fault ◌and◌ ◌or◌
own-checks car e vs hs h =
    let r = span e (asked_speeds e vs) in
    fault_ext (fails e car (asked_speeds e vs) (asked_holds e hs) r.lo) (λ c. bad c car (asked_speeds e vs) (asked_holds e hs) r.lo) r.lo r.end
    (λ c i x y. fails_is e car _ _ r.lo c i ∙ rw h) all_checks

module _ (car : Vehicle) (e : Edit) (x : Screen) (R : Right car x) (l : second e < length x.speeds) (h : none_held e ≡ false) where
  -- from a right card the very refusal, or the very card, of the whole working on the new speeds and holds
  pub whole-fault : edit_fault car e x ≡ work_fault car (asked_speeds e x.speeds) (asked_holds e x.holds) x.card
  whole-fault =
      let A = accepted car x.speeds x.holds x.card R.accepted in
      let reach = reach_of car x.speeds x.holds e l in
      edit_is car e x A l ∙ own-checks car e x.speeds x.holds h ∙ fault_anew car reach A.span ∙ sym (whole_is car reach x.card A)

  pub whole-card : (edited car e x).card ≡ work_card car (asked_speeds e x.speeds) (asked_holds e x.holds) x.card
  unfolding edited work_card asked_screen
  whole-card =
      let reach = reach_of car x.speeds x.holds e l in
      let r = span e (asked_speeds e x.speeds) in
      let ws = asked_speeds e x.speeds in
      let ks = asked_holds e x.holds in
      left-part (λ (y : Screen). y.card) (edit_fault car e x) x (asked_screen car e x)
      ∙ ap (λ (q : Option Fault). left q x.card (patch x.card r.lo r.hi (card_at car ws ks))) whole-fault
      ∙ left_same (work_fault car ws ks x.card) x.card
      (λ z. ap (λ (c : List ℕ). patch c r.lo r.hi (card_at car ws ks)) R.its_card ∙ card_anew car reach)

-- ---- what is left alone, whether the card was right or not

-- a refusal writes nothing at all
pub refused_alone : (car : Vehicle) (e : Edit) (x : Screen) (q : Fault) → edit_fault car e x ≡ some q → edited car e x ≡ x
unfolding edited
refused_alone car e x q z = left_some _ _ z

-- otherwise what is asked for is written
pub taken_asked : (car : Vehicle) (e : Edit) (x : Screen) → edit_fault car e x ≡ none → edited car e x ≡ asked_screen car e x
unfolding edited
taken_asked car e x z = left_none _ _ z

module _ (car : Vehicle) (e : Edit) (x : Screen) where
  -- what holds of the screen that was, and of the one that is asked for
  pub by_edit : (P : Screen → Type 0) → P x → (edit_fault car e x ≡ none → P (asked_screen car e x)) → P (edited car e x)
  unfolding edited
  by_edit P a b = left_by P (edit_fault car e x) x (asked_screen car e x) a b

  pub card_frame : (i : ℕ) → Out (span e x.speeds).lo (span e x.speeds).hi i → at (edited car e x).card i ≡ at x.card i
  unfolding asked_screen
  card_frame i o =
      by_edit (λ y. at y.card i ≡ at x.card i) refl
      (λ z. patch_out x.card (span e (asked_speeds e x.speeds)).lo (span e (asked_speeds e x.speeds)).hi _ i (rw (span-kept e x.speeds) o))

  pub speeds_frame : (i : ℕ) → i ≢ second e → at (edited car e x).speeds i ≡ at x.speeds i
  unfolding asked_screen
  speeds_frame i n = by_edit (λ y. at y.speeds i ≡ at x.speeds i) refl (λ z. speeds_kept e x.speeds i n)

  pub holds_frame : (i : ℕ) → i ≢ second e → at (edited car e x).holds i ≡ at x.holds i
  unfolding asked_screen
  holds_frame i n = by_edit (λ y. at y.holds i ≡ at x.holds i) refl (λ z. holds_kept e x.holds i n)

  pub length-edited : length (edited car e x).speeds ≡ length x.speeds
  unfolding asked_screen
  length-edited = by_edit (λ y. length y.speeds ≡ length x.speeds) refl (λ z. length_asked e x.speeds)

-- holding and releasing write no speed, mending no hold
pub hold_no_speed : (car : Vehicle) (s g : ℕ) (x : Screen) → (edited car (Hold s g) x).speeds ≡ x.speeds
unfolding asked_screen asked_speeds
hold_no_speed car s g x = by_edit car (Hold s g) x (λ y. y.speeds ≡ x.speeds) refl (λ z. refl)

pub release_no_speed : (car : Vehicle) (s : ℕ) (x : Screen) → (edited car (Release s) x).speeds ≡ x.speeds
unfolding asked_screen asked_speeds
release_no_speed car s x = by_edit car (Release s) x (λ y. y.speeds ≡ x.speeds) refl (λ z. refl)

pub mend_no_hold : (car : Vehicle) (s v : ℕ) (x : Screen) → (edited car (Mend s v) x).holds ≡ x.holds
unfolding asked_screen asked_holds
mend_no_hold car s v x = by_edit car (Mend s v) x (λ y. y.holds ≡ x.holds) refl (λ z. refl)

-- nor, of any edit, outside the trips next to its second and the one second before
pub card-around : (car : Vehicle) (e : Edit) (x : Screen) (i : ℕ) → Out (start x.speeds (second e) - 1) (stop x.speeds (suc (second e))) i
    → at (edited car e x).card i ≡ at x.card i
unfolding around
card-around car e x i o =
    card_frame car e x i (by_kind e x.speeds (λ k. rw k o) (λ k. by_order i (span e x.speeds).lo (λ h. inl h) (λ h. inr (rw (← k) h))))

-- ---- what is not refused

-- its checks find nothing
module _ (car : Vehicle) (e : Edit) (vs hs : List ℕ) (l : second e < length vs) (ok : asked_fault car e vs hs ≡ none) where
  each_passes : (c : Check) (i : ℕ) → (span e (asked_speeds e vs)).lo ≤ i → i < (span e (asked_speeds e vs)).end
      → fails e car (asked_speeds e vs) (asked_holds e hs) (span e (asked_speeds e vs)).lo c i ≡ false
  unfolding asked_fault
  each_passes = all_pass (fails e car (asked_speeds e vs) (asked_holds e hs) (span e (asked_speeds e vs)).lo) (span e (asked_speeds e vs)).lo
      (span e (asked_speeds e vs)).end ok

  -- no gear 0 is held
  pub gear_held : none_held e ≡ false
  unfolding check_number ◌and◌
  gear_held =
      let H = span-holds e (asked_speeds e vs) (rw (length_asked e vs) l) in
      by_test (none_held e)
      (λ t. let z = or_left _ _
      (sym (fails_is e car (asked_speeds e vs) (asked_holds e hs) (span e (asked_speeds e vs)).lo over-ng (second e))
      ∙ each_passes over-ng (second e) H.from H.below) in
      let y : true ≡ false = rw (t, eq-eqb (second e) (second e) refl) at z in clash refl y)
      (λ t. t)

  -- the span passes the table's checks
  pub span_passes : span_fault car (asked_speeds e vs) (asked_holds e hs) (span e (asked_speeds e vs)).lo (span e (asked_speeds e vs)).end ≡ none
  span_passes = sym (own-checks car e vs hs gear_held) ∙ ok

-- ---- a right card stays right

-- the working looks at the length of a lent card alone
passes_on : (car : Vehicle) (vs hs old : List ℕ) → work_fault car vs hs old ≡ none → work_fault car vs hs (card car vs hs) ≡ none
unfolding work_fault room_fault card
passes_on car vs hs old e =
    let A = accepted car vs hs old e in
    let l : length (card car vs hs) ≡ length old = length-table (card_at car vs hs) 0 (length vs) ∙ sym (rooms_in vs hs old A.room).1 in
    rw l e

-- what the whole working leaves of an accepted trace is right
pub anew : (car : Vehicle) (old : List ℕ) (y : Screen) → work_fault car y.speeds y.holds old ≡ none → y.card ≡ work_card car y.speeds y.holds old
    → Right car y
unfolding work_card
anew car old y e c =
    let r : y.card ≡ card car y.speeds y.holds = c ∙ left_none old (card car y.speeds y.holds) e in
    record { accepted = rw r (passes_on car y.speeds y.holds old e); its_card = r }

pub stays_right : (car : Vehicle) (e : Edit) (x : Screen) → Right car x → Right car (edited car e x)
unfolding asked_screen
stays_right car e x R =
    by_fault (edit_fault car e x)
    (λ z. let T = taken car e x z in
    let h = gear_held car e x.speeds x.holds T.in_trace T.own in
    let y = taken_asked car e x z in
    rw y (anew car x.card (asked_screen car e x) (told z T h) (rw y at (left-card z T h))))
    (λ q z. rw (refused_alone car e x q z) R)
  where
    told : edit_fault car e x ≡ none → Taken car e x → none_held e ≡ false
        → work_fault car (asked_screen car e x).speeds (asked_screen car e x).holds x.card ≡ none
    told z T h = sym (whole-fault car e x R T.in_trace h) ∙ z

    left-card : edit_fault car e x ≡ none → Taken car e x → none_held e ≡ false
        → (edited car e x).card ≡ work_card car (asked_screen car e x).speeds (asked_screen car e x).holds x.card
    left-card z T h = whole-card car e x R T.in_trace h

pub run_right : (car : Vehicle) (es : List Edit) (x : Screen) → Right car x → Right car (after car es x)
unfolding after
run_right car [] x R = R
run_right car (e ∷ es) x R = run_right car es (edited car e x) (stays_right car e x R)
