-- What is left of the row of checks where it passes, also of a trace as it is written, and that an accepted trace passes it at each second.
use Rattle.rules.proofs.Offered.{ℕ, ◌-◌, ◌≤◌, ◌<◌, arith, ◌≡◌, refl, sym, ◌∙◌, Bool, false, not, Option, none, List, [], ◌∷◌, ltb, length, ltb-true, lt-ltb}
use Rattle.rules.proofs.Offered.{le-ltb, eq-eqb, ne_eqb, not-false, ◌and◌, first, Fault, refuse_at, when, trace_fault, room_fault, vehicle_fault, Check, speed}
use Rattle.rules.proofs.Offered.{step, ends, over-ng, at_rest, over-rev, no-gear, check_number, bad, fault_of, seconds_fault, span_fault, work_fault}
use Rattle.rules.proofs.Offered.{all_checks, ◌orelse◌, InBounds, kind, about, why_lo, why_end, row_fault, why_fault, early_fault, nothing, said_of, why}
use Rattle.rules.proofs.Offered.{by_order, orelse_none, none_orelse, refuse_none, when_none, rooms_in, vehicle_in, gears_last, left_none, first_none}
use Rattle.rules.proofs.Offered.{none_first, accepted, said, left, orelse_assoc, gear_fault, set_out, fault, true, some, at, moving, hold_span, ◌+◌}
use Rattle.rules.specs.Refusals.{Answer}
use Rattle.std.specs.Prelude.{Result, Ok, Err}
use Rattle.std.specs.Result.{is_ok}
use Rattle.checks.specs.declared.trace.Trace.{Trace}
use Rattle.checks.specs.Asked.{speeds_in, holds_in}
use Rattle.reasons.specs.declared.View.{View}
use Rattle.reasons.specs.Asks.{Viewed, Passed, InTrip}
use Rattle.rules.specs.declared.Vehicle.{Vehicle}
use Rattle.rules.specs.declared.Refusal.{Refusal}
use Rattle.rules.specs.declared.Refusal.TheVariants.{OutsideTrace}
use Rattle.checks.proofs.Rows.{Opened, opening, opening_first, after_opening}
use Rattle.reasons.proofs.Places.{looked, about_in, about_from, about_moves, told}

-- ---- what is left of the row of checks

module _ (car : Vehicle) (vs hs : List ℕ) (s : ℕ) where
  -- a row of two is the first one's, then the second
  row_then : (a b : Option Fault) → row_fault car vs hs s (a orelse b) ≡ (row_fault car vs hs s a orelse b)
  unfolding row_fault
  row_then a b = simp orelse_assoc

  -- 10 comes after the others
  gears_after : why_fault car vs hs s ≡ (early_fault car vs hs s orelse gear_fault car vs hs (why_lo vs s) (why_end vs s))
  unfolding why_fault early_fault
  gears_after = rw (gears_last car vs hs (why_lo vs s) (why_end vs s)) (row_then _ _)

  module _ (row : Option Fault) where
    -- it begins with the opening, and the second's place in the trace
    pub row_opening : {A B : Type 0} {x : Result A Refusal} {y : Result B Refusal} {q : Refusal} → said x ≡ opening car vs hs hs → x ≡ Err q → y ≡ Err q
        → said y ≡ row_fault car vs hs s row
    unfolding row_fault
    row_opening e h g = opening_first car vs hs hs (refuse_at 11 (when (not (ltb s (length vs))) s) orelse row) e h g

    pub row_outside : (A : Type 0) → Opened car vs hs hs → length vs ≤ s → said {A = A} (Err (OutsideTrace s)) ≡ row_fault car vs hs s row
    unfolding row_fault when refuse_at ◌orelse◌ said
    row_outside A O h = sym (after_opening (refuse_at 11 (when (not (ltb s (length vs))) s) orelse row) O ∙ rw (le-ltb s (length vs) h))

    row_is : Opened car vs hs hs → s < length vs → row_fault car vs hs s row ≡ row
    unfolding row_fault when refuse_at ◌orelse◌
    row_is O h = after_opening (refuse_at 11 (when (not (ltb s (length vs))) s) orelse row) O ∙ rw (lt-ltb s (length vs) h)

    -- it passed
    pub row_none : row_fault car vs hs s row ≡ none → Opened car vs hs hs × (s < length vs) × (row ≡ none)
    unfolding row_fault
    row_none e =
        let a = orelse_none (trace_fault vs) _ e in
        let b = orelse_none (room_fault vs hs hs) _ a.1 in
        let c = orelse_none (vehicle_fault car) _ b.1 in
        let d = orelse_none (refuse_at 11 (when (not (ltb s (length vs))) s)) row c.1 in
        let l = rooms_in vs hs hs b.0 in (
          record { trace = a.0; room = b.0; vehicle = c.0; holds_long = l.0; card_long = l.1; bounds = vehicle_in car c.0 },
          ltb-true _ _ (not-false _ (when_none 11 (not (ltb s (length vs))) s d.0)),
          d.1,
        )

module _ (car : Vehicle) (vs hs : List ℕ) (s : ℕ) (e : early_fault car vs hs s ≡ none) where
  pub passed_early : Opened car vs hs hs × (s < length vs) × (seconds_fault car vs hs (why_lo vs s) (why_end vs s) ≡ none)
  unfolding early_fault
  passed_early = row_none car vs hs s _ e

  pub even : length hs ≡ length vs
  even = passed_early.0.holds_long

  pub bounds : InBounds car
  bounds = passed_early.0.bounds

  -- 10 alone is left
  late_is : why_fault car vs hs s ≡ gear_fault car vs hs (why_lo vs s) (why_end vs s)
  late_is = gears_after car vs hs s ∙ none_orelse _ _ e

  -- something is said
  pub said_there : (kind vs s ≡ 0 → ⊥) → why car vs hs s ≡ said_of car vs hs s (about vs s) (why_fault car vs hs s)
  unfolding why
  said_there z = left_none nothing _ e ∙ rw (ne_eqb (kind vs s) 0 z)

  -- nothing is said
  pub rests_there : kind vs s ≡ 0 → why car vs hs s ≡ nothing
  unfolding why
  rests_there z = left_none nothing _ e ∙ rw (eq-eqb (kind vs s) 0 z)

-- where nothing is refused, nothing was early
pub early_none : (car : Vehicle) (vs hs : List ℕ) (s : ℕ) → why_fault car vs hs s ≡ none → early_fault car vs hs s ≡ none
early_none car vs hs s e = (orelse_none (early_fault car vs hs s) _ (sym (gears_after car vs hs s) ∙ e)).0

-- of a second as it is seen
module _ {car : Vehicle} {vs hs : List ℕ} {view : View} (P : Passed car vs hs view) where
  pub passed_view : seconds_fault car vs hs view.checked.lo view.checked.hi ≡ none
  passed_view = rw (P.viewed.checked_from, P.viewed.checked_to) (passed_early car vs hs view.second P.early).2

  -- the trip of the second that is spoken of, where there is one
  pub in_trip : (kind vs view.second ≡ 0 → ⊥) → InTrip car vs hs view.about view.trip.lo view.trip.hi × (view.second + 1 < length vs)
  unfolding why_lo why_end
  in_trip z =
      let V = P.viewed in
      let E = passed_early car vs hs view.second P.early in
      let m : moving (at vs view.about) ≡ true = rw V.about_is (about_moves vs view.second z) in
      let a : view.checked.lo ≡ (hold_span vs view.about).lo = rw V.about_is V.checked_from in
      let b : view.checked.hi ≡ (hold_span vs view.about).end = rw V.about_is V.checked_to in
      let T = told E.0 (rw V.about_is (about_in vs view.second E.1)) a b passed_view m in
      (rw (V.from, V.to) T, omega (arith, T.until, T.trip.inside, about_from vs view.second, V.about_is))

-- what the early checks refuse is refused, and nothing is said of it
pub early_ends : (car : Vehicle) (vs hs : List ℕ) (s : ℕ) (A B : Type 0) (r : Refusal) → said {A = A} (Err r) ≡ early_fault car vs hs s
    → (said {A = B} (Err r) ≡ why_fault car vs hs s) × (nothing ≡ why car vs hs s)
unfolding said ◌orelse◌ why left
early_ends car vs hs s A B r e = (rw (gears_after car vs hs s, ← e), rw (← e))

-- ---- a trace as it is written: nothing is asked for

module _ (t : Trace) {vs hs : List ℕ} (v : t.speeds.now ≡ vs) (h : t.holds.now ≡ hs) (n : t.asked.second ≡ length vs) where
  module _ (l : length hs ≡ length vs) where
    pub written_speeds : speeds_in t ≡ vs
    written_speeds = rw (v, n) (set_out vs (length vs) t.asked.speed (omega arith))

    written_holds : holds_in t ≡ hs
    written_holds = rw (h, n) (set_out hs (length vs) t.asked.gear (omega (arith, l)))

  module _ (car : Vehicle) (view : View) (W : Viewed vs view) where
    -- what 4 to 9 say of it
    pub early_said : Opened car vs hs hs → view.second < length vs
        → seconds_fault car (speeds_in t) (holds_in t) view.checked.lo view.checked.hi ≡ early_fault car vs hs view.second
    unfolding early_fault
    early_said O b =
        rw (written_speeds O.holds_long, written_holds O.holds_long, W.checked_from, W.checked_to) (sym (row_is car vs hs view.second _ O b))

    -- and 10 after them
    pub late_said : early_fault car vs hs view.second ≡ none
        → gear_fault car (speeds_in t) (holds_in t) view.checked.lo view.checked.hi ≡ why_fault car vs hs view.second
    late_said e =
        let l = even car vs hs view.second e in
        rw (written_speeds l, written_holds l, W.checked_from, W.checked_to) (sym (late_is car vs hs view.second e))

-- ---- what an answer says

-- a refusal says the same whatever it stands for, and a value nothing
pub same_err : (A B : Type 0) (r : Refusal) → said {A = A} (Err r) ≡ said {A = B} (Err r)
unfolding said
same_err A B r = refl

pub ok_none : {A : Type 0} (x : A) → said (Ok x) ≡ none
unfolding said
ok_none x = refl

-- so an answer that is Ok, and any other something
pub ok_says : (x : Answer) → is_ok x ≡ true → said x ≡ none
ok_says (Ok v) e = ok_none v
ok_says (Err r) e = cc

pub err_says : (x : Answer) → is_ok x ≡ false → (f : Fault) × (said x ≡ some f)
unfolding said
err_says (Ok v) e = cc
err_says (Err r) e = (fault r, refl)

-- ---- a wider span

-- a wider span that passes, and a narrower one
pub narrower : (f g : Check → ℕ → Bool) (a b lo hi : ℕ) → a ≤ lo → hi ≤ b → ((c : Check) (i : ℕ) → lo ≤ i → i < hi → f c i ≡ false → g c i ≡ false)
    → (cs : List Check) → fault_of f a b cs ≡ none → fault_of g lo hi cs ≡ none
unfolding fault_of refuse_at ◌orelse◌
narrower f g a b lo hi l m h [] e = refl
narrower f g a b lo hi l m h (c ∷ cs) e =
    let x = orelse_none (refuse_at (check_number c) (first (f c) a (b - a))) (fault_of f a b cs) e in
    let y = refuse_none (check_number c) (first (f c) a (b - a)) x.0 in
    rw (first_none (g c) (hi - lo) lo (λ i p q. h c i p (omega arith) (none_first (f c) (b - a) a y i (omega arith) (omega arith))))
    (narrower f g a b lo hi l m h cs x.1)

-- what is looked at lies in the trace
pub end_in : (vs : List ℕ) (s : ℕ) → s < length vs → why_end vs s ≤ length vs
unfolding why_end
end_in vs s h = (looked vs (about vs s) (about_in vs s h) refl refl).inside

-- of a check at a second, the span's first second counts for the step alone
pub later_start : (car : Vehicle) (vs hs : List ℕ) (lo : ℕ) (c : Check) (i : ℕ) → bad c car vs hs 0 i ≡ false → bad c car vs hs lo i ≡ false
unfolding bad ◌and◌
later_start car vs hs lo speed i e = e
later_start car vs hs lo step i e = by_order lo i (λ l. rw (lt-ltb lo i l) (rw (lt-ltb 0 i (omega arith)) at e)) (λ l. rw (le-ltb lo i l))
later_start car vs hs lo ends i e = e
later_start car vs hs lo over-ng i e = e
later_start car vs hs lo at_rest i e = e
later_start car vs hs lo over-rev i e = e
later_start car vs hs lo no-gear i e = e

-- holds as long as the trace are room enough
pub own_rooms : (vs hs old : List ℕ) → room_fault vs hs old ≡ none → room_fault vs hs hs ≡ none
unfolding room_fault when refuse_at ◌and◌
own_rooms vs hs old e = rw (eq-eqb (length hs) (length vs) (rooms_in vs hs old e).0)

-- a trace that is accepted is explained at each of its seconds
module _ (car : Vehicle) (vs hs old : List ℕ) (A : work_fault car vs hs old ≡ none) (s : ℕ) (h : s < length vs) where
  pub accepted_said : why_fault car vs hs s ≡ none
  unfolding why_fault row_fault when refuse_at ◌orelse◌ span_fault
  accepted_said =
      let a = accepted car vs hs old A in
      none_orelse _ _ a.trace ∙ none_orelse _ _ (own_rooms vs hs old a.room) ∙ none_orelse _ _ a.vehicle
      ∙ rw (lt-ltb s (length vs) h)
      (narrower (λ c. bad c car vs hs 0) (λ c. bad c car vs hs (why_lo vs s)) 0 (length vs) (why_lo vs s) (why_end vs s) (omega arith) (end_in vs s h)
      (λ c j x y. later_start car vs hs (why_lo vs s) c j) all_checks a.span)
