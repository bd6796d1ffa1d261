-- What each button does: a held gear is shown, a hold stays in force, nothing asked changes nothing; a hold at a standing second, and of gear 0;
-- what mending may change.
use Rattle.rules.proofs.Base.{ℕ, zero, suc, ◌+◌, ◌-◌, ◌≤◌, ◌<◌, ◌%◌, arith, ◌≡◌, refl, sym, ap, ◌∙◌, ◌≢◌, inl, inr, Bool, true, false, not, Option, none}
use Rattle.rules.proofs.Base.{some, List, [], ◌∷◌, eqb, length, set, length-set, get_or-set_other, get_or-set_same, le-ltb, leb-false, eqb-true, eqb-false}
use Rattle.rules.proofs.Base.{ne_eqb, eq-eqb, not-false, Vehicle, Edit, Hold, Release, Mend}
use Rattle.rules.specs.Words.{if◌then◌else◌, ◌and◌, ◌or◌, at, first}
use Rattle.rules.specs.Units.{moving, start, stop}
use Rattle.rules.specs.Corrections.{gear_at, card_at}
use Rattle.rules.specs.Refusals.{Fault, refuse_at, ◌orelse◌, not_driven, Check, speed, step, ends, over-ng, at_rest, over-rev, no-gear, check_number}
use Rattle.rules.specs.Refusals.{checks, all_checks, bad, fault_of, span_fault, work_card}
use Rattle.rules.specs.Edit.{Screen, second, asked_speeds, asked_holds, around, hold_span, span, fails, asked_fault, edit_fault, asked_screen, edited}
use Rattle.rules.specs.Vocabulary.{Right, InNear, MayChange, itself, just_before, in_near, before_near, none_held}
use Rattle.rules.proofs.Laws.Words.{clash, by_test, by_order, and-fails, patch_in, of₃}
use Rattle.rules.proofs.Laws.Searches.{none_first, first_ext, first_skip}
use Rattle.rules.proofs.Laws.Trips.{trip_of, start_le, start-before, start_inside, stop_le, stop_standing}
use Rattle.rules.proofs.Laws.Checks.{accepted, edit_is, Taken, taken, driven, passed, pass_all, fault-append, none_orelse, rooms_in, vehicle_in}
use Rattle.rules.proofs.Laws.Checks.{left_none}
use Rattle.rules.proofs.Laws.Window.{fault_window}
use Rattle.rules.proofs.Laws.Cards.{held_shows, card_mod}
use Rattle.rules.proofs.Laws.Reaches.{reach_of}
use Rattle.rules.proofs.Laws.Edits.{around-holds, hold_span-holds, whole-fault, whole-card, taken_asked, gear_held, span_passes}

-- a gear is held at a moving second, from the lowest to ng, and its byte shows it
module _ (car : Vehicle) (s g : ℕ) (x : Screen) (ok : edit_fault car (Hold s g) x ≡ none) where
  T : Taken car (Hold s g) x
  T = taken car (Hold s g) x ok

  in_trace : s < length x.speeds
  unfolding second
  in_trace = T.in_trace

  pub from_one : g ≢ 0
  unfolding none_held
  from_one = eqb-false g 0 (gear_held car (Hold s g) x.speeds x.holds T.in_trace T.own)

  here : at (set x.holds s g) s ≡ g
  here = let r = rooms_in x.speeds x.holds x.card T.room in let l = in_trace in get_or-set_same x.holds s g 0 (omega (arith, r.0))

  pass-here : (c : Check) → bad c car x.speeds (set x.holds s g) (hold_span x.speeds s).lo s ≡ false
  unfolding span asked_speeds asked_holds
  pass-here c =
      let H = hold_span-holds x.speeds s in_trace in
      passed car x.speeds (set x.holds s g) (hold_span x.speeds s).lo (hold_span x.speeds s).end
      (span_passes car (Hold s g) x.speeds x.holds T.in_trace T.own) c s H.from H.below

  moves : moving (at x.speeds s) ≡ true
  unfolding bad
  moves =
      by_test (moving (at x.speeds s)) (λ t. t)
      (λ t. let rest : not (moving (at x.speeds s)) ≡ true = rw t in
      let z = eqb-true _ 0 (not-false _ (and-fails _ (not (eqb (at (set x.holds s g) s) 0)) rest (pass-here at_rest))) in
      absurd (from_one (sym here ∙ z)))

  pub shows : at (edited car (Hold s g) x).card s % 16 ≡ g
  unfolding asked_screen span asked_speeds asked_holds hold_span around bad
  shows =
      let m = moves in
      let r = rooms_in x.speeds x.holds x.card T.room in
      let k : gear_at car x.speeds (set x.holds s g) s ≡ g =
      held_shows car x.speeds (set x.holds s g) (length-set x.holds s g ∙ r.0) s m (λ z. from_one (sym here ∙ z)) ∙ here in
      let b = (vehicle_in car T.vehicle).ng_to in
      let y : g ≤ car.ng = rw here at (driven car (at (set x.holds s g) s) (pass-here over-ng)).0 in
      let a = start_le x.speeds s in
      let c = stop_le x.speeds (suc s) in
      rw (
        taken_asked car (Hold s g) x ok,
        m,
        of₃ (patch_in x.card (start x.speeds s - 1) (stop x.speeds (suc s)) (card_at car x.speeds (set x.holds s g)) s)
            (omega (arith, r.1, in_trace)),
      )
      (card_mod car x.speeds (set x.holds s g) s m (rw k (omega arith)) ∙ k)

-- a hold stays in force: where the mended second is held, it moves
pub hold_wins : (car : Vehicle) (s v : ℕ) (x : Screen) → edit_fault car (Mend s v) x ≡ none → at x.holds s ≢ 0 → moving v ≡ true
unfolding second span asked_speeds asked_holds bad
hold_wins car s v x ok h =
    let T = taken car (Mend s v) x ok in
    let ws = set x.speeds s v in
    let H = around-holds ws s (rw (length-set x.speeds s v) T.in_trace) in
    let z : at ws s ≡ v = get_or-set_same x.speeds s v 0 T.in_trace in
    let p = passed car ws x.holds (around ws s).lo (around ws s).end (span_passes car (Mend s v) x.speeds x.holds T.in_trace T.own) at_rest s
    H.from H.below in
    by_test (moving v) (λ m. m)
    (λ m. let rest : not (moving (at ws s)) ≡ true = rw (z, m) in
    absurd (h (eqb-true (at x.holds s) 0 (not-false _ (and-fails _ (not (eqb (at x.holds s) 0)) rest p)))))

-- ---- an edit that asks for what stands there already

pub nothing_asked : (car : Vehicle) (e : Edit) (x : Screen) → Right car x → second e < length x.speeds → none_held e ≡ false
    → asked_speeds e x.speeds ≡ x.speeds → asked_holds e x.holds ≡ x.holds → (edit_fault car e x ≡ none) × ((edited car e x).card ≡ x.card)
unfolding work_card
nothing_asked car e x R l h a b = (
  whole-fault car e x R l h ∙ rw (a, b) R.accepted,
  whole-card car e x R l h ∙ rw (a, b) (left_none _ _ R.accepted ∙ sym R.its_card),
)

-- ---- a hold at a standing second: 7 where that gear is not driven, else 8; a release is accepted

module _ (car : Vehicle) (vs hs : List ℕ) (s : ℕ) (r : moving (at vs s) ≡ false) (l : s < length hs) where
  hold_alone : (g : ℕ) → fault_of (fails (Hold s g) car vs (set hs s g) s) s (suc s) all_checks
      ≡ some (record { no = if eqb g 0 or not_driven car g then 7 else 8; spot = s })
  unfolding fails none_held second all_checks checks fault_of check_number bad first refuse_at ◌orelse◌ ◌and◌ ◌or◌ moving
  hold_alone g =
      let e : suc s - s ≡ 1 = omega arith in
      let h : at (set hs s g) s ≡ g = get_or-set_same hs s g 0 l in
      let slow : at vs s < 10 = leb-false 10 (at vs s) r in
      by_test (eqb g 0)
      (λ z. rw (e, h, le-ltb 2000 (at vs s) (omega arith), le-ltb s s (omega arith), r, z, eq-eqb s s refl))
      (λ z. rw (e, h, le-ltb 2000 (at vs s) (omega arith), le-ltb s s (omega arith), r, z) (by_test (not_driven car g) (λ x. rw x) (λ x. rw x)))

  pub hold_standing : (g : ℕ) → asked_fault car (Hold s g) vs hs ≡ some (record { no = if eqb g 0 or not_driven car g then 7 else 8; spot = s })
  unfolding asked_fault asked_speeds asked_holds span hold_span
  hold_standing g = rw r (hold_alone g)

  release_alone : fault_of (fails (Release s) car vs (set hs s 0) s) s (suc s) all_checks ≡ none
  unfolding fails none_held second all_checks checks fault_of check_number bad not_driven first refuse_at ◌orelse◌ ◌and◌ ◌or◌ moving
  release_alone =
      let e : suc s - s ≡ 1 = omega arith in
      let h : at (set hs s 0) s ≡ 0 = get_or-set_same hs s 0 0 l in
      let slow : at vs s < 10 = leb-false 10 (at vs s) r in
      rw (e, h, le-ltb 2000 (at vs s) (omega arith), le-ltb s s (omega arith), r, le-ltb car.ng 0 (omega arith))

  pub release_standing : asked_fault car (Release s) vs hs ≡ none
  unfolding asked_fault asked_speeds asked_holds span hold_span
  release_standing = rw r release_alone

-- ---- gear 0

-- a search finds a place at which the test holds, if it fails before
first-here : (p : ℕ → Bool) (lo hi s : ℕ) → lo ≤ s → s < hi → ((i : ℕ) → lo ≤ i → i < s → p i ≡ false) → p s ≡ true → first p lo (hi - lo) ≡ some s
unfolding first
first-here p lo hi s a b h t =
    let e : hi - lo ≡ s - lo + suc (hi - suc s) = omega arith in
    let f : lo + (s - lo) ≡ s = omega arith in
    rw e (first_skip p (s - lo) (suc (hi - suc s)) lo (λ i x y. h i x (omega arith)) ∙ rw (f, t))

-- 4, 5 and 6, which come before 7, and 7 to 10
abbrev before_7 : List Check
before_7 = speed ∷ step ∷ ends ∷ []

abbrev after_7 : List Check
after_7 = at_rest ∷ over-rev ∷ no-gear ∷ []

-- a check that finds something keeps those after it from being asked
stops : (n : ℕ) (o : Option ℕ) (p q : Option Fault) → (o ≢ none) → refuse_at n o orelse p ≡ refuse_at n o orelse q
unfolding refuse_at ◌orelse◌
stops n none p q h = absurd (h refl)
stops n (some i) p q h = refl

-- what the checks say of it: 7 fails at s, and at another second where it failed; 4, 5 and 6 look at no hold
module _ (car : Vehicle) (vs hs : List ℕ) (s lo : ℕ) where
  abbrev zero_held : Check → ℕ → Bool
  zero_held = fails (Hold s 0) car vs (set hs s 0) lo

  zero_here : zero_held over-ng s ≡ true
  unfolding fails none_held second check_number ◌and◌ ◌or◌
  zero_here = rw (eq-eqb s s refl)

  zero_else : (i : ℕ) → i ≢ s → zero_held over-ng i ≡ not_driven car (at hs i)
  unfolding fails none_held second check_number ◌and◌ ◌or◌ bad
  zero_else i n = rw (ne_eqb i s n, get_or-set_other hs s i 0 0 n)

  zero_early : (ks : List ℕ) (hi : ℕ) → fault_of zero_held lo hi before_7 ≡ fault_of (λ c. bad c car vs ks lo) lo hi before_7
  unfolding fault_of fails none_held check_number ◌and◌ ◌or◌ bad
  zero_early ks hi = refl

-- from a right card, 7 at that second
pub none_by_7 : (car : Vehicle) (s : ℕ) (x : Screen) → Right car x → s < length x.speeds → edit_fault car (Hold s 0) x ≡ some (record { no = 7; spot = s })
unfolding asked_fault all_checks checks fault_of check_number refuse_at ◌orelse◌ second asked_speeds asked_holds span bad
none_by_7 car s x R l =
    let A = accepted car x.speeds x.holds x.card R.accepted in
    let vs = x.speeds in
    let hs = x.holds in
    let lo = (hold_span vs s).lo in
    let end = (hold_span vs s).end in
    let H = hold_span-holds vs s l in
    let reach = reach_of car vs hs (Release s) l in
    let f : span_fault car vs hs lo end ≡ none =
    sym (fault_window car vs hs vs hs refl lo end reach.in_order reach.in_trace (λ c i z o. refl) refl A.span) ∙ A.span in
    let ok : (c : Check) (i : ℕ) → lo ≤ i → i < end → bad c car vs hs lo i ≡ false = passed car vs hs lo end f in
    let p = zero_held car vs hs s lo in
    let early : fault_of p lo end before_7 ≡ none = zero_early car vs hs s lo hs end ∙ pass_all (λ c. bad c car vs hs lo) lo end before_7 ok in
    let seven : first (p over-ng) lo (end - lo) ≡ some s =
    first-here (p over-ng) lo end s H.from H.below
    (λ i a b. zero_else car vs hs s lo i (omega arith) ∙ ok over-ng i a (omega (arith, H.below))) (zero_here car vs hs s lo) in
    edit_is car (Hold s 0) x A l ∙ fault-append p lo end before_7 (over-ng ∷ after_7) ∙ none_orelse _ _ early ∙ rw seven

-- the answers of holding with gear 0 are those of holding a gear that is above every ng, as 255 is, whatever the card
module _ (car : Vehicle) (vs hs : List ℕ) (s g : ℕ) (l : s < length vs) (n : length hs ≡ length vs) (over : not_driven car g ≡ true) where
  zero_as : (lo i : ℕ) → zero_held car vs hs s lo over-ng i ≡ not_driven car (at (set hs s g) i)
  zero_as lo i =
      by_test (eqb i s)
      (λ t. let e : i ≡ s = eqb-true i s t in rw e (zero_here car vs hs s lo ∙ sym (rw (get_or-set_same hs s g 0 (omega arith)) over)))
      (λ t. let e = eqb-false i s t in zero_else car vs hs s lo i e ∙ rw (get_or-set_other hs s i g 0 e))

  pub zero_as_over : asked_fault car (Hold s 0) vs hs ≡ span_fault car vs (set hs s g) (hold_span vs s).lo (hold_span vs s).end
  unfolding asked_fault span_fault all_checks checks asked_speeds asked_holds span fault_of check_number bad
  zero_as_over =
      let lo = (hold_span vs s).lo in
      let end = (hold_span vs s).end in
      let H = hold_span-holds vs s l in
      let p = zero_held car vs hs s lo in
      let q : Check → ℕ → Bool = λ c. bad c car vs (set hs s g) lo in
      let same : first (p over-ng) lo (end - lo) ≡ first (q over-ng) lo (end - lo) = first_ext (p over-ng) (q over-ng) (end - lo) lo (λ i x y. zero_as lo i) in
      let some-found : first (q over-ng) lo (end - lo) ≢ none =
      λ z. clash (zero_here car vs hs s lo) (none_first (p over-ng) (end - lo) lo (same ∙ z) s H.from (omega (arith, H.from, H.below))) in
      fault-append p lo end before_7 (over-ng ∷ after_7)
      ∙ ap (λ (f : Option Fault). f orelse fault_of p lo end (over-ng ∷ after_7)) (zero_early car vs hs s lo (set hs s g) end)
      ∙ ap (λ (f : Option Fault). fault_of q lo end before_7 orelse f)
      (ap (λ (o : Option ℕ). refuse_at 7 o orelse fault_of p lo end after_7) same ∙ stops 7 (first (q over-ng) lo (end - lo)) (fault_of p lo end after_7)
      (fault_of q lo end after_7) some-found)
      ∙ sym (fault-append q lo end before_7 (over-ng ∷ after_7))

-- ---- what mending may change

-- the trip of the second before s ..
near_before : (ws : List ℕ) (s i : ℕ) → start ws s ≤ i → i < s → InNear ws s i
unfolding start
near_before ws zero i a b = absurd (omega arith)
near_before ws (suc r) i a b =
    let m : moving (at ws r) ≡ true = start_inside ws (suc r) r (omega arith) (omega arith) in
    let c : start ws r ≤ i = rw m at a in
    let T = trip_of ws r m in
    record { a = start ws r; b = stop ws r; near = record { trip = T.0; k = r; one_of = inl refl; from = T.1; below = T.2 }; from = c; below = omega arith }

module _ (ws : List ℕ) (s : ℕ) where
  -- .. and of the second after
  near_after : (i : ℕ) → suc s ≤ i → i < stop ws (suc s) → InNear ws s i
  near_after i a b =
      by_test (moving (at ws (suc s)))
      (λ t. let T = trip_of ws (suc s) t in
      record {
        a = start ws (suc s);
        b = stop ws (suc s);
        near = record { trip = T.0; k = suc s; one_of = inr (inr refl); from = T.1; below = T.2 };
        from = omega arith;
        below = b;
      })
      (λ t. let e : stop ws (suc s) ≡ suc s = stop_standing ws (suc s) t in absurd (omega arith))

  -- what is re-worked is what the request allows
  pub may_change : (i : ℕ) → (around ws s).lo ≤ i → i < (around ws s).hi → MayChange ws s i
  unfolding around
  may_change i a b =
      let l = start_le ws s in
      by_order i s
      (λ h. by_order i (start ws s)
      (λ x. by_order (start ws s) s
      (λ y. before_near (start-before ws s i (omega arith)) (near_before ws s (suc i) (omega arith) (omega arith)))
      (λ y. just_before (omega arith)))
      (λ x. in_near (near_before ws s i x h)))
      (λ h. by_order s i (λ x. in_near (near_after i x b)) (λ x. itself (omega arith)))
