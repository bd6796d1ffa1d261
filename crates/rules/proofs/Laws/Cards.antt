-- A moving second in its trip, and on the finished card of a trace that passes its checks: a held second shows its hold, and no gear turns the
-- engine past nmax.
use Rattle.rules.proofs.Base.{ℕ, suc, ◌+◌, ◌-◌, ◌≤◌, ◌<◌, ◌%◌, mod-eq_of_lt, add-mod_right, arith, ◌≡◌, ◌∙◌, ◌≢◌, true, not, none, List, eqb, length}
use Rattle.rules.proofs.Base.{replicate, length-take, length-drop, length-replicate, eqb-false, not-false, ne_eqb, eq-eqb, lt-ltb, le-ltb, Vehicle}
use Rattle.rules.specs.Inside.{InBounds, Fit}
use Rattle.rules.specs.Words.{if◌then◌else◌, at, part, pass}
use Rattle.rules.specs.Units.{moving, rise, start, stop}
use Rattle.rules.specs.Gears.{is_under_nmax, choose}
use Rattle.rules.specs.Corrections.{here, first_choice, firsts, trip_speeds, trip_holds, first_at, gear_at, clutch, byte, card_at, role_of}
use Rattle.rules.specs.Refusals.{over-ng, over-rev, no-gear, bad, span_fault}
use Rattle.rules.specs.Vocabulary.{role_at}
use Rattle.rules.proofs.Laws.Words.{if_ind, and-fails, at_part, length_part, by_order, pass_done, of₃}
use Rattle.rules.proofs.Laws.Trips.{trip_of, stop_in, trip_start, trip_stop}
use Rattle.rules.proofs.Laws.Held.{first_is, held_gear}
use Rattle.rules.proofs.Laws.Limits.{InRange, of_under, under_of, first_in, gears_in}
use Rattle.rules.proofs.Laws.Checks.{driven, passed}
use Rattle.rules.proofs.Laws.Closing.{closing-part}

-- a moving second's byte, modulo 16, is its gear, clutch down or not
pub card_mod : (car : Vehicle) (vs hs : List ℕ) (i : ℕ) → moving (at vs i) ≡ true → gear_at car vs hs i < 16 → card_at car vs hs i % 16 ≡ gear_at car vs hs i
unfolding card_at byte
card_mod car vs hs i m small =
    rw m (if_ind (λ x. x % 16 ≡ gear_at car vs hs i) (clutch car vs i (gear_at car vs hs i))
    (λ t. add-mod_right (gear_at car vs hs i) 16 ∙ mod-eq_of_lt small) (λ t. mod-eq_of_lt small))

-- they pass where a span that holds the second passes
pub fit_of : (car : Vehicle) (vs hs : List ℕ) (lo hi : ℕ) → span_fault car vs hs lo hi ≡ none → (i : ℕ) → lo ≤ i → i < hi → Fit car vs hs i
unfolding bad
fit_of car vs hs lo hi e i a b = record {
  hold_in_ng = passed car vs hs lo hi e over-ng i a b;
  hold_in_nmax = passed car vs hs lo hi e over-rev i a b;
  some_gear = passed car vs hs lo hi e no-gear i a b;
}

-- what a moving second i is in its trip
module _ (vs hs : List ℕ) (n : length hs ≡ length vs) (i : ℕ) (m : moving (at vs i) ≡ true) where
  pub in_trip : i - start vs i < length (trip_holds vs hs i)
  unfolding trip_holds
  in_trip = let t = trip_of vs i m in rw (length_part hs (start vs i) (stop vs i) (rw n (stop_in vs i m))) (omega arith)

  pub hold_in : at (trip_holds vs hs i) (i - start vs i) ≡ at hs i
  unfolding trip_holds
  hold_in =
      let t = trip_of vs i m in
      let x : start vs i + (i - start vs i) ≡ i = omega arith in
      at_part hs (start vs i) (stop vs i) (i - start vs i) (omega arith) ∙ rw x

  pub speed_in : at (trip_speeds vs i) (i - start vs i) ≡ at vs i
  unfolding trip_speeds
  speed_in =
      let t = trip_of vs i m in
      let x : start vs i + (i - start vs i) ≡ i = omega arith in
      at_part vs (start vs i) (suc (stop vs i)) (i - start vs i) (omega arith) ∙ rw x

module _ (car : Vehicle) (vs hs : List ℕ) (n : length hs ≡ length vs) (i : ℕ) (m : moving (at vs i) ≡ true) where
  -- the trip's first choices up to it
  abbrev before : List ℕ
  before = pass (first_choice car (trip_speeds vs i) (trip_holds vs hs i)) (i - start vs i) (replicate (length (trip_holds vs hs i)) 0)

  -- what it is, seen from its trip and from the whole trace
  place_is : here car (trip_speeds vs i) (trip_holds vs hs i) (i - start vs i) before ≡ role_at car vs hs i
  unfolding here role_at role_of trip_speeds trip_holds first_at firsts
  place_is =
      let t = trip_of vs i m in
      let a = start vs i in
      let b = stop vs i in
      by_order a i
      (λ h.
      let f = first_choice car (part vs a (suc b)) (part hs a b) in
      let zs : List ℕ = replicate (length (part hs a b)) 0 in
      let z : length zs ≡ length (part hs a b) = length-replicate (length (part hs a b)) 0 in
      let k : length (part hs a b) ≡ b - a = length_part hs a b (rw n (stop_in vs i m)) in
      let y : i - 1 - a ≡ i - a - 1 = omega arith in
      rw (
        ne_eqb (i - a) 0 (λ e. omega arith),
        ne_eqb i a (λ e. omega arith),
        closing-part vs t.0 (stop_in vs i m) i t.1 t.2,
        trip_start vs t.0 (i - 1) (omega arith) (omega arith),
        trip_stop vs t.0 (i - 1) (omega arith) (omega arith),
        y,
        of₃ (pass_done f zs (i - a) (length (part hs a b)) (i - a - 1)) (omega (arith, k, z)),
      ))
      (λ h. rw (eq-eqb (i - a) 0 (omega arith), eq-eqb i a (omega arith)))

  -- D, too
  rise_is : rise (trip_speeds vs i) (i - start vs i) ≡ rise vs i
  unfolding rise trip_speeds
  rise_is =
      let t = trip_of vs i m in
      let a = start vs i in
      let b = stop vs i in
      let x : a + (i - a) ≡ i = omega arith in
      let y : a + suc (i - a) ≡ suc i = omega arith in
      let c = stop_in vs i m in
      by_order (suc i) (length vs)
      (λ h.
      let l : suc (i - a) < length (part vs a (suc b)) = simp (length-take, length-drop) (omega arith) in
      rw (lt-ltb _ _ l, lt-ltb _ _ h, at_part vs a (suc b) (i - a) (omega arith), at_part vs a (suc b) (suc (i - a)) (omega arith), x, y))
      (λ h.
      let l : length (part vs a (suc b)) ≤ suc (i - a) = simp (length-take, length-drop) (omega arith) in
      rw (le-ltb _ _ l, le-ltb _ _ h))

  -- its first choice: the hold, else the rules' choice
  pub first_at_is : first_at car vs hs i ≡ (if eqb (at hs i) 0 then choose car (role_at car vs hs i) (at vs i) (rise vs i) else at hs i)
  unfolding first_at first_choice
  first_at_is =
      first_is car (trip_speeds vs i) (trip_holds vs hs i) (i - start vs i) (in_trip vs hs n i m)
      ∙ rw (hold_in vs hs n i m, speed_in vs hs n i m, place_is, rise_is)

  -- the held second's gear is its hold
  pub held_shows : at hs i ≢ 0 → gear_at car vs hs i ≡ at hs i
  unfolding gear_at
  held_shows h =
      held_gear car (trip_speeds vs i) (trip_holds vs hs i) (i - start vs i) (in_trip vs hs n i m) (rw (hold_in vs hs n i m) h) ∙ hold_in vs hs n i m

  module _ (C : InBounds car) (F : Fit car vs hs i) where
    hold_in_range : at hs i ≢ 0 → InRange car C (at vs i) (at hs i)
    unfolding bad
    hold_in_range h =
        let d = driven car (at hs i) F.hold_in_ng in
        let held : not (eqb (at hs i) 0) ≡ true = rw (ne_eqb (at hs i) 0 h) in
        of_under car C (at vs i) (at hs i) (d.1 h) d.0 (not-false _ (and-fails (not (eqb (at hs i) 0)) _ held F.hold_in_nmax))

    first_in_range : InRange car C (at vs i) (first_at car vs hs i)
    unfolding first_at bad
    first_in_range =
        let us = trip_speeds vs i in
        let ks = trip_holds vs hs i in
        let z : first_at car vs hs i ≢ 0 = eqb-false _ _ (and-fails (moving (at vs i)) _ m F.some_gear) in
        let f = first_is car us ks (i - start vs i) (in_trip vs hs n i m) in
        rw (f, ← speed_in vs hs n i m)
        (first_in car C us ks (i - start vs i) _ (rw (hold_in vs hs n i m, speed_in vs hs n i m) hold_in_range) (rw f at z))

    -- the final gear lies from the floor up to ng
    pub gear_in_range : InRange car C (at vs i) (gear_at car vs hs i)
    unfolding gear_at first_at
    gear_in_range =
        rw (speed_in vs hs n i m)
        at (gears_in car C (trip_speeds vs i) (trip_holds vs hs i) (i - start vs i) (in_trip vs hs n i m) (rw (speed_in vs hs n i m) first_in_range))

    -- so the engine turns at nmax or below
    pub no_over_rev : is_under_nmax car (at vs i) (gear_at car vs hs i) ≡ true
    no_over_rev = under_of car C (at vs i) (gear_at car vs hs i) gear_in_range

    -- the byte of a moving second, modulo 16, is its gear
    pub byte_gear : card_at car vs hs i % 16 ≡ gear_at car vs hs i
    byte_gear = let r = gear_in_range in let b = C.ng_to in card_mod car vs hs i m (omega arith)
