-- Two vehicles whose gears turn the engine alike, those of one d higher: on any seconds the same refusals, and where the checks of a trip pass each byte of it
-- d higher.
use Rattle.rules.proofs.Base.{ℕ, suc, ◌+◌, ◌-◌, ◌*◌, ◌≤◌, ◌<◌, arith, ◌≡◌, refl, sym, ap, ◌∙◌, ◌≢◌, Bool, true, false, Option, none, some, List, []}
use Rattle.rules.proofs.Base.{◌∷◌, ◌++◌, ltb, eqb, pos, le_z, length, lt-ltb, le-ltb, eqb-true, eqb-false, Vehicle}
use Rattle.rules.specs.Words.{◌and◌, ◌or◌, at, part, first}
use Rattle.rules.specs.Units.{low, moving, rise, start, stop}
use Rattle.rules.specs.Gears.{engine}
use Rattle.rules.specs.Corrections.{firsts, gears, trip_speeds, trip_holds, first_at, gear_at, clutch, byte, card_at}
use Rattle.rules.specs.Refusals.{Fault, refuse_at, ◌orelse◌, not_driven, Check, speed, step, ends, over-ng, at_rest, over-rev, no-gear, check_number}
use Rattle.rules.specs.Refusals.{checks, all_checks, bad, fault_of, seconds_fault, span_fault}
use Rattle.rules.specs.Inside.{InBounds, Fit}
use Rattle.rules.specs.Vocabulary.{Geared, up}
use Rattle.rules.proofs.Laws.Words.{by_test, if_ind, and-fails, or_right, length_part}
use Rattle.rules.proofs.Laws.Searches.{first_ext, none_first}
use Rattle.rules.proofs.Laws.Held.{length-firsts, length-gears}
use Rattle.rules.proofs.Laws.Trips.{trip_of, trip_start, trip_stop, stop_in}
use Rattle.rules.proofs.Laws.Checks.{driven, fault-append, fault_ext}
use Rattle.rules.proofs.Laws.Cards.{in_trip, gear_in_range}
use Rattle.rules.proofs.Laws.Limits.{floor-low}
use Rattle.rules.proofs.Laws.Geared.{up_none, up_some, up_zero, ltb_same, engine-up, under_up}
use Rattle.rules.proofs.Laws.GearedTrips.{ups, at_ups, part_ups, Some, firsts-up, gears-up}

-- ---- a trip whose checks pass

-- those on which the gears of the trip of second i lean
abbrev pub TripFits : Vehicle → List ℕ → List ℕ → ℕ → Type 0
TripFits car vs hs i = (k : ℕ) → start vs i ≤ k → k < stop vs i → Fit car vs hs k

pub trip_ups : (d : ℕ) (vs hs : List ℕ) (i : ℕ) → trip_holds vs (ups d hs) i ≡ ups d (trip_holds vs hs i)
unfolding trip_holds
trip_ups d vs hs i = part_ups d hs (start vs i) (stop vs i)

module _ (car : Vehicle) (vs hs : List ℕ) (even : length hs ≡ length vs) (i : ℕ) (m : moving (at vs i) ≡ true) (F : TripFits car vs hs i) where
  -- each first choice of it is a gear
  pub some_firsts : Some (firsts car (trip_speeds vs i) (trip_holds vs hs i))
  unfolding first_at trip_speeds trip_holds bad
  some_firsts j h =
      let t = trip_of vs i m in
      let c = stop_in vs i m in
      let n : length (firsts car (trip_speeds vs i) (trip_holds vs hs i)) ≡ stop vs i - start vs i =
      length-firsts car (trip_speeds vs i) (trip_holds vs hs i) ∙ length_part hs (start vs i) (stop vs i) (rw even c) in
      let k = start vs i + j in
      let u : moving (at vs k) ≡ true = t.0.inside k (omega arith) (omega arith) in
      let a = trip_start vs t.0 k (omega arith) (omega arith) in
      let b = trip_stop vs t.0 k (omega arith) (omega arith) in
      let e : start vs i + j - start vs i ≡ j = omega arith in
      let p = (F k (omega arith) (omega arith)).some_gear in
      let z : first_at car vs hs k ≢ 0 = eqb-false _ _ (and-fails (moving (at vs k)) (eqb (first_at car vs hs k) 0) u p) in
      let w : at (firsts car (part vs (start vs i) (suc (stop vs i))) (part hs (start vs i) (stop vs i))) j ≢ 0 = rw (a, b, e) at z in
      omega arith

module _ {d : ℕ} {car van : Vehicle} (G : Geared d car van) (C : InBounds car) (vs hs : List ℕ) (even : length hs ≡ length vs) where
  module _ (i : ℕ) (m : moving (at vs i) ≡ true) (F : TripFits car vs hs i) where
    pub gear_up : (gear_at van vs (ups d hs) i ≡ gear_at car vs hs i + d) × (1 ≤ gear_at car vs hs i)
    unfolding gear_at
    gear_up =
        let g = gears-up G (trip_speeds vs i) (trip_holds vs hs i) C (some_firsts car vs hs even i m F) in
        let n = length-gears car (trip_speeds vs i) (trip_holds vs hs i) in
        let s = g.1 (i - start vs i) (omega (arith, in_trip vs hs even i m)) in
        (rw (trip_ups d vs hs i, g.0) (at_ups d (gears car (trip_speeds vs i) (trip_holds vs hs i)) (i - start vs i) ∙ up_some d _ s), s)

    -- the final gear is one that is driven
    pub gear_driven : (low car ≤ gear_at car vs hs i) × (gear_at car vs hs i ≤ car.ng)
    gear_driven =
        let t = trip_of vs i m in
        let r = gear_in_range car vs hs even i m C (F i t.1 t.2) in
        (omega (arith, r.0, floor-low car C (at vs i)), r.1)

    byte-up : byte van vs i (gear_at car vs hs i + d) ≡ byte car vs i (gear_at car vs hs i) + d
    unfolding byte clutch
    byte-up =
        let g = gear_at car vs hs i in
        rw (engine-up G (at vs i) g gear_driven.0 gear_driven.1, G.idle)
        (by_test (le_z (rise vs i) (pos 0) and ltb (engine car g (at vs i)) (1000 * car.idle)) (λ t. rw t (omega arith)) (λ t. rw t))

    byte_some : 1 ≤ byte car vs i (gear_at car vs hs i)
    unfolding byte
    byte_some = let s = gear_up.1 in if_ind (λ b. 1 ≤ b) (clutch car vs i (gear_at car vs hs i)) (λ t. omega arith) (λ t. s)

  pub card_at-up : (i : ℕ) → (moving (at vs i) ≡ true → TripFits car vs hs i) → (moving (at vs (suc i)) ≡ true → TripFits car vs hs (suc i))
      → card_at van vs (ups d hs) i ≡ up d (card_at car vs hs i)
  unfolding card_at
  card_at-up i F H =
      by_test (moving (at vs i))
      (λ m. rw (m, (gear_up i m (F m)).0) (byte-up i m (F m) ∙ sym (up_some d _ (byte_some i m (F m)))))
      (λ m. by_test (moving (at vs (suc i)))
      (λ u.
      let g = gear_up (suc i) u (H u) in
      let e : 16 + (gear_at car vs hs (suc i) + d) ≡ 16 + gear_at car vs hs (suc i) + d = omega arith in
      rw (m, u, g.0) (e ∙ sym (up_some d (16 + gear_at car vs hs (suc i)) (omega arith))))
      (λ u. rw (m, u) (sym (up_none d))))

-- ---- the refusals

-- a check that finds something keeps those after it from being asked
stops : (n : ℕ) (o : Option ℕ) (p q : Option Fault) → (o ≡ none → p ≡ q) → refuse_at n o orelse p ≡ refuse_at n o orelse q
unfolding refuse_at ◌orelse◌
stops n none p q h = h refl
stops n (some i) p q h = refl

abbrev before_7 : List Check
before_7 = speed ∷ step ∷ ends ∷ []

module _ {d : ℕ} {car van : Vehicle} (G : Geared d car van) (C : InBounds car) (vs hs : List ℕ) where
  driven_up : (h : ℕ) → not_driven van (up d h) ≡ not_driven car h
  unfolding not_driven ◌or◌ ◌and◌
  driven_up h =
      by_test (eqb h 0)
      (λ t. let z : h ≡ 0 = eqb-true h 0 t in rw (z, up_none d, le-ltb van.ng 0 (omega arith), le-ltb car.ng 0 (omega arith)))
      (λ t.
      let n = eqb-false h 0 t in
      rw (
        up_some d h (omega arith),
        lt-ltb 0 (h + d) (omega arith),
        lt-ltb 0 h (omega arith),
        ltb_same {a = van.ng} {b = h + d} {c = car.ng} {e = h} (λ z. omega (arith, G.highest)) (λ z. omega (arith, G.highest)),
        ltb_same {a = h + d} {b = low van} {c = h} {e = low car} (λ z. omega (arith, G.lowest)) (λ z. omega (arith, G.lowest)),
      ))

  pub first-up-at : (i : ℕ) → first_at van vs (ups d hs) i ≡ up d (first_at car vs hs i)
  unfolding first_at trip_holds
  first-up-at i =
      rw (part_ups d hs (start vs i) (stop vs i), firsts-up G (trip_speeds vs i) (part hs (start vs i) (stop vs i)) C)
      (at_ups d (firsts car (trip_speeds vs i) (part hs (start vs i) (stop vs i))) (i - start vs i))

  -- where no hold of a second is refused by 7, each check says the same of it
  bad-up : (c : Check) (lo i : ℕ) → not_driven car (at hs i) ≡ false → bad c van vs (ups d hs) lo i ≡ bad c car vs hs lo i
  unfolding bad ◌and◌
  bad-up c lo i h =
      elim c as (λ k. bad k van vs (ups d hs) lo i ≡ bad k car vs hs lo i) [
        | speed ↦ refl
        | step ↦ refl
        | ends ↦ refl
        | over-ng ↦ rw (at_ups d hs i) (driven_up (at hs i))
        | at_rest ↦ rw (at_ups d hs i, up_zero d (at hs i))
        | over-rev ↦
            by_test (eqb (at hs i) 0)
            (λ t. rw (at_ups d hs i, up_zero d (at hs i), t))
            (λ t.
            let n = eqb-false (at hs i) 0 t in
            let r = driven car (at hs i) h in
            rw (at_ups d hs i, up_zero d (at hs i), t, up_some d (at hs i) (omega arith), under_up G (at vs i) (at hs i) (r.1 n) r.0))
        | no-gear ↦ rw (first-up-at i, up_zero d (first_at car vs hs i))
      ]

  -- a row of checks that begins with 4 to 7, each with another test in front that both vehicles share
  pub row_up : (extra : Check → ℕ → Bool) (rest : List Check) (lo hi : ℕ)
      → fault_of (λ c i. extra c i or bad c van vs (ups d hs) lo i) lo hi (before_7 ++ (over-ng ∷ rest))
      ≡ fault_of (λ c i. extra c i or bad c car vs hs lo i) lo hi (before_7 ++ (over-ng ∷ rest))
  unfolding fault_of bad
  row_up extra rest lo hi =
      let p : Check → ℕ → Bool = λ c i. extra c i or bad c van vs (ups d hs) lo i in
      let q : Check → ℕ → Bool = λ c i. extra c i or bad c car vs hs lo i in
      let same : first (p over-ng) lo (hi - lo) ≡ first (q over-ng) lo (hi - lo) =
      first_ext (p over-ng) (q over-ng) (hi - lo) lo (λ i x y. rw (at_ups d hs i, driven_up (at hs i))) in
      fault-append p lo hi before_7 (over-ng ∷ rest)
      ∙ ap (λ (f : Option Fault). fault_of q lo hi before_7 orelse f)
      (ap (λ (o : Option ℕ). refuse_at (check_number over-ng) o orelse fault_of p lo hi rest) same
      ∙ stops (check_number over-ng) (first (q over-ng) lo (hi - lo)) (fault_of p lo hi rest) (fault_of q lo hi rest)
      (λ z. fault_ext p q lo hi (λ c i x y. rw (bad-up c lo i (or_right _ _ (none_first (q over-ng) (hi - lo) lo z i x (omega arith))))) rest))
      ∙ sym (fault-append q lo hi before_7 (over-ng ∷ rest))

  -- 4 to 10, and 4 to 9
  pub fault-up : (lo hi : ℕ) → span_fault van vs (ups d hs) lo hi ≡ span_fault car vs hs lo hi
  unfolding span_fault all_checks checks ◌or◌
  fault-up lo hi = row_up (λ c i. false) (at_rest ∷ over-rev ∷ no-gear ∷ []) lo hi

  pub seconds-up : (lo hi : ℕ) → seconds_fault van vs (ups d hs) lo hi ≡ seconds_fault car vs hs lo hi
  unfolding seconds_fault checks ◌or◌
  seconds-up lo hi = row_up (λ c i. false) (at_rest ∷ over-rev ∷ []) lo hi
