-- The card worked in place, stretch by stretch.
use Rattle.rules.proofs.Offered.{ℕ, suc, ◌+◌, ◌-◌, ◌≤◌, ◌<◌, ◌%◌, min, add-one, arith, ◌≡◌, refl, sym, ap, ◌∙◌, ◌⊎◌, inr, true}
use Rattle.rules.proofs.Offered.{false, none, List, ◌++◌, length, set, take, drop, lt-ltb, ltb-false}
use Rattle.rules.proofs.Offered.{at, part, patch, moving, rise, start, stop, gear_at, card_at, speed, step, ends}
use Rattle.rules.proofs.Offered.{bad, span_fault, IsTrip, patch_in, clash, by_test, by_order, both, at_part, length_part}
use Rattle.rules.proofs.Offered.{trip_of, stop_le, stop-after, stop_in, stop_standing, passed, driven, floor-low, low_from, fit_of}
use Rattle.rules.proofs.Offered.{gear_in_range, byte_gear, InBounds}
use Rattle.rules.specs.declared.Vehicle.{Vehicle}
use Rattle.trips.specs.Trip.{AllGeared, trip_bytes}
use Rattle.checks.proofs.Dry.{step_small, end_second}
use Rattle.trips.proofs.Bytes.{gear_part, trip_is}
use Rattle.cards.proofs.Patches.{length-patch, patch_none, patch_join, patch_join_back, patch-one, patch-part}
use Rattle.cards.specs.Rework.{Between, Fitting, Range, Passes, At}
use Rattle.trips.specs.Ready.{ReadyTrip}

-- a standing second before a trip, and one before another standing second
standing_card : (car : Vehicle) (vs hs : List ℕ) (i : ℕ) → moving (at vs i) ≡ false → moving (at vs (suc i)) ≡ true
    → card_at car vs hs i ≡ 16 + gear_at car vs hs (suc i)
unfolding card_at
standing_card car vs hs i r m = rw (r, m)

pub resting_card : (car : Vehicle) (vs hs : List ℕ) (i : ℕ) → moving (at vs i) ≡ false → moving (at vs (suc i)) ≡ false → card_at car vs hs i ≡ 0
unfolding card_at
resting_card car vs hs i r m = rw (r, m)

-- a trip between two standing seconds of a span that passes
module _ (car : Vehicle) (vs hs : List ℕ) (lo hi a b : ℕ) (e : span_fault car vs hs lo hi ≡ none) (x : lo < a) (y : b < hi) where
  pub between : (old : List ℕ) → length hs ≡ length vs → length old ≡ length vs → IsTrip vs a b → 1 ≤ a → b < length vs → Between vs hs old a b
  unfolding bad
  between old n r T before after = record {
    holds = n;
    room = r;
    trip = T;
    before = before;
    after = after;
    speed_to = λ i p q. ltb-false _ _ (passed car vs hs lo hi e speed i (omega arith) (omega arith));
    step_to = λ i p q. step_small car vs hs lo i (omega arith) (omega arith) (passed car vs hs lo hi e step (suc i) (omega arith) (omega arith));
  }

  pub fitting : Fitting car vs hs a b
  fitting i p q = fit_of car vs hs lo hi e i (omega arith) (omega arith)

module _ {vs hs old : List ℕ} {a b : ℕ} (B : Between vs hs old a b) where
  -- D of a second is the same seen from its trip
  rise-part : (j : ℕ) → a + j < b → rise (part vs a (suc b)) j ≡ rise vs (a + j)
  unfolding rise
  rise-part j h =
      let x = B.trip.some_second in
      let e : a + suc j ≡ suc (a + j) = omega arith in
      let l = B.after in
      rw (
        at_part vs a (suc b) j (omega arith),
        at_part vs a (suc b) (suc j) (omega arith),
        length_part vs a (suc b) l,
        lt-ltb (suc j) (suc b - a) (omega arith),
        lt-ltb (suc (a + j)) (length vs) (omega arith),
        e,
      )

  -- what the work on the trip asks
  pub ready : {car : Vehicle} → Fitting car vs hs a b → ReadyTrip car (part vs a (b + 1)) (part hs a b) (part old a b)
  unfolding bad
  ready {car = car} F =
      let x = B.trip.some_second in
      let l = B.after in
      let us : length (part vs a (suc b)) ≡ suc b - a = length_part vs a (suc b) l in
      let ks : length (part hs a b) ≡ b - a = length_part hs a b (omega (arith, B.holds)) in
      let gs : length (part old a b) ≡ b - a = length_part old a b (omega (arith, B.room)) in
      rw add-one (record {
        lists = record { speeds = omega arith; gears = omega arith };
        pace = record {
          speed = λ j h. rw (at_part vs a (suc b) j (omega arith)) (B.speed_to (a + j) (omega arith) (omega arith));
          step = λ j h. rw (rise-part j (omega arith)) (B.step_to (a + j) (omega arith) (omega arith));
        };
        hold = λ j h. rw (at_part hs a b j (omega arith)) (driven car _ (F (a + j) (omega arith) (omega arith)).hold_in_ng).0;
        moves = λ j h. rw (at_part vs a (suc b) j (omega arith)) (B.trip.inside (a + j) (omega arith) (omega arith));
      })

  module _ (car : Vehicle) (C : InBounds car) (F : Fitting car vs hs a b) where
    -- every second of the trip has a gear
    pub geared : AllGeared car (part vs a (b + 1)) (part hs a b)
    geared = rw add-one (record {
      gear = λ j h.
          let x = B.trip.some_second in
          let l = B.after in
          let i : a + j < b = omega (arith, length_part hs a b (omega (arith, B.holds))) in
          let m : moving (at vs (a + j)) ≡ true = B.trip.inside (a + j) (omega arith) i in
          let r = gear_in_range car vs hs B.holds (a + j) m C (F (a + j) (omega arith) i) in
          rw (gear_part car vs hs B.trip B.holds l j i)
          (record { from = omega (arith, floor-low car C (at vs (a + j)), low_from car, r.0); to = omega (arith, r.1, C.ng_to) });
    })

    -- the standing second before shows the gear of the trip's first second
    shows_first : 16 + card_at car vs hs a % 16 ≡ card_at car vs hs (a - 1)
    shows_first =
        let x = B.trip.some_second in
        let m : moving (at vs a) ≡ true = B.trip.inside a (omega arith) x in
        let e : suc (a - 1) ≡ a = omega (arith, B.before) in
        rw (byte_gear car vs hs B.holds a m C (F a (omega arith) x)) (sym (standing_card car vs hs (a - 1) (B.trip.before (a - 1) e) (rw e m) ∙ rw e))

    -- the part put back, and the standing second before written
    pub worked : (z : List ℕ) → z ≡ trip_bytes car (part vs a (b + 1)) (part hs a b)
        → set (take a old ++ (z ++ drop b old)) (a - 1) (16 + at (take a old ++ (z ++ drop b old)) a % 16) ≡ patch old (a - 1) b (card_at car vs hs)
    worked z q =
        let f = card_at car vs hs in
        let x = B.trip.some_second in
        let l = B.after in
        let r = B.room in
        let o = B.before in
        let e : suc (a - 1) ≡ a = omega arith in
        let p : take a old ++ (z ++ drop b old) ≡ patch old a b f =
        ap (λ (y : List ℕ). take a old ++ (y ++ drop b old)) (rw add-one at q ∙ trip_is car vs hs B.trip B.holds l)
        ∙ patch-part f old a b (omega arith) (omega arith) in
        rw (p, patch_in old a b f a (omega arith) x (omega arith), shows_first)
        (patch-one f (patch old a b f) (a - 1) ∙ rw e (patch_join_back f old (a - 1) a b (omega arith) (omega arith)))

-- ---- a standing second with the trip that follows it

-- where a span passes, the trace's first or last second stands
pub ends_stand : (car : Vehicle) (vs hs : List ℕ) (lo hi : ℕ) → span_fault car vs hs lo hi ≡ none → (i : ℕ) → lo ≤ i → i < hi → (i ≡ 0) ⊎ (suc i ≡ length vs)
    → moving (at vs i) ≡ false
unfolding bad
ends_stand car vs hs lo hi e i a b o =
    by_test (moving (at vs i)) (λ m. clash (both m (end_second i (length vs) o)) (passed car vs hs lo hi e ends i a b)) (λ m. m)

-- a trip ends by the next standing second
stops_by : (vs : List ℕ) (i hi : ℕ) → i < hi → moving (at vs hi) ≡ false → stop vs (suc i) ≤ hi
stops_by vs i hi h r =
    by_order hi (stop vs (suc i))
    (λ l.
    by_test (moving (at vs (suc i)))
    (λ m. let t = trip_of vs (suc i) m in clash (t.0.inside hi (omega arith) l) r)
    (λ m. let e : stop vs (suc i) ≡ suc i = stop_standing vs (suc i) m in omega arith)) (λ l. l)

module _ {vs hs old : List ℕ} {i : ℕ} (A : At vs hs old i) where
  -- no trip follows
  pub rests : (car : Vehicle) → stop vs (i + 1) ≡ i + 1 → set old i 0 ≡ patch old i (stop vs (i + 1)) (card_at car vs hs)
  rests car e =
      let r : moving (at vs (suc i)) ≡ false =
      by_test (moving (at vs (suc i))) (λ m. let t = trip_of vs (suc i) m in absurd (omega (arith, rw add-one at e))) (λ m. m) in
      rw (e, add-one, ← resting_card car vs hs i A.standing r) (patch-one (card_at car vs hs) old i)

  -- one does
  module _ (n : stop vs (i + 1) ≡ i + 1 → ⊥) where
    moves_on : moving (at vs (suc i)) ≡ true
    moves_on = by_test (moving (at vs (suc i))) (λ m. m) (λ m. absurd (n (rw add-one (stop_standing vs (suc i) m))))

    its_trip : IsTrip vs (suc i) (stop vs (suc i))
    unfolding start
    its_trip = let s : start vs (suc i) ≡ suc i = rw A.standing in rw s at (trip_of vs (suc i) moves_on).0

    in_range : stop vs (suc i) ≤ A.hi
    in_range = stops_by vs i A.hi A.until A.range.ends

    module _ (car : Vehicle) (P : Passes car vs hs A.lo A.hi) where
      in_time : stop vs (suc i) < length vs
      in_time =
          by_order (stop vs (suc i)) (length vs) (λ h. h) (λ h.
          let c = stop_in vs (suc i) moves_on in
          let r = in_range in
          let y = its_trip.some_second in
          let k : suc (length vs - 1) ≡ length vs = omega (arith, A.in_trace) in
          clash (its_trip.inside (length vs - 1) (omega arith) (omega arith))
          (ends_stand car vs hs A.lo (min (suc A.hi) (length vs)) P (length vs - 1) (omega (arith, A.since)) (omega (arith, A.range.inside)) (inr k)))

      pub follows : Between vs hs old (i + 1) (stop vs (i + 1))
      follows =
          let r = in_range in
          let t = in_time in
          rw add-one (between car vs hs A.lo (min (suc A.hi) (length vs)) (suc i) (stop vs (suc i)) P (omega (arith, A.since)) (omega arith) old
          A.range.holds A.range.room its_trip (omega arith) t)

      pub follows_fit : Fitting car vs hs (i + 1) (stop vs (i + 1))
      follows_fit =
          let r = in_range in
          let t = in_time in
          rw add-one (fitting car vs hs A.lo (min (suc A.hi) (length vs)) (suc i) (stop vs (suc i)) P (omega (arith, A.since)) (omega arith))

-- ---- every stretch of a range, from left to right

-- the card has been worked from lo up to a standing second i, or the range's end
pub record Swept (car : Vehicle) (vs hs old new : List ℕ) (lo hi i : ℕ) : Type 0 where
  pub since : lo ≤ i
  pub until : i ≤ hi
  pub standing : moving (at vs i) ≡ false
  pub so_far : new ≡ patch old lo i (card_at car vs hs)
  pub same_room : length new ≡ length old

module _ {car : Vehicle} {vs hs old : List ℕ} {lo hi : ℕ} (P : Range vs hs old lo hi) where
  pub swept_none : Swept car vs hs old old lo hi lo
  swept_none = record { since = omega arith; until = P.order; standing = P.begins; so_far = patch_none (card_at car vs hs) old lo; same_room = refl }

  module _ {new : List ℕ} {i : ℕ} (S : Swept car vs hs old new lo hi i) where
    unfoldable pub swept_at : i < hi → At vs hs new i
    swept_at h = record {
      lo = lo;
      hi = hi;
      range = record { holds = P.holds; room = S.same_room ∙ P.room; order = P.order; inside = P.inside; begins = P.begins; ends = P.ends };
      since = S.since;
      until = h;
      standing = S.standing;
      in_trace = omega (arith, P.inside);
    }

    pub swept_more : {j : ℕ} {next : List ℕ} → i < hi → j ≡ stop vs (i + 1) → next ≡ patch new i (stop vs (i + 1)) (card_at car vs hs)
        → Swept car vs hs old next lo hi j
    swept_more {j} {next} h x y =
        let l = stop_le vs (i + 1) in
        rw x (record {
          since = omega (arith, S.since);
          until = rw add-one (stops_by vs i hi h P.ends);
          standing = stop-after vs (i + 1);
          so_far =
              y ∙ ap (λ (c : List ℕ). patch c i (stop vs (i + 1)) (card_at car vs hs)) S.so_far
              ∙ patch_join (card_at car vs hs) old lo i (stop vs (i + 1)) S.since (omega arith);
          same_room = ap length y ∙ length-patch (card_at car vs hs) new i (stop vs (i + 1)) ∙ S.same_room;
        })

    pub swept_all : hi ≤ i → new ≡ patch old lo hi (card_at car vs hs)
    swept_all h = let e : i ≡ hi = omega (arith, S.until) in rw e at S.so_far

-- the next standing second is further on
pub swept_less : (vs : List ℕ) (i hi : ℕ) → i < hi → hi - stop vs (i + 1) < hi - i
swept_less vs i hi h = omega (arith, stop_le vs (i + 1))
