-- Where the second that is spoken of lies: what is looked at, and its trip.
use Rattle.rules.proofs.Offered.{ℕ, suc, ◌+◌, ◌-◌, ◌≤◌, ◌<◌, min, add-one, arith, ◌≡◌, refl, sym, ap, ◌∙◌, ◌≢◌, true, false, none, List, eqb, InBounds, lit<}
use Rattle.rules.proofs.Offered.{length, eq-eqb, ne_eqb, lt-ltb, at, part, moving, rise, start, stop, trip_speeds, trip_holds, checks, bad, seconds_fault}
use Rattle.rules.proofs.Offered.{fastest, Extent, around, hold_span, IsTrip, kind, about, why_lo, why_end, clash, by_test, by_order, at_part, length_part}
use Rattle.rules.proofs.Offered.{trip_of, trip_start, trip_stop, start_le, start-before, stop_le, stop-after, stop_to, moving_in, standing_past, listed, driven}
use Rattle.rules.proofs.Offered.{trace_in}
use Rattle.rules.proofs.Theorems.Edits.{span_of-hold}
use Rattle.std.proofs.lemmas.Bool.Decides.{nat_tests}
use Rattle.rules.specs.declared.Vehicle.{Vehicle}
use Rattle.trips.specs.Ready.{ReadyTrip}
use Rattle.checks.specs.Checks.{Spanned}
use Rattle.checks.specs.Calm.{AtMost}
use Rattle.checks.specs.Want.{Resting, Level, Ahead}
use Rattle.checks.proofs.Dry.{level, ahead}
use Rattle.checks.proofs.Rows.{Opened, spanned}
use Rattle.trips.proofs.Passes.{gears_to}
use Rattle.reasons.specs.declared.Chain.{Chain}
use denote.Enum.Bare.{sameb}
use denote.Enum.Declared.{tag_of}
use Rattle.reasons.specs.contracts.Kind.{the_type}
use Rattle.reasons.specs.declared.Kind.{Kind}
use Rattle.reasons.specs.declared.Kind.TheVariants.{Standing, BeforeTrip, Moving}
use Rattle.reasons.specs.declared.View.{View}
use Rattle.reasons.specs.Asks.{kind_code, Viewed, InTrip, chain_of}

-- ---- what the second is

module _ (vs : List ℕ) (s : ℕ) where
  pub kind-moving : moving (at vs s) ≡ true → 2 ≡ kind vs s
  unfolding kind
  kind-moving m = rw m

  pub kind-before : moving (at vs s) ≡ false → moving (at vs (suc s)) ≡ true → 1 ≡ kind vs s
  unfolding kind
  kind-before m n = rw (m, n)

  pub kind-rests : moving (at vs s) ≡ false → moving (at vs (suc s)) ≡ false → 0 ≡ kind vs s
  unfolding kind
  kind-rests m n = rw (m, n)

  pub about-next : kind vs s ≡ 1 → suc s ≡ about vs s
  unfolding about
  about-next e = rw (eq-eqb (kind vs s) 1 e)

  pub about_itself : (kind vs s ≡ 1 → ⊥) → s ≡ about vs s
  unfolding about
  about_itself n = rw (ne_eqb (kind vs s) 1 n)

  pub about_from : s ≤ about vs s
  unfolding about
  about_from = grind (arith, nat_tests)

  pub about_in : s < length vs → about vs s < length vs
  unfolding about kind
  about_in h = grind (arith, nat_tests, moving_in)

  -- where something is said, the second that is spoken of moves
  pub about_moves : (kind vs s ≡ 0 → ⊥) → moving (at vs (about vs s)) ≡ true
  unfolding about kind
  about_moves z = grind (arith, nat_tests)

-- past the trace's end nothing moves
pub ruleset kinds = (nat_tests, standing_past)

-- as the code has it: its number, and whether it is one or another
pub code_is : (k : Kind) → tag_of the_type k ≡ kind_code k
code_is Standing = refl
code_is BeforeTrip = refl
code_is Moving = refl

pub before_is : (k : Kind) → sameb the_type k BeforeTrip ≡ eqb (kind_code k) 1
before_is Standing = refl
before_is BeforeTrip = refl
before_is Moving = refl

pub standing_is : (k : Kind) → sameb the_type k Standing ≡ eqb (kind_code k) 0
standing_is Standing = refl
standing_is BeforeTrip = refl
standing_is Moving = refl

-- ---- what is looked at

pub record Looked (vs : List ℕ) (lo end : ℕ) : Type 0 where
  pub some : lo < end
  pub inside : end ≤ length vs
  pub begins : lo ≢ 0 → moving (at vs lo) ≡ false
  pub ends : end ≢ length vs → moving (at vs (end - 1)) ≡ false

pub resting : {vs : List ℕ} {lo end : ℕ} → Looked vs lo end → Resting vs lo end
resting K = record { some = K.some; begins = K.begins; ends = K.ends }

module _ (vs : List ℕ) (i : ℕ) (h : i < length vs) where
  looked_here : Looked vs (hold_span vs i).lo (hold_span vs i).end
  unfolding hold_span around
  looked_here =
      by_test (moving (at vs i))
      (λ m.
      let x = start_le vs i in
      let y = stop_le vs (suc i) in
      let z = stop_to vs (suc i) h in
      rw m (record {
        some = omega arith;
        inside = omega arith;
        begins = λ n. start-before vs i (start vs i - 1) (omega arith);
        ends = λ n. let e : min (suc (stop vs (suc i))) (length vs) - 1 ≡ stop vs (suc i) = omega arith in rw e (stop-after vs (suc i));
      }))
      (λ m. rw m (record { some = omega arith; inside = h; begins = λ n. m; ends = λ n. let e : suc i - 1 ≡ i = omega arith in rw e m }))

  pub looked : {lo end : ℕ} → lo ≡ (hold_span vs i).lo → end ≡ (hold_span vs i).end → Looked vs lo end
  looked a b = rw (a, b) looked_here

  -- a standing second alone
  pub span_standing : moving (at vs i) ≡ false → (i ≡ (hold_span vs i).lo) × (i + 1 ≡ (hold_span vs i).end)
  unfolding hold_span
  span_standing m = rw m (refl, add-one i)

  -- of a moving one its trip
  pub span-moving : moving (at vs i) ≡ true → (start vs i - 1 ≡ (hold_span vs i).lo) × (min (suc (stop vs i)) (length vs) ≡ (hold_span vs i).end)
  span-moving m = let e = span_of-hold vs i m in (sym (ap (λ (r : Extent). r.lo) e), sym (ap (λ (r : Extent). r.end) e))

-- of a second as it is seen
pub looked_view : {vs : List ℕ} {view : View} → Viewed vs view → view.second < length vs → Looked vs view.checked.lo view.checked.hi
unfolding why_lo why_end
looked_view {vs} {view} W h = looked vs (about vs view.second) (about_in vs view.second h) W.checked_from W.checked_to

-- a moving second lies in what is looked at
pub inside_span : (vs : List ℕ) (i : ℕ) → moving (at vs i) ≡ true → ((hold_span vs i).lo ≤ i) × (i < (hold_span vs i).end)
inside_span vs i m =
    let h = moving_in vs i m in
    let t = trip_of vs i m in
    let e = span-moving vs i h m in
    omega (arith, e.0, t.1, e.1, t.2, h)

module _ {car : Vehicle} {vs hs : List ℕ} (O : Opened car vs hs hs) {lo end : ℕ} (K : Looked vs lo end) where
  pub spanned_at : Spanned car vs lo end
  spanned_at = spanned O (omega (arith, K.some)) K.inside

  -- where 4 to 9 pass, no speed is above the highest
  pub slow_at : seconds_fault car vs hs lo end ≡ none → AtMost (at vs) lo end fastest
  slow_at e = let flat : Level vs lo end = level car vs hs lo end e (resting K) K.inside in flat.speed_to

-- ---- the trip of a moving second, of a span that passes 4 to 9

module _ {car : Vehicle} {vs hs : List ℕ} (O : Opened car vs hs hs) {i lo end : ℕ} (h : i < length vs) (a : lo ≡ (hold_span vs i).lo)
    (b : end ≡ (hold_span vs i).end)
    (e : seconds_fault car vs hs lo end ≡ none) (m : moving (at vs i) ≡ true) where
  looks : Looked vs lo end
  looks = looked vs i h a b

  flat : Level vs lo end
  flat = level car vs hs lo end e (resting looks) looks.inside

  its : IsTrip vs (start vs i) (stop vs i) × (start vs i ≤ i) × (i < stop vs i)
  its = trip_of vs i m

  low_is : lo ≡ start vs i - 1
  low_is = a ∙ sym (span-moving vs i h m).0

  end_is : end ≡ min (suc (stop vs i)) (length vs)
  end_is = b ∙ sym (span-moving vs i h m).1

  -- a second before the trip
  later : 1 ≤ start vs i
  later =
      by_order 0 (start vs i) (λ l. l)
      (λ l. let z : lo ≡ start vs i = omega (arith, low_is) in
      clash (rw (← z) at (its.0.inside (start vs i) (omega arith) its.0.some_second)) flat.rest.first)

  same_stop : stop vs (start vs i) ≡ stop vs i
  same_stop = trip_stop vs its.0 (start vs i) (omega arith) its.0.some_second

  pub told : InTrip car vs hs i (start vs i) (stop vs i)
  unfolding bad seconds_fault checks
  told =
      let x = low_is in
      let y = end_is in
      let l = later in
      let t = its in
      let u = stop_to vs i (omega arith) in
      let A : Ahead vs (start vs i) (stop vs (start vs i)) =
      ahead flat (omega (arith, x, l)) (omega (arith, x, y, t.1, t.2, looks.inside, h)) (t.0.before (start vs i - 1) (omega (arith, l))) in
      let B : Ahead vs (start vs i) (stop vs i) = rw same_stop at A in
      record {
        trip = B;
        rooms = O.holds_long;
        short = (trace_in vs O.trace).1;
        since = t.1;
        until = t.2;
        hold =
            λ j p q.
            (driven car (at hs j) (listed (λ c. bad c car vs hs lo) lo end checks e 3 (lit< tt) j (omega (arith, x)) (omega (arith, y, B.inside)))).0;
      }

-- ---- the trip's own lists

module _ {car : Vehicle} {vs hs : List ℕ} {i a b : ℕ} (T : InTrip car vs hs i a b) where
  pub its_trip : IsTrip vs a b
  its_trip = record { some_second = omega (arith, T.since, T.until); inside = T.trip.moves; before = T.trip.before; after = T.trip.after }

  rise-part : (j : ℕ) → a + j < b → rise (part vs a (suc b)) j ≡ rise vs (a + j)
  unfolding rise
  rise-part j h =
      let e : a + suc j ≡ suc (a + j) = omega arith in
      let l = T.trip.inside in
      rw (
        at_part vs a (suc b) j (omega arith),
        at_part vs a (suc b) (suc j) (omega arith),
        length_part vs a (suc b) l,
        lt-ltb (suc j) (suc b - a) (omega arith),
        lt-ltb (suc (a + j)) (length vs) (omega arith),
        e,
      )

  -- what going through it asks
  pub trip_ready : {gs : List ℕ} → length gs ≡ b - a → ReadyTrip car (part vs a (b + 1)) (part hs a b) gs
  trip_ready {gs} g =
      let l = T.trip.inside in
      let o = T.trip.order in
      let us : length (part vs a (suc b)) ≡ suc b - a = length_part vs a (suc b) l in
      let ks : length (part hs a b) ≡ b - a = length_part hs a b (omega (arith, T.rooms)) in
      rw add-one (record {
        lists = record { speeds = omega arith; gears = omega arith };
        pace = record {
          speed = λ j h. rw (at_part vs a (suc b) j (omega arith)) (T.trip.speed_to (a + j) (omega arith) (omega arith));
          step = λ j h. rw (rise-part j (omega arith)) (T.trip.step_to (a + j) (omega arith) (omega arith));
        };
        hold = λ j h. rw (at_part hs a b j (omega arith)) (T.hold (a + j) (omega arith) (omega arith));
        moves = λ j h. rw (at_part vs a (suc b) j (omega arith)) (T.trip.moves (a + j) (omega arith) (omega arith));
      })

  pub trip_place : i - a < length (part hs a b)
  trip_place = rw (length_part hs a b (omega (arith, T.rooms, T.trip.inside))) (omega (arith, T.since, T.until))

  -- the trip's lists, as the card names them
  pub trip_lists : chain_of car (part vs a (b + 1)) (part hs a b) (i - a) ≡ chain_of car (trip_speeds vs i) (trip_holds vs hs i) (i - start vs i)
  unfolding trip_speeds trip_holds
  trip_lists = rw (add-one, trip_start vs its_trip i T.since T.until, trip_stop vs its_trip i T.since T.until)

  -- the gear after C leaves room for the clutch
  pub chain_small : InBounds car → {x : Chain} → x ≡ chain_of car (part vs a (b + 1)) (part hs a b) (i - a) → x.after_c ≤ 11
  unfolding chain_of
  chain_small C {x} q =
      let h : at (part hs a b) (i - a) ≤ car.ng = rw (at_part hs a b (i - a) (omega (arith, T.since, T.until)))
      (T.hold (a + (i - a)) (omega (arith, T.since)) (omega (arith, T.since, T.until))) in
      let g = gears_to car C (part vs a (b + 1)) (part hs a b) (i - a) trip_place h in
      let e = ap (λ (y : Chain). y.after_c) q in
      omega (arith, e, g, C.ng_to)
