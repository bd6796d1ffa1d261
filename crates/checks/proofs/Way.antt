-- A part of a trip on the way through it: going through its seconds with the speed that follows gives their first choices.
use Rattle.rules.proofs.Offered.{ℕ, zero, suc, ◌+◌, ◌-◌, ◌≤◌, ◌<◌, arith, ◌≡◌, ◌≢◌, refl, sym, ap, ◌∙◌, Bool, true, false, List, [], ◌∷◌, leb, eqb, length}
use Rattle.rules.proofs.Offered.{drop, le-leb, lt-leb, eq-eqb, ne_eqb, ◌and◌, at, part, pass, rise, start, closing, role_of, first_at, IsTrip}
use Rattle.rules.proofs.Offered.{role_at, by_order, and_no, at_part, length_part, pass-at, pass_done, trip_start, closing-part, first_at_is, of₃}
use Rattle.std.specs.Prelude.{Ok, Err}
use Rattle.rules.specs.declared.Vehicle.{Vehicle}
use Rattle.gears.specs.Choosing.{first_of}
use Rattle.trips.specs.Ready.{Paced}
use Rattle.trips.specs.Trip.{on_way}
use Rattle.trips.proofs.Clutch.{rise-here}
use Rattle.checks.specs.declared.trace.Asked.{Asked}
use Rattle.checks.specs.Asked.{speeds_with, holds_with}
use Rattle.checks.specs.Calm.{Each}
use Rattle.checks.specs.Want.{OnWay, Firsts, Through}
use Rattle.checks.proofs.Through.{speed_else, hold_else}

-- ---- what is lent of a part

-- us and hs are the speeds and the holds from second i on, with the speed that follows
pub record Piece (vs ks us hs : List ℕ) (i : ℕ) : Type 0 where
  pub sizes : length us ≡ suc (length hs)
  pub speed : (j : ℕ) → j ≤ length hs → at us j ≡ at vs (i + j)
  pub hold : (j : ℕ) → j < length hs → at hs j ≡ at ks (i + j)

-- one second
pub piece_one : {vs ks : List ℕ} {i v next h : ℕ} → v ≡ at vs i → next ≡ at vs (i + 1) → h ≡ at ks i → Piece vs ks (v ∷ next ∷ []) (h ∷ []) i
piece_one {vs} {ks} {i} {v} {next} {h} here after held =
    let x : i + 0 ≡ i = omega arith in
    record {
      sizes = refl;
      speed = λ j l. by_order 0 j (λ m. let z : j ≡ 1 = omega arith in rw (z, after)) (λ m. let z : j ≡ 0 = omega arith in rw (z, here, x));
      hold = λ j l. let z : j ≡ 0 = omega arith in rw (z, held, x);
    }

-- seconds as they are written, where what is asked for is not among them
pub piece_part : (e : Asked) (vs hs : List ℕ) (i to : ℕ) → i ≤ to → to < length vs → length hs ≡ length vs → (i ≤ e.second → e.second ≤ to → ⊥)
    → Piece (speeds_with e vs) (holds_with e hs) (part vs i (to + 1)) (part hs i to) i
piece_part e vs hs i to order inside rooms apart =
    let n : length (part vs i (to + 1)) ≡ to + 1 - i = length_part vs i (to + 1) (omega arith) in
    let m : length (part hs i to) ≡ to - i = length_part hs i to (omega arith) in
    record {
      sizes = omega arith;
      speed = λ j l. at_part vs i (to + 1) j (omega arith) ∙ sym (speed_else e vs (i + j) (λ z. apart (omega arith) (omega arith)));
      hold = λ j l. at_part hs i to j (omega arith) ∙ sym (hold_else e hs (i + j) (λ z. apart (omega arith) (omega arith)));
    }

-- ---- a second on the way

module _ {vs : List ℕ} {a b run i : ℕ} (W : OnWay vs a b run i) where
  its_trip : IsTrip vs a b
  its_trip = record { some_second = omega (arith, W.since, W.until); inside = W.trip.moves; before = W.trip.before; after = W.trip.after }

  closes_here : closing (drop i vs) ≡ leb run (i - a)
  closes_here =
      let n = length_part vs a (suc b) W.trip.inside in
      sym (closing-part vs its_trip (omega (arith, W.trip.inside)) i W.since W.until) ∙ W.closes.run (i - a) (omega (arith, W.since, W.until, n))

  -- what it is in its trip
  place_here : (car : Vehicle) (ks : List ℕ) {before : ℕ} → ((i ≡ a → ⊥) → before ≡ first_at car vs ks (i - 1))
      → role_of car (eqb i a) (leb run (i - a)) before ≡ role_at car vs ks i
  unfolding role_at role_of
  place_here car ks last =
      let s : start vs i ≡ a = trip_start vs its_trip i W.since W.until in
      by_order a i
      (λ l. rw (s, closes_here, ← last (λ z. omega arith)))
      (λ l. let e : i ≡ a = omega (arith, W.since) in rw (s, eq-eqb i a e))

-- ---- a part on the way

and_yes : (b : Bool) → b and true ≡ b
unfolding ◌and◌
and_yes true = refl
and_yes false = refl

-- the trip's first second can be the part's first only
begins_here : (a i j : ℕ) → a ≤ i → eqb i a and eqb j 0 ≡ eqb (i + j) a
begins_here a i j h =
    by_order 0 j
    (λ l. and_no _ _ (ne_eqb j 0 (λ z. omega arith)) ∙ sym (ne_eqb (i + j) a (λ z. omega arith)))
    (λ l. let z : j ≡ 0 = omega arith in let x : i + 0 ≡ i = omega arith in rw (z, x, and_yes (eqb i a)))

-- the closing run is as far off as it is from the part's first
left_here : (a i j run : ℕ) → a ≤ i → leb (run - (i - a)) j ≡ leb run (i + j - a)
left_here a i j run h =
    by_order (i + j - a) run
    (λ l. lt-leb (run - (i - a)) j (omega arith) ∙ sym (lt-leb run (i + j - a) l))
    (λ l. le-leb (run - (i - a)) j (omega arith) ∙ sym (le-leb run (i + j - a) l))

module _ {vs : List ℕ} {a b run i : ℕ} (W : OnWay vs a b run i) {ks us hs : List ℕ} (P : Piece vs ks us hs i) (until : i + length hs ≤ b) where
  -- each second of it is on the way
  each_way : (j : ℕ) → j < length hs → OnWay vs a b run (i + j)
  each_way j l = record { trip = W.trip; since = omega (arith, W.since); until = omega arith; closes = W.closes }

  -- D of each is its own
  each_rise : (j : ℕ) → j < length hs → rise us j ≡ rise vs (i + j)
  each_rise j l =
      let x : i + (j + 1) ≡ i + j + 1 = omega arith in
      rise-here us j (omega (arith, P.sizes))
      ∙ rw (P.speed j (omega arith), P.speed (j + 1) (omega arith), x) (sym (rise-here vs (i + j) (omega (arith, W.trip.inside))))

  -- so that they can be chosen for
  pub piece_paced : Paced us hs
  piece_paced = record {
    speed = λ j l. rw (P.speed j (omega arith)) (W.trip.speed_to (i + j) (omega (arith, W.since)) (omega arith));
    step = λ j l. rw (each_rise j l) (W.trip.step_to (i + j) (omega (arith, W.since)) (omega arith));
  }

  module _ (car : Vehicle) (same : length ks ≡ length vs) where
    -- the choice of second j, after the right one
    each_choice : (j : ℕ) → j < length hs → {last : ℕ} → ((i + j ≡ a → ⊥) → last ≡ first_at car vs ks (i + j - 1))
        → first_of car (role_of car (eqb i a and eqb j 0) (leb (run - (i - a)) j) last) (at us j) (rise us j) (at hs j) ≡ first_at car vs ks (i + j)
    unfolding first_of
    each_choice j l last =
        rw (
          begins_here a i j W.since,
          left_here a i j run W.since,
          each_rise j l,
          P.speed j (omega arith),
          P.hold j l,
          place_here (each_way j l) car ks last,
        )
        (sym (first_at_is car vs ks same (i + j) (W.trip.moves (i + j) (omega (arith, W.since)) (omega arith))))

    module _ {before : ℕ} (last : (i ≡ a → ⊥) → before ≡ first_at car vs ks (i - 1)) (gs₀ : List ℕ) {gs : List ℕ} (n : length gs₀ ≡ length hs) where
      -- so each is the first choice there
      each_first : gs ≡ pass (on_way car us hs (eqb i a) (run - (i - a)) before) (length hs) gs₀ → (j : ℕ) → j < length hs
          → at gs j ≡ first_at car vs ks (i + j)
      unfolding on_way
      each_first e zero l =
          let x : i + 0 ≡ i = omega arith in
          rw e (pass-at (on_way car us hs (eqb i a) (run - (i - a)) before) gs₀ (length hs) 0 l (omega arith)
          ∙ each_choice 0 l (λ z. rw x (last (λ y. z (omega arith)))))
      each_first e (suc j) l =
          let f = on_way car us hs (eqb i a) (run - (i - a)) before in
          let x : i + suc j - 1 ≡ i + j = omega arith in
          let y : suc j - 1 ≡ j = omega arith in
          let prev : at (pass f (suc j) gs₀) j ≡ first_at car vs ks (i + j) =
          of₃ (pass_done f gs₀ (suc j) (length hs) j) (omega arith) ∙ ap (λ (z : List ℕ). at z j) (sym e) ∙ each_first e j (omega arith) in
          rw e (pass-at f gs₀ (length hs) (suc j) l (omega arith) ∙ each_choice (suc j) l (λ z. rw (ne_eqb (suc j) 0 (λ y. omega arith), y, x) prev))

      -- with the way that is left to the closing run by name
      pub piece_choices : {left : ℕ} → left ≡ run - (i - a) → gs ≡ pass (on_way car us hs (eqb i a) left before) (length hs) gs₀
          → (j : ℕ) → j < length hs → at gs j ≡ first_at car vs ks (i + j)
      piece_choices run_is e = each_first (rw run_is at e)

-- ---- a part gone through

-- gs are the first choices from second i up to `to`
module _ (car : Vehicle) (vs hs : List ℕ) {i to m : ℕ} (gs : List ℕ) (firsts : Firsts car vs hs i m gs) (size : length gs ≡ m) (some : i < to)
    (all : i + m ≡ to) where
  -- a place with a gear is a second with one
  geared : (n : ℕ) → n ≤ m → Each (λ j. at gs j ≢ 0) 0 n → (j : ℕ) → i ≤ j → j < i + n → eqb (first_at car vs hs j) 0 ≡ false
  geared n l N j a b =
      let x : i + (j - i) ≡ j = omega arith in
      ne_eqb _ 0 (rw (firsts (j - i) (omega arith) (omega arith), x) at (N (j - i) (omega arith) (omega arith)))

  -- each has one
  pub all_geared : Each (λ j. at gs j ≢ 0) 0 (length gs) → Through car vs hs i to (Ok (at gs (length gs - 1)))
  all_geared N = record {
    until = λ j a b. geared (length gs) (omega arith) N j a (omega arith);
    last_is = let x : i + (length gs - 1) ≡ to - 1 = omega arith in rw x at (firsts (length gs - 1) (omega arith) (omega arith));
  }

  -- the first place without one is the first second without one
  pub one_wants : {none : ℕ} → none < length gs → at gs none ≡ 0 → Each (λ j. at gs j ≢ 0) 0 none → Through car vs hs i to (Err (i + none))
  one_wants {none} l z N = record {
    until = record {
      from = omega arith;
      to = omega arith;
      fails = geared none (omega arith) N;
      holds = eq-eqb _ 0 (sym (firsts none (omega arith) (omega arith)) ∙ z);
    };
    last_is = tt;
  }
