-- The dry run of first choices: a span that it can go through, a trip part by part, and the trips of the span one after the other.
use Rattle.rules.proofs.Offered.{ℕ, zero, suc, ◌+◌, ◌-◌, ◌≤◌, ◌<◌, add-one, arith, ◌≡◌, ◌⊎◌, inl, inr, Bool, true, false, Option, none}
use Rattle.rules.proofs.Offered.{List, eqb, lit<, nat_abs, length, ltb-false, lt-ltb, eq-eqb, eqb-true, eqb-false, ◌and◌, ◌or◌, at, part, fastest}
use Rattle.rules.proofs.Offered.{steepest, moving, rise, stop, first_at, step, no-gear, checks, bad, seconds_fault, clash, by_test}
use Rattle.rules.proofs.Offered.{by_order, by_eq, both, and_no, or_left, or_right, at_part, length_part, natAbs_gap, Left, again, trip_of, start_le, stop_le}
use Rattle.rules.proofs.Offered.{stop-after, stop_standing, listed, step_passed}
use Rattle.std.specs.Prelude.{Ok, Err}
use Rattle.rules.specs.declared.Vehicle.{Vehicle}
use Rattle.trips.specs.Trip.{AllMoving}
use Rattle.trips.proofs.Closing.{Closing, run_start}
use Rattle.checks.specs.Calm.{Stands}
use Rattle.checks.specs.Want.{Resting, Level, Ahead, Through, LowestPlace}

-- ---- a span that passes 4 to 9

-- a step that passes is at most 150
pub step_small : (car : Vehicle) (vs hs : List ℕ) (lo i : ℕ) → lo ≤ i → suc i < length vs → bad step car vs hs lo (suc i) ≡ false
    → nat_abs (rise vs i) ≤ steepest
unfolding bad rise ◌and◌
step_small car vs hs lo i a b e =
    let x : suc i - 1 ≡ i = omega arith in
    let f = rw (lt-ltb lo (suc i) (omega arith), x) at e in
    rw (lt-ltb (suc i) (length vs) b) (natAbs_gap (at vs (suc i)) (at vs i) steepest (ltb-false _ _ (or_left _ _ f)) (ltb-false _ _ (or_right _ _ f)))

-- the first or the last second
pub end_second : (i n : ℕ) → (i ≡ 0) ⊎ (suc i ≡ n) → (eqb i 0 or eqb (suc i) n) ≡ true
unfolding ◌or◌
end_second i n o = elim o [ inl x ↦ rw (eq-eqb i 0 x) | inr x ↦ by_test (eqb i 0) (λ t. rw t) (λ t. rw (t, eq-eqb (suc i) n x)) ]

module _ (car : Vehicle) (vs hs : List ℕ) (lo hi : ℕ) (e : seconds_fault car vs hs lo hi ≡ none) where
  speed_passed : (i : ℕ) → lo ≤ i → i < hi → at vs i ≤ fastest
  unfolding seconds_fault checks bad
  speed_passed i a b = ltb-false _ _ (listed (λ c. bad c car vs hs lo) lo hi checks e 0 (lit< tt) i a b)

  -- the trace's first or last second stands
  end_stands : (i : ℕ) → lo ≤ i → i < hi → (i ≡ 0) ⊎ (suc i ≡ length vs) → moving (at vs i) ≡ false
  unfolding seconds_fault checks bad
  end_stands i a b o =
      by_test (moving (at vs i)) (λ m. clash (both m (end_second i (length vs) o)) (listed (λ c. bad c car vs hs lo) lo hi checks e 2 (lit< tt) i a b)) (λ m. m)

  -- so that a span which begins and ends with a standing second, or with the trace, begins and ends with a standing second
  module _ (R : Resting vs lo hi) (b : hi ≤ length vs) where
    pub rests : Stands vs lo hi
    rests = record {
      some = R.some;
      first = by_test (eqb lo 0) (λ t. end_stands lo (omega arith) R.some (inl (eqb-true _ _ t))) (λ t. R.begins (eqb-false _ _ t));
      last = by_test (eqb hi (length vs))
          (λ t. let z : hi ≡ length vs = eqb-true _ _ t in end_stands (hi - 1) (omega (arith, R.some)) (omega (arith, R.some)) (inr (omega (arith, R.some))))
          (λ t. R.ends (eqb-false _ _ t));
    }

    pub level : Level vs lo hi
    level = record {
      rest = rests;
      inside = b;
      speed_to = speed_passed;
      step_to = λ i x y. step_small car vs hs lo i x (omega arith) (step_passed car vs hs lo hi e (suc i) (omega arith) y);
    }

-- ---- the seconds of a trip

-- the closing run is looked for in the trip's own speeds
pub trip_moves : {vs : List ℕ} {a b : ℕ} → Ahead vs a b → AllMoving (part vs a (suc b))
trip_moves {vs} {a} {b} A = record {
  second = λ i h.
      let n = length_part vs a (suc b) A.inside in
      rw (at_part vs a (suc b) i (omega (arith, n))) (A.moves (a + i) (omega arith) (omega (arith, n)));
}

-- from the standing second after it
pub trip_closes : {vs : List ℕ} {a b : ℕ} → Ahead vs a b → Closing (part vs a (suc b)) (b - a)
trip_closes {vs} {a} {b} A =
    let n = length_part vs a (suc b) A.inside in
    let x : a + (b - a) ≡ b = omega (arith, A.order) in
    run_start (part vs a (suc b)) (b - a) (omega (arith, n, A.order)) (rw (at_part vs a (suc b) (b - a) (omega (arith, n, A.order)), x) A.after)

-- the first choices from a up to i have been gone through, and each was a gear
pub record Dry (car : Vehicle) (vs hs : List ℕ) (a i before : ℕ) : Type 0 where
  pub last : (i ≡ a → ⊥) → before ≡ first_at car vs hs (i - 1)
  pub good : (lo j : ℕ) → a ≤ j → j < i → bad no-gear car vs hs lo j ≡ false

module _ {car : Vehicle} {vs hs : List ℕ} {a i before : ℕ} (inv : Dry car vs hs a i before) where
  -- nor was a second up to r without one
  good_so_far : (r : ℕ) → ((j : ℕ) → i ≤ j → j < r → eqb (first_at car vs hs j) 0 ≡ false) → (lo j : ℕ) → a ≤ j → j < r → bad no-gear car vs hs lo j ≡ false
  unfolding bad
  good_so_far r f lo j p q = by_order j i (λ l. inv.good lo j p l) (λ l. and_no _ _ (f j l q))

  -- the whole part has gears
  pub dry_more : {to last : ℕ} → Through car vs hs i to (Ok last) → Dry car vs hs a to last
  dry_more {to} T = record { last = λ z. T.last_is; good = good_so_far to T.until }

  -- a second of it has none
  pub dry_stops : {b to r : ℕ} → Through car vs hs i to (Err r) → a ≤ i → to ≤ b → moving (at vs r) ≡ true → (lo : ℕ)
      → LowestPlace (bad no-gear car vs hs lo) a b r
  unfolding bad
  dry_stops {b} {to} {r} T p q m lo =
      let L = T.until in
      record { from = omega (arith, L.from); to = omega (arith, L.to); fails = good_so_far r L.fails lo; holds = both m L.holds }

-- ---- the trips of a span

-- places at which the test fails may be passed over
pub passes_over : {p : ℕ → Bool} {i hi : ℕ} {r : Option ℕ} → Left p i hi r → (j : ℕ) → i ≤ j → j ≤ hi → ((m : ℕ) → i ≤ m → m < j → p m ≡ false) → Left p j hi r
passes_over inv zero a b f = by_eq a (λ e. rw (← e) inv) (λ l. absurd (omega arith))
passes_over inv (suc j) a b f =
    by_eq a (λ e. rw (← e) inv)
    (λ l. rw (← add-one j) (again (passes_over inv j (omega arith) (omega arith) (λ m x y. f m x (omega arith))) (omega arith)
    (f j (omega arith) (omega arith))))

module _ {vs : List ℕ} {lo hi a : ℕ} (Y : Level vs lo hi) (x : lo < a) (y : a < hi) (s : moving (at vs (a - 1)) ≡ false) where
  -- a trip ends by the span's last second, which stands
  pub stop_by : stop vs a < hi
  stop_by =
      by_order (stop vs a) hi (λ l. l)
      (λ l. by_test (moving (at vs a))
      (λ m. let t = trip_of vs a m in clash (t.0.inside (hi - 1) (omega (arith, t.1)) (omega arith)) Y.rest.last)
      (λ m. let e : stop vs a ≡ a = stop_standing vs a m in omega arith))

  -- the trip that begins here, or none
  pub ahead : Ahead vs a (stop vs a)
  ahead =
      let h = stop_by in
      record {
        order = stop_le vs a;
        before = λ i e. let z : a - 1 ≡ i = omega arith in rw z at s;
        moves = λ i p q.
            by_test (moving (at vs a))
            (λ m. (trip_of vs a m).0.inside i (omega (arith, start_le vs a)) q)
            (λ m. let e : stop vs a ≡ a = stop_standing vs a m in absurd (omega arith));
        after = stop-after vs a;
        inside = omega (arith, Y.inside);
        speed_to = λ i p q. Y.speed_to i (omega arith) (omega arith);
        step_to = λ i p q. Y.step_to i (omega arith) (omega arith);
      }
