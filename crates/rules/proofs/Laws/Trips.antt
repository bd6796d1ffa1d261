-- Where a trip lies: `start` and `stop` find the one unbroken run of moving seconds that a moving second lies in.
use Rattle.rules.proofs.Base.{ℕ, zero, suc, ◌+◌, ◌-◌, ◌≤◌, ◌<◌, add-zero, not-suc-le-zero, le_of_suc-le-suc, arith, ◌≡◌, refl, sym, ap, ◌∙◌, true, false}
use Rattle.rules.proofs.Base.{List, [], ◌∷◌, length, drop, list_get_or-eq_default, get_or-drop}
use Rattle.rules.specs.Words.{at}
use Rattle.rules.specs.Units.{moving, start, run, stop}
use Rattle.rules.specs.Vocabulary.{IsTrip}
use Rattle.rules.proofs.Laws.Words.{clash, by_test, by_order, by_eq}

module _ (vs : List ℕ) where
  -- ---- what the two scans find

  pub start_le : (i : ℕ) → start vs i ≤ i
  unfolding start
  start_le zero = omega arith
  start_le (suc i) = by_test (moving (at vs i)) (λ t. rw t (omega (arith, start_le i))) (λ t. rw t (omega arith))

  pub start_inside : (i k : ℕ) → start vs i ≤ k → k < i → moving (at vs k) ≡ true
  unfolding start
  start_inside zero k h l = absurd (not-suc-le-zero l)
  start_inside (suc i) k h l =
      by_test (moving (at vs i))
      (λ t. by_eq (le_of_suc-le-suc l) (λ e. rw e t) (λ m. start_inside i k (rw t at h) m))
      (λ t. let x : suc i ≤ k = rw t at h in absurd (omega arith))

  pub start-before : (i k : ℕ) → suc k ≡ start vs i → moving (at vs k) ≡ false
  unfolding start
  start-before zero k e = absurd (omega arith)
  start-before (suc i) k e =
      by_test (moving (at vs i))
      (λ t. start-before i k (rw t at e))
      (λ t. let x : suc k ≡ suc i = rw t at e in let y : k ≡ i = omega arith in rw y t)

run_inside : (l : List ℕ) (j : ℕ) → j < run l → moving (at l j) ≡ true
unfolding run
run_inside [] j h = absurd (not-suc-le-zero h)
run_inside (v ∷ l) zero h =
    by_test (moving v) (λ t. t) (λ t. absurd (not-suc-le-zero (rw t at h)))
run_inside (v ∷ l) (suc j) h =
    by_test (moving v) (λ t. run_inside l j (le_of_suc-le-suc (rw t at h))) (λ t. absurd (not-suc-le-zero (rw t at h)))

run-after : (l : List ℕ) → moving (at l (run l)) ≡ false
unfolding run moving
run-after [] = refl
run-after (v ∷ l) = by_test (moving v) (λ t. rw t (run-after l)) (λ t. rw t t)

run_none : (l : List ℕ) → moving (at l 0) ≡ false → run l ≡ 0
unfolding run
run_none [] r = refl
run_none (v ∷ l) r = rw r

module _ (vs : List ℕ) where
  run_at : (i j : ℕ) → at (drop i vs) j ≡ at vs (i + j)
  run_at i j = get_or-drop i vs j 0

  pub stop_le : (i : ℕ) → i ≤ stop vs i
  unfolding stop
  stop_le i = omega arith

  pub stop-after : (i : ℕ) → moving (at vs (stop vs i)) ≡ false
  unfolding stop
  stop-after i = rw run_at at (run-after (drop i vs))

  -- each moving second lies in a trip
  pub trip_of : (i : ℕ) → moving (at vs i) ≡ true → IsTrip vs (start vs i) (stop vs i) × (start vs i ≤ i) × (i < stop vs i)
  unfolding stop
  trip_of i m =
      let l = start_le vs i in
      let n : 0 < run (drop i vs) =
      by_order 0 (run (drop i vs)) (λ h. h)
      (λ h. let e : run (drop i vs) ≡ 0 = omega arith in clash m (rw (e, run_at, add-zero) at (run-after (drop i vs)))) in (
        record {
          some_second = omega arith;
          inside = λ k a b. by_order k i (λ c. start_inside vs i k a c) (λ c.
              let e : k ≡ i + (k - i) = omega arith in rw e (rw run_at at (run_inside (drop i vs) (k - i) (omega arith))));
          before = start-before vs i;
          after = stop-after i;
        },
        l,
        omega arith,
      )

  -- two trips that share a second are one
  pub trip_le : {a b c d : ℕ} → IsTrip vs a b → IsTrip vs c d → (i : ℕ) → a ≤ i → i < b → c ≤ i → i < d → (a ≤ c) × (b ≤ d)
  trip_le {a} {b} {c} {d} T U i p q r s = (
    by_order c a (λ h. clash (U.inside (a - 1) (omega arith) (omega arith)) (T.before (a - 1) (omega arith))) (λ h. h),
    by_order d b (λ h. clash (T.inside d (omega arith) h) U.after) (λ h. h),
  )

  module _ {a b : ℕ} (T : IsTrip vs a b) (i : ℕ) (p : a ≤ i) (q : i < b) where
    one_trip : (start vs i ≡ a) × (stop vs i ≡ b)
    one_trip =
        let t = trip_of i (T.inside i p q) in
        let x = trip_le T t.0 i p q t.1 t.2 in
        let y = trip_le t.0 T i t.1 t.2 p q in
        omega arith

    pub trip_start : start vs i ≡ a
    trip_start = one_trip.0

    pub trip_stop : stop vs i ≡ b
    trip_stop = one_trip.1

-- no trip begins at a standing second
pub stop_standing : (vs : List ℕ) (i : ℕ) → moving (at vs i) ≡ false → stop vs i ≡ i
unfolding stop
stop_standing vs i r = ap (λ (k : ℕ). i + k) (run_none (drop i vs) (rw (run_at vs, add-zero) r)) ∙ add-zero i

-- from the second after a moving one its trip ends where it ends
pub own_trip : (vs : List ℕ) (s : ℕ) → moving (at vs s) ≡ true → stop vs (suc s) ≡ stop vs s
own_trip vs s m =
    let t = trip_of vs s m in
    by_test (moving (at vs (suc s)))
    (λ u. by_order (suc s) (stop vs s)
    (λ h. trip_stop vs t.0 (suc s) (omega arith) h)
    (λ h. let e : suc s ≡ stop vs s = omega arith in clash u (rw e t.0.after)))
    (λ u. by_order (suc s) (stop vs s)
    (λ h. clash (t.0.inside (suc s) (omega arith) h) u)
    (λ h. let e : suc s ≡ stop vs s = omega arith in stop_standing vs (suc s) u ∙ e))

-- a moving second lies in the trace
pub moving_in : (vs : List ℕ) (i : ℕ) → moving (at vs i) ≡ true → i < length vs
unfolding moving
moving_in vs i m = by_order i (length vs) (λ h. h) (λ h. let z : false ≡ true = rw (list_get_or-eq_default vs 0 h) at m in clash z refl)

-- and so does its trip
pub stop_in : (vs : List ℕ) (i : ℕ) → moving (at vs i) ≡ true → stop vs i ≤ length vs
stop_in vs i m =
    let t = trip_of vs i m in
    by_order (length vs) (stop vs i)
    (λ h. let z : length vs < length vs = moving_in vs (length vs) (t.0.inside (length vs) (omega (arith, moving_in vs i m)) h) in absurd (omega arith))
    (λ h. h)

-- past the trace's end a second stands
pub standing_past : (vs : List ℕ) (i : ℕ) → length vs ≤ i → moving (at vs i) ≡ false
standing_past vs i h = by_test (moving (at vs i)) (λ m. let z = moving_in vs i m in absurd (omega arith)) (λ m. m)

-- from a second of the trace, or its end, the run ends in the trace, or at its end
pub stop_to : (vs : List ℕ) (i : ℕ) → i ≤ length vs → stop vs i ≤ length vs
stop_to vs i h = by_test (moving (at vs i)) (λ m. stop_in vs i m) (λ m. rw (stop_standing vs i m) h)

-- ---- what the two scans look at

-- from the second before the first that is found up to i, not i itself
pub start_agree : (vs ws : List ℕ) (i : ℕ) → ((k : ℕ) → start vs i ≤ suc k → k < i → at ws k ≡ at vs k) → start ws i ≡ start vs i
unfolding start
start_agree vs ws zero h = refl
start_agree vs ws (suc i) h =
    by_test (moving (at vs i))
    (λ t. let e : start ws i ≡ start vs i = start_agree vs ws i (λ k a b. h k (rw t a) (omega arith)) in
    let x = start_le vs i in rw (h i (rw t (omega arith)) (omega arith), t) e)
    (λ t. rw (h i (rw t (omega arith)) (omega arith), t))

run_agree : (l m : List ℕ) → ((j : ℕ) → j ≤ run l → at m j ≡ at l j) → run m ≡ run l
unfolding run moving
run_agree [] [] h = refl
run_agree [] (u ∷ m) h = let e : u ≡ 0 = h 0 (omega arith) in rw e
run_agree (v ∷ l) [] h = let e : 0 ≡ v = h 0 (omega arith) in rw (← e)
run_agree (v ∷ l) (u ∷ m) h =
    let e : u ≡ v = h 0 (omega arith) in
    by_test (moving v)
    (λ t. let r : run m ≡ run l = run_agree l m (λ j a. h (suc j) (rw t (omega arith))) in rw (e, t, r))
    (λ t. rw (e, t))

-- from i up to the second after the last
pub stop_agree : (vs ws : List ℕ) (i : ℕ) → ((k : ℕ) → i ≤ k → k ≤ stop vs i → at ws k ≡ at vs k) → stop ws i ≡ stop vs i
unfolding stop
stop_agree vs ws i h =
    ap (λ (k : ℕ). i + k) (run_agree (drop i vs) (drop i ws) (λ j a. run_at ws i j ∙ h (i + j) (omega arith) (omega arith) ∙ sym (run_at vs i j)))

-- a moving second after a moving one lies in its trip
pub next_start : (vs : List ℕ) (k : ℕ) → moving (at vs k) ≡ true → start vs (suc k) ≡ start vs k
unfolding start
next_start vs k m = rw m

pub next-stop : (vs : List ℕ) (k : ℕ) → moving (at vs k) ≡ true → moving (at vs (suc k)) ≡ true → stop vs (suc k) ≡ stop vs k
next-stop vs k m u =
    let t = trip_of vs k m in
    by_order (suc k) (stop vs k)
    (λ h. trip_stop vs t.0 (suc k) (omega arith) h)
    (λ h. let e : suc k ≡ stop vs k = omega arith in clash u (rw e t.0.after))
