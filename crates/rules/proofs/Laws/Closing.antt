-- The closing run, one second further, and of a trip seen from the whole trace.
use Rattle.rules.proofs.Base.{ℕ, zero, suc, ◌+◌, ◌-◌, ◌≤◌, ◌<◌, arith, ◌≡◌, sym, ◌∙◌, true, false, not, List, ltb, length, drop, drop_of_length-le}
use Rattle.rules.proofs.Base.{length-take, length-drop, drop-cons, lt-ltb, ltb-true, ◌↔◌}
use Rattle.rules.specs.Words.{◌and◌, ◌or◌, at, part}
use Rattle.rules.specs.Units.{moving, stop}
use Rattle.rules.specs.Corrections.{closing}
use Rattle.rules.specs.Vocabulary.{IsTrip}
use Rattle.rules.proofs.Laws.Words.{by_test, by_order, by_eq, and_left, and_right, or_skip, both, at_part}
use Rattle.rules.proofs.Laws.Trips.{trip_of, own_trip}

module _ (us : List ℕ) where
  -- one second: V is above the next, and that is standing or in the closing run
  pub closing-here : (i : ℕ) → suc i < length us
      → closing (drop i us) ≡ ltb (at us (suc i)) (at us i) and (not (moving (at us (suc i))) or closing (drop (suc i) us))
  unfolding closing
  closing-here i h = rw (drop-cons us i 0 (omega arith), drop-cons us (suc i) 0 h)

  -- after the trip's last second
  pub closing_end : (i : ℕ) → suc i ≡ length us → closing (drop i us) ≡ false
  unfolding closing
  closing_end i h = rw (drop-cons us i 0 (omega arith), drop_of_length-le us {i = suc i} (omega arith))

-- ---- the closing run of a trip, seen from the whole trace

module _ (vs : List ℕ) {a b : ℕ} (T : IsTrip vs a b) (in_trace : b ≤ length vs) where
  -- how long a trip's part with the second that follows is, if one follows
  part_to : (j : ℕ) → a + j < b → suc (a + j) < length vs → suc j < length (part vs a (suc b))
  part_to j h l = simp (length-take, length-drop) (omega arith)

  closing_to : (k j : ℕ) → a + j + suc k ≡ b → closing (drop j (part vs a (suc b))) ≡ closing (drop (a + j) vs)
  unfolding ◌or◌
  closing_to zero j e =
      let here = at_part vs a (suc b) j (omega arith) in
      by_order b (length vs)
      (λ l.
      let next : at (part vs a (suc b)) (suc j) ≡ at vs b = at_part vs a (suc b) (suc j) (omega arith) ∙ (let x : a + suc j ≡ b = omega arith in rw x) in
      let y : suc (a + j) ≡ b = omega arith in
      closing-here (part vs a (suc b)) j (part_to j (omega arith) (omega arith))
      ∙ rw (here, next, T.after) (sym (closing-here vs (a + j) (omega arith) ∙ rw (y, T.after))))
      (λ l.
      closing_end (part vs a (suc b)) j (simp (length-take, length-drop) (omega arith)) ∙ sym (closing_end vs (a + j) (omega arith)))
  closing_to (suc k) j e =
      let here = at_part vs a (suc b) j (omega arith) in
      let x : a + suc j ≡ suc (a + j) = omega arith in
      let next : at (part vs a (suc b)) (suc j) ≡ at vs (suc (a + j)) = at_part vs a (suc b) (suc j) (omega arith) ∙ rw x in
      let rest : closing (drop (suc j) (part vs a (suc b))) ≡ closing (drop (suc (a + j)) vs) = closing_to k (suc j) (omega arith) ∙ rw x in
      closing-here (part vs a (suc b)) j (part_to j (omega arith) (omega arith))
      ∙ rw (here, next, rest) (sym (closing-here vs (a + j) (omega arith)))

  -- a second of the trip is in the closing run of its part exactly when it is in that of the trace
  pub closing-part : (i : ℕ) → a ≤ i → i < b → closing (drop (i - a) (part vs a (suc b))) ≡ closing (drop i vs)
  closing-part i p q = let x : a + (i - a) ≡ i = omega arith in closing_to (b - suc i) (i - a) (omega arith) ∙ rw x

-- ---- said of every second: to the end of the trip each V is above the V that follows

module _ (vs : List ℕ) where
  closing_each : (n i : ℕ) → moving (at vs i) ≡ true → stop vs i ≤ i + n → stop vs i < length vs → closing (drop i vs) ≡ true
      → (k : ℕ) → i ≤ k → k < stop vs i → at vs (suc k) < at vs k
  closing_each zero i m h e c k x y = absurd (omega arith)
  closing_each (suc n) i m h e c k x y =
      let t = trip_of vs i m in
      let z = rw (closing-here vs i (omega arith)) at c in
      by_eq x
      (λ a. rw (← a) (ltb-true _ _ (and_left _ _ z)))
      (λ a.
      let u : moving (at vs (suc i)) ≡ true = t.0.inside (suc i) (omega arith) (omega arith) in
      let s = own_trip vs i m in
      let r : closing (drop (suc i) vs) ≡ true = or_skip _ _ (rw u) (and_right _ _ z) in
      closing_each n (suc i) u (omega arith) (omega arith) r k a (omega arith))

  each_closing : (n i : ℕ) → moving (at vs i) ≡ true → stop vs i ≤ i + n → stop vs i < length vs
      → ((k : ℕ) → i ≤ k → k < stop vs i → at vs (suc k) < at vs k) → closing (drop i vs) ≡ true
  unfolding ◌or◌
  each_closing zero i m h e f = let t = trip_of vs i m in absurd (omega arith)
  each_closing (suc n) i m h e f =
      let t = trip_of vs i m in
      let s = own_trip vs i m in
      rw (closing-here vs i (omega arith))
      (both (lt-ltb _ _ (f i (omega arith) t.2))
      (by_test (moving (at vs (suc i)))
      (λ u. rw (u, each_closing n (suc i) u (omega arith) (omega arith) (λ k x y. f k (omega arith) (omega arith))))
      (λ u. rw u)))

  pub closing_plainly : (i : ℕ) → moving (at vs i) ≡ true → stop vs i < length vs
      → (closing (drop i vs) ≡ true) ↔ ((k : ℕ) → i ≤ k → k < stop vs i → at vs (suc k) < at vs k)
  closing_plainly i m e = (closing_each (stop vs i - i) i m (omega arith) e, each_closing (stop vs i - i) i m (omega arith) e)
