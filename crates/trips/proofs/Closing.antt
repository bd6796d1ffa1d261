-- Where the closing run of a trip begins, as a scan back from its end finds it.
use Rattle.rules.proofs.Offered.{ℕ, zero, suc, ◌-◌, ◌≤◌, ◌<◌, arith, ◌≡◌, refl, sym, ◌∙◌, Bool, true, false, not, List, length, drop, le-leb, lt-leb, le-ltb}
use Rattle.rules.proofs.Offered.{lt-ltb, ◌or◌, at, moving, closing, closing-here, closing_end, clash, by_eq, by_order, and_no, ◌and◌}
use Rattle.trips.specs.Trip.{RunFrom, AllMoving}

-- one of two tests holds, if the second does
or_true : (a : Bool) {b : Bool} → b ≡ true → a or b ≡ true
unfolding ◌or◌
or_true true e = refl
or_true false e = e

module _ (us : List ℕ) where
  -- a second at which V does not fall is not in the run
  closing_flat : (i : ℕ) → suc i < length us → at us i ≤ at us (suc i) → closing (drop i us) ≡ false
  unfolding ◌and◌
  closing_flat i h l = closing-here us i h ∙ rw (le-ltb (at us (suc i)) (at us i) l)

  -- a second at which V falls to one that is standing or in the run is in the run
  closing_falls : (i : ℕ) → suc i < length us → at us (suc i) < at us i → (not (moving (at us (suc i))) or closing (drop (suc i) us)) ≡ true
      → closing (drop i us) ≡ true
  unfolding ◌and◌
  closing_falls i h l e = closing-here us i h ∙ rw (lt-ltb (at us (suc i)) (at us i) l, e)

  -- a moving second that is not in the run: none before it is
  open_before : (j : ℕ) → j < length us → ((i : ℕ) → i ≤ j → moving (at us i) ≡ true) → closing (drop j us) ≡ false → (i : ℕ) → i ≤ j
      → closing (drop i us) ≡ false
  unfolding ◌or◌
  open_before zero l m e i h = let z : i ≡ 0 = omega arith in rw z e
  open_before (suc j) l m e i h =
      by_eq h (λ x. rw x e)
      (λ x. open_before j (omega arith) (λ k y. m k (omega arith)) (closing-here us j l ∙ rw (m (suc j) (omega arith), e) (and_no _ _ refl)) i (omega arith))

  -- ---- the scan

  -- from j on every second of the trip is in the run; next: the second before j is in it too, if V falls there
  pub record Closing (j : ℕ) : Type 0 where
    pub within : j < length us
    pub next : (not (moving (at us j)) or closing (drop j us)) ≡ true
    pub run : (i : ℕ) → j ≤ i → suc i < length us → closing (drop i us) ≡ true

  -- the scan begins at the second that follows the trip, where that is standing
  pub run_start : (j : ℕ) → suc j ≡ length us → moving (at us j) ≡ false → Closing j
  unfolding ◌or◌
  run_start j l h = record { within = omega arith; next = rw h; run = λ i a b. absurd (omega arith) }

  -- where that is moving, there is no closing run
  pub run_never : AllMoving us → (j : ℕ) → suc j ≡ length us → moving (at us j) ≡ true → RunFrom us j
  run_never M j l h =
      let m : (i : ℕ) → i ≤ j → moving (at us i) ≡ true = λ i a. by_eq a (λ e. rw e h) (λ b. M.second i (omega arith)) in
      record {
        within = omega arith;
        run = λ i a. open_before j (omega arith) m (closing_end us j l) i (omega arith) ∙ sym (lt-leb j i (omega arith));
      }

  module _ {j : ℕ} (inv : Closing j) where
    -- V falls to second j
    pub run_more : 1 ≤ j → at us j < at us (j - 1) → Closing (j - 1)
    run_more p h =
        let e : suc (j - 1) ≡ j = omega arith in
        let l : suc (j - 1) < length us = omega (arith, inv.within) in
        let c : closing (drop (j - 1) us) ≡ true = closing_falls (j - 1) l (rw e h) (rw e inv.next) in
        record {
          within = omega arith;
          next = or_true (not (moving (at us (j - 1)))) c;
          run = λ i a b. by_eq a (λ x. rw (← x) c) (λ x. inv.run i (omega arith) b);
        }

    -- it does not: here the run begins
    pub run_stops : AllMoving us → 1 ≤ j → at us (j - 1) ≤ at us j → RunFrom us j
    run_stops M p h =
        let e : suc (j - 1) ≡ j = omega arith in
        let l : suc (j - 1) < length us = omega (arith, inv.within) in
        let c : closing (drop (j - 1) us) ≡ false = closing_flat (j - 1) l (rw e h) in
        record {
          within = inv.within;
          run = λ i a. by_order i j
              (λ x. open_before (j - 1) (omega arith) (λ k y. M.second k (omega arith)) c i (omega arith) ∙ sym (lt-leb j i x))
              (λ x. inv.run i x a ∙ sym (le-leb j i x));
        }

    -- the whole trip is a closing run
    pub run_whole : j ≡ 0 → RunFrom us j
    run_whole z = record { within = inv.within; run = λ i a. inv.run i (omega arith) a ∙ sym (le-leb j i (omega arith)) }

-- a run that begins at r does not begin later
no_later : (us : List ℕ) (r s : ℕ) → RunFrom us r → RunFrom us s → r < s → ⊥
no_later us r s R S h =
    let a : closing (drop r us) ≡ true = R.run r (omega (arith, S.within)) ∙ le-leb r r (omega arith) in
    let b : closing (drop r us) ≡ false = S.run r (omega (arith, S.within)) ∙ lt-leb s r h in
    clash a b

-- the run begins at one second only
pub run_once : (us : List ℕ) (r s : ℕ) → RunFrom us r → RunFrom us s → r ≡ s
run_once us r s R S =
    by_order r s (λ h. absurd (no_later us r s R S h))
    (λ h. by_order s r (λ l. absurd (no_later us s r S R l)) (λ l. omega arith))
