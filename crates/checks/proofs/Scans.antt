-- The two scans of a trip, as a loop meets them: here, one second further, and at the end of the trace.
use Rattle.rules.proofs.Offered.{ℕ, suc, ◌+◌, ◌-◌, ◌≤◌, ◌<◌, add-zero, add-suc, suc-add, add-one, arith, ◌≡◌, sym, ap, ◌∙◌, true, false, List}
use Rattle.rules.proofs.Offered.{length, drop_of_length-le, drop-cons, at, moving, start, run, stop}

module _ (vs : List ℕ) (k : ℕ) where
  -- ---- to the left

  -- there is no second before
  pub start_zero : k ≡ 0 → 0 ≡ start vs k
  unfolding start
  start_zero e = rw e

  -- the second before is standing
  pub start-here : 0 < k → moving (at vs (k - 1)) ≡ false → k - 1 + 1 ≡ start vs k
  unfolding start
  start-here h l =
      let z : k - 1 + 1 ≡ k = omega arith in
      let e : k ≡ suc (k - 1) = omega arith in
      z ∙ rw (e, l)

  -- it is moving
  pub start-more : 0 < k → moving (at vs (k - 1)) ≡ true → start vs k ≡ start vs (k - 1)
  unfolding start
  start-more h l = let e : k ≡ suc (k - 1) = omega arith in ap (start vs) e ∙ rw l

  -- ---- to the right

  -- this second is standing
  pub stop-here : k < length vs → moving (at vs k) ≡ false → k ≡ stop vs k
  unfolding stop run
  stop-here h l = sym (rw (drop-cons vs k 0 h, l) (add-zero k))

  -- it is moving
  pub stop-more : k < length vs → moving (at vs k) ≡ true → stop vs k ≡ stop vs (k + 1)
  unfolding stop run
  stop-more h l = rw (drop-cons vs k 0 h, l, add-one) (add-suc k _ ∙ sym (suc-add k _))

  -- the trace ends
  pub stop_end : length vs ≤ k → k ≡ stop vs k
  unfolding stop run
  stop_end h = sym (rw (drop_of_length-le vs h) (add-zero k))
