-- A window of seconds: where the checks passed before and say the same outside it, those of the window find what those of the whole find, and only
-- bytes of the window are to be written.
use Rattle.rules.proofs.Base.{ℕ, ◌-◌, ◌≤◌, ◌<◌, sub-zero, zero-add, arith, ◌≡◌, refl, sym, ◌∙◌, ◌⊎◌, inl, inr, false, none, List, [], ◌∷◌, lt-ltb}
use Rattle.rules.proofs.Base.{leb-false, ltb-false, length, Vehicle, leb, ltb}
use Rattle.rules.specs.Words.{◌and◌, first, at, patch}
use Rattle.rules.specs.Refusals.{refuse_at, Check, speed, step, ends, over-ng, at_rest, over-rev, no-gear, check_number, all_checks, bad, fault_of}
use Rattle.rules.specs.Refusals.{span_fault, trace_fault, room_fault, work_fault}
use Rattle.rules.proofs.Laws.Words.{by_eq, by_test, table_ext, at_table, length-table}
use Rattle.rules.proofs.Laws.Searches.{none_first, first_window}
use Rattle.rules.specs.Corrections.{card_at, card}
use Rattle.rules.specs.Vocabulary.{Out}
use Rattle.rules.proofs.Laws.Checks.{orelse_none, none_orelse, refuse_none, step_first, Accepted}

-- ---- a window. Where the checks passed for vs, hs, and those for ws, ks say the same outside lo to hi, the checks of the window find what
-- those of the whole find

module _ (car : Vehicle) (vs hs ws ks : List ℕ) (n : length ws ≡ length vs) (lo hi : ℕ) (a : lo ≤ hi) (b : hi ≤ length ws)
    (same : (c : Check) (i : ℕ) → i < length vs → (i < lo) ⊎ (hi ≤ i) → bad c car ws ks 0 i ≡ bad c car vs hs 0 i)
    (step_in : bad step car ws ks 0 lo ≡ bad step car vs hs 0 lo) where
  -- in the window a check says what it says of the whole; the step into its first second passed before
  bad_inside : (c : Check) → ((i : ℕ) → i < length vs → bad c car vs hs 0 i ≡ false) → (i : ℕ) → lo ≤ i → i < length vs
      → bad c car ws ks 0 i ≡ bad c car ws ks lo i
  unfolding bad ◌and◌
  bad_inside speed ok i x y = refl
  bad_inside step ok i x y =
      by_eq x
      (λ e. rw (← e) (step_in ∙ ok lo (omega arith) ∙ sym (step_first car ws ks lo)))
      (λ m. rw (lt-ltb 0 i (omega arith), lt-ltb lo i m))
  bad_inside ends ok i x y = refl
  bad_inside over-ng ok i x y = refl
  bad_inside at_rest ok i x y = refl
  bad_inside over-rev ok i x y = refl
  bad_inside no-gear ok i x y = refl

  first_inside : (c : Check) → first (bad c car vs hs 0) 0 (length vs) ≡ none
      → first (bad c car ws ks 0) 0 (length ws) ≡ first (bad c car ws ks lo) lo (hi - lo)
  first_inside c e =
      let ok : (i : ℕ) → i < length vs → bad c car vs hs 0 i ≡ false = λ i h. none_first (bad c car vs hs 0) (length vs) 0 e i (omega arith) (omega arith) in
      first_window (bad c car ws ks 0) (bad c car ws ks lo) (length ws) lo hi a b
      (λ i h o. same c i (omega arith) o ∙ ok i (omega arith)) (λ i x y. bad_inside c ok i x (omega arith))

  fault_inside : (cs : List Check) → fault_of (λ c. bad c car vs hs 0) 0 (length vs) cs ≡ none
      → fault_of (λ c. bad c car ws ks 0) 0 (length ws) cs ≡ fault_of (λ c. bad c car ws ks lo) lo hi cs
  unfolding fault_of
  fault_inside [] e = refl
  fault_inside (c ∷ cs) e =
      let o = orelse_none (refuse_at (check_number c) (first (bad c car vs hs 0) 0 (length vs - 0))) (fault_of (λ c. bad c car vs hs 0) 0 (length vs) cs) e in
      rw (fault_inside cs o.1, sub-zero, first_inside c (rw sub-zero at (refuse_none (check_number c) (first (bad c car vs hs 0) 0 (length vs - 0)) o.0)))

  pub fault_window : span_fault car vs hs 0 (length vs) ≡ none → span_fault car ws ks 0 (length ws) ≡ span_fault car ws ks lo hi
  unfolding span_fault
  fault_window e = fault_inside all_checks e

-- ---- the law of an edit. What it reaches: outside the seconds from lo up to hi each check says what it said, and outside those from lo up to
-- top each byte is what it was

pub record Reaches (car : Vehicle) (vs hs ws ks : List ℕ) (lo hi top : ℕ) : Type 0 where
  pub speeds : length ws ≡ length vs
  pub holds : length ks ≡ length hs
  pub in_order : lo ≤ hi
  pub in_trace : hi ≤ length ws
  pub checks_same : (c : Check) (i : ℕ) → i < length vs → Out lo hi i → bad c car ws ks 0 i ≡ bad c car vs hs 0 i
  pub step_same : bad step car ws ks 0 lo ≡ bad step car vs hs 0 lo
  pub bytes_same : (i : ℕ) → Out lo top i → card_at car ws ks i ≡ card_at car vs hs i

module _ (car : Vehicle) {vs hs ws ks : List ℕ} {lo hi top : ℕ} (R : Reaches car vs hs ws ks lo hi top) where
  -- where the checks passed before the edit, the span's find what the whole's find
  pub fault_anew : span_fault car vs hs 0 (length vs) ≡ none → span_fault car ws ks lo hi ≡ span_fault car ws ks 0 (length ws)
  fault_anew e = sym (fault_window car vs hs ws ks R.speeds lo hi R.in_order R.in_trace R.checks_same R.step_same e)

  -- the new card is the old one with what is within reach worked anew
  pub card_anew : patch (card car vs hs) lo top (card_at car ws ks) ≡ card car ws ks
  unfolding ◌and◌ patch card
  card_anew =
      rw (length-table, R.speeds)
      (table_ext _ (card_at car ws ks) 0 (length vs) (λ i x y.
      let old : at (card car vs hs) i ≡ card_at car vs hs i = at_table (card_at car vs hs) 0 (length vs) i (omega arith) ∙ rw zero-add in
      by_test (leb lo i)
      (λ t. by_test (ltb i top)
      (λ u. rw (t, u))
      (λ u. rw (t, u, old) (sym (R.bytes_same i (inr (ltb-false i top u))))))
      (λ t. rw (t, old) (sym (R.bytes_same i (inl (leb-false lo i t)))))))

  -- 1, 2 and 3 say what they said
  pub whole_is : (old : List ℕ) → Accepted car vs hs old → work_fault car ws ks old ≡ span_fault car ws ks 0 (length ws)
  unfolding work_fault trace_fault room_fault
  whole_is old A = none_orelse _ _ (rw R.speeds A.trace) ∙ none_orelse _ _ (rw (R.speeds, R.holds) A.room) ∙ none_orelse _ _ A.vehicle
