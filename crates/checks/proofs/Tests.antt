-- Each check of a second as the code compares it, and the number of the first that fails.
use Rattle.rules.proofs.Offered.{ℕ, suc, ◌+◌, ◌-◌, ◌*◌, ◌≤◌, ◌<◌, arith, ◌≡◌, refl, sym, ◌∙◌, Bool, true, false, not, List, eqb, length, lt-ltb, le-ltb}
use Rattle.rules.proofs.Offered.{le-leb, lt-leb, eq-eqb, ne_eqb, ◌and◌, ◌or◌, at, highest, fastest, steepest, moving, engine, is_under_nmax, fits}
use Rattle.rules.proofs.Offered.{role_at, not_driven, speed, step, ends, over-ng, at_rest, over-rev, no-gear, check_number, checks, bad, by_order, and_no}
use Rattle.rules.proofs.Offered.{first_at_is, choice_none_fits, ltb, add-one}
use Rattle.rules.specs.declared.Vehicle.{Vehicle}
use Rattle.checks.specs.Checks.{fault_no, hold_checks}

module _ (car : Vehicle) (vs hs : List ℕ) (lo i : ℕ) where
  -- ---- 5, the step. The code has the gap, which is one number for both ways

  -- the span begins here, so the step is not in it
  pub step_out : i ≤ lo → false ≡ bad step car vs hs lo i
  unfolding bad ◌and◌
  step_out h = rw (le-ltb lo i h)

  -- a gap over steepest, up or down
  pub step_large : lo < i → steepest < (at vs (i - 1) - at vs i) + (at vs i - at vs (i - 1)) → true ≡ bad step car vs hs lo i
  unfolding bad ◌and◌ ◌or◌
  step_large h l =
      rw (lt-ltb lo i h)
      (by_order (at vs (i - 1) + steepest) (at vs i)
      (λ a. rw (lt-ltb _ _ a))
      (λ a. rw (le-ltb _ _ a, lt-ltb (at vs i + steepest) (at vs (i - 1)) (omega arith))))

  -- a gap up to steepest, neither way too far
  pub step_small : lo < i → (at vs (i - 1) - at vs i) + (at vs i - at vs (i - 1)) ≤ steepest → false ≡ bad step car vs hs lo i
  unfolding bad ◌and◌ ◌or◌
  step_small h l =
      rw (lt-ltb lo i h, le-ltb (at vs (i - 1) + steepest) (at vs i) (omega arith), le-ltb (at vs i + steepest) (at vs (i - 1)) (omega arith))

  -- so the code's test of the gap is the check
  pub step_gap : lo < i → ltb steepest ((at vs (i - 1) - at vs i) + (at vs i - at vs (i - 1))) ≡ bad step car vs hs lo i
  step_gap h =
      let gap = (at vs (i - 1) - at vs i) + (at vs i - at vs (i - 1)) in
      by_order steepest gap (λ l. lt-ltb steepest gap l ∙ step_large h l) (λ l. le-ltb steepest gap l ∙ step_small h l)

  -- ---- 6, the trace's ends

  -- a standing second is as an end has to be
  pub ends_standing : moving (at vs i) ≡ false → false ≡ bad ends car vs hs lo i
  unfolding bad ◌and◌
  ends_standing h = rw h

  -- a moving second is a fault where it is the first
  pub ends_first : moving (at vs i) ≡ true → i ≡ 0 → eqb i 0 ≡ bad ends car vs hs lo i
  unfolding bad ◌and◌ ◌or◌
  ends_first h e = rw (h, eq-eqb i 0 e)

  -- or else where it is the last
  pub ends_last : moving (at vs i) ≡ true → (i ≡ 0 → ⊥) → {n : ℕ} → n ≡ length vs → eqb (i + 1) n ≡ bad ends car vs hs lo i
  unfolding bad ◌and◌ ◌or◌
  ends_last h n e = rw (h, ne_eqb i 0 n, e, add-one)

  -- a moving second between them is no fault
  pub ends_between : moving (at vs i) ≡ true → (i ≡ 0 → ⊥) → (i + 1 ≡ length vs → ⊥) → false ≡ bad ends car vs hs lo i
  unfolding bad ◌and◌ ◌or◌
  ends_between h n m = rw (h, ne_eqb i 0 n, ne_eqb (suc i) (length vs) (λ z. m (omega arith)))

  -- ---- 7, the hold above ng or below the lowest gear

  over_is : {held : ℕ} {t : Bool} → at hs i ≡ held → t ≡ not_driven car held → bad over-ng car vs hs lo i ≡ t
  unfolding bad
  over_is e h = rw (e, h)

  -- no hold is gear 0, which no ng is below
  over_none : at hs i ≡ 0 → bad over-ng car vs hs lo i ≡ false
  unfolding bad not_driven ◌or◌ ◌and◌
  over_none e = rw (e, le-ltb car.ng 0 (omega arith))

  -- ---- 8, the hold at a standing second

  rest_yes : moving (at vs i) ≡ false → (at hs i ≡ 0 → ⊥) → bad at_rest car vs hs lo i ≡ true
  unfolding bad ◌and◌
  rest_yes h n = rw (h, ne_eqb (at hs i) 0 n)

  -- a moving second may be held
  rest_moving : moving (at vs i) ≡ true → bad at_rest car vs hs lo i ≡ false
  unfolding bad ◌and◌
  rest_moving h = rw h

  -- a second without a hold may stand
  rest_free : at hs i ≡ 0 → bad at_rest car vs hs lo i ≡ false
  unfolding bad
  rest_free e = rw (eq-eqb (at hs i) 0 e) (and_no (not (moving (at vs i))) false refl)

  -- ---- 9, the held gear's X

  rev_yes : (at hs i ≡ 0 → ⊥) → 1000 * car.nmax < engine car (at hs i) (at vs i) → bad over-rev car vs hs lo i ≡ true
  unfolding bad is_under_nmax ◌and◌
  rev_yes n h = rw (ne_eqb (at hs i) 0 n, lt-leb _ _ h)

  -- X has no lower end here: a hold below the gear's minimum is not refused
  rev_no : engine car (at hs i) (at vs i) ≤ 1000 * car.nmax → bad over-rev car vs hs lo i ≡ false
  unfolding bad is_under_nmax
  rev_no h = rw (le-leb _ _ h) (and_no (not (eqb (at hs i) 0)) false refl)

  -- no hold, so no gear's X to look at
  rev_free : at hs i ≡ 0 → bad over-rev car vs hs lo i ≡ false
  unfolding bad ◌and◌
  rev_free e = rw (eq-eqb (at hs i) 0 e)

  -- ---- 10, no gear

  -- a standing second needs none
  pub gear_standing : moving (at vs i) ≡ false → false ≡ bad no-gear car vs hs lo i
  unfolding bad ◌and◌
  gear_standing h = rw h

  -- a held second has its gear
  pub gear_held : length hs ≡ length vs → moving (at vs i) ≡ true → (at hs i ≡ 0 → ⊥) → false ≡ bad no-gear car vs hs lo i
  unfolding bad ◌and◌
  gear_held s m n = rw (m, first_at_is car vs hs s i m, ne_eqb (at hs i) 0 n) (sym (ne_eqb (at hs i) 0 n))

  -- a second without one wants a gear exactly where no gear fits
  pub gear_free : length hs ≡ length vs → moving (at vs i) ≡ true → at hs i ≡ 0
      → bad no-gear car vs hs lo i ≡ eqb (highest (fits car (role_at car vs hs i) (at vs i)) car.ng) 0
  unfolding bad ◌and◌
  gear_free s m e = rw (m, first_at_is car vs hs s i m, eq-eqb (at hs i) 0 e) (choice_none_fits car (role_at car vs hs i) (at vs i) _)

-- ---- the first check that fails, of those that look at a hold

-- without a hold 7, 8 and 9 pass
pub free_good : (car : Vehicle) (vs hs : List ℕ) (lo i : ℕ) → at hs i ≡ 0 → 10 ≡ fault_no car vs hs lo i hold_checks
unfolding fault_no hold_checks
free_good car vs hs lo i e = rw (over_none car vs hs lo i e, rest_free car vs hs lo i e, rev_free car vs hs lo i e)

module _ (car : Vehicle) (vs hs : List ℕ) (lo i : ℕ) {v held : ℕ} (here : at vs i ≡ v) (shows : at hs i ≡ held) where
  -- 7 goes before 8 and 9, at a standing second too
  pub held_over : true ≡ not_driven car held → 7 ≡ fault_no car vs hs lo i hold_checks
  unfolding fault_no hold_checks check_number
  held_over a = rw (over_is car vs hs lo i shows a)

  module _ (n : held ≡ 0 → ⊥) (a : false ≡ not_driven car held) where
    is_held : at hs i ≡ 0 → ⊥
    is_held z = n (sym shows ∙ z)

    -- 8 goes before 9
    pub held_standing : false ≡ moving v → 8 ≡ fault_no car vs hs lo i hold_checks
    unfolding fault_no hold_checks check_number
    held_standing l = rw (over_is car vs hs lo i shows a, rest_yes car vs hs lo i (rw here (sym l)) is_held)

    module _ (l : true ≡ moving v) where
      -- 9, where 7 and 8 pass
      pub held_over_rev : 1000 * car.nmax < engine car held v → 9 ≡ fault_no car vs hs lo i hold_checks
      unfolding fault_no hold_checks check_number
      held_over_rev x =
          rw (over_is car vs hs lo i shows a, rest_moving car vs hs lo i (rw here (sym l)), rev_yes car vs hs lo i is_held (rw (here, shows) x))

      -- a hold that passes these
      pub held_good : engine car held v ≤ 1000 * car.nmax → 10 ≡ fault_no car vs hs lo i hold_checks
      unfolding fault_no hold_checks
      held_good x = rw (over_is car vs hs lo i shows a, rest_moving car vs hs lo i (rw here (sym l)), rev_no car vs hs lo i (rw (here, shows) x))

-- ---- of all: 4, 5 and 6 go before those that look at a hold

module _ (car : Vehicle) (vs hs : List ℕ) (lo i : ℕ) where
  pub too_fast : fastest < at vs i → 4 ≡ fault_no car vs hs lo i checks
  unfolding fault_no checks check_number bad
  too_fast a = rw (lt-ltb _ _ a)

  module _ (a : at vs i ≤ fastest) where
    speed_no : bad speed car vs hs lo i ≡ false
    unfolding bad
    speed_no = le-ltb _ _ a

    pub stepped : bad step car vs hs lo i ≡ true → 5 ≡ fault_no car vs hs lo i checks
    unfolding fault_no checks check_number
    stepped t = rw (speed_no, t)

    module _ (b : bad step car vs hs lo i ≡ false) where
      pub ended : bad ends car vs hs lo i ≡ true → 6 ≡ fault_no car vs hs lo i checks
      unfolding fault_no checks check_number
      ended t = rw (speed_no, b, t)

      -- these pass, so that what the hold is refused by is what the second is refused by
      pub onward : bad ends car vs hs lo i ≡ false → {no : ℕ} → no ≡ fault_no car vs hs lo i hold_checks → no ≡ fault_no car vs hs lo i checks
      unfolding fault_no checks hold_checks
      onward t e = rw (speed_no, b, t) e
