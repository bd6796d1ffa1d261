-- Refused for want of a gear: refusal 10 of a trace that passes the other checks.
use Rattle.rules.proofs.Base.{ℕ, ◌-◌, ◌≤◌, sub-zero, le_trans, mul-le-mul_left, arith, ◌≡◌, refl, sym, ap, ◌∙◌, ◌↔◌, true, false, Option, none, some}
use Rattle.rules.proofs.Base.{List, eqb, length, drop, leb-true, le-leb, eqb-true, eqb-false, eq-eqb, ne_eqb, not-true, Vehicle, Role, AfterLow}
use Rattle.rules.specs.Inside.{InBounds, gear_fault}
use Rattle.rules.specs.Words.{◌and◌, ◌or◌, at, first}
use Rattle.rules.specs.Units.{low, moving, rise, start}
use Rattle.rules.specs.Gears.{is_under_nmax, is_over_minimum, allowed, fits, choose, is_first}
use Rattle.rules.specs.Corrections.{first_at, closing, role_of}
use Rattle.rules.specs.Refusals.{Fault, refuse_at, no-gear, bad, work_fault}
use Rattle.rules.specs.Vocabulary.{Turns, Allowed, Wanting, PassesOthers, role_at}
use Rattle.rules.proofs.Laws.Words.{clash, by_test, by_order, both, and_left, and_right, or_skip}
use Rattle.rules.proofs.Laws.Searches.{first_found, none_first}
use Rattle.rules.proofs.Laws.Trips.{moving_in}
use Rattle.rules.proofs.Laws.Checks.{none_orelse, gears_last, rooms_in, vehicle_in}
use Rattle.rules.proofs.Laws.Cards.{first_at_is}
use Rattle.rules.proofs.Laws.Choice.{first_choice_plainly}
use Rattle.rules.proofs.Laws.Minimum.{minimum_most}

module _ (car : Vehicle) (here : Role) (v g : ℕ) where
  inside_true : Turns car here v g → (eqb g (low car) or is_over_minimum car here v g) and is_under_nmax car v g ≡ true
  unfolding ◌and◌ ◌or◌ is_over_minimum is_under_nmax
  inside_true I =
      by_test (eqb g (low car))
      (λ t. rw (t, le-leb _ _ I.to))
      (λ t. rw (t, le-leb _ _ (I.from (eqb-false _ _ t)), le-leb _ _ I.to))

  true_inside : (eqb g (low car) or is_over_minimum car here v g) and is_under_nmax car v g ≡ true → Turns car here v g
  unfolding is_over_minimum is_under_nmax
  true_inside t = record {
    from = λ n. leb-true _ _ (or_skip _ _ (ne_eqb g (low car) n) (and_left _ _ t));
    to = leb-true _ _ (and_right _ _ t);
  }

module _ (car : Vehicle) (vs hs : List ℕ) (i : ℕ) where
  -- only a trip's first second is one
  place-first : is_first (role_at car vs hs i) ≡ eqb i (start vs i)
  unfolding role_at role_of is_first
  place-first =
      by_test (eqb i (start vs i)) (λ t. rw t)
      (λ t. by_test (closing (drop i vs)) (λ c. rw (t, c)) (λ c. by_test (eqb (first_at car vs hs (i - 1)) (low car)) (λ l. rw (t, c, l)) (λ l. rw (t, c, l))))

  allowed_true : (g : ℕ) → Allowed car vs i g → allowed car (role_at car vs hs i) g ≡ true
  unfolding ◌and◌ ◌or◌ allowed
  allowed_true g A =
      by_test (eqb g (low car))
      (λ t. rw (le-leb _ _ A.from, t))
      (λ t. rw (le-leb _ _ A.from, t, place-first, ne_eqb i (start vs i) (λ z. eqb-false _ _ t (A.at_first z))))

  true_allowed : (g : ℕ) → g ≤ car.ng → allowed car (role_at car vs hs i) g ≡ true → Allowed car vs i g
  unfolding allowed
  true_allowed g h t = record {
    from = leb-true _ _ (and_left _ _ t);
    to = h;
    at_first = λ z.
        by_test (eqb g (low car)) (λ u. eqb-true _ _ u)
        (λ u. clash (place-first ∙ eq-eqb i (start vs i) z) (not-true _ (or_skip _ _ u (and_right _ _ t))));
  }

  module _ (n : length hs ≡ length vs) (C : InBounds car) where
    -- check 10 fails at a moving second exactly when it is wanting
    bad-wanting : bad no-gear car vs hs 0 i ≡ true → Wanting car vs hs i
    unfolding bad fits
    bad-wanting t =
        let m : moving (at vs i) ≡ true = and_left _ _ t in
        let z : first_at car vs hs i ≡ 0 = eqb-true _ _ (and_right _ _ t) in
        let f = first_at_is car vs hs n i m in
        let spot = role_at car vs hs i in
        by_test (eqb (at hs i) 0)
        (λ h.
        let c : choose car spot (at vs i) (rise vs i) ≡ 0 = sym (rw h at f) ∙ z in
        record {
          moves = m;
          no_hold = eqb-true _ _ h;
          no_gear_there = λ g A I.
              let x : fits car spot (at vs i) g ≡ false = (first_choice_plainly car spot (at vs i) (rise vs i) C).none_fits c g A.to in
              clash (both (allowed_true g A) (inside_true car spot (at vs i) g I)) x;
        })
        (λ h. absurd (eqb-false _ _ h (sym (rw h at f) ∙ z)))

    wanting_bad : Wanting car vs hs i → bad no-gear car vs hs 0 i ≡ true
    unfolding bad fits
    wanting_bad W =
        let m = W.moves in
        let f = first_at_is car vs hs n i m in
        let spot = role_at car vs hs i in
        let d = rise vs i in
        let c : choose car spot (at vs i) d ≡ 0 =
        (first_choice_plainly car spot (at vs i) d C).choice_none (λ g l.
        by_test (fits car spot (at vs i) g)
        (λ t. absurd (W.no_gear_there g (true_allowed g l (and_left _ _ t)) (true_inside car spot (at vs i) g (and_right _ _ t)))) (λ t. t)) in
        both m (eq-eqb _ _ (rw (eq-eqb (at hs i) 0 W.no_hold) at f ∙ c))

-- the cheap test: a second at which an allowed gear is fast enough even after the lowest gear is not wanting, whatever was chosen before it
pub never_wanting : (car : Vehicle) (vs hs : List ℕ) (i g : ℕ) → Allowed car vs i g → Turns car AfterLow (at vs i) g → Wanting car vs hs i → ⊥
never_wanting car vs hs i g A I W =
    W.no_gear_there g A (record {
      from = λ n. le_trans (mul-le-mul_left 1000 (minimum_most car (role_at car vs hs i) g)) (I.from n);
      to = I.to;
    })

nothing : {P : Type 0} {f : Fault} → some f ≡ none → P
nothing e = let z : ◌≡◌ {A = ℕ} 0 1 = cc in absurd (omega arith)

spot_of : ℕ → Option Fault → ℕ
spot_of i none = i
spot_of i (some f) = f.spot

module _ (car : Vehicle) (vs hs old : List ℕ) (P : PassesOthers car vs hs old) where
  -- where the other checks pass, the tenth decides
  pub tenth : work_fault car vs hs old ≡ refuse_at 10 (first (bad no-gear car vs hs 0) 0 (length vs))
  unfolding work_fault gear_fault
  tenth =
      none_orelse _ _ P.one ∙ none_orelse _ _ P.two ∙ none_orelse _ _ P.three ∙ gears_last car vs hs 0 (length vs) ∙ none_orelse _ _ P.four_to_nine
      ∙ rw sub-zero

  -- a second at which it is refused is wanting
  refused-wanting : (i : ℕ) → work_fault car vs hs old ≡ some (record { no = 10; spot = i }) → Wanting car vs hs i
  unfolding refuse_at spot_of
  refused-wanting i e = found (first (bad no-gear car vs hs 0) 0 (length vs)) refl
    where
      found : (o : Option ℕ) → first (bad no-gear car vs hs 0) 0 (length vs) ≡ o → Wanting car vs hs i
      found none f = nothing (sym e ∙ rw f at tenth)
      found (some j) f =
          let y : j ≡ i = ap (spot_of i) (sym (rw f at tenth) ∙ e) in
          rw (← y) (bad-wanting car vs hs j (rooms_in vs hs old P.two).0 (vehicle_in car P.three)
          (first_found (bad no-gear car vs hs 0) (length vs) 0 j f).holds)

  -- where a second is wanting, it is refused, at the lowest such
  wanting-refused : (i : ℕ) → Wanting car vs hs i → (j : ℕ) × (work_fault car vs hs old ≡ some (record { no = 10; spot = j })) × (j ≤ i)
  unfolding refuse_at
  wanting-refused i W = found (first (bad no-gear car vs hs 0) 0 (length vs)) refl
    where
      wrong : bad no-gear car vs hs 0 i ≡ true
      wrong = wanting_bad car vs hs i (rooms_in vs hs old P.two).0 (vehicle_in car P.three) W

      found : (o : Option ℕ) → first (bad no-gear car vs hs 0) 0 (length vs) ≡ o → (j : ℕ) × (work_fault car vs hs old ≡ some (record { no = 10; spot = j }))
          × (j ≤ i)
      found none f = clash wrong (none_first (bad no-gear car vs hs 0) (length vs) 0 f i (omega arith) (omega (arith, moving_in vs i W.moves)))
      found (some j) f =
          (j, rw f at tenth, by_order i j (λ h. clash wrong ((first_found (bad no-gear car vs hs 0) (length vs) 0 j f).lowest i (omega arith) h)) (λ h. h))

  -- such a trace is refused for want of a gear exactly when some second is wanting
  pub refused_for_want : ((i : ℕ) × (work_fault car vs hs old ≡ some (record { no = 10; spot = i }))) ↔ ((i : ℕ) × Wanting car vs hs i)
  refused_for_want = (λ r. (r.0, refused-wanting r.0 r.1), λ w. let f = wanting-refused w.0 w.1 in (f.0, f.1))

  -- and the second given is the lowest
  pub lowest-wanting : (i j : ℕ) → work_fault car vs hs old ≡ some (record { no = 10; spot = i }) → Wanting car vs hs j → i ≤ j
  unfolding spot_of
  lowest-wanting i j e W = let f = wanting-refused j W in let y : i ≡ f.0 = ap (spot_of i) (sym e ∙ f.1) in omega (arith, f.2)
