-- The first choice that is listed, and the sentence that is given for it.
use Rattle.rules.proofs.Offered.{ℕ, zero, suc, ◌-◌, ◌≤◌, arith, ◌≡◌, refl, sym, ◌∙◌, ◌≢◌, Bool, true, false, Option, none, List, [], ◌∷◌, eqb, ℤ, get_or}
use Rattle.rules.proofs.Offered.{le-leb, leb-true, eq-eqb, eqb-true, eqb-false, within, at, highest, ◌and◌, drop, low, rise, closing, is_first, is_under_nmax}
use Rattle.rules.proofs.Offered.{allowed, fits, enough, suits, choose, first_at, Fault, InBounds, HighestEnough, MostPower, role_at, kind, about, listed_power}
use Rattle.rules.proofs.Offered.{driven_facts, no_facts, gear_facts, gear_list, sentence, why_fault, early_fault, said_of, why, clash, by_test, and_left}
use Rattle.rules.proofs.Offered.{and_right, both, or_skip, highest-holds, low_from, choose-strongest, choose-highest, choose_to, first_choice_plainly}
use Rattle.rules.proofs.Offered.{strongest-fits, first_at_is}
use Rattle.rules.specs.declared.Vehicle.{Vehicle}
use Rattle.rules.specs.declared.Role.{Role}
use Rattle.rules.specs.declared.GearFacts.{GearFacts}
use Rattle.reasons.specs.Says.{Listed, Chooses}
use Rattle.reasons.proofs.Places.{about_moves}
use Rattle.reasons.proofs.Passed.{even, bounds, said_there}

-- ---- the first choice

-- the facts stand in their places
pub place : (f : ℕ → GearFacts) (g : ℕ) → 1 ≤ g → g ≤ 10 → get_or (f 1 ∷ f 2 ∷ f 3 ∷ f 4 ∷ f 5 ∷ f 6 ∷ f 7 ∷ f 8 ∷ f 9 ∷ f 10 ∷ []) (g - 1) no_facts ≡ f g
place f zero a b = absurd (omega arith)
place f (suc zero) a b = refl
place f (suc (suc zero)) a b = refl
place f (suc (suc (suc zero))) a b = refl
place f (suc (suc (suc (suc zero)))) a b = refl
place f (suc (suc (suc (suc (suc zero))))) a b = refl
place f (suc (suc (suc (suc (suc (suc zero)))))) a b = refl
place f (suc (suc (suc (suc (suc (suc (suc zero))))))) a b = refl
place f (suc (suc (suc (suc (suc (suc (suc (suc zero)))))))) a b = refl
place f (suc (suc (suc (suc (suc (suc (suc (suc (suc zero))))))))) a b = refl
place f (suc (suc (suc (suc (suc (suc (suc (suc (suc (suc zero)))))))))) a b = refl
place f (suc (suc (suc (suc (suc (suc (suc (suc (suc (suc (suc g))))))))))) a b = absurd (omega arith)

module _ (car : Vehicle) (here : Role) (closes : Bool) (v : ℕ) (d : ℤ) where
  abbrev c : ℕ
  c = choose car here v d

  -- a gear that is chosen fits
  chosen_fits : c ≢ 0 → fits car here v c ≡ true
  unfolding suits
  chosen_fits n =
      by_test (eqb (highest (suits car here v d) car.ng) 0)
      (λ t. let e = choose-strongest car here v d (eqb-true _ _ t) in rw e (strongest-fits car here v car.ng (λ z. n (e ∙ z))).0)
      (λ t. let h = eqb-false _ _ t in rw (choose-highest car here v d h) (and_left _ _ (highest-holds (suits car here v d) car.ng h).0))

  -- what is listed of a driven gear
  pub driven_is : (g : ℕ) → low car ≤ g → g ≤ car.ng → gear_facts car here closes v d g ≡ driven_facts car here closes v d g
  unfolding gear_facts within ◌and◌
  driven_is g a b = rw (le-leb (low car) g a, le-leb g car.ng b)

  under : (g : ℕ) → fits car here v g ≡ true → is_under_nmax car v g ≡ true
  unfolding fits
  under g t = and_right _ _ (and_right _ _ t)

  from_low : (g : ℕ) → fits car here v g ≡ true → low car ≤ g
  unfolding fits allowed
  from_low g t = leb-true _ _ (and_left _ _ (and_left _ _ t))

  listed_is : (g : ℕ) → low car ≤ g → g ≤ car.ng → Listed car here v d g (gear_facts car here closes v d g)
  unfolding driven_facts listed_power ◌and◌
  listed_is g a b = rw (driven_is g a b) (record { fitting = refl; sufficing = λ t. rw (under g t); Q_is = λ t. rw (under g t); w_is = λ t. rw (under g t) })

  -- at the first second of a trip it is the lowest
  lowest_only : (g : ℕ) → is_first here ≡ true → fits car here v g ≡ true → g ≡ low car
  unfolding fits allowed
  lowest_only g f t =
      by_test (eqb g (low car)) (λ u. eqb-true _ _ u)
      (λ u. clash (or_skip _ _ u (and_right _ _ (and_left _ _ t))) (rw f))

  -- each sentence
  module _ (B : InBounds car) where
    abbrev has : Bool
    has = (gear_facts car here closes v d c).enough

    has_is : c ≢ 0 → has ≡ enough car v d c
    has_is n = let t = chosen_fits n in (listed_is c (from_low c t) (choose_to car here v d)).sufficing t

    suits_is : c ≢ 0 → enough car v d c ≡ true → suits car here v d c ≡ true
    unfolding suits
    suits_is n t = both (chosen_fits n) t

    say-enough : c ≢ 0 → has ≡ true → HighestEnough car here v d c
    say-enough n t = (first_choice_plainly car here v d B).choice_enough c (choose_to car here v d) (suits_is n (sym (has_is n) ∙ t))

    say_most : c ≢ 0 → has ≡ false → MostPower car here v c
    say_most n t =
        (first_choice_plainly car here v d B).choice_most
        (λ g l. by_test (suits car here v d g) (λ u. clash ((first_choice_plainly car here v d B).choice_enough g l u).with_enough (sym (has_is n) ∙ t))
        (λ u. u))
        c (choose_to car here v d) (chosen_fits n)

    -- one sentence at a time
    say_2 : sentence here 0 c has ≡ 2 → HighestEnough car here v d c
    unfolding sentence
    say_2 e =
        by_test (eqb c 0) (λ t. absurd (omega (arith, rw t at e)))
        (λ t. by_test (is_first here) (λ f. absurd (omega (arith, rw (t, f) at e)))
        (λ f. by_test has (λ h. say-enough (eqb-false _ _ t) h) (λ h. absurd (omega (arith, rw (t, f, h) at e)))))

    say_3 : sentence here 0 c has ≡ 3 → MostPower car here v c
    unfolding sentence
    say_3 e =
        by_test (eqb c 0) (λ t. absurd (omega (arith, rw t at e)))
        (λ t. by_test (is_first here) (λ f. absurd (omega (arith, rw (t, f) at e)))
        (λ f. by_test has (λ h. absurd (omega (arith, rw (t, f, h) at e))) (λ h. say_most (eqb-false _ _ t) h)))

    say_4 : sentence here 0 c has ≡ 4 → c ≡ low car
    unfolding sentence
    say_4 e =
        by_test (eqb c 0) (λ t. absurd (omega (arith, rw t at e)))
        (λ t. by_test (is_first here) (λ f. lowest_only c f (chosen_fits (eqb-false _ _ t)))
        (λ f. by_test has (λ h. absurd (omega (arith, rw (t, f, h) at e))) (λ h. absurd (omega (arith, rw (t, f, h) at e)))))

    say_5 : sentence here 0 c has ≡ 5 → c ≡ 0
    unfolding sentence
    say_5 e =
        by_test (eqb c 0) (λ t. eqb-true _ _ t)
        (λ t. by_test (is_first here) (λ f. absurd (omega (arith, rw (t, f) at e)))
        (λ f. by_test has (λ h. absurd (omega (arith, rw (t, f, h) at e))) (λ h. absurd (omega (arith, rw (t, f, h) at e)))))

module _ (car : Vehicle) (vs hs : List ℕ) (s : ℕ) (e : early_fault car vs hs s ≡ none) (z : kind vs s ≢ 0) where
  abbrev i : ℕ
  i = about vs s

  abbrev there : Role
  there = role_at car vs hs i

  abbrev ends_trip : Bool
  ends_trip = closing (drop i vs)

  -- without a hold the first choice is the rules'
  free_choice : at hs i ≡ 0 → first_at car vs hs i ≡ choose car there (at vs i) (rise vs i)
  free_choice h = first_at_is car vs hs (even car vs hs s e) i (about_moves vs s z) ∙ rw (eq-eqb (at hs i) 0 h)

  chooses : at hs i ≡ 0 → (f : Option Fault) → Chooses car there (at vs i) (rise vs i) (said_of car vs hs s i f)
  unfolding said_of gear_list
  chooses h f =
      let B = bounds car vs hs s e in
      let x = free_choice h in
      let l = low_from car in
      rw (x, h) (record {
        chosen = first_choice_plainly car there (at vs i) (rise vs i) B;
        listed =
            λ g a b. rw (place (gear_facts car there ends_trip (at vs i) (rise vs i)) g (omega arith) (omega (arith, B.ng_to)))
            (listed_is car there ends_trip (at vs i) (rise vs i) g a b);
        enough_said = say_2 car there ends_trip (at vs i) (rise vs i) B;
        most_said = say_3 car there ends_trip (at vs i) (rise vs i) B;
        first_said = say_4 car there ends_trip (at vs i) (rise vs i) B;
        none_said = say_5 car there ends_trip (at vs i) (rise vs i) B;
      })

  pub chooses_there : at hs i ≡ 0 → Chooses car there (at vs i) (rise vs i) (why car vs hs s)
  chooses_there h = rw (said_there car vs hs s e z) (chooses h (why_fault car vs hs s))
