-- The first choice, said plainly: what gear `choose` gives, without the search and the comparison by which it is found.
use Rattle.rules.proofs.Base.{ℕ, ◌≤◌, arith, ◌≡◌, sym, ◌∙◌, ◌≢◌, Bool, true, false, eqb, ℤ, eqb-true, eqb-false, eq-eqb, ne_eqb, Vehicle, Role}
use Rattle.rules.specs.Inside.{InBounds}
use Rattle.rules.specs.Words.{◌and◌, highest}
use Rattle.rules.specs.Gears.{fits, suits, strongest, choose}
use Rattle.rules.specs.Vocabulary.{HighestEnough, MostPower, NoGear, FirstChoice}
use Rattle.rules.proofs.Laws.Words.{clash, by_test, if_ind, and_left, and_right}
use Rattle.rules.proofs.Laws.Searches.{highest-holds, highest-above, highest_none}
use Rattle.rules.proofs.Laws.Strongest.{fits_from, strongest-fits, strongest_none, strongest_tie, strongest_most}

module _ (car : Vehicle) (here : Role) (v : ℕ) (d : ℤ) where
  -- a gear without a fit does not suit
  suits-fits : (g : ℕ) → fits car here v g ≡ false → suits car here v d g ≡ false
  unfolding suits ◌and◌
  suits-fits g f = rw f

  -- where no gear suits, the choice is the strongest
  pub choose-strongest : highest (suits car here v d) car.ng ≡ 0 → choose car here v d ≡ strongest car here v car.ng
  unfolding choose
  choose-strongest e = rw (eq-eqb _ _ e)

  -- where one does, it is the highest that suits
  pub choose-highest : highest (suits car here v d) car.ng ≢ 0 → choose car here v d ≡ highest (suits car here v d) car.ng
  unfolding choose
  choose-highest n = rw (ne_eqb _ _ n)

  -- the choice is at most ng
  pub choose_to : choose car here v d ≤ car.ng
  unfolding choose
  choose_to =
      if_ind (λ c. c ≤ car.ng) (eqb (highest (suits car here v d) car.ng) 0)
      (λ t. by_test (eqb (strongest car here v car.ng) 0)
      (λ z. let e : strongest car here v car.ng ≡ 0 = eqb-true _ _ z in omega arith)
      (λ n. (strongest-fits car here v car.ng (eqb-false _ _ n)).1))
      (λ t. (highest-holds (suits car here v d) car.ng (eqb-false _ _ t)).1)

  none_highest : (p : ℕ → Bool) → NoGear car p → highest p car.ng ≡ 0
  none_highest p none_pass = highest_none p car.ng (λ g a b. none_pass g b)

  -- where no gear is the highest that fits, none fits
  unfit : highest (fits car here v) car.ng ≡ 0 → NoGear car (fits car here v)
  unfit e g l =
      by_test (fits car here v g)
      (λ f. highest-above (fits car here v) car.ng g (rw e (fits_from car here v g f)) l)
      (λ f. f)

  -- a gear suits: the choice is the highest that does
  enough_of : (g : ℕ) → g ≤ car.ng → suits car here v d g ≡ true → HighestEnough car here v d (choose car here v d)
  unfolding suits
  enough_of g l s =
      let n : highest (suits car here v d) car.ng ≢ 0 =
      λ z. clash s (highest-above (suits car here v d) car.ng g (rw z (fits_from car here v g (and_left _ _ s))) l) in
      let r = highest-holds (suits car here v d) car.ng n in
      rw (choose-highest n) (record {
        a_gear = r.1;
        fitting = and_left _ _ r.0;
        with_enough = and_right _ _ r.0;
        none_higher = highest-above (suits car here v d) car.ng;
      })

  -- none suits, and one fits: the choice is the strongest that fits
  most_of : InBounds car → NoGear car (suits car here v d) → (g : ℕ) → g ≤ car.ng → fits car here v g ≡ true
      → MostPower car here v (choose car here v d)
  most_of B none-suits g l f =
      let n : strongest car here v car.ng ≢ 0 = λ z. clash f (strongest_none car here v car.ng z g l) in
      let r = strongest-fits car here v car.ng n in
      rw (choose-strongest (none_highest (suits car here v d) none-suits)) (record {
        a_gear = r.1;
        fitting = r.0;
        none_stronger = strongest_most car here v B car.ng;
        none_higher = strongest_tie car here v car.ng;
      })

  -- none fits: the choice is 0
  none_of : NoGear car (fits car here v) → choose car here v d ≡ 0
  none_of none_fit =
      choose-strongest (none_highest (suits car here v d) (λ g l. suits-fits g (none_fit g l)))
      ∙ by_test (eqb (strongest car here v car.ng) 0)
      (λ t. eqb-true _ _ t)
      (λ t. let r = strongest-fits car here v car.ng (eqb-false _ _ t) in clash r.0 (none_fit (strongest car here v car.ng) r.1))

  -- the choice is 0: none fits
  of_none : choose car here v d ≡ 0 → NoGear car (fits car here v)
  of_none e =
      by_test (eqb (highest (suits car here v d) car.ng) 0)
      (λ t. strongest_none car here v car.ng (sym (choose-strongest (eqb-true _ _ t)) ∙ e))
      (λ t. absurd (eqb-false _ _ t (sym (choose-highest (eqb-false _ _ t)) ∙ e)))

  -- the choice is 0 exactly when the highest gear that fits is
  pub choice_none_fits : eqb (choose car here v d) 0 ≡ eqb (highest (fits car here v) car.ng) 0
  choice_none_fits =
      by_test (eqb (choose car here v d) 0)
      (λ t. t ∙ sym (eq-eqb _ _ (none_highest (fits car here v) (of_none (eqb-true _ _ t)))))
      (λ t. t ∙ sym (ne_eqb _ _ (λ z. eqb-false _ _ t (none_of (unfit z)))))

  -- Theorem 2, the first choice said plainly
  pub first_choice_plainly : InBounds car → FirstChoice car here v d (choose car here v d)
  first_choice_plainly B = record { choice_enough = enough_of; choice_most = most_of B; choice_none = none_of; none_fits = of_none }
