-- The choice, as a loop from the top gear down meets it: what is left, from here down, with the best gear so far, is what was asked.
use Rattle.rules.proofs.Offered.{ℕ, zero, suc, ◌-◌, ◌≤◌, ◌<◌, arith, ◌≡◌, refl, sym, ◌∙◌, subst, ◌≢◌, Bool, true, false, not, List, eqb, ℤ, pos, negsuc}
use Rattle.rules.proofs.Offered.{eqb-true, eqb-false, ne_eqb, if◌then◌else◌, ◌and◌, ◌or◌, highest, low, is_first, required, fits, Power, power, enough, more}
use Rattle.rules.proofs.Offered.{suits, beats, strongest, choose, NoGear, clash, by_test, and_left, and_no, highest-holds, highest_none, fits_from}
use Rattle.rules.proofs.Offered.{strongest-fits, more_asym, no_more_trans, gear_wide, choose-strongest, choose-highest, choose_to, first_choice_plainly}
use Rattle.rules.proofs.Offered.{InBounds, nat_abs, le_z, to_z-of_z, result}
use Rattle.rules.specs.declared.Vehicle.{Vehicle}
use Rattle.rules.proofs.Laws.Strongest.{Wide}
use Rattle.rules.specs.declared.Role.{Role}
use Rattle.rules.specs.declared.Role.TheVariants.{First}
use Rattle.gears.specs.declared.Power as code
use Rattle.gears.specs.declared.Best.{Best}
use Rattle.gears.specs.Second.{Gear}
use Rattle.gears.specs.Choosing.{power_of, PowerSized, enough_for, InGear, only_lowest, the_stronger}
use Rattle.gears.proofs.Powers.{nothing, turning_of, turning_enough, sized_of, turned-curve, turned-next}
use Rattle.gears.proofs.Reach.{later}
use Rattle.gears.proofs.Speeds.{fits_not, fits_lower}

-- ---- what is left

module _ (car : Vehicle) (here : Role) (v : ℕ) where
  -- the strongest of the gears up to k, and whether it has more power than gear b
  abbrev rest : ℕ → ℕ
  rest k = strongest car here v k

  abbrev outdone : ℕ → ℕ → Bool
  outdone b k = more (power car v (rest k)) (power car v b)

  -- of the best gear so far, 0 for none, and those up to k the fitting one with most power, the higher gear on a tie
  unfoldable pub fallback : ℕ → ℕ → ℕ
  fallback b k =
      let r = rest k in
      if eqb b 0 or (not (eqb r 0) and more (power car v r) (power car v b)) then r else b

  -- the best so far once gear g, which fits, is one of them
  unfoldable better : ℕ → ℕ → ℕ
  better b g = if eqb b 0 or more (power car v g) (power car v b) then g else b

  module _ (b g : ℕ) where
    better_first : eqb b 0 ≡ true → better b g ≡ g
    unfolding better ◌or◌
    better_first y = rw y

    better_more : more (power car v g) (power car v b) ≡ true → better b g ≡ g
    unfolding better ◌or◌
    better_more u = by_test (eqb b 0) (λ y. rw y) (λ y. rw (y, u))

    better_not : eqb b 0 ≡ false → more (power car v g) (power car v b) ≡ false → better b g ≡ b
    unfolding better ◌or◌
    better_not y u = rw (y, u)

  same_rest : (b j k : ℕ) → rest j ≡ rest k → fallback b j ≡ fallback b k
  unfolding fallback
  same_rest b j k e = rw e

  module _ (b k : ℕ) where
    falls_through : eqb b 0 ≡ true → fallback b k ≡ rest k
    unfolding fallback ◌or◌
    falls_through y = rw y

    falls_alone : eqb b 0 ≡ false → eqb (rest k) 0 ≡ true → fallback b k ≡ b
    unfolding fallback ◌and◌ ◌or◌
    falls_alone y z = rw (y, z)

    falls_back : eqb b 0 ≡ false → outdone b k ≡ false → fallback b k ≡ b
    unfolding fallback ◌or◌
    falls_back y t = rw (y, and_no (not (eqb (rest k) 0)) _ t)

    falls_on : eqb (rest k) 0 ≡ false → outdone b k ≡ true → fallback b k ≡ rest k
    unfolding fallback ◌and◌ ◌or◌
    falls_on z t = by_test (eqb b 0) (λ y. rw y) (λ y. rw (y, z, t))

  module _ (k : ℕ) (f : fits car here v (suc k) ≡ true) where
    tops_alone : eqb (rest k) 0 ≡ true → rest (suc k) ≡ suc k
    unfolding strongest beats ◌and◌ ◌or◌
    tops_alone z = rw (f, z)

    tops : outdone (suc k) k ≡ false → rest (suc k) ≡ suc k
    unfolding strongest beats ◌and◌ ◌or◌
    tops t = by_test (eqb (rest k) 0) (λ z. rw (f, z)) (λ z. rw (f, z, t))

    stays : eqb (rest k) 0 ≡ false → outdone (suc k) k ≡ true → rest (suc k) ≡ rest k
    unfolding strongest beats ◌and◌ ◌or◌
    stays z t = rw (f, z, t)

    -- none of those under fits, or the strongest of them has more power, or no more
    by_rest : {A : Type 0} → ((g : ℕ) → fits car here v g ≡ true → Wide (power car v g)) → (eqb (rest k) 0 ≡ true → A)
        → (eqb (rest k) 0 ≡ false → Wide (power car v (rest k)) → outdone (suc k) k ≡ true → A)
        → (eqb (rest k) 0 ≡ false → Wide (power car v (rest k)) → outdone (suc k) k ≡ false → A) → A
    by_rest wide none more-there no_more =
        by_test (eqb (rest k) 0) none
        (λ z. let w = wide (rest k) (strongest-fits car here v k (eqb-false _ _ z)).0 in by_test (outdone (suc k) k) (more-there z w) (no_more z w))

    -- a gear may be put with those before or with those under
    fallback_better : InBounds car → (b : ℕ) → (b ≢ 0 → fits car here v b ≡ true) → fallback b (suc k) ≡ fallback (better b (suc k)) k
    fallback_better B b fitting =
        let n = suc k in
        let r = rest k in
        let wide = gear_wide car B here v in
        let some : eqb n 0 ≡ false = ne_eqb n 0 (λ z. omega arith) in
        by_test (eqb b 0)
        (λ y.
        let on : fallback n k ≡ fallback (better b n) k = rw (better_first b n y) in
        by_rest wide
        (λ z. falls_through b n y ∙ tops_alone z ∙ sym (falls_alone n k some z) ∙ on)
        (λ z w t. falls_through b n y ∙ stays z t ∙ sym (falls_on n k z t) ∙ on)
        (λ z w t. falls_through b n y ∙ tops t ∙ sym (falls_back n k some t) ∙ on))
        (λ y.
        let wide-b = wide b (fitting (eqb-false _ _ y)) in
        by_test (more (power car v n) (power car v b))
        (λ u.
        let on : fallback n k ≡ fallback (better b n) k = rw (better_more b n u) in
        by_rest wide
        (λ z. falls_on b n (rw (tops_alone z) some) (rw (tops_alone z) u) ∙ tops_alone z ∙ sym (falls_alone n k some z) ∙ on)
        (λ z w t.
        let over : more (power car v r) (power car v b) ≡ true =
        by_test (more (power car v r) (power car v b)) (λ x. x) (λ x. clash t (no_more_trans _ (power car v b) _ w wide-b (wide n f) x (more_asym _ _ u))) in
        falls_on b n (rw (stays z t) z) (rw (stays z t) over) ∙ stays z t ∙ sym (falls_on n k z t) ∙ on)
        (λ z w t. falls_on b n (rw (tops t) some) (rw (tops t) u) ∙ tops t ∙ sym (falls_back n k some t) ∙ on))
        (λ u.
        let on : fallback b k ≡ fallback (better b n) k = rw (better_not b n y u) in
        by_rest wide
        (λ z. falls_back b n y (rw (tops_alone z) u) ∙ sym (falls_alone b k y z) ∙ on)
        (λ z w t. same_rest b n k (stays z t) ∙ on)
        (λ z w t. falls_back b n y (rw (tops t) u) ∙ sym (falls_back b k y (no_more_trans _ (power car v n) _ w (wide n f) wide-b t u)) ∙ on)))

  module _ (d : ℤ) where
    -- the highest up to k that suits, or the fallback
    unfoldable pub choice_left : ℕ → ℕ → ℕ
    choice_left b k = let g = highest (suits car here v d) k in if eqb g 0 then fallback b k else g

    -- all gears, to begin with
    left_all : choose car here v d ≡ choice_left 0 car.ng
    unfolding choose choice_left fallback ◌or◌
    left_all = refl

    -- one that does not fit
    left_unfit : (b k : ℕ) → fits car here v (suc k) ≡ false → choice_left b (suc k) ≡ choice_left b k
    unfolding choice_left fallback highest suits strongest beats ◌and◌
    left_unfit b k f = rw f

    -- one that fits and has too little power
    left_weak : InBounds car → (b k : ℕ) → (b ≢ 0 → fits car here v b ≡ true) → fits car here v (suc k) ≡ true → suits car here v d (suc k) ≡ false
        → choice_left b (suc k) ≡ choice_left (better b (suc k)) k
    unfolding choice_left highest
    left_weak B b k fitting f s = rw (s, fallback_better k f B b fitting)

    -- one that suits
    left-suits : (b k : ℕ) → suits car here v d (suc k) ≡ true → choice_left b (suc k) ≡ suc k
    unfolding choice_left highest
    left-suits b k s = rw (s, ne_eqb (suc k) 0 (λ z. omega arith))

    -- none is left: under the lowest none fits
    left_none : (b k : ℕ) → k < low car → choice_left b k ≡ b
    unfolding choice_left fallback suits ◌and◌ ◌or◌
    left_none b k l =
        let h : highest (suits car here v d) k ≡ 0 = highest_none (suits car here v d) k (λ j x y. rw (fits_lower car here v j (omega arith))) in
        let r : strongest car here v k ≡ 0 =
        by_test (eqb (strongest car here v k) 0) (λ z. eqb-true _ _ z)
        (λ z. let s = strongest-fits car here v k (eqb-false _ _ z) in clash s.0 (fits_lower car here v (strongest car here v k) (omega (arith, s.1)))) in
        rw (h, r) (by_test (eqb b 0) (λ y. rw y (sym (eqb-true b 0 y))) (λ y. rw y))

-- ---- the gears tried so far

-- the next gear down, by one law for each gear that has one
down : (P : ℕ → ℕ → Type 0) → ((k : ℕ) → P (suc k) k) → (g : ℕ) → 0 < g → P g (g - 1)
down P h zero l = absurd (omega arith)
down P h (suc k) l = let e : suc k - 1 ≡ k = omega arith in rw e (h k)

-- those above g: the choice is one of the rest, or b, the best so far, with its power
pub record Tried (car : Vehicle) (here : Role) (v : ℕ) (d : ℤ) (g : ℕ) (b : Best) : Type 0 where
  pub left : choose car here v d ≡ choice_left car here v d b.gear g
  pub none : b.gear ≡ 0 → power_of b.power ≡ nothing
  pub its_power : b.gear ≢ 0 → power_of b.power ≡ power car v b.gear
  pub fitting : b.gear ≢ 0 → fits car here v b.gear ≡ true
  pub to : b.gear ≤ car.ng

-- none, to begin with
pub tried_none : (car : Vehicle) (here : Role) (v : ℕ) (d : ℤ) (g : ℕ) → g ≡ car.ng
    → Tried car here v d g (record { gear = 0; power = record { q = negsuc 0; w = pos 1 } })
tried_none car here v d g e =
    rw e (record { left = left_all car here v d; none = λ y. refl; its_power = λ n. absurd (n refl); fitting = λ n. absurd (n refl); to = omega arith })

module _ {car : Vehicle} {here : Role} {v : ℕ} {d : ℤ} {g : ℕ} {b : Best} (T : Tried car here v d g b) where
  -- the power of the best is within its bounds
  pub best_sized : InBounds car → PowerSized b.power
  best_sized B =
      by_test (eqb b.gear 0)
      (λ y. let p = T.none (eqb-true _ _ y) in record {
        q_in = subst (λ (z : Power). nat_abs z.Q ≤ 1000000000000) (sym p) (omega arith);
        w_in = subst (λ (z : Power). nat_abs z.w ≤ 1000) (sym p) (omega arith);
      })
      (λ y.
      let f = T.fitting (eqb-false _ _ y) in
      let i : InGear car b.gear = record { from = fits_from car here v b.gear f; to = T.to } in
      sized_of B v b.gear (turning_of car here v b.gear i f) b.power (T.its_power (eqb-false _ _ y)))

  module _ (l : 0 < g) where
    -- gear g suits: it is the choice
    pub tried_suits : suits car here v d g ≡ true → g ≡ choose car here v d
    tried_suits s =
        sym (T.left ∙ down (λ i j. suits car here v d i ≡ true → choice_left car here v d b.gear i ≡ i) (λ k. left-suits car here v d b.gear k) g l s)

    -- it does not fit
    pub tried_unfit : fits car here v g ≡ false → Tried car here v d (g - 1) b
    tried_unfit f = record {
      left =
          T.left ∙ down (λ i j. fits car here v i ≡ false → choice_left car here v d b.gear i ≡ choice_left car here v d b.gear j)
          (λ k. left_unfit car here v d b.gear k) g l f;
      none = T.none;
      its_power = T.its_power;
      fitting = T.fitting;
      to = T.to;
    }

    -- it has too little power: the stronger of the two is kept
    pub tried_weak : InBounds car → g ≤ car.ng → (a : code.Power) → fits car here v g ≡ true → power_of a ≡ power car v g → suits car here v d g ≡ false
        → more (power car v g) nothing ≡ true
        → {r : Best} → r ≡ the_stronger b g a → Tried car here v d (g - 1) r
    unfolding the_stronger better ◌or◌
    tried_weak B to a f q s some is =
        let compared : more (power_of a) (power_of b.power) ≡ (eqb b.gear 0 or more (power car v g) (power car v b.gear)) =
        by_test (eqb b.gear 0) (λ y. rw (y, q, T.none (eqb-true _ _ y)) some) (λ y. rw (y, q, T.its_power (eqb-false _ _ y))) in
        let on : choose car here v d ≡ choice_left car here v d (better car here v b.gear g) (g - 1) =
        T.left
        ∙ down (λ i j. fits car here v i ≡ true → suits car here v d i ≡ false
        → choice_left car here v d b.gear i ≡ choice_left car here v d (better car here v b.gear i) j)
        (λ k x y. left_weak car here v d B b.gear k T.fitting x y) g l f s in
        by_test (more (power_of a) (power_of b.power))
        (λ t. rw (is, t) (record { left = rw (sym compared ∙ t) at on; none = λ z. absurd (omega (arith, z)); its_power = λ n. q; fitting = λ n. f; to = to }))
        (λ t. rw (is, t) (record { left = rw (sym compared ∙ t) at on; none = T.none; its_power = T.its_power; fitting = T.fitting; to = T.to }))

  -- none is left: the best of them is the choice
  pub tried_all : g < low car → b.gear ≡ choose car here v d
  tried_all l = sym (T.left ∙ left_none car here v d b.gear g l)

-- ---- a gear that fits

-- it suits if its power is enough for E
pub suits-power : (car : Vehicle) (here : Role) (v : ℕ) (d : ℤ) (g : ℕ) (a : code.Power) {e : ℤ} {t : Bool} → e ≡ required car v d → fits car here v g ≡ true
    → power_of a ≡ power car v g
    → enough_for (power_of a) e ≡ t → suits car here v d g ≡ t
unfolding suits enough enough_for ◌and◌
suits-power car here v d g a r f q h = rw (f, ← q, ← r) h

-- or if E is at most 0
pub suits_none : (car : Vehicle) (here : Role) (v : ℕ) (d : ℤ) (g : ℕ) → InBounds car → InGear car g → fits car here v g ≡ true
    → le_z (required car v d) (pos 0) ≡ true
    → suits car here v d g ≡ true
unfolding suits enough enough_for ◌and◌
suits_none car here v d g B i f h = rw f (turning_enough B v g (turning_of car here v g i f) (required car v d) h)

-- a gear of a vehicle in bounds has a place in the array
pub in_array : (car : Vehicle) (g : ℕ) → InBounds car → InGear car g → Gear g
in_array car g b i = record { from = i.from; to = omega (arith, i.to, b.ng_to) }

-- what a turn of the loop stands on
pub ruleset turns = (tried_none, in_array, turned-curve, turned-next, turning_of, later, to_z-of_z, result)

-- ---- the choice where one gear may fit, or none

-- a choice that is not 0 fits
choice_fits : (car : Vehicle) (here : Role) (v : ℕ) (d : ℤ) → choose car here v d ≢ 0 → fits car here v (choose car here v d) ≡ true
unfolding suits
choice_fits car here v d n =
    by_test (eqb (highest (suits car here v d) car.ng) 0)
    (λ t. let e = choose-strongest car here v d (eqb-true _ _ t) in rw e (strongest-fits car here v car.ng (λ z. n (e ∙ z))).0)
    (λ t. let o = eqb-false _ _ t in rw (choose-highest car here v d o) (and_left _ _ (highest-holds (suits car here v d) car.ng o).0))

-- only the lowest may
pub choice_only : (car : Vehicle) → InBounds car → (here : Role) (v : ℕ) → ((g : ℕ) → g ≤ car.ng → fits car here v g ≡ true → g ≡ low car) → (d : ℤ)
    → only_lowest car here v ≡ choose car here v d
unfolding only_lowest
choice_only car b here v only d =
    let plain = first_choice_plainly car here v d b in
    by_test (fits car here v (low car))
    (λ t. let n : choose car here v d ≢ 0 = λ z. clash t (plain.none_fits z (low car) (omega (arith, b.low_ng))) in
    rw t (sym (only (choose car here v d) (choose_to car here v d) (choice_fits car here v d n))))
    (λ t. let no : NoGear car (fits car here v) = λ g l. by_test (fits car here v g) (λ u. clash (rw (only g l u) at u) t) (λ u. u) in
    rw t (sym (plain.choice_none no)))

-- as at a trip's first second
pub choice_first : (car : Vehicle) → InBounds car → (v : ℕ) (d : ℤ) → only_lowest car First v ≡ choose car First v d
unfolding is_first
choice_first car b v d =
    choice_only car b First v (λ g l t. by_test (eqb g (low car)) (λ e. eqb-true _ _ e) (λ e. clash t (sym (fits_not car First v g (eqb-false _ _ e) refl)))) d
