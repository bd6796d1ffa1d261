-- The limits of a gear: on a vehicle in bounds the gears whose engine speed is at most 1000 x nmax are those from the floor up to ng, every
-- first choice is one of them, and each pass keeps it so.
use Rattle.rules.proofs.Base.{ℕ, zero, suc, ◌+◌, ◌-◌, ◌*◌, ◌≤◌, ◌<◌, add-zero, le_refl, mul-le-mul_right, le_trans, arith, ◌≡◌, refl, ◌≢◌, ◌⊎◌, inl, inr}
use Rattle.rules.proofs.Base.{true, false, Option, none, some, option_get_or, List, eqb, ℤ, length, leb-true, ltb-true, le-leb, eqb-true, Vehicle, Role}
use Rattle.rules.specs.Inside.{InBounds}
use Rattle.rules.specs.Words.{at, first, highest}
use Rattle.rules.specs.Units.{ratio_of, low, rise}
use Rattle.rules.specs.Gears.{engine, is_under_nmax, allowed, fits, suits, choose}
use Rattle.rules.specs.Corrections.{floor, ceiling, here, first_choice, is_peak, peak, too_high, rising, too_low, slowing, firsts, after_A, after_B}
use Rattle.rules.specs.Corrections.{gears}
use Rattle.rules.proofs.Laws.Words.{clash, if_ind, and_left, and_right, by_order, pass-holds}
use Rattle.rules.proofs.Laws.Searches.{Found, first_found, none_first, highest-holds}
use Rattle.rules.proofs.Laws.Vehicle.{low_from}
use Rattle.rules.proofs.Laws.Strongest.{strongest-fits}
use Rattle.rules.proofs.Laws.Held.{length-firsts, length_A, length_B}

module _ (car : Vehicle) (C : InBounds car) where
  -- gears from the floor up to ng are those whose engine speed is at most nmax
  abbrev pub InRange : ℕ → ℕ → Type 0
  InRange v g = (floor car v ≤ g) × (g ≤ car.ng)

  -- a higher gear turns the engine no faster
  pub higher : (v g d : ℕ) → low car ≤ g → g + d ≤ car.ng → engine car (g + d) v ≤ engine car g v
  unfolding engine
  higher v g zero l h = rw add-zero (le_refl _)
  higher v g (suc d) l h =
      let e : g + suc d ≡ suc (g + d) = omega arith in
      let f : ratio_of car (suc (g + d)) ≤ ratio_of car (g + d) = omega (arith, C.falling (g + d) (omega (arith, low_from car)) (omega arith)) in
      le_trans (mul-le-mul_right v (rw e f)) (higher v g d l (omega arith))

  -- the floor is the lowest gear from low up to ng that the engine can turn; past ng where there is none
  floor_is : (v : ℕ) → Found (is_under_nmax car v) (low car) (suc car.ng) (floor car v)
      ⊎ ((floor car v ≡ suc car.ng) × ((g : ℕ) → low car ≤ g → g ≤ car.ng → is_under_nmax car v g ≡ false))
  unfolding floor
  floor_is v = go (first (is_under_nmax car v) (low car) (suc car.ng - low car)) refl
    where
      e : low car + (suc car.ng - low car) ≡ suc car.ng
      e = omega (arith, C.low_ng)

      go : (o : Option ℕ) → first (is_under_nmax car v) (low car) (suc car.ng - low car) ≡ o
          → Found (is_under_nmax car v) (low car) (suc car.ng) (option_get_or o (suc car.ng))
          ⊎ ((option_get_or o (suc car.ng) ≡ suc car.ng) × ((g : ℕ) → low car ≤ g → g ≤ car.ng → is_under_nmax car v g ≡ false))
      go none h = inr (refl, λ g a b. none_first (is_under_nmax car v) (suc car.ng - low car) (low car) h g a (omega (arith, e)))
      go (some i) h = inl (rw e at (first_found (is_under_nmax car v) (suc car.ng - low car) (low car) i h))

  pub floor-low : (v : ℕ) → low car ≤ floor car v
  floor-low v = elim (floor_is v) [ inl f ↦ f.from | inr n ↦ omega (arith, C.low_ng) ]

  pub under_of : (v g : ℕ) → InRange v g → is_under_nmax car v g ≡ true
  unfolding is_under_nmax
  under_of v g r =
      elim (floor_is v) [
        | inl f ↦
            let e : g ≡ floor car v + (g - floor car v) = omega arith in
            let h : engine car g v ≤ engine car (floor car v) v = rw e (higher v (floor car v) (g - floor car v) f.from (omega arith)) in
            le-leb (engine car g v) (1000 * car.nmax) (le_trans h (leb-true (engine car (floor car v) v) (1000 * car.nmax) f.holds))
        | inr n ↦ absurd (omega arith)
      ]

  pub of_under : (v g : ℕ) → low car ≤ g → g ≤ car.ng → is_under_nmax car v g ≡ true → InRange v g
  of_under v g l h u =
      elim (floor_is v) [
        | inl f ↦ (by_order g (floor car v) (λ x. clash u (f.lowest g l x)) (λ x. x), h)
        | inr n ↦ clash u (n.1 g l h)
      ]

  -- ---- the first choice is in range

  pub fits_in : (spot : Role) (v g : ℕ) → fits car spot v g ≡ true → g ≤ car.ng → InRange v g
  unfolding fits allowed
  fits_in spot v g t h = of_under v g (leb-true _ _ (and_left _ _ (and_left _ _ t))) h (and_right _ _ (and_right _ _ t))

  pub choose_in : (spot : Role) (v : ℕ) (d : ℤ) → choose car spot v d ≢ 0 → InRange v (choose car spot v d)
  unfolding choose suits
  choose_in spot v d n =
      if_ind (λ g. g ≢ 0 → InRange v g) (eqb (highest (suits car spot v d) car.ng) 0)
      (λ t z. let r = strongest-fits car spot v car.ng z in fits_in spot v _ r.0 r.1)
      (λ t z. let r = highest-holds (suits car spot v d) car.ng z in fits_in spot v _ (and_left _ _ r.0) r.1) n

  -- ---- the passes keep it

  module _ (us hs : List ℕ) where
    abbrev pub InTrip : ℕ → ℕ → Type 0
    InTrip j g = InRange (at us j) g

    -- a first choice is in range if the hold is
    pub first_in : (j : ℕ) (rs : List ℕ) → (at hs j ≢ 0 → InTrip j (at hs j)) → first_choice car us hs j rs ≢ 0 → InTrip j (first_choice car us hs j rs)
    unfolding first_choice
    first_in j rs h n =
        if_ind (λ g. g ≢ 0 → InTrip j g) (eqb (at hs j) 0) (λ t z. choose_in (here car us hs j rs) (at us j) (rise us j) z) (λ t z. h z) n

    peak_in : (j : ℕ) (rs : List ℕ) → InTrip j (at rs j) → InTrip j (peak car us hs j rs)
    unfolding peak is_peak
    peak_in j rs h = if_ind (InTrip j) (is_peak car us hs j rs) (λ t. (leb-true _ _ (and_right _ _ t), omega arith)) (λ t. h)

    rising_in : (j : ℕ) (rs : List ℕ) → InTrip j (at rs j) → InTrip j (rising car us hs j rs)
    unfolding rising too_high
    rising_in j rs h =
        if_ind (InTrip j) (too_high car us hs j rs)
        (λ t. let c : ceiling j rs < at rs j = ltb-true _ _ (and_right _ _ t) in omega arith) (λ t. h)

    slowing_in : (j : ℕ) (rs : List ℕ) → InTrip j (at rs j) → InTrip j (slowing car us hs j rs)
    unfolding slowing too_low
    slowing_in j rs h =
        if_ind (InTrip j) (too_low car us hs j rs)
        (λ t. let c : at rs j ≡ low car = eqb-true _ _ (and_right _ _ t) in omega (arith, C.low_ng)) (λ t. h)

    -- the gears of a trip whose first choices are in range are in range
    pub gears_in : (j : ℕ) → j < length hs → InTrip j (at (firsts car us hs) j) → InTrip j (at (gears car us hs) j)
    unfolding gears after_B after_A
    gears_in j l h =
        let n = length hs in
        pass-holds (slowing car us hs) (after_B car us hs) InTrip slowing_in n j (rw (length_B car us hs) l)
        (pass-holds (rising car us hs) (after_A car us hs) InTrip rising_in n j (rw (length_A car us hs) l)
        (pass-holds (peak car us hs) (firsts car us hs) InTrip peak_in n j (rw (length-firsts car us hs) l) h))
