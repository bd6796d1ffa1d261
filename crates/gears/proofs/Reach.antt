-- Which gears fit at a second that is not its trip's first.
use Rattle.rules.proofs.Offered.{ℕ, ◌+◌, ◌*◌, ◌≤◌, ◌<◌, arith, ◌≡◌, refl, sym, ap, ◌∙◌, Bool, true, false, eqb, leb, eqb-true, eq-eqb, le-leb}
use Rattle.rules.proofs.Offered.{lt-leb, lt-ltb, ltb-true, ltb-false, low, is_first, engine, minimum, fits, role_of, clash, by_test, by_order, by_eq}
use Rattle.rules.proofs.Offered.{and_left, and_right, and-fails}
use Rattle.rules.specs.declared.Vehicle.{Vehicle}
use Rattle.rules.specs.declared.Role.{Role}
use Rattle.rules.specs.declared.Role.TheVariants.{Inner}
use Rattle.gears.specs.Choosing.{out_of_reach, under_minimum}
use Rattle.gears.proofs.Speeds.{minimum-above, shared, fits-over, fits_one, fits_later, fits_under}

-- a second that is not its trip's first
pub later : (car : Vehicle) (closes : Bool) (before : ℕ) → is_first (role_of car false closes before) ≡ false
unfolding role_of is_first
later car true before = refl
later car false before = by_test (eqb before (low car)) (λ t. rw t) (λ t. rw t)

-- from two above the lowest on the place does not matter
any_place : (car : Vehicle) (here there : Role) (g : ℕ) → low car + 1 < g → minimum car here g ≡ minimum car there g
any_place car here there g h =
    minimum-above car here g (λ z. omega arith) (λ z. omega arith) ∙ sym (minimum-above car there g (λ z. omega arith) (λ z. omega arith))

-- a gear that is out of reach is none of the lowest two
pub reach_above : (car : Vehicle) (v g : ℕ) → out_of_reach car v g ≡ true → low car + 1 < g
unfolding out_of_reach
reach_above car v g t = ltb-true _ _ (and_right _ _ t)

module _ (car : Vehicle) (here : Role) (is_later : is_first here ≡ false) (v g : ℕ) where
  least_here : 1000 * minimum car Inner (low car + 2) ≡ 1000 * minimum car here (low car + 2)
  least_here = ap (λ m. 1000 * m) (any_place car Inner here (low car + 2) (omega arith))

  -- nor does it fit
  pub fits_out : out_of_reach car v g ≡ true → fits car here v g ≡ false
  unfolding out_of_reach
  fits_out t = sym (fits_under car here v g least_here (ltb-true _ _ (and_right _ _ t)) is_later (ltb-true _ _ (and_left _ _ t)))

  -- nor the gear above the lowest under its own minimum
  pub fits_under_own : under_minimum car here g (engine car g v) ≡ true → false ≡ fits car here v g
  unfolding under_minimum
  fits_under_own t =
      let a : g ≡ low car + 1 = eqb-true _ _ (and_left _ _ t) in
      let under : engine car g v < 1000 * minimum car here g = rw (← a) at (ltb-true (engine car g v) _ (and_right _ _ t)) in
      by_order (1000 * car.nmax) (engine car g v)
      (λ o. fits-over car here v g o)
      (λ o. rw (lt-leb (1000 * minimum car here g) (engine car g v) under) at (fits_later car here v g (omega arith) is_later o))

  -- a gear above the lowest that is neither has its minimum
  over : low car < g → out_of_reach car v g ≡ false → under_minimum car here g (engine car g v) ≡ false → 1000 * minimum car here g ≤ engine car g v
  unfolding out_of_reach under_minimum
  over a out not_own =
      by_order (low car + 1) g
      (λ two. rw (← shared car here v g least_here two is_later)
      (by_order (engine car g v) (1000 * minimum car Inner (low car + 2))
      (λ o. clash (lt-ltb (low car + 1) g two) (and-fails _ _ (lt-ltb _ _ o) out)) (λ o. o)))
      (λ one. let z : g ≡ low car + 1 = omega arith in
      rw (← z) at (ltb-false (engine car g v) _ (and-fails _ _ (eq-eqb g (low car + 1) z) not_own)))

  -- then nmax decides, as of the lowest
  pub fits_else : low car ≤ g → out_of_reach car v g ≡ false → under_minimum car here g (engine car g v) ≡ false
      → leb (engine car g v) (1000 * car.nmax) ≡ fits car here v g
  fits_else a out not_own =
      by_order (1000 * car.nmax) (engine car g v)
      (λ o. rw (lt-leb (engine car g v) (1000 * car.nmax) o) (fits-over car here v g o))
      (λ o. rw (le-leb (engine car g v) (1000 * car.nmax) o) (by_eq a
      (λ z. rw (eq-eqb g (low car) (sym z)) at (fits_one car here v g (omega arith) o))
      (λ m. rw (le-leb (1000 * minimum car here g) (engine car g v) (over m out not_own)) at (fits_later car here v g m is_later o))))

pub ruleset fits_by = (later, fits_under_own, fits_else)
