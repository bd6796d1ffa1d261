-- Laws of minimum speed, of fitting and of the floor, as the code meets them.
use Rattle.rules.proofs.Offered.{ℕ, suc, ◌+◌, ◌-◌, ◌*◌, ◌/◌, ◌≤◌, ◌<◌, arith, ◌≡◌, refl, sym, ap, ◌∙◌, Bool, true, false, leb, eqb}
use Rattle.rules.proofs.Offered.{le-leb, lt-leb, ne_eqb, eq-eqb, ◌and◌, first, low, is_first, next_minimum, minimum, minimum_of, engine}
use Rattle.rules.proofs.Offered.{is_under_nmax, is_over_minimum, allowed, fits, floor, and_no, by_eq, ◌or◌}
use Rattle.rules.specs.declared.Vehicle.{Vehicle}
use Rattle.rules.specs.declared.Role.{Role}
use Rattle.rules.specs.declared.Role.TheVariants.{First, Inner}
use Rattle.rules.proofs.Laws.Searches.{first_skip, first_none}
use Rattle.std.specs.Option.{MatchOption, unwrap_or}
use Rattle.std.specs.declared.option.Option.{Option}
use Rattle.std.specs.declared.option.Option.TheVariants.{None, Some}

-- ---- minimum speed

-- of the lowest gear, of the next, and of those above
module _ (car : Vehicle) (here : Role) (g : ℕ) where
  pub minimum-one : g - low car ≡ 0 → minimum car here g ≡ car.idle
  unfolding minimum minimum_of
  minimum-one e = rw e

  pub minimum_two : g - low car ≡ 1 → minimum car here g ≡ next_minimum car here
  unfolding minimum minimum_of
  minimum_two e = rw e

  pub minimum-above : (g - low car ≡ 0 → ⊥) → (g - low car ≡ 1 → ⊥) → minimum car here g ≡ car.idle + (car.rated - car.idle + 4) / 8
  unfolding minimum minimum_of
  minimum-above a b = let e : g - low car ≡ suc (suc (g - low car - 2)) = omega arith in rw e

-- at a trip's first second the gear above the lowest has its minimum of nine tenths
pub next_first : (car : Vehicle) → 1000 * minimum car First (low car + 1) ≡ 1000 * minimum car Inner (low car + 1)
unfolding next_minimum
next_first car =
    let e : low car + 1 - low car ≡ 1 = omega arith in
    ap (λ m. 1000 * m) (minimum_two car First (low car + 1) e ∙ sym (minimum_two car Inner (low car + 1) e))

-- so of every gear
pub ruleset minima = (minimum-one, minimum_two, minimum-above)

-- from two above the lowest on the gears share one minimum
pub same_minimum : (car : Vehicle) (here : Role) (g : ℕ) → low car + 1 < g → minimum car here (low car + 2) ≡ minimum car here g
same_minimum car here g h =
    minimum-above car here (low car + 2) (λ z. omega arith) (λ z. omega arith)
    ∙ sym (minimum-above car here g (λ z. omega arith) (λ z. omega arith))

-- ---- fitting

no_and : (a b : Bool) → a ≡ false → a and b ≡ false
unfolding ◌and◌
no_and true b e = let z : ◌≡◌ {A = ℕ} 0 1 = cc in absurd (omega arith)
no_and false b e = refl

and_yes : (a : Bool) → a and true ≡ a
unfolding ◌and◌
and_yes true = refl
and_yes false = refl

-- at a trip's first second another gear than the lowest does not fit
pub fits_not : (car : Vehicle) (here : Role) (v g : ℕ) → (g ≡ low car → ⊥) → is_first here ≡ true → false ≡ fits car here v g
unfolding fits allowed ◌or◌
fits_not car here v g n t = sym (no_and _ _ (and_no _ _ (rw (ne_eqb g (low car) n, t))))

-- nor does one under the lowest, at any second
pub fits_lower : (car : Vehicle) (here : Role) (v g : ℕ) → g < low car → fits car here v g ≡ false
unfolding fits allowed
fits_lower car here v g l = no_and _ _ (no_and _ _ (lt-leb (low car) g l))

module _ (car : Vehicle) (here : Role) (v g : ℕ) where
  -- X is over 1000 x nmax
  pub fits-over : 1000 * car.nmax < engine car g v → false ≡ fits car here v g
  unfolding fits is_under_nmax
  fits-over h = sym (and_no _ _ (and_no _ _ (lt-leb _ _ h)))

  -- the lowest gear and those under it
  pub fits_one : g ≤ low car → engine car g v ≤ 1000 * car.nmax → eqb g (low car) ≡ fits car here v g
  unfolding fits allowed is_over_minimum is_under_nmax ◌and◌ ◌or◌
  fits_one l h =
      by_eq l
      (λ x. rw (x, le-leb (low car) (low car) (omega arith), eq-eqb (low car) (low car) refl) (sym (rw x at (le-leb _ _ h))))
      (λ x. ne_eqb g (low car) (omega arith) ∙ sym (fits_lower car here v g x))

  -- a later second
  pub fits_later : low car < g → is_first here ≡ false → engine car g v ≤ 1000 * car.nmax
      → leb (1000 * minimum car here g) (engine car g v) ≡ fits car here v g
  unfolding fits allowed is_over_minimum is_under_nmax ◌and◌ ◌or◌
  fits_later a t h = rw (ne_eqb g (low car) (omega arith), t, le-leb (low car) g (omega arith), le-leb _ _ h) (sym (and_yes _))

  -- a later second and a gear from two above the lowest on, under their shared minimum
  module _ {least : ℕ} (e : least ≡ 1000 * minimum car here (low car + 2)) (a : low car + 1 < g) (t : is_first here ≡ false) where
    pub shared : least ≡ 1000 * minimum car here g
    shared = e ∙ ap (λ x. 1000 * x) (same_minimum car here g a)

    pub fits_under : engine car g v < least → false ≡ fits car here v g
    unfolding fits is_over_minimum ◌or◌
    fits_under h =
        let l : engine car g v < 1000 * minimum car here g = omega (arith, shared) in
        sym (and_no _ _ (no_and _ _ (rw (ne_eqb g (low car) (λ z. omega arith)) (lt-leb _ _ l))))

-- ---- the floor

-- the first of the gears from the lowest up to ng that does not turn too fast, or ng + 1 where each of them does
pub floor_found : (car : Vehicle) (v : ℕ) (o : Option ℕ) {lo end : ℕ} → lo ≡ low car → end ≡ suc car.ng
    → MatchOption o ((g : ℕ) → lo ≤ g → g < end → 1000 * car.nmax < engine car g v)
    (λ g. (lo ≤ g) × (g < end) × (engine car g v ≤ 1000 * car.nmax) × ((k : ℕ) → lo ≤ k → k < g → 1000 * car.nmax < engine car k v))
    → unwrap_or o end ≡ floor car v
unfolding floor is_under_nmax first
floor_found car v None e f h = rw (first_none (is_under_nmax car v) (suc car.ng - low car) (low car) (λ g a b. lt-leb _ _ (h g (omega arith) (omega arith)))) f
floor_found car v (Some g) e f h =
    let past : suc car.ng - low car ≡ g - low car + suc (car.ng - g) = omega arith in
    let here : low car + (g - low car) ≡ g = omega arith in
    rw (
      past,
      first_skip (is_under_nmax car v) (g - low car) (suc (car.ng - g)) (low car) (λ k a b. lt-leb _ _ (h.3 k (omega arith) (omega arith))),
      here,
      le-leb _ _ h.2,
    )
