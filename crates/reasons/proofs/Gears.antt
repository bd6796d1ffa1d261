-- What is said of a gear, from the parts that the code works it out of.
use Rattle.rules.proofs.Offered.{ℕ, ◌-◌, ◌*◌, ◌≤◌, ◌<◌, arith, mul-le-mul_right, ◌≡◌, Bool, true, false, leb, eqb, ℤ, pos, lt-leb, le-leb, ◌and◌, ◌or◌, at}
use Rattle.rules.proofs.Offered.{low, ratio_of, Power, engine, minimum, is_under_nmax, is_over_minimum, allowed, fits, required, power, enough, minimum_role}
use Rattle.rules.proofs.Offered.{minimum_rule, listed_power, driven_facts, gear_facts, InBounds}
use Rattle.rules.specs.declared.Vehicle.{Vehicle}
use Rattle.rules.specs.declared.Role.{Role}
use Rattle.rules.specs.declared.GearFacts.{GearFacts}
use Rattle.gears.specs.Choosing.{enough_for, Turning}
use Rattle.reasons.specs.Asks.{DrivenGear}
use Rattle.gears.proofs.Tests.{within_is}

-- ---- its power

module _ (car : Vehicle) (v g : ℕ) where
  pub power-past : 1000 * car.nmax < engine car g v → ◌≡◌ {A = Power} (record { Q = pos 0; w = pos 0 }) (listed_power car v g)
  unfolding listed_power is_under_nmax
  power-past h = rw (lt-leb _ _ h)

  pub power-read : engine car g v ≤ 1000 * car.nmax → power car v g ≡ listed_power car v g
  unfolding listed_power is_under_nmax
  power-read h = rw (le-leb _ _ h)

  -- it is enough where it is read
  pub enough_read : is_under_nmax car v g ≡ true → (d e : ℤ) (a : Power) → e ≡ required car v d → a ≡ listed_power car v g
      → enough_for a e ≡ is_under_nmax car v g and enough car v d g
  unfolding listed_power enough enough_for ◌and◌
  enough_read t d e a p q = rw (q, p, t)

  -- and not past nmax
  pub enough_past : is_under_nmax car v g ≡ false → (d : ℤ) → false ≡ is_under_nmax car v g and enough car v d g
  unfolding ◌and◌
  enough_past t d = rw t

-- the gear turns the engine no faster than nmax
pub turns : {car : Vehicle} {v g : ℕ} → DrivenGear car g → InBounds car → engine car g v ≤ 1000 * car.nmax → Turning car v g
unfolding low
turns D b h = record { from = omega (arith, D.from); to = D.to; under = h }

-- ---- a gear that is driven, and one that is not

-- field by field
module _ (car : Vehicle) (here : Role) (closes : Bool) (v : ℕ) (d : ℤ) (g : ℕ) where
  pub facts_are : {q w : ℤ} {x m r : ℕ} {may over turns under inside has : Bool} → q ≡ (listed_power car v g).Q → w ≡ (listed_power car v g).w
      → x ≡ engine car g v
      → m ≡ minimum car (minimum_role here closes) g → r ≡ minimum_rule (minimum_role here closes) (g - low car) → may ≡ allowed car here g
      → over ≡ leb (1000 * m) x → turns ≡ (eqb g (low car) or is_over_minimum car here v g) → under ≡ is_under_nmax car v g
      → inside ≡ may and (turns and under) → has ≡ is_under_nmax car v g and enough car v d g
      → ◌≡◌ {A = GearFacts}
      (record { q = q; w = w; engine = x; minimum = m; rule = r; allowed = may; over_minimum = over; under_nmax = under; fits = inside; enough = has })
      (driven_facts car here closes v d g)
  unfolding driven_facts fits is_over_minimum
  facts_are a b c e f h o i j l n = rw (a, b, o, c, e, f, l, n, h, i, j)

  pub facts_out : (g < low car → ⊥) → (car.ng < g → ⊥) → driven_facts car here closes v d g ≡ gear_facts car here closes v d g
  unfolding gear_facts
  facts_out a b = rw (within_is (low car) car.ng g, le-leb (low car) g (omega arith), le-leb g car.ng (omega arith))

-- of a vehicle in bounds
pub driven_gear : {car : Vehicle} {g : ℕ} → InBounds car → low car ≤ g → g ≤ car.ng → DrivenGear car g
driven_gear B a b = record { from = a; to = b; ng_to = B.ng_to; rated_from = omega (arith, B.rated_from) }

-- its engine speed has room in 32 bits
pub engine_small : {car : Vehicle} {g : ℕ} (v : ℕ) → InBounds car → DrivenGear car g → v ≤ 65535 → engine car g v < 4294967296
unfolding engine ratio_of low
engine_small {car} {g} v B D h =
    let r : at car.ratio (g - 1) ≤ 50000 = B.ratio_to g (omega (arith, D.from)) D.to in
    omega (arith, mul-le-mul_right v r, h)
