-- The available powers, point by point: as a loop from left to right puts them down, and what they are of a vehicle in bounds.
use Rattle.rules.proofs.Offered.{ℕ, ◌+◌, ◌-◌, ◌*◌, ◌≤◌, ◌<◌, add-one, lt_of_lt_of_le, arith, ◌≡◌, refl, ◌∙◌, List, length, set, at, pass}
use Rattle.rules.proofs.Offered.{InBounds, pass-at, derated_is}
use Rattle.rules.specs.declared.Vehicle.{Vehicle}
use Rattle.gears.specs.Choosing.{available}
use Rattle.gears.specs.Second.{Derates}
use Rattle.gears.specs.Powers.{Powers}

-- the available powers of the first k points, and past them what the room held before
unfoldable pub powers_to : Vehicle → ℕ → List ℕ → List ℕ
powers_to car k room = pass (λ i done. at car.p i * (100 - car.margin - at car.m i)) k room

module _ (car : Vehicle) (room : List ℕ) where
  -- no point yet
  pub powers_none : powers_to car 0 room ≡ room
  unfolding powers_to pass
  powers_none = refl

  -- and one more
  pub powers_more : (i : ℕ) → powers_to car (i + 1) room ≡ set (powers_to car i room) i (at car.p i * (100 - car.margin - at car.m i))
  unfolding powers_to pass
  powers_more i = rw add-one

  -- of all points
  pub powers_all : (i : ℕ) → i ≡ car.points → powers_to car i room ≡ available car room
  unfolding powers_to available
  powers_all i e = rw e

pub ruleset loop_steps = (powers_none, powers_more, powers_all)

module _ (car : Vehicle) (room : List ℕ) where
  -- each is the point's own
  pub available-at : (i : ℕ) → i < car.points → car.points ≤ length room → at (available car room) i ≡ at car.p i * (100 - car.margin - at car.m i)
  unfolding available
  available-at i h l = pass-at (λ i done. at car.p i * (100 - car.margin - at car.m i)) room car.points i h (lt_of_lt_of_le h l)

module _ (car : Vehicle) (b : InBounds car) where
  -- a vehicle in bounds can be derated
  pub derates : Derates car
  derates = record { to = b.points_to; left = b.margins_to }

  -- to the available powers of the rules, which may be lent with it
  pub powers_lent : (room : List ℕ) {powers : List ℕ} → length room ≡ 64 → powers ≡ available car room → Powers car powers
  powers_lent room n e = λ i h. derated_is car b i h ∙ rw (e, available-at car room i h (omega (arith, n, b.points_to)))
