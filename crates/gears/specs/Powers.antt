-- The available powers of a vehicle's points, worked out once a call.
use Rattle.std.specs.Prelude.{ℕ, ◌<◌, ◌≡◌, List, pos}
use Rattle.rules.specs.Words.{at}
use Rattle.rules.specs.declared.Vehicle.{Vehicle}
use Rattle.rules.specs.Gears.{derated}

-- p holds the available power of each point of the vehicle
abbrev pub Powers : Vehicle → List ℕ → Type 0
Powers car p = (i : ℕ) → i < car.points → derated car i ≡ pos (at p i)
