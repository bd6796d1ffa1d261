-- The closed form: a scaled speed from the cycle's own speed at that second alone, with one division. And what the functions below the call ask and do.
use Rattle.std.specs.Prelude.{ℕ, ◌+◌, ◌-◌, ◌*◌, ◌≤◌, ◌<◌, ◌≡◌, List, length}
use Rattle.rules.specs.Words.{nearest, at}
use Rattle.cycles.specs.Cycle.{cycle}
use Rattle.downscale.specs.Steps.{by_stretch}

-- a speed v drawn by p parts of w towards a speed r, which itself stays: numerator over w
unfoldable pub drawn : ℕ → ℕ → ℕ → ℕ → ℕ
drawn w p r v = (w - p) * v + p * r

-- the same, rounded
unfoldable pub drawn_speed : ℕ → ℕ → ℕ → ℕ → ℕ
drawn_speed w p r v = nearest (drawn w p r v) w

-- in the rise f parts of 1,000 towards 60.0, the cycle at 1533; in the fall 713 f parts of 487,000 towards 82.6, the cycle at 1763
unfoldable pub closed_at : ℕ → ℕ → ℕ
closed_at f i = by_stretch i (drawn_speed 1000 f 600 (at cycle i)) (drawn_speed 487000 (713 * f) 826 (at cycle i)) (at cycle i)

-- ---- below the call

-- parts that a whole has, and a speed
pub record Drawing (w p r : ℕ) : Type 0 where
  pub from : 1 ≤ w
  pub to : w ≤ 487000
  pub parts : p ≤ w
  pub speed : r ≤ 65535

-- the places from lo up to hi are those of g, all others as they were
pub record Changed (g : ℕ → ℕ) (lo hi : ℕ) (room₀ room : List ℕ) : Type 0 where
  pub size : length room ≡ length room₀
  pub before : (j : ℕ) → j < lo → at room j ≡ at room₀ j
  pub inside : (j : ℕ) → lo ≤ j → j < hi → at room j ≡ g j
  pub behind : (j : ℕ) → hi ≤ j → at room j ≡ at room₀ j

-- the steps may begin: the places after `first` are the cycle's, and the numerator is one that the closed form has
pub record Stepping (first end w k v n : ℕ) (room : List ℕ) : Type 0 where
  pub p : ℕ
  pub r : ℕ
  pub draws : Drawing w p r
  pub factor_is : k ≡ w - p
  pub begins : n ≡ drawn w p r v
  pub own_there : v ≡ at cycle first
  pub ordered : first < end
  pub long : end ≤ length room
  pub in_cycle : end ≤ 1801
  pub theirs : (j : ℕ) → first < j → j < end → at room j ≡ at cycle j
