-- Words of contracts and laws inside: no sentence of the papers and no theorem on one needs them.
use Rattle.std.specs.Prelude.{ℕ, suc, ◌+◌, ◌-◌, ◌≤◌, ◌<◌, ◌≡◌, false, List, nat_abs}
use Rattle.rules.specs.Words.{Option, at, first}
use Rattle.rules.specs.declared.Vehicle.{Vehicle}
use Rattle.rules.specs.Units.{ratio_of, low}
use Rattle.rules.specs.Refusals.{Fault, refuse_at, over-ng, over-rev, no-gear, bad}

-- every field is in bounds: what refusal 3 leaves
pub record InBounds (car : Vehicle) : Type 0 where
  pub low_to : low car ≤ 2
  pub low_ng : low car < car.ng
  pub ng_to : car.ng ≤ 10
  pub ratio_to : (g : ℕ) → 1 ≤ g → g ≤ car.ng → ratio_of car g ≤ 50000
  pub falling : (g : ℕ) → 1 ≤ g → g < car.ng → ratio_of car (suc g) < ratio_of car g
  pub idle_to : car.idle ≤ 3000
  pub rated_from : car.idle < car.rated
  pub nmax_from : car.rated ≤ car.nmax
  pub nmax_to : car.nmax ≤ 15000
  pub f0_to : car.f0 ≤ 10000
  pub f1_in : nat_abs car.f1 ≤ 5000
  pub f2_to : car.f2 ≤ 20000
  pub tm_to : car.tm ≤ 4000
  pub margin_to : car.margin ≤ 50
  pub points_from : 2 ≤ car.points
  pub points_to : car.points ≤ 64
  pub n_to : (k : ℕ) → k < car.points → at car.n k ≤ 16000
  pub n_rises : (k : ℕ) → suc k < car.points → at car.n k < at car.n (suc k)
  pub n_rises_by : (k : ℕ) → suc k < car.points → at car.n (suc k) ≤ at car.n k + 1000
  pub p_to : (k : ℕ) → k < car.points → at car.p k ≤ 5000
  pub m_to : (k : ℕ) → k < car.points → at car.m k ≤ 50
  pub margins_to : (k : ℕ) → k < car.points → car.margin + at car.m k ≤ 90
  pub first_point : at car.n 0 ≤ car.idle
  pub last_point : car.nmax ≤ at car.n (car.points - 1)

-- 10 alone, of the seconds from lo up to hi: no gear fits, no hold
unfoldable pub gear_fault : Vehicle → List ℕ → List ℕ → ℕ → ℕ → Option Fault
gear_fault car vs hs lo hi = refuse_at 10 (first (bad no-gear car vs hs lo) lo (hi - lo))

-- the checks of a second on which its gear leans
pub record Fit (car : Vehicle) (vs hs : List ℕ) (i : ℕ) : Type 0 where
  pub hold_in_ng : bad over-ng car vs hs 0 i ≡ false
  pub hold_in_nmax : bad over-rev car vs hs 0 i ≡ false
  pub some_gear : bad no-gear car vs hs 0 i ≡ false
