-- Words of the theorems on 64-bit numbers: the sums of the power comparison, written out.
use Rattle.std.specs.Prelude.{ℕ, suc, ◌^◌, ◌<◌, ◌≡◌, ℤ, pos, nat_abs, ◌+ℤ◌, ◌-ℤ◌, ◌*ℤ◌}
use Rattle.rules.specs.Words.{at}
use Rattle.rules.specs.declared.Vehicle.{Vehicle}
use Rattle.rules.specs.Units.{ratio_of}

-- ---- every product stays inside a signed 64-bit number

infixl 6 ◌plus◌ ◌less◌
infixl 7 ◌times◌
-- a sum, written out
pub data Sum : Type 0 where
  num : ℤ → Sum
  ◌plus◌ ◌less◌ ◌times◌ : Sum → Sum → Sum

-- its value
abbrev pub worth : Sum → ℤ
worth (num z) = z
worth (a plus b) = worth a +ℤ worth b
worth (a less b) = worth a -ℤ worth b
worth (a times b) = worth a *ℤ worth b

-- each number in it, and the value of each sum and product in it, is below 2^63 in size
abbrev pub Everywhere : Sum → Type 0
Everywhere (num z) = nat_abs z < 2 ^ 63
Everywhere (a plus b) = (nat_abs (worth a +ℤ worth b) < 2 ^ 63) × Everywhere a × Everywhere b
Everywhere (a less b) = (nat_abs (worth a -ℤ worth b) < 2 ^ 63) × Everywhere a × Everywhere b
Everywhere (a times b) = (nat_abs (worth a *ℤ worth b) < 2 ^ 63) × Everywhere a × Everywhere b

-- a sum of this value that is below 2^63 at every step
pub record In64 (e : Sum) (z : ℤ) : Type 0 where
  pub same : worth e ≡ z
  pub each : Everywhere e

-- X = G x V
unfoldable pub engine_sum : Vehicle → ℕ → ℕ → Sum
engine_sum car g v = num (pos (ratio_of car g)) times num (pos v)

-- 1000 x idle
unfoldable pub idle_sum : Vehicle → Sum
idle_sum car = num (pos 1000) times num (pos car.idle)

-- E = 9,000,000 F0 V + 9,000 F1 V^2 + 9 F2 V^3 + 2,575,000 D V TM
unfoldable pub required_sum : Vehicle → ℕ → ℤ → Sum
required_sum car v d =
    num (pos 9000000) times num (pos car.f0) times num (pos v)
    plus num (pos 9000) times num car.f1 times num (pos v) times num (pos v)
    plus num (pos 9) times num (pos car.f2) times num (pos v) times num (pos v) times num (pos v)
    plus num (pos 2575000) times num d times num (pos v) times num (pos car.tm)

-- the same with speed taken out as a factor as often as it goes, as the bench writes it:
-- E = V x (9,000,000 F0 + 2,575,000 D TM + V x (9,000 F1 + V x 9 F2))
unfoldable pub nested : Vehicle → ℕ → ℤ → ℤ
nested car v d =
    pos v *ℤ (pos 9000000 *ℤ pos car.f0 +ℤ pos 2575000 *ℤ d *ℤ pos car.tm +ℤ pos v *ℤ (pos 9000 *ℤ car.f1 +ℤ pos v *ℤ (pos 9 *ℤ pos car.f2)))

unfoldable pub nested_sum : Vehicle → ℕ → ℤ → Sum
nested_sum car v d =
    num (pos v)
    times (num (pos 9000000) times num (pos car.f0)
    plus num (pos 2575000) times num d times num (pos car.tm)
    plus num (pos v) times (num (pos 9000) times num car.f1 plus num (pos v) times (num (pos 9) times num (pos car.f2))))

-- w = n2 - n1
unfoldable pub w_sum : Vehicle → ℕ → Sum
w_sum car k = num (pos (at car.n (suc k))) less num (pos (at car.n k))

-- x - 1000 n1
unfoldable pub past_sum : Vehicle → ℕ → ℕ → Sum
past_sum car x k = num (pos x) less num (pos 1000) times num (pos (at car.n k))

-- a = p x (100 - M - m)
unfoldable pub derated_sum : Vehicle → ℕ → Sum
derated_sum car k = num (pos (at car.p k)) times (num (pos 100) less num (pos car.margin) less num (pos (at car.m k)))

-- Q = 1000 a1 w + (a2 - a1)(x - 1000 n1)
unfoldable pub Q_sum : Vehicle → ℕ → ℕ → Sum
Q_sum car x k =
    num (pos 1000) times derated_sum car k times w_sum car k
    plus (derated_sum car (suc k) less derated_sum car k) times past_sum car x k

-- Q x 3,240,000
unfoldable pub available_sum : Vehicle → ℕ → ℕ → Sum
available_sum car x k = Q_sum car x k times num (pos 3240000)
