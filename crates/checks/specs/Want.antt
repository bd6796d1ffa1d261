-- What the check for want of a gear asks and finds.
use Rattle.std.specs.Prelude.{ℕ, suc, ◌+◌, ◌-◌, ◌≤◌, ◌<◌, ◌≡◌, ◌≢◌, Bool, true, false, List, eqb, nat_abs, length, Option, Some, None, Result, IfOk}
use Rattle.std.specs.Result.{result_err}
use Rattle.rules.specs.Words.{at, part}
use Rattle.rules.specs.declared.Vehicle.{Vehicle}
use Rattle.rules.specs.Units.{fastest, steepest, moving, rise}
use Rattle.rules.specs.Corrections.{first_at}
use Rattle.trips.specs.Trip.{RunFrom}
use Rattle.checks.specs.Calm.{Each, Stands}

-- a span that begins and ends with a standing second, or with the trace
pub record Resting (vs : List ℕ) (lo hi : ℕ) : Type 0 where
  pub some : lo < hi
  pub begins : lo ≢ 0 → moving (at vs lo) ≡ false
  pub ends : hi ≢ length vs → moving (at vs (hi - 1)) ≡ false

-- a span from a standing second to a standing one, its speeds and steps in bounds
pub record Level (vs : List ℕ) (lo hi : ℕ) : Type 0 where
  pub rest : Stands vs lo hi
  pub inside : hi ≤ length vs
  pub speed_to : (i : ℕ) → lo ≤ i → i < hi → at vs i ≤ fastest
  pub step_to : (i : ℕ) → lo ≤ i → suc i < hi → nat_abs (rise vs i) ≤ steepest

-- the moving seconds from a up to b, between two standing ones; none where b is a
pub record Ahead (vs : List ℕ) (a b : ℕ) : Type 0 where
  pub order : a ≤ b
  pub before : (i : ℕ) → suc i ≡ a → moving (at vs i) ≡ false
  pub moves : (i : ℕ) → a ≤ i → i < b → moving (at vs i) ≡ true
  pub after : moving (at vs b) ≡ false
  pub inside : b < length vs
  pub speed_to : (i : ℕ) → a ≤ i → i < b → at vs i ≤ fastest
  pub step_to : (i : ℕ) → a ≤ i → i < b → nat_abs (rise vs i) ≤ steepest

-- one of them, with where the closing run begins, counted from a
pub record OnWay (vs : List ℕ) (a b run i : ℕ) : Type 0 where
  pub trip : Ahead vs a b
  pub since : a ≤ i
  pub until : i < b
  pub closes : RunFrom (part vs a (suc b)) run

-- r is the lowest place from a up to b at which the test holds
pub record LowestPlace (p : ℕ → Bool) (a b r : ℕ) : Type 0 where
  pub from : a ≤ r
  pub to : r < b
  pub fails : (i : ℕ) → a ≤ i → i < r → p i ≡ false
  pub holds : p r ≡ true

-- the lowest place from a up to b at which the test holds, if there is one
abbrev pub LowestAt : (ℕ → Bool) → ℕ → ℕ → Option ℕ → Type 0
LowestAt p a b None = (i : ℕ) → a ≤ i → i < b → p i ≡ false
LowestAt p a b (Some r) = LowestPlace p a b r

-- a part of a trip that ends at b, from second i up to r: at most 64 seconds. The second that is asked for is neither among them nor the one after, or
-- the part is second i alone
pub record PartEnd (asked i b r : ℕ) : Type 0 where
  pub some : i < r
  pub to : r ≤ b
  pub few : r ≤ i + 64
  pub apart : i ≤ asked → asked ≤ r → r ≡ i + 1

-- the first choices of m seconds from second i on
abbrev pub Firsts : Vehicle → List ℕ → List ℕ → ℕ → ℕ → List ℕ → Type 0
Firsts car vs hs i m gs = Each (λ j. at gs j ≡ first_at car vs hs (i + j)) 0 m

-- the seconds from i up to `to` gone through: the first choice of the last, where each is a gear, or the first second without one
pub record Through (car : Vehicle) (vs hs : List ℕ) (i to : ℕ) (gone : Result ℕ ℕ) : Type 0 where
  pub until : LowestAt (λ j. eqb (first_at car vs hs j) 0) i to (result_err gone)
  pub last_is : IfOk gone (λ last. last ≡ first_at car vs hs (to - 1))
