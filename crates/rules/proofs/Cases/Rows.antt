-- The table of sums: what the definitions work out, row by row, beside what stands on paper.
use Rattle.rules.proofs.Base.{ℕ, Bool, true, false, Option, none, some, List, [], ◌∷◌, ◌++◌, ℤ, pos, negsuc, eqb}
use Rattle.rules.specs.Words.{◌and◌}
use Rattle.rules.specs.Refusals.{Fault}
use Rattle.rules.specs.Groups.{Read, got, refused}

infixr 20 ◌beside◌
-- what a row is about: numbers, a power, a test, a group that is read, a refusal or none; and one thing beside another
pub data Value : Type 0 where
  numbers : List ℕ → Value
  scaled : ℤ → Value
  test : Bool → Value
  reading : Read ℕ → Value
  refusal : Option Fault → Value
  ◌beside◌ : Value → Value → Value

pub record Row : Type 0 where
  pub worked : Value
  pub paper : Value

unfoldable pub row : Value → Value → Row
row w p = record { worked = w; paper = p }

-- a refusal, by number and place
unfoldable pub refused_by : ℕ → ℕ → Value
refused_by n i = refusal (some (record { no = n; spot = i }))

unfoldable pub sums : List Row → List Value
sums [] = []
sums (r ∷ rs) = r.worked ∷ sums rs

unfoldable pub papers : List Row → List Value
papers [] = []
papers (r ∷ rs) = r.paper ∷ papers rs

-- ---- the same as one test, by which a row that is wrong is told from one that cannot be worked out (scripts/bysum.py)

-- a value written as numbers, no two alike
unfoldable pub written : Value → List ℕ
written (numbers ns) = 0 ∷ ns
written (scaled (pos n)) = 1 ∷ n ∷ []
written (scaled (negsuc n)) = 2 ∷ n ∷ []
written (test true) = 3 ∷ []
written (test false) = 4 ∷ []
written (reading (got v i)) = 5 ∷ v ∷ i ∷ []
written (reading (refused f)) = 6 ∷ f.no ∷ f.spot ∷ []
written (refusal none) = 7 ∷ []
written (refusal (some f)) = 8 ∷ f.no ∷ f.spot ∷ []
written (a beside b) = 9 ∷ written a ++ written b

unfoldable pub same : List ℕ → List ℕ → Bool
same [] [] = true
same [] (n ∷ ns) = false
same (m ∷ ms) [] = false
same (m ∷ ms) (n ∷ ns) = eqb m n and same ms ns

unfoldable pub right : List Row → Bool
right [] = true
right (r ∷ rs) = same (written r.worked) (written r.paper) and right rs

-- all rows of some tables
unfoldable pub all_right : List (List Row) → Bool
all_right [] = true
all_right (t ∷ ts) = right t and all_right ts
