-- What forms take, told from plain facts.
use Rattle.rules.proofs.Base.{ℕ, ◌≤◌, arith, ◌≡◌, refl, Bool, true, false, List, [], ◌∷◌, length, le-leb}
use Prim.{Unit, tt}
use Rattle.rules.specs.Words.{within}
use Rattle.rules.specs.Forms.{Form, value, known, only_if, checked, bounded, ◌then◌, seen, row, RowTakes, many, counted}
use Rattle.rules.proofs.Laws.Words.{both}
use Rattle.rules.proofs.Laws.Vehicle.{within_hi}

pub in_range : (lo hi n : ℕ) → lo ≤ n → n ≤ hi → within lo hi n ≡ true
unfolding within
in_range lo hi n x y = both (le-leb _ _ x) (le-leb _ _ y)

-- every one of a list
unfoldable pub All : {A : Type 0} → (A → Type 0) → List A → Type 0
All P [] = Unit {0}
All P (a ∷ l) = P a × All P l

all_take : {A : Type 0} (part : Form A) (l : List A) → All part.Takes l → RowTakes (λ (s : Unit {0}). part) (λ s a. s) tt l
unfolding All RowTakes
all_take part [] t = tt
all_take part (a ∷ l) t = (t.0, all_take part l t.1)

pub many_takes : {A : Type 0} (part : Form A) (k : ℕ) (l : List A) → length l ≡ k → All part.Takes l → (many part k).Takes l
unfolding many row
many_takes part k l e t = (all_take part l t, e)

pub counted_takes : {A : Type 0} (count : Form ℕ) (part : Form A) (l : List A) → count.Takes (length l) → All part.Takes l
    → (counted count (many part)).Takes l
unfolding counted seen ◌then◌
counted_takes count part l c t = ((c, many_takes part (length l) l refl t), refl)

pub only_if_takes : {A : Type 0} (t : Bool) (a : A) (part : Form A) (b : A) → part.Takes b → (t ≡ false → b ≡ a) → (only_if t a part).Takes b
unfolding only_if known
only_if_takes true a part b x e = x
only_if_takes false a part b x e = e refl

-- what is known is that
pub takes_only_if : {A : Type 0} (t : Bool) (a : A) (part : Form A) (b : A) → (only_if t a part).Takes b → t ≡ false → b ≡ a
unfolding only_if known
takes_only_if true a part b x e = let z : ◌≡◌ {A = ℕ} 0 1 = cc in absurd (omega arith)
takes_only_if false a part b x e = x

pub bounded_takes : (lo hi refusal spot n : ℕ) → hi ≤ 65535 → within lo hi n ≡ true → (bounded lo hi refusal spot).Takes n
unfolding bounded checked value
bounded_takes lo hi refusal spot n h t = (omega (arith, within_hi lo hi n t), t)

pub takes_bounded : (lo hi refusal spot n : ℕ) → (bounded lo hi refusal spot).Takes n → n ≤ hi
unfolding bounded checked
takes_bounded lo hi refusal spot n t = within_hi lo hi n t.1

infixr 4 ◌also◌
-- a pair, so that stages in a row are written in a row
abbrev pub ◌also◌ : {A B : Type 0} → A → B → A × B
a also b = (a, b)
