-- The words of the rules on tests, as the kit's words, which its lemmas are on.
use Rattle.rules.proofs.Offered.{ℕ, zero, suc, ◌≡◌, refl, Bool, true, false, leb, ◌and◌, ◌or◌, within, every, add-one, ap, ◌∙◌}
use Rattle.std.proofs.Common.{◌&&◌, ◌||◌}
use Rattle.std.specs.List.{list_all, range_with_len}
use Rattle.std.proofs.lemmas.Bool.Decides.{nat_tests}

pub and_is : (a b : Bool) → a and b ≡ (a && b)
unfolding ◌and◌
and_is true b = refl
and_is false b = refl

pub or_is : (a b : Bool) → a or b ≡ (a || b)
unfolding ◌or◌
or_is true b = refl
or_is false b = refl

pub within_is : (lo hi x : ℕ) → within lo hi x ≡ (leb lo x && leb x hi)
unfolding within
within_is lo hi x = and_is (leb lo x) (leb x hi)

-- the places from i on, k of them
pub every_is : (p : ℕ → Bool) (i k : ℕ) → every p i k ≡ list_all p (range_with_len i k)
unfolding every
every_is p i zero = refl
every_is p i (suc k) = and_is (p i) (every p (suc i) k) ∙ ap (λ b. p i && b) (rw add-one (every_is p (suc i) k))

-- the set that the code names
pub ruleset ladders = (nat_tests, and_is, or_is, within_is)
