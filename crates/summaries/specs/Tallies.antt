-- What the code counts by the way: in each gear that a byte can show, 0 to 15, and at place 16 the standing seconds.
use Rattle.std.specs.Prelude.{ℕ, ◌≤◌, ◌<◌, ◌≡◌, Bool, false, List, eqb, length, if◌then◌else◌}
use Rattle.rules.specs.Words.{at, table}
use Rattle.rules.specs.declared.Summary.{Summary}
use Rattle.rules.specs.Units.{moving}
use Rattle.rules.specs.Summary.{tally, changes}
use Rattle.rules.specs.Corrections.{shown}
use Rattle.summaries.specs.declared.Tally.{Tally}

-- where a second of speed v is counted: in the gear that its byte shows, or, standing, at place 16
unfoldable pub place_of : ℕ → ℕ → ℕ
place_of v byte = if moving v then shown byte else 16

-- second i is counted at place g
unfoldable pub counts_at : ℕ → List ℕ → List ℕ → ℕ → Bool
counts_at g vs bs i = eqb (place_of (at vs i) (at bs i)) g

-- the counts over the k seconds from lo on
unfoldable pub tallied : List ℕ → List ℕ → ℕ → ℕ → Tally
tallied vs bs lo k = record { counts = table (λ g. tally (counts_at g vs bs) lo k) 0 17; changes = tally (changes vs bs) lo k }

-- of these the standing seconds and the gears 1 to 10
unfoldable pub in_ten : Tally → Summary
in_ten t = record { standing = at t.counts 16; gears = table (at t.counts) 1 10; changes = t.changes }

-- the seconds from lo up to hi can be counted: no trip goes on at hi
pub record Countable (vs bs : List ℕ) (lo hi : ℕ) : Type 0 where
  pub order : lo ≤ hi
  pub in_trace : hi ≤ length vs
  pub in_card : hi ≤ length bs
  pub few : hi ≤ 65535
  pub ends : lo < hi → moving (at vs hi) ≡ false
