-- What pass C makes of one second, from its own gear.
use Rattle.std.specs.Prelude.{ℕ, ◌+◌, eqb, if◌then◌else◌}
use Rattle.rules.specs.Words.{◌and◌}

-- in the closing run, past the trip's first second, from the hold and the lowest gear
unfoldable pub slowed : ℕ → ℕ → ℕ → ℕ
slowed hold low g = if eqb hold 0 and eqb g low then low + 1 else g
