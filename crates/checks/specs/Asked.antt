-- What is asked for and not yet written, as the checks look through it.
use Rattle.std.specs.Prelude.{ℕ, List, set}
use Rattle.checks.specs.declared.trace.Asked.{Asked}
use Rattle.checks.specs.declared.trace.Trace.{Trace}

-- the speeds, were it written
abbrev pub speeds_with : Asked → List ℕ → List ℕ
speeds_with e vs = set vs e.second e.speed

-- the holds
abbrev pub holds_with : Asked → List ℕ → List ℕ
holds_with e hs = set hs e.second e.gear

-- those of a trace
abbrev pub speeds_in : Trace → List ℕ
speeds_in t = speeds_with t.asked t.speeds.now

abbrev pub holds_in : Trace → List ℕ
holds_in t = holds_with t.asked t.holds.now
