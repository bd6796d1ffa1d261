-- The test of the cycle: one second after the other, from left to right.
use Rattle.rules.proofs.Offered.{ℕ, suc, ◌+◌, Bool, true, not, List, [], ◌∷◌, leb, eqb, if◌then◌else◌, ◌and◌, ◌or◌, moving}

-- f of each place, counted from i, with the entry before it, u before the first, and the entry itself
unfoldable pub walk : (ℕ → ℕ → ℕ → Bool) → ℕ → ℕ → List ℕ → Bool
walk f i u [] = true
walk f i u (v ∷ vs) = f i u v and walk f (suc i) v vs

-- a part begins or ends there
unfoldable pub boundary : ℕ → Bool
boundary i = eqb i 0 or eqb i 589 or eqb i 1022 or eqb i 1477 or eqb i 1800

-- of two speeds neither is over the other by more than 150
unfoldable pub close : ℕ → ℕ → Bool
close u v = leb v (u + 150) and leb u (v + 150)

-- in bounds, near the speed before, at rest where a part begins or ends
unfoldable pub sound : ℕ → ℕ → ℕ → Bool
sound i u v = leb v 2000 and close u v and (if boundary i then not (moving v) else true)
