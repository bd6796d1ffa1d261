-- The cycle's rules at each second, by one test that is computed over the whole table, one second after the other.
use Rattle.rules.proofs.Offered.{ℕ, zero, suc, ◌+◌, ◌≤◌, ◌<◌, add-zero, zero-add, add-suc, suc-add, le_of_suc-le-suc, not-suc-le-zero, ◌≡◌, refl, sym, ◌∙◌}
use Rattle.rules.proofs.Offered.{subst, Bool, true, false, List, [], ◌∷◌, length, leb-true, not-true, ◌and◌, ◌or◌, at, moving}
use Rattle.rules.proofs.Offered.{and_left, and_right}
use Rattle.cycles.specs.Cycle.{cycle, low_phase, medium_phase, high_phase, extra_high_phase}
unfoldable pub use Rattle.cycles.proofs.Sound.{walk, boundary, close, sound}

-- ---- a test of a list, from left to right

walk_from : (f : ℕ → ℕ → ℕ → Bool) (vs : List ℕ) (i u : ℕ) → walk f i u vs ≡ true → (k : ℕ) → k < length vs → f (i + k) (at (u ∷ vs) k) (at vs k) ≡ true
unfolding walk
walk_from f [] i u t k h = absurd (not-suc-le-zero h)
walk_from f (v ∷ vs) i u t zero h = rw (add-zero i) (and_left (f i u v) _ t)
walk_from f (v ∷ vs) i u t (suc k) h =
    subst (λ (m : ℕ). f m (at (v ∷ vs) k) (at vs k) ≡ true) (suc-add i k ∙ sym (add-suc i k))
    (walk_from f vs (suc i) v (and_right (f i u v) _ t) k (le_of_suc-le-suc h))

walk_at : (f : ℕ → ℕ → ℕ → Bool) (u : ℕ) (vs : List ℕ) → walk f 0 u vs ≡ true → (k : ℕ) → k < length vs → f k (at (u ∷ vs) k) (at vs k) ≡ true
walk_at f u vs t k h = subst (λ (m : ℕ). f m (at (u ∷ vs) k) (at vs k) ≡ true) (zero-add k) (walk_from f vs 0 u t k h)

-- ---- the table

pub length-cycle : length cycle ≡ 1801
unfolding cycle low_phase medium_phase high_phase extra_high_phase
length-cycle = refl

-- the one test
sound_cycle : walk sound 0 0 cycle ≡ true
unfolding cycle low_phase medium_phase high_phase extra_high_phase walk sound boundary close moving ◌and◌ ◌or◌
sound_cycle = refl

sound_at : (i : ℕ) → i < length cycle → sound i (at (0 ∷ cycle) i) (at cycle i) ≡ true
sound_at = walk_at sound 0 cycle sound_cycle

-- ---- each rule

pub slow : (i : ℕ) → i < length cycle → at cycle i ≤ 2000
unfolding sound
slow i h = leb-true (at cycle i) 2000 (and_left _ _ (and_left _ _ (sound_at i h)))

-- two speeds at most 150 apart
pub record Near (u v : ℕ) : Type 0 where
  pub up : v ≤ u + 150
  pub down : u ≤ v + 150

pub near : (i : ℕ) → suc i < length cycle → Near (at cycle i) (at cycle (suc i))
unfolding sound close
near i h =
    let t = and_right _ _ (and_left _ _ (sound_at (suc i) h)) in
    record { up = leb-true _ _ (and_left _ _ t); down = leb-true _ _ (and_right _ _ t) }

pub rests : (i : ℕ) → i < length cycle → boundary i ≡ true → moving (at cycle i) ≡ false
unfolding sound
rests i h b = let t = and_right _ _ (sound_at i h) in not-true _ (rw b at t)
