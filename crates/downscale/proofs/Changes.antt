-- A stretch of a room that is changed from left to right, one place a turn.
use Rattle.rules.proofs.Offered.{ℕ, ◌+◌, ◌≤◌, ◌<◌, arith, ◌≡◌, refl, ◌∙◌, List, length, set, length-set, get_or-set_same, get_or-set_other, by_eq}
use Rattle.downscale.specs.Closed.{Changed}

pub begin : (g : ℕ → ℕ) (lo : ℕ) (room : List ℕ) → Changed g lo lo room room
begin g lo room = record { size = refl; before = λ j l. refl; inside = λ j l m. absurd (omega arith); behind = λ j l. refl }

pub more : {g : ℕ → ℕ} {lo hi : ℕ} {room₀ room : List ℕ} → Changed g lo hi room₀ room → lo ≤ hi → hi < length room₀ → (v : ℕ) → v ≡ g hi
    → Changed g lo (hi + 1) room₀ (set room hi v)
more {g} {lo} {hi} {room₀} {room} h l m v e = record {
  size = length-set room hi v ∙ h.size;
  before = λ j b. get_or-set_other room hi j v 0 (omega arith) ∙ h.before j b;
  inside = λ j b c.
      by_eq {i = j} {j = hi} (omega arith)
      (λ s. rw s (get_or-set_same room hi v 0 (omega (arith, h.size)) ∙ e))
      (λ s. get_or-set_other room hi j v 0 (omega arith) ∙ h.inside j b s);
  behind = λ j b. get_or-set_other room hi j v 0 (omega arith) ∙ h.behind j (omega arith);
}
