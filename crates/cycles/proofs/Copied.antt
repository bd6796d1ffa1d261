-- A list copied into the front of a room, one place a turn.
use Rattle.rules.proofs.Offered.{◌≡◌, refl, ◌∙◌, List, ◌++◌, ℕ, suc, ◌+◌, ◌<◌, ◌≤◌, add-one, arith, length, take, drop, set, get_or, length-set, take-suc}
use Rattle.rules.proofs.Offered.{drop-cons, take_all, append_snoc, set_at, length-take-le, filled}

-- the first i places are the list's, those behind them as they were
pub record Copied (src room₀ : List ℕ) (i : ℕ) (room : List ℕ) : Type 0 where
  pub size : length room ≡ length room₀
  pub same : room ≡ take i src ++ drop i room₀

pub begin : {src room : List ℕ} → Copied src room 0 room
begin = record { size = refl; same = refl }

module _ {src room₀ : List ℕ} {i : ℕ} {room : List ℕ} (h : Copied src room₀ i room) where
  pub more : i < length src → length src ≤ length room₀ → (v : ℕ) → v ≡ get_or src i 0 → Copied src room₀ (i + 1) (set room i v)
  more l m v e =
      let k : i < length room₀ = omega arith in
      let n : i ≤ length src = omega arith in
      record {
        size = length-set room i v ∙ h.size;
        same = rw (
          h.same,
          drop-cons room₀ i 0,
          set_at (take i src) (get_or room₀ i 0) (drop (suc i) room₀) v i (length-take-le i src n),
          add-one,
          take-suc src i 0,
          append_snoc,
          e,
        );
      }

  pub done : i ≡ length src → room ≡ filled room₀ src
  unfolding filled
  done e = h.same ∙ rw (e, take_all (length src) src (omega arith))
