-- A span with what is asked for at one second: what is found of the pieces before and after it, and of the second itself, is found of the span.
use Rattle.rules.proofs.Offered.{ℕ, ◌+◌, ◌-◌, ◌≤◌, ◌<◌, le_trans, arith, ◌≡◌, sym, ◌≢◌, false, none, List, eqb, length, eqb-true, eqb-false, at}
use Rattle.rules.proofs.Offered.{fastest, steepest, step, bad, seconds_fault, by_test, by_order, by_eq}
use Rattle.rules.specs.declared.Vehicle.{Vehicle}
use Rattle.checks.specs.declared.trace.Asked.{Asked}
use Rattle.checks.specs.Asked.{speeds_with, holds_with}
use Rattle.checks.specs.Calm.{Each, AtMost, gap_at, Seen, Stands, HoldsPass, Quiet, OwnPasses}
use Rattle.checks.proofs.Through.{length_speeds, speed_is, gear_is, speed_else, hold_else}
use Rattle.checks.proofs.Calmness.{at_most, Good, second_good, nothing_wrong}
use Rattle.checks.proofs.Tests.{step_out, step_small}

-- what is so before s, at s and after s is so
pieces : (P : ℕ → Type 0) (lo hi s : ℕ) → Each P lo s → (lo ≤ s → s < hi → P s) → Each P (s + 1) hi → Each P lo hi
pieces P lo hi s before here after i a b =
    by_order i s (λ h. before i a h) (λ h. by_eq {P = P i} {i = s} {j = i} h (λ e. rw (sym e) (here (omega arith) (omega arith)))
    (λ l. after i (omega arith) b))

-- so a part of a span is quiet where its holds pass
pub quiet_part : {car : Vehicle} {vs hs : List ℕ} {lo hi most step : ℕ} → Seen vs lo hi most step → most ≤ fastest → step ≤ steepest → (a b : ℕ) → lo ≤ a
    → b ≤ hi → Each (HoldsPass car vs hs) a b → Quiet car vs hs a b
quiet_part {vs = vs} {lo = lo} {hi = hi} S m s a b from to held = record {
  speeds = λ i x y. le_trans (at_most (at vs) lo hi S.speeds i (omega arith) (omega arith)) m;
  steps = λ i x y. le_trans (at_most (gap_at vs) (lo + 1) hi S.steps i (omega arith) (omega arith)) s;
  holds = held;
}

module _ (e : Asked) (vs : List ℕ) (lo hi : ℕ) where
  -- no speed is above the highest that is written and the one that is asked for
  pub most_asked : {m r : ℕ} → hi ≤ length vs → AtMost (at vs) lo hi m → m ≤ r → e.speed ≤ r → AtMost (at (speeds_with e vs)) lo hi r
  most_asked {m} {r} inside most x y i a b =
      by_test (eqb i e.second)
      (λ t. let z : i ≡ e.second = eqb-true _ _ t in rw (z, speed_is e vs (omega arith)) y)
      (λ t. rw (speed_else e vs i (eqb-false _ _ t)) (le_trans (most i a b) x))

  -- ---- nothing is wrong

  module _ (car : Vehicle) (hs : List ℕ) (inside : hi ≤ length vs) (rest : Stands (speeds_with e vs) lo hi) where
    -- so of a piece that has not the second that is asked for, where the step into the piece is in order
    piece_good : (a b : ℕ) → Quiet car vs hs a b → lo ≤ a → b ≤ hi → ((i : ℕ) → a ≤ i → i < b → i ≢ e.second)
        → (a < b → bad step car (speeds_with e vs) (holds_with e hs) lo a ≡ false)
        → Each (Good car (speeds_with e vs) (holds_with e hs) lo) a b
    piece_good a b Q from to others entry i x y =
        let ws = speeds_with e vs in
        let ks = holds_with e hs in
        let here : at ws i ≡ at vs i = speed_else e vs i (others i x y) in
        let held : HoldsPass car ws ks i = rw (here, hold_else e hs i (others i x y)) (Q.holds i x y) in
        let small : bad step car ws ks lo i ≡ false =
        by_eq {P = bad step car ws ks lo i ≡ false} {i = a} {j = i} x
        (λ z. rw (sym z) (entry (omega arith)))
        (λ l.
        let before : at ws (i - 1) ≡ at vs (i - 1) = speed_else e vs (i - 1) (others (i - 1) (omega arith) (omega arith)) in
        sym (step_small car ws ks lo i (omega arith) (rw (here, before) (Q.steps i (omega arith) y)))) in
        second_good car ws ks lo hi (rw (length_speeds e vs) inside) rest i (omega arith) (omega arith) (rw here (Q.speeds i x y)) small held

    -- nothing of the span is asked for
    pub calm_apart : hi ≤ e.second → Quiet car vs hs lo hi → none ≡ seconds_fault car (speeds_with e vs) (holds_with e hs) lo hi
    calm_apart h Q =
        let some = rest.some in
        nothing_wrong car (speeds_with e vs) (holds_with e hs) lo hi (omega arith)
        (piece_good lo hi Q (omega arith) (omega arith) (λ i a b z. omega arith) (λ l. sym (step_out car _ _ lo lo (omega arith))))

    -- one second of it is
    pub calm_with : lo ≤ e.second → e.second < hi → length hs ≡ length vs → Quiet car vs hs lo e.second → Quiet car vs hs (e.second + 1) hi
        → OwnPasses car (speeds_with e vs) e.gear lo hi e.second → none ≡ seconds_fault car (speeds_with e vs) (holds_with e hs) lo hi
    calm_with since until rooms before after own =
        let ws = speeds_with e vs in
        let ks = holds_with e hs in
        nothing_wrong car ws ks lo hi (omega arith)
        (pieces (Good car ws ks lo) lo hi e.second
        (piece_good lo e.second before (omega arith) (omega arith) (λ i a b z. omega arith) (λ l. sym (step_out car _ _ lo lo (omega arith))))
        (λ a b. own.here ks (gear_is e hs (omega arith)))
        (piece_good (e.second + 1) hi after (omega arith) (omega arith) (λ i a b z. omega arith) (λ l. own.next l car ks)))
