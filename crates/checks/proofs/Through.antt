-- What is asked for changes its own second and no other, and no length. A second past the trace asks for nothing.
use Rattle.rules.proofs.Offered.{ℕ, ◌<◌, arith, ◌≡◌, ap, ◌∙◌, ◌≢◌, List, length, set, set_out, length-set, get_or-set_same, get_or-set_other, at}
use Rattle.checks.specs.declared.trace.Asked.{Asked}
use Rattle.checks.specs.Asked.{speeds_with, holds_with}

module _ (e : Asked) where
  pub length_speeds : (vs : List ℕ) → length (speeds_with e vs) ≡ length vs
  length_speeds vs = length-set vs e.second e.speed

  pub length-holds : (hs : List ℕ) → length (holds_with e hs) ≡ length hs
  length-holds hs = length-set hs e.second e.gear

  pub speed_is : (vs : List ℕ) → e.second < length vs → at (speeds_with e vs) e.second ≡ e.speed
  speed_is vs h = get_or-set_same vs e.second e.speed 0 h

  pub gear_is : (hs : List ℕ) → e.second < length hs → at (holds_with e hs) e.second ≡ e.gear
  gear_is hs h = get_or-set_same hs e.second e.gear 0 h

  pub speed_else : (vs : List ℕ) (i : ℕ) → i ≢ e.second → at (speeds_with e vs) i ≡ at vs i
  speed_else vs i n = get_or-set_other vs e.second i e.speed 0 n

  pub hold_else : (hs : List ℕ) (i : ℕ) → i ≢ e.second → at (holds_with e hs) i ≡ at hs i
  hold_else hs i n = get_or-set_other hs e.second i e.gear 0 n

pub unasked : {A : Type 0} (f : List ℕ → List ℕ → A) (vs hs : List ℕ) → length hs ≡ length vs → (v g : ℕ)
    → f (set vs (length vs) v) (set hs (length vs) g) ≡ f vs hs
unasked f vs hs n v g =
    ap (λ (us : List ℕ). f us (set hs (length vs) g)) (set_out vs (length vs) v (omega arith)) ∙ ap (f vs) (set_out hs (length vs) g (omega (arith, n)))
