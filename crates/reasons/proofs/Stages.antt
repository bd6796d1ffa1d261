-- The stages of a trip at one of its seconds: what it is, and what each stage left.
use Rattle.rules.proofs.Offered.{ℕ, suc, ◌-◌, ◌≤◌, ◌<◌, arith, ◌≡◌, ap, ◌∙◌, Bool, List, length, drop, leb, eqb, if◌then◌else◌, at, pass, closing, role_of}
use Rattle.rules.proofs.Offered.{ceiling, here, peak, rising, slowing, firsts, after_A, after_B, gears, B_looks, ceiling_of, length_B, InBounds}
use Rattle.rules.specs.declared.Vehicle.{Vehicle}
use Rattle.rules.specs.declared.Role.{Role}
use Rattle.trips.specs.Ready.{ReadyTrip}
use Rattle.trips.specs.Trip.{RunFrom}
use Rattle.trips.proofs.Passes.{B_to}
use Rattle.reasons.specs.declared.Chain.{Chain}
use Rattle.reasons.specs.Asks.{Low, chain_of}

-- what a second is, from where the closing run begins
pub here_run : (car : Vehicle) (us hs gs : List ℕ) (run j : ℕ) → RunFrom us run → suc j < length us
    → here car us hs j gs ≡ role_of car (eqb j 0) (leb run j) (at gs (j - 1))
unfolding here
here_run car us hs gs run j R h = rw (R.run j h)

-- ---- the whole chain

module _ (car : Vehicle) (us hs : List ℕ) (j : ℕ) {f a b g : List ℕ} (pf : f ≡ firsts car us hs) (pa : a ≡ pass (peak car us hs) (length hs) f)
    (pb : b ≡ pass (rising car us hs) (length hs) a) (pg : g ≡ pass (slowing car us hs) (length hs) b) where
  is_A : a ≡ after_A car us hs
  unfolding after_A
  is_A = rw (pa, pf)

  is_B : b ≡ after_B car us hs
  unfolding after_B
  is_B = rw (pb, is_A)

  is_C : g ≡ gears car us hs
  unfolding gears
  is_C = rw (pg, is_B)

  pub chain_is : {r : Role} {d : Bool} {x y z w t : ℕ} → r ≡ here car us hs j f → d ≡ closing (drop j us) → x ≡ at f j → y ≡ at a j → z ≡ at b j → w ≡ at g j
      → t ≡ (if B_looks car us hs j then ceiling j b else 0)
      → ◌≡◌ {A = Chain} (record { role = r; closes = d; choice = x; after_a = y; after_b = z; after_c = w; ceiling = t }) (chain_of car us hs j)
  unfolding chain_of ceiling_of
  chain_is p d q r s t u = rw (p, d, q, r, s, t, u, is_C, is_B, is_A, pf)

  -- after B there is room for one more in a byte
  pub B_low : {gs : List ℕ} → InBounds car → ReadyTrip car us hs gs → j < length hs → Low us hs b j
  B_low C R l = record {
    speeds = R.lists.speeds;
    gears = ap length is_B ∙ length_B car us hs;
    inside = l;
    small = λ i h.
        let x : at (after_B car us hs) i ≤ suc car.ng = B_to car C us hs i h (R.hold i h) in
        rw is_B (omega (arith, C.ng_to));
  }
