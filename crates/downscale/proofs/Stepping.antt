-- Annex 1's steps as the code takes them: at each second the sum is the numerator of the definition.
use Rattle.rules.proofs.Offered.{ℕ, ◌+◌, ◌-◌, ◌*◌, ◌≤◌, ◌<◌, le_refl, add-zero, arith, ◌≡◌, refl, sym, ap, ◌∙◌, List, length, set, pos, nat_abs, nearest}
use Rattle.rules.proofs.Offered.{at, part, at_part, length_part}
use Rattle.cycles.specs.Cycle.{cycle}
use Rattle.cycles.proofs.Theorems.{never_fast}
use Rattle.downscale.specs.Steps.{steps}
use Rattle.downscale.specs.Closed.{drawn, Changed, Stepping}
use Rattle.downscale.proofs.Changes.{begin, more}
use Rattle.downscale.proofs.Fractions.{steps_closed}
use Rattle.downscale.proofs.Rounding.{drawn_most}

-- what the steps leave at a second
abbrev pub left_at : ℕ → ℕ → ℕ → ℕ → ℕ → ℕ
left_at first w k n j = nearest (nat_abs (steps first (pos n) (pos k) (j - first))) w

-- i steps are taken: the cycle's speed at the last of their seconds, the numerator there, and the speeds of the stretch so far
pub record Stepped (first w k n : ℕ) (stretch₀ : List ℕ) (i before total : ℕ) (stretch : List ℕ) : Type 0 where
  pub before_is : before ≡ at cycle (first + i)
  pub total_is : pos total ≡ steps first (pos n) (pos k) i
  pub changed : Changed (λ j. left_at first w k n (first + 1 + j)) 0 i stretch₀ stretch

module _ {first end w k v n : ℕ} {room : List ℕ} (s : Stepping first end w k v n room) where
  -- the closed form's numerator
  numerator : (i : ℕ) → steps first (pos n) (pos k) i ≡ pos (drawn w s.p s.r (at cycle (first + i)))
  numerator = steps_closed first w s.p s.r (ap pos (s.begins ∙ ap (drawn w s.p s.r) s.own_there)) (ap pos s.factor_is)

  speed_most : (i : ℕ) → first + i < end → at cycle (first + i) ≤ 65535
  speed_most i l = omega (arith, never_fast (first + i) (omega (arith, s.in_cycle)))

  pub start : Stepped first w k n (part room (first + 1) end) 0 v n (part room (first + 1) end)
  unfolding steps
  start = record { before_is = rw add-zero s.own_there; total_is = refl; changed = begin _ _ _ }

  module _ (i before total : ℕ) {stretch : List ℕ} (h : Stepped first w k n (part room (first + 1) end) i before total stretch)
      (l : i < length (part room (first + 1) end)) where
    in_stretch : first + 1 + i < end
    in_stretch = omega (arith, length_part room (first + 1) end s.long)

    total_drawn : total ≡ drawn w s.p s.r before
    total_drawn = ap nat_abs (h.total_is ∙ numerator i) ∙ rw h.before_is

    -- what one step more asks
    pub asks : (k ≤ 487000) × (k * before ≤ total) × (total ≤ 487000 * 65535)
    unfolding drawn
    asks =
        let f : k * before ≡ (w - s.p) * before = ap (λ (m : ℕ). m * before) s.factor_is in
        let b : before ≤ 65535 = rw h.before_is (speed_most i (omega (arith, in_stretch))) in
        omega (arith, s.factor_is, s.draws.to, total_drawn, drawn_most w s.p s.r s.draws.parts before 65535 b s.draws.speed)

    module _ (t : ℕ) (e : t ≡ total + k * at stretch i - k * before) where
      speed_is : at stretch i ≡ at cycle (first + (i + 1))
      speed_is =
          let j : first + 1 + i ≡ first + (i + 1) = omega arith in
          h.changed.behind i (le_refl i) ∙ at_part room (first + 1) end i in_stretch ∙ s.theirs (first + 1 + i) (omega arith) in_stretch ∙ rw j

      -- the sum is the closed form's
      sum_drawn : t ≡ drawn w s.p s.r (at stretch i)
      unfolding drawn
      sum_drawn =
          let a : k * before ≡ (w - s.p) * before = ap (λ (m : ℕ). m * before) s.factor_is in
          let b : k * at stretch i ≡ (w - s.p) * at stretch i = ap (λ (m : ℕ). m * at stretch i) s.factor_is in
          omega (arith, total_drawn)

      -- what rounding asks
      pub rounds : (1 ≤ w) × (w ≤ 487000) × (t ≤ w * 65535)
      rounds =
          let m : at stretch i ≤ 65535 = rw speed_is (speed_most (i + 1) (omega (arith, in_stretch))) in
          (s.draws.from, s.draws.to, rw sum_drawn (drawn_most w s.p s.r s.draws.parts (at stretch i) 65535 m s.draws.speed))

      -- the numerator of the definition, a step on
      sum_is : pos t ≡ steps first (pos n) (pos k) (i + 1)
      sum_is = ap pos sum_drawn ∙ rw speed_is (sym (numerator (i + 1)))

      pub again : (near : ℕ) → near ≡ nearest t w → Stepped first w k n (part room (first + 1) end) (i + 1) (at stretch i) t (set stretch i near)
      again near q =
          let j : first + 1 + i - first ≡ i + 1 = omega arith in
          record {
            before_is = speed_is;
            total_is = sum_is;
            changed = more h.changed (omega arith) l near (rw (j, ← sum_is) q);
          }
