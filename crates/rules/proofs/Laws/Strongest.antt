-- Two powers compared, and the strongest of the gears that fit.
use Rattle.rules.proofs.Base.{ℕ, zero, suc, ◌≤◌, ◌<◌, le_refl, le_of_suc-le-suc, arith, ◌≡◌, refl, sym, ap, ◌∙◌, ◌≢◌, true, false, ℤ, pos, ◌*ℤ◌, *ℤ_comm}
use Rattle.rules.proofs.Base.{le_z, leb-true, eqb-false, ne_eqb, not-false, not-true, Vehicle, Role}
use Rattle.rules.specs.Inside.{InBounds}
use Rattle.rules.specs.Units.{low}
use Rattle.rules.specs.Gears.{Power, allowed, fits, segment, power_speed, power, more, beats, strongest}
use Rattle.rules.proofs.Laws.Words.{clash, by_test, by_eq, if_ind, and_left, and_right, and-fails, or_left, or_right, or_skip}
use Rattle.rules.proofs.Laws.Vehicle.{low_from}
use Rattle.rules.proofs.Laws.Integers.{ltZ_irrefl, ltZ_asym, ltZ_leZ, leZ_ltZ, leZ_trans, leZ_scale, *ℤ_assoc}
use Rattle.rules.proofs.Laws.Power.{gear_segment, width}

-- ---- a power compared with another

-- the segment's width is a positive number
pub record Wide (a : Power) : Type 0 where
  pub by : ℕ
  pub least : 0 < by
  pub is : a.w ≡ pos by

-- no power is more than itself
pub more_irrefl : (a : Power) → more a a ≡ false
unfolding more
more_irrefl a = ltZ_irrefl (a.Q *ℤ a.w)

-- of two powers only one is more
pub more_asym : (a b : Power) → more a b ≡ true → more b a ≡ false
unfolding more
more_asym a b h = ltZ_asym (b.Q *ℤ a.w) (a.Q *ℤ b.w) h

-- the last two of three factors change places
right_comm : (a b c : ℤ) → a *ℤ b *ℤ c ≡ a *ℤ c *ℤ b
right_comm a b c = *ℤ_assoc a b c ∙ ap (λ x. a *ℤ x) (*ℤ_comm b c) ∙ sym (*ℤ_assoc a c b)

-- both sides of a comparison times a width
scale : {a : Power} → Wide a → (x y : ℤ) → le_z (x *ℤ a.w) (y *ℤ a.w) ≡ le_z x y
scale A x y = rw A.is (leZ_scale x y A.by A.least)

-- a is no more than b, b no more than c: a is no more than c
pub no_more_trans : (a b c : Power) → Wide a → Wide b → Wide c → more a b ≡ false → more b c ≡ false → more a c ≡ false
unfolding more
no_more_trans a b c A B C h k =
    let ab = a.Q *ℤ b.w in
    let ba = b.Q *ℤ a.w in
    let bc = b.Q *ℤ c.w in
    let cb = c.Q *ℤ b.w in
    let one : le_z (ab *ℤ c.w) (ba *ℤ c.w) ≡ true = scale C ab ba ∙ ltZ_leZ ba ab h in
    let two : le_z (bc *ℤ a.w) (cb *ℤ a.w) ≡ true = scale A bc cb ∙ ltZ_leZ cb bc k in
    let both : le_z (ab *ℤ c.w) (cb *ℤ a.w) ≡ true =
    leZ_trans (ab *ℤ c.w) (ba *ℤ c.w) (cb *ℤ a.w) one (rw (right_comm b.Q c.w a.w) at two) in
    leZ_ltZ (c.Q *ℤ a.w) (a.Q *ℤ c.w)
    (sym (scale B (a.Q *ℤ c.w) (c.Q *ℤ a.w)) ∙ (rw (right_comm a.Q b.w c.w, right_comm c.Q b.w a.w) at both))

-- the power of a gear that fits is read on a segment with a width
pub gear_wide : (car : Vehicle) → InBounds car → (here : Role) (v g : ℕ) → fits car here v g ≡ true → Wide (power car v g)
unfolding power
gear_wide car B here v g t =
    let s = width car B (power_speed car v g) (segment car (power_speed car v g)) (gear_segment car B here v g t).next_point in
    record { by = _; least = s.least; is = s.is }

-- ---- the strongest gear

-- a gear that fits is one of the gears, which count from 1
pub fits_from : (car : Vehicle) (here : Role) (v g : ℕ) → fits car here v g ≡ true → 0 < g
unfolding fits allowed
fits_from car here v g t =
    let l : low car ≤ g = leb-true _ _ (and_left _ _ (and_left _ _ t)) in
    omega (arith, low_from car)

module _ (car : Vehicle) (here : Role) (v : ℕ) where
  -- a gear that fits and yet does not beat another has less power
  not_beaten : (g r : ℕ) → fits car here v g ≡ true → beats car here v g r ≡ false → (r ≢ 0) × (more (power car v r) (power car v g) ≡ true)
  unfolding beats
  not_beaten g r f t = let x = and-fails _ _ f t in (eqb-false _ _ (or_left _ _ x), not-false _ (or_right _ _ x))

  -- the strongest of the gears up to k is one of them, and fits
  pub strongest-fits : (k : ℕ) → strongest car here v k ≢ 0 → (fits car here v (strongest car here v k) ≡ true) × (strongest car here v k ≤ k)
  unfolding strongest beats
  strongest-fits zero n = absurd (n refl)
  strongest-fits (suc k) n =
      if_ind (λ g. g ≢ 0 → (fits car here v g ≡ true) × (g ≤ suc k)) (beats car here v (suc k) (strongest car here v k))
      (λ t z. (and_left _ _ t, le_refl (suc k))) (λ t z. let r = strongest-fits k z in (r.0, omega arith)) n

  -- where there is no strongest gear, none fits
  pub strongest_none : (k : ℕ) → strongest car here v k ≡ 0 → (h : ℕ) → h ≤ k → fits car here v h ≡ false
  unfolding strongest
  strongest_none zero e h l = by_test (fits car here v h) (λ f. absurd (omega (arith, fits_from car here v h f))) (λ f. f)
  strongest_none (suc k) e h l =
      by_test (beats car here v (suc k) (strongest car here v k))
      (λ t. let z : ◌≡◌ {A = ℕ} (suc k) 0 = rw t at e in absurd (omega arith))
      (λ t. let z : strongest car here v k ≡ 0 = rw t at e in
      by_eq l
      (λ x. rw x (by_test (fits car here v (suc k)) (λ f. absurd ((not_beaten (suc k) (strongest car here v k) f t).0 z)) (λ f. f)))
      (λ m. strongest_none k z h (le_of_suc-le-suc m)))

  -- a fitting gear above the strongest has less power
  pub strongest_tie : (k h : ℕ) → strongest car here v k < h → h ≤ k → fits car here v h ≡ true
      → more (power car v (strongest car here v k)) (power car v h) ≡ true
  unfolding strongest
  strongest_tie zero h a b f = absurd (omega arith)
  strongest_tie (suc k) h a b f =
      by_test (beats car here v (suc k) (strongest car here v k))
      (λ t. let z : suc k < h = rw t at a in absurd (omega arith))
      (λ t. rw t (by_eq b
      (λ x. rw x (not_beaten (suc k) (strongest car here v k) (rw x at f) t).1)
      (λ m. strongest_tie k h (rw t at a) (le_of_suc-le-suc m) f)))

  -- no fitting gear has more power than the strongest
  pub strongest_most : InBounds car → (k h : ℕ) → h ≤ k → fits car here v h ≡ true
      → more (power car v h) (power car v (strongest car here v k)) ≡ false
  unfolding strongest beats
  strongest_most B zero h l f = absurd (omega (arith, fits_from car here v h f))
  strongest_most B (suc k) h l f =
      let r = strongest car here v k in
      by_test (beats car here v (suc k) r)
      (λ t. rw t (by_eq l
      (λ x. rw x (more_irrefl _))
      (λ m. let n : r ≢ 0 = λ z. clash f (strongest_none k z h (le_of_suc-le-suc m)) in
      no_more_trans _ _ _ (gear_wide car B here v h f) (gear_wide car B here v r (strongest-fits k n).0) (gear_wide car B here v (suc k) (and_left _ _ t))
      (strongest_most B k h (le_of_suc-le-suc m) f) (not-true _ (or_skip _ _ (ne_eqb r 0 n) (and_right _ _ t))))))
      (λ t. rw t (by_eq l
      (λ x. rw x (more_asym _ _ (not_beaten (suc k) r (rw x at f) t).1))
      (λ m. strongest_most B k h (le_of_suc-le-suc m) f)))
