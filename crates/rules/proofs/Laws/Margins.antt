-- A curve without margins of its own: power is then compared as in document 01, by full-load power and M alone.
use Rattle.rules.proofs.Base.{ℕ, suc, ◌-◌, ◌<◌, arith, ◌≡◌, refl, sym, ap, ◌∙◌, true, ℤ, pos, neg_ℤ, ◌+ℤ◌, ◌-ℤ◌, ◌*ℤ◌, +ℤ_idr, *ℤ_comm, lt_z, Vehicle}
use Rattle.rules.proofs.Base.{Role}
use Rattle.rules.specs.Inside.{InBounds}
use Rattle.rules.specs.Words.{at}
use Rattle.rules.specs.Gears.{fits, derated, between, on_segment, segment, power_speed, power, enough, more}
use Rattle.rules.specs.Vocabulary.{NoMargins, full_load, enough_before}
use Rattle.rules.proofs.Laws.Words.{clash, by_test}
use Rattle.rules.proofs.Laws.Integers.{+ℤ-*ℤ, *ℤ-+ℤ, neg_*ℤ, *ℤ_assoc, pos_sub, ltZ_leZ, leZ_ltZ, leZ_scale}
use Rattle.rules.proofs.Laws.Power.{gear_segment}

-- both powers of a segment times c: Q is c times as much
scaled : (u a b c w y : ℤ) → u *ℤ (a *ℤ c) *ℤ w +ℤ (b *ℤ c -ℤ a *ℤ c) *ℤ y ≡ c *ℤ (u *ℤ a *ℤ w +ℤ (b -ℤ a) *ℤ y)
scaled u a b c w y =
    let out : u *ℤ (a *ℤ c) *ℤ w ≡ c *ℤ (u *ℤ a *ℤ w) =
    ap (λ z. z *ℤ w) (sym (*ℤ_assoc u a c) ∙ *ℤ_comm (u *ℤ a) c) ∙ *ℤ_assoc c (u *ℤ a) w in
    let less : b *ℤ c -ℤ a *ℤ c ≡ (b -ℤ a) *ℤ c = ap (λ z. b *ℤ c +ℤ z) (sym (neg_*ℤ a c)) ∙ sym (+ℤ-*ℤ b (neg_ℤ a) c) in
    let past : (b *ℤ c -ℤ a *ℤ c) *ℤ y ≡ c *ℤ ((b -ℤ a) *ℤ y) =
    ap (λ z. z *ℤ y) (less ∙ *ℤ_comm (b -ℤ a) c) ∙ *ℤ_assoc c (b -ℤ a) y in
    ap (λ z. z +ℤ (b *ℤ c -ℤ a *ℤ c) *ℤ y) out ∙ ap (λ z. c *ℤ (u *ℤ a *ℤ w) +ℤ z) past
    ∙ sym (*ℤ-+ℤ c (u *ℤ a *ℤ w) ((b -ℤ a) *ℤ y))

-- the strict order is the same of both sides times a positive number
ltZ_scale : (a b : ℤ) (c : ℕ) → 0 < c → lt_z (a *ℤ pos c) (b *ℤ pos c) ≡ lt_z a b
ltZ_scale a b c h =
    by_test (lt_z a b)
    (λ t. by_test (lt_z (a *ℤ pos c) (b *ℤ pos c)) (λ s. s ∙ sym t)
    (λ s. clash t (leZ_ltZ a b (sym (leZ_scale b a c h) ∙ ltZ_leZ (a *ℤ pos c) (b *ℤ pos c) s))))
    (λ t. leZ_ltZ (a *ℤ pos c) (b *ℤ pos c) (leZ_scale b a c h ∙ ltZ_leZ a b t) ∙ sym t)

module _ (car : Vehicle) (B : InBounds car) (N : NoMargins car) where
  -- what is left of a point's power: 100 - M
  derated_none : (k : ℕ) → k < car.points → derated car k ≡ pos (at car.p k) *ℤ (pos 100 -ℤ pos car.margin)
  unfolding derated
  derated_none k h = rw (N k h) (ap (λ z. pos (at car.p k) *ℤ z) (+ℤ_idr (pos 100 -ℤ pos car.margin)))

  module _ (here : Role) (v g : ℕ) (f : fits car here v g ≡ true) where
    -- available power is 100 - M times full-load power
    Q_none : (power car v g).Q ≡ (pos 100 -ℤ pos car.margin) *ℤ (full_load car v g).Q
    unfolding power on_segment between full_load
    Q_none =
        let x = power_speed car v g in
        let k = segment car x in
        let s = gear_segment car B here v g f in
        rw (derated_none k (omega (arith, s.next_point)), derated_none (suc k) s.next_point)
        (scaled (pos 1000) (pos (at car.p k)) (pos (at car.p (suc k))) (pos 100 -ℤ pos car.margin) (pos (at car.n (suc k)) -ℤ pos (at car.n k))
        (pos x -ℤ pos 1000 *ℤ pos (at car.n k)))

    w_none : (power car v g).w ≡ (full_load car v g).w
    unfolding power on_segment between full_load
    w_none = refl

    -- a gear that fits has enough power exactly when it had
    pub enough_none : (d : ℤ) → enough car v d g ≡ enough_before car v d g
    unfolding enough enough_before
    enough_none d = rw (Q_none, w_none)

  -- of two gears that fit the one that had more power has more
  pub more_none : (here : Role) (v g h : ℕ) → fits car here v g ≡ true → fits car here v h ≡ true
      → more (power car v g) (power car v h) ≡ more (full_load car v g) (full_load car v h)
  unfolding more
  more_none here v g h f e =
      let c : ℤ = pos 100 -ℤ pos car.margin in
      let a = full_load car v g in
      let b = full_load car v h in
      let out : (q w : ℤ) → c *ℤ q *ℤ w ≡ q *ℤ w *ℤ pos (100 - car.margin) =
      λ q w. *ℤ_assoc c q w ∙ *ℤ_comm c (q *ℤ w) ∙ rw (pos_sub 100 car.margin (omega (arith, B.margin_to))) in
      rw (Q_none here v g f, Q_none here v h e, w_none here v g f, w_none here v h e, out b.Q a.w, out a.Q b.w)
      (ltZ_scale (b.Q *ℤ a.w) (a.Q *ℤ b.w) (100 - car.margin) (omega (arith, B.margin_to)))
