-- The power at a gear: where the segment found lies, and that neighbours agree at a shared point.
use Rattle.rules.proofs.Base.{ℕ, zero, suc, ◌+◌, ◌*◌, ◌-◌, ◌≤◌, ◌<◌, add-zero, zero-add, le_refl, le_of_lt, lt_of_le_of_lt, le_trans, mul-le-mul_left}
use Rattle.rules.proofs.Base.{max-le, le-max_right, arith, ◌≡◌, refl, sym, ap, ◌∙◌, ◌⊎◌, ⊎_elim, Bool, true, false, Option, none, some, option_get_or, ℤ}
use Rattle.rules.proofs.Base.{pos, neg_ℤ, ◌+ℤ◌, ◌-ℤ◌, ◌*ℤ◌, +ℤ_idr, +ℤ_invr, *ℤ_comm, *ℤ-zero, leb-true, leb-false, lt-leb, Vehicle, Role}
use Rattle.rules.specs.Inside.{InBounds}
use Rattle.rules.specs.Words.{at, first}
use Rattle.rules.specs.Gears.{engine, is_under_nmax, fits, between, on_segment, reaches, segment, power_speed, derated}
use Rattle.rules.specs.Vocabulary.{OnSegment}
use Rattle.rules.proofs.Laws.Words.{and_right}
use Rattle.rules.proofs.Laws.Searches.{Found, first_found, none_first, first_skip}
use Rattle.rules.proofs.Laws.Integers.{+ℤ-*ℤ, *ℤ-+ℤ, neg_*ℤ, *ℤ_neg, *ℤ_assoc, left_comm, add_back, pos_sub}

-- ---- the segment found

-- what the search of the segments finds, from the first point's engine speed to the last one's
segment_found : (car : Vehicle) (x : ℕ) → 2 ≤ car.points → 1000 * at car.n 0 ≤ x → x ≤ 1000 * at car.n (car.points - 1)
    → (o : Option ℕ) → first (reaches car x) 0 (car.points - 1) ≡ o → OnSegment car x (option_get_or o 0)
unfolding reaches
segment_found car x two lo hi none e =
    let last : suc (car.points - 2) ≡ car.points - 1 = omega arith in
    let h : reaches car x (car.points - 2) ≡ false = none_first (reaches car x) (car.points - 1) 0 e (car.points - 2) (omega arith) (omega arith) in
    let l : 1000 * at car.n (suc (car.points - 2)) < x = leb-false _ _ h in
    absurd (omega (arith, rw last at l))
segment_found car x two lo hi (some zero) e =
    let f : Found (reaches car x) 0 (0 + (car.points - 1)) 0 = first_found (reaches car x) (car.points - 1) 0 0 e in
    record { next_point = omega arith; from = lo; to = leb-true _ _ f.holds }
segment_found car x two lo hi (some (suc j)) e =
    let f : Found (reaches car x) 0 (0 + (car.points - 1)) (suc j) = first_found (reaches car x) (car.points - 1) 0 (suc j) e in
    let below : 1000 * at car.n (suc j) < x = leb-false _ _ (f.lowest j (omega arith) (omega arith)) in
    record { next_point = omega (arith, f.below); from = omega arith; to = leb-true _ _ f.holds }

-- from idle speed to nmax the segment found is one of the curve's, and x lies on it
pub segment-holds : (car : Vehicle) → InBounds car → (x : ℕ) → 1000 * car.idle ≤ x → x ≤ 1000 * car.nmax → OnSegment car x (segment car x)
unfolding segment
segment-holds car B x lo hi =
    segment_found car x B.points_from
    (le_trans (mul-le-mul_left 1000 B.first_point) lo)
    (le_trans hi (mul-le-mul_left 1000 B.last_point))
    (first (reaches car x) 0 (car.points - 1)) refl

-- the power of a gear that fits is read on one of the curve's segments
pub gear_segment : (car : Vehicle) → InBounds car → (here : Role) (v g : ℕ) → fits car here v g ≡ true
    → OnSegment car (power_speed car v g) (segment car (power_speed car v g))
unfolding fits is_under_nmax power_speed
gear_segment car B here v g t =
    let top : engine car g v ≤ 1000 * car.nmax = leb-true _ _ (and_right _ _ (and_right _ _ t)) in
    segment-holds car B (power_speed car v g) (le-max_right (engine car g v) (1000 * car.idle))
    (max-le top (omega (arith, B.rated_from, B.nmax_from)))

-- ---- the segment a search in code has found is this one

-- the curve's engine speeds rise from point to point
abbrev pub Rises : Vehicle → Type 0
Rises car = (k : ℕ) → suc k < car.points → at car.n k < at car.n (suc k)

-- a lower point's engine speed is no higher
pub rising : (car : Vehicle) → Rises car → (j d : ℕ) → j + d < car.points → at car.n j ≤ at car.n (j + d)
rising car R j zero h = rw add-zero (le_refl _)
rising car R j (suc d) h =
    let e : j + suc d ≡ suc (j + d) = omega arith in
    rw e (le_trans (rising car R j d (omega arith)) (le_of_lt (R (j + d) (omega arith))))

-- a search finds a place that passes and below which none does
pub first_at-lowest : (p : ℕ → Bool) (k i : ℕ) → i < k → p i ≡ true → ((j : ℕ) → j < i → p j ≡ false) → first p 0 k ≡ some i
unfolding first
first_at-lowest p k i l t h =
    let e : k ≡ i + suc (k - suc i) = omega arith in
    rw e (first_skip p i (suc (k - suc i)) 0 (λ j a b. h j (omega arith)) ∙ rw (zero-add, t))

-- the segment is k, if k reaches x and x is above k's lower end, or k is the lowest: the curve rises, so that no lower one reaches
pub segment_unique : (car : Vehicle) → Rises car → (x k : ℕ) → suc k < car.points → reaches car x k ≡ true
    → (k ≡ 0) ⊎ (1000 * at car.n k < x) → segment car x ≡ k
unfolding segment reaches
segment_unique car R x k next r low =
    let lower : (j : ℕ) → j < k → reaches car x j ≡ false =
    λ j h. let e : suc j + (k - suc j) ≡ k = omega arith in
    let up : at car.n (suc j) ≤ at car.n k = rw e at (rising car R (suc j) (k - suc j) (omega arith)) in
    ⊎_elim (λ z. absurd (omega arith)) (λ b. lt-leb _ _ (lt_of_le_of_lt (mul-le-mul_left 1000 up) b)) low in
    rw (first_at-lowest (reaches car x) (car.points - 1) k (omega arith) r lower)

-- ---- the power on a segment

-- w is how far apart the segment's two points lie, in min^-1
pub record Width (car : Vehicle) (x k : ℕ) : Type 0 where
  pub is : (on_segment car x k).w ≡ pos (at car.n (suc k) - at car.n k)
  pub least : 1 ≤ at car.n (suc k) - at car.n k
  pub most : at car.n (suc k) - at car.n k ≤ 1000

-- in bounds the width of each segment of the curve is 1 to 1,000
pub width : (car : Vehicle) → InBounds car → (x k : ℕ) → suc k < car.points → Width car x k
unfolding on_segment between
width car B x k next =
    let up = B.n_rises k next in
    let by = B.n_rises_by k next in
    record { is = pos_sub _ _ (omega arith); least = omega arith; most = omega arith }

-- at the upper end of a segment Q is 1000 p2 w
upper_end : (n1 p1 n2 p2 : ℤ) → pos 1000 *ℤ p1 *ℤ (n2 -ℤ n1) +ℤ (p2 -ℤ p1) *ℤ (pos 1000 *ℤ n2 -ℤ pos 1000 *ℤ n1) ≡ pos 1000 *ℤ p2 *ℤ (n2 -ℤ n1)
upper_end n1 p1 n2 p2 =
    let u = pos 1000 in
    let w = n2 -ℤ n1 in
    let step : u *ℤ n2 -ℤ u *ℤ n1 ≡ u *ℤ w = ap (λ z. u *ℤ n2 +ℤ z) (sym (*ℤ_neg u n1)) ∙ sym (*ℤ-+ℤ u n2 (neg_ℤ n1)) in
    let out : (p : ℤ) → u *ℤ p *ℤ w ≡ p *ℤ (u *ℤ w) = λ p. *ℤ_assoc u p w ∙ left_comm u p w in
    ap (λ z. u *ℤ p1 *ℤ w +ℤ (p2 -ℤ p1) *ℤ z) step
    ∙ ap (λ z. z +ℤ (p2 -ℤ p1) *ℤ (u *ℤ w)) (out p1)
    ∙ ap (λ z. p1 *ℤ (u *ℤ w) +ℤ z) (+ℤ-*ℤ p2 (neg_ℤ p1) (u *ℤ w) ∙ ap (λ z. p2 *ℤ (u *ℤ w) +ℤ z) (neg_*ℤ p1 (u *ℤ w)))
    ∙ add_back (p1 *ℤ (u *ℤ w)) (p2 *ℤ (u *ℤ w))
    ∙ sym (out p2)

-- at its lower end Q is 1000 p1 w
lower_end : (n1 p1 p2 w : ℤ) → pos 1000 *ℤ p1 *ℤ w +ℤ (p2 -ℤ p1) *ℤ (pos 1000 *ℤ n1 -ℤ pos 1000 *ℤ n1) ≡ pos 1000 *ℤ p1 *ℤ w
lower_end n1 p1 p2 w =
    ap (λ z. pos 1000 *ℤ p1 *ℤ w +ℤ z) (ap (λ z. (p2 -ℤ p1) *ℤ z) (+ℤ_invr (pos 1000 *ℤ n1)) ∙ *ℤ-zero (p2 -ℤ p1)) ∙ +ℤ_idr _

-- at a shared point both neighbours give the same power: Q/w is the same, each side times both widths
pub same_power : (car : Vehicle) (k : ℕ) → let x = 1000 * at car.n (suc k) in
    (on_segment car x k).Q *ℤ (on_segment car x (suc k)).w ≡ (on_segment car x (suc k)).Q *ℤ (on_segment car x k).w
unfolding on_segment between
same_power car k =
    let n1 = pos (at car.n k) in
    let n2 = pos (at car.n (suc k)) in
    let n3 = pos (at car.n (suc (suc k))) in
    let p1 = derated car k in
    let p2 = derated car (suc k) in
    let p3 = derated car (suc (suc k)) in
    ap (λ z. z *ℤ (n3 -ℤ n2)) (upper_end n1 p1 n2 p2)
    ∙ *ℤ_assoc (pos 1000 *ℤ p2) (n2 -ℤ n1) (n3 -ℤ n2)
    ∙ ap (λ z. pos 1000 *ℤ p2 *ℤ z) (*ℤ_comm (n2 -ℤ n1) (n3 -ℤ n2))
    ∙ sym (*ℤ_assoc (pos 1000 *ℤ p2) (n3 -ℤ n2) (n2 -ℤ n1))
    ∙ sym (ap (λ z. z *ℤ (n2 -ℤ n1)) (lower_end n2 p2 p3 (n3 -ℤ n2)))
