-- Rounding: how far it can go, that it does not go apart, and when it is exact.
use Rattle.rules.proofs.Offered.{ℕ, ◌+◌, ◌-◌, ◌*◌, ◌/◌, ◌≤◌, ◌<◌, sub-zero, add-zero, zero-mul, mul_comm, mul_left_comm, mul-add, add-mul, one-mul}
use Rattle.rules.proofs.Offered.{mul-le-mul_left, mul-le-mul_right, le-div_iff_mul-le, div-lt_iff_lt-mul, div-mul-le_self, div-eq_of_lt-le, add-mul-div_right}
use Rattle.rules.proofs.Offered.{mul-div-mul_left, le_trans, arith, ◌≡◌, sym, ap, ◌∙◌, nearest}
use Rattle.downscale.specs.Closed.{drawn}
use Rattle.downscale.proofs.Fractions.{drawn_rest}

-- ---- rounding

-- a quotient grows with what is divided
div_mono : (k : ℕ) {a b : ℕ} → 0 < k → a ≤ b → a / k ≤ b / k
div_mono k {a} {b} h l = (le-div_iff_mul-le h).1 (le_trans (div-mul-le_self a k) l)

-- m wholes, doubled
doubled : (m w : ℕ) → m * (2 * w) ≡ 2 * (w * m)
doubled m w = mul_left_comm m 2 w ∙ ap (λ (n : ℕ). 2 * n) (mul_comm m w)

doubled_next : (m w : ℕ) → (m + 1) * (2 * w) ≡ 2 * (w * m) + 2 * w
doubled_next m w = add-mul m 1 (2 * w) ∙ rw (doubled m w, one-mul (2 * w))

module _ (w : ℕ) (h : 1 ≤ w) where
  -- what is at most m wholes rounds to at most m
  pub nearest_most : (n m : ℕ) → n ≤ w * m → nearest n w ≤ m
  unfolding nearest
  nearest_most n m l =
      let k : (2 * n + w) / (2 * w) < m + 1 = (div-lt_iff_lt-mul {k = 2 * w} {x = 2 * n + w} {y = m + 1} (omega arith)).1
      (rw (doubled_next m w) (omega arith)) in
      omega arith

  -- v wholes round to v
  pub nearest_exact : (v : ℕ) → nearest (w * v) w ≡ v
  unfolding nearest
  nearest_exact v = div-eq_of_lt-le (2 * w) (rw (doubled v w) (omega arith)) (rw (doubled_next v w) (omega arith))

  -- what is at most d wholes above rounds to at most d above
  pub nearest_near : (a b d : ℕ) → a ≤ b + w * d → nearest a w ≤ nearest b w + d
  unfolding nearest
  nearest_near a b d l =
      let e : (2 * b + w + d * (2 * w)) / (2 * w) ≡ (2 * b + w) / (2 * w) + d = add-mul-div_right (2 * b + w) d (omega arith) in
      rw (← e) (div_mono (2 * w) (omega arith) (rw (doubled d w) (omega arith)))

  -- a fraction written larger rounds to the same
  pub nearest_same : (c n : ℕ) → 0 < c → nearest (c * n) (c * w) ≡ nearest n w
  unfolding nearest
  nearest_same c n l =
      let e : 2 * (c * n) + c * w ≡ c * (2 * n + w) = sym (mul-add c (2 * n) w ∙ rw (mul_left_comm c 2 n)) in
      rw (e, mul_left_comm 2 c w) (mul-div-mul_left (2 * n + w) (2 * w) l)

-- ---- a drawn speed

module _ (w p r : ℕ) (h : p ≤ w) where
  pub drawn_most : (v m : ℕ) → v ≤ m → r ≤ m → drawn w p r v ≤ w * m
  unfolding drawn
  drawn_most v m a b =
      let e : (w - p) * m + p * m ≡ w * m = drawn_rest w p m h in
      omega (arith, mul-le-mul_left (w - p) a, mul-le-mul_left p b)

  pub drawn_near : (u v d : ℕ) → v ≤ u + d → drawn w p r v ≤ drawn w p r u + w * d
  unfolding drawn
  drawn_near u v d l =
      let a : (w - p) * v ≤ (w - p) * (u + d) = mul-le-mul_left (w - p) l in
      let b : (w - p) * (u + d) ≡ (w - p) * u + (w - p) * d = mul-add (w - p) u d in
      let c : (w - p) * d ≤ w * d = mul-le-mul_right d (omega arith) in
      omega arith

-- none of the parts: the speed itself
pub drawn_none : (w r v : ℕ) → drawn w 0 r v ≡ w * v
unfolding drawn
drawn_none w r v = rw (sub-zero w, zero-mul r, add-zero)
