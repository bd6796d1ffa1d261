-- How many bytes holds have whose gears have one each, at seconds of at most two.
use Rattle.rules.proofs.Offered.{ℕ, zero, suc, ◌+◌, ◌-◌, ◌*◌, ◌≤◌, ◌<◌, arith, ◌≡◌, refl, ap, List, length, length-append, eqb, at, gather, by_test, by_order}
use Rattle.rules.proofs.Offered.{form-one, form_two}
use Rattle.writing.specs.Writing.{pairs_bytes, hold_bytes, Light}
use Rattle.writing.proofs.BytesLeft.{held_left, held_one, held_more, held_count, held_end, held_nought}

-- a hold before second 128 has two, from then on three
near : (s g : ℕ) → s < 128 → g < 128 → length (hold_bytes s g) ≡ 2 * held_one g
unfolding hold_bytes
near s g h k = by_test (eqb g 0) (λ z. rw z (omega arith)) (λ z. rw (z, length-append) (omega (arith, ap length (form-one s h), ap length (form-one g k))))

far : (s g : ℕ) → 128 ≤ s → s < 16384 → g < 128 → length (hold_bytes s g) ≡ 3 * held_one g
unfolding hold_bytes
far s g h t k = by_test (eqb g 0) (λ z. rw z (omega arith)) (λ z. rw (z, length-append) (omega (arith, ap length (form_two s h t), ap length (form-one g k))))

module _ (hs : List ℕ) (light : Light hs) where
  far_from : (m i : ℕ) → length hs - i ≡ m → 128 ≤ i → length (pairs_bytes (held_left hs i)) ≡ 3 * length (held_left hs i)
  far_from zero i e h = omega (arith, ap length (held_end hs i (omega arith)), held_nought hs i (omega arith))
  far_from (suc m) i e h =
      let k : i < length hs = omega arith in
      let one = simp length-append at (ap length (held_more hs i k)) in
      omega (arith, one, held_count hs i k, far i (at hs i) h (omega (arith, light.seconds)) (light.gears i k), far_from m (i + 1) (omega arith) (omega arith))

  near_from : (m i : ℕ) → 128 - i ≡ m → i ≤ 128 → length (pairs_bytes (held_left hs i)) ≡ 2 * length (held_left hs i) + length (held_left hs 128)
  near_from zero i e h = let z : i ≡ 128 = omega arith in rw z (omega (arith, far_from (length hs - 128) 128 refl (omega arith)))
  near_from (suc m) i e h =
      by_order i (length hs)
      (λ k.
      let one = simp length-append at (ap length (held_more hs i k)) in
      omega (arith, one, held_count hs i k, near i (at hs i) (omega arith) (light.gears i k), near_from m (i + 1) (omega arith) (omega arith)))
      (λ k. omega (arith, ap length (held_end hs i k), held_nought hs i k, held_nought hs 128 (omega arith)))

  -- two bytes a hold, and one more for each from second 128 on
  pub held_light : length (pairs_bytes (gather 0 hs)) ≡ 2 * length (gather 0 hs) + length (held_left hs 128)
  held_light = near_from 128 0 refl (omega arith)
