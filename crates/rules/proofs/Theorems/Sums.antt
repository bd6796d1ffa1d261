-- Document 01: "Every product stays inside a signed 64-bit number". Beside the sums of the power comparison and of the required power (`enough_in_64_bits`,
-- `most_in_64_bits`, `bench_in_64_bits`) and X and 1000 x idle (`speeds_in_64_bits`), these are all that the rules of a second form: the limits of the
-- engine speed, the minimum speeds before they are rounded, the points of the curve, D and the step from the second before.
use Rattle.rules.proofs.Base.{ℕ, zero, suc, ◌+◌, ◌-◌, ◌*◌, ◌/◌, ◌≤◌, ◌<◌, arith, ◌≡◌, refl, none, pos, ◌-ℤ◌, Vehicle, Role, First, Closing, AfterLow}
use Rattle.rules.proofs.Base.{Inner}
use Rattle.rules.specs.Inside.{InBounds}
use Rattle.rules.specs.Words.{at}
use Rattle.rules.specs.Units.{bad_field, fastest, steepest}
use Rattle.rules.specs.Gears.{next_minimum, minimum_of, minimum, derated}
use Rattle.rules.specs.Vocabulary.Sums.{num, ◌plus◌, ◌less◌, ◌times◌, In64, derated_sum}
use Rattle.rules.proofs.Laws.Vehicle.{in_bounds}
use Rattle.rules.proofs.Laws.Integers.{pos_sub}
use Rattle.rules.proofs.Laws.Range.{lit, var, ◌⊕◌, ◌⊖◌, ◌⊗◌}
use Rattle.rules.proofs.Laws.Sizes.{everywhere}

next_to : (car : Vehicle) → InBounds car → (here : Role) → next_minimum car here ≤ 5000
unfolding next_minimum
next_to car b First = let h = b.idle_to in omega arith
next_to car b Closing = let h = b.idle_to in omega arith
next_to car b AfterLow = let h = b.idle_to in omega arith
next_to car b Inner = let h = b.idle_to in omega arith

of_to : (car : Vehicle) → InBounds car → (here : Role) (r : ℕ) → minimum_of car here r ≤ 5000
unfolding minimum_of
of_to car b here zero = let h = b.idle_to in omega arith
of_to car b here (suc zero) = next_to car b here
of_to car b here (suc (suc r)) = let h = b.idle_to in let l = b.nmax_from in let m = b.nmax_to in omega arith

module _ (car : Vehicle) (ok : bad_field car ≡ none) where
  b : InBounds car
  b = in_bounds car ok

  -- the limits of the engine speed: 1000 x minimum and 1000 x nmax
  pub limits_in_64_bits : (here : Role) (g : ℕ)
      → In64 (num (pos 1000) times num (pos (minimum car here g))) (pos (1000 * minimum car here g))
      × In64 (num (pos 1000) times num (pos car.nmax)) (pos (1000 * car.nmax))
  unfolding minimum
  limits_in_64_bits here g = (
    record { same = refl; each = everywhere (lit (pos 1000) ⊗ var (pos (minimum car here g)) 5000 (of_to car b here _)) tt },
    record { same = refl; each = everywhere (lit (pos 1000) ⊗ var (pos car.nmax) 15000 b.nmax_to) tt },
  )

  -- the minimum speeds before they are rounded: tenths, hundredths and eighths, half of one added; and idle plus the eighth
  pub tenths_in_64_bits : In64 (num (pos 9) times num (pos car.idle) plus num (pos 5)) (pos (9 * car.idle + 5))
  tenths_in_64_bits = record { same = refl; each = everywhere (lit (pos 9) ⊗ var (pos car.idle) 3000 b.idle_to ⊕ lit (pos 5)) tt }

  pub hundredths_in_64_bits : In64 (num (pos 115) times num (pos car.idle) plus num (pos 50)) (pos (115 * car.idle + 50))
  hundredths_in_64_bits = record { same = refl; each = everywhere (lit (pos 115) ⊗ var (pos car.idle) 3000 b.idle_to ⊕ lit (pos 50)) tt }

  pub eighths_in_64_bits : let eighth = (car.rated - car.idle + 4) / 8 in
      In64 (num (pos car.rated) less num (pos car.idle) plus num (pos 4)) (pos (car.rated - car.idle + 4))
      × In64 (num (pos car.idle) plus num (pos eighth)) (pos (car.idle + eighth))
  eighths_in_64_bits =
      let i = b.idle_to in
      let r : car.rated ≤ 15000 = let l = b.nmax_from in let m = b.nmax_to in omega arith in
      let e : (car.rated - car.idle + 4) / 8 ≤ 2000 = omega arith in
      let l : car.idle ≤ car.rated = let h = b.rated_from in omega arith in (
        record {
          same = rw (pos_sub car.rated car.idle l);
          each = everywhere (var (pos car.rated) 15000 r ⊖ var (pos car.idle) 3000 i ⊕ lit (pos 4)) tt;
        },
        record { same = refl; each = everywhere (var (pos car.idle) 3000 i ⊕ var (pos ((car.rated - car.idle + 4) / 8)) 2000 e) tt },
      )

  -- the points of the curve: 1000 x n, and a = p x (100 - M - m)
  pub points_in_64_bits : (k : ℕ) → k < car.points
      → In64 (num (pos 1000) times num (pos (at car.n k))) (pos (1000 * at car.n k)) × In64 (derated_sum car k) (derated car k)
  unfolding derated derated_sum
  points_in_64_bits k h = (
    record { same = refl; each = everywhere (lit (pos 1000) ⊗ var (pos (at car.n k)) 16000 (b.n_to k h)) tt },
    record {
      same = refl;
      each = everywhere
          (var (pos (at car.p k)) 5000 (b.p_to k h) ⊗
          (lit (pos 100) ⊖ var (pos car.margin) 50 b.margin_to ⊖ var (pos (at car.m k)) 50 (b.m_to k h))) tt;
    },
  )

-- D, of two speeds that pass check 4, and the two sums of the step from the second before
pub steps_in_64_bits : (v w : ℕ) → v ≤ fastest → w ≤ fastest
    → In64 (num (pos w) less num (pos v)) (pos w -ℤ pos v)
    × In64 (num (pos v) plus num (pos steepest)) (pos (v + steepest))
    × In64 (num (pos w) plus num (pos steepest)) (pos (w + steepest))
steps_in_64_bits v w a c = (
  record { same = refl; each = everywhere (var (pos w) 2000 c ⊖ var (pos v) 2000 a) tt },
  record { same = refl; each = everywhere (var (pos v) 2000 a ⊕ lit (pos 150)) tt },
  record { same = refl; each = everywhere (var (pos w) 2000 c ⊕ lit (pos 150)) tt },
)
