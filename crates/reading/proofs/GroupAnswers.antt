-- What a value within bounds, a hold and a point answer, one law for each way through them; and what is known of a group that comes.
use Rattle.rules.proofs.Offered.{ℕ, ◌+◌, ◌-◌, ◌*◌, ◌/◌, ◌%◌, ◌<◌, ◌≤◌, arith, ◌≡◌, refl, sym, ap, ◌∙◌, Bool, true, false, List, length, leb, ltb, le-leb}
use Rattle.rules.proofs.Offered.{lt-leb, lt-ltb, le-ltb, leb-true, ltb-true, eqb-false, not-true, ◌and◌, within, at, Fault, Read, got, refused, hand_on, ◌>>=◌}
use Rattle.rules.proofs.Offered.{give, demand, early, group_if, group, Form, value, known, only_if, checked, bounded, ◌then◌, point, one_hold, one, two, two_of}
use Rattle.rules.proofs.Offered.{ends_first, ends_second, two_bad, ends_third, three_of, good, three_if, three, by_test, by_order, and_left, and_right}
use Rattle.rules.proofs.Offered.{within_lo, within_hi, in_range, says_now, bounded_sound}
use Rattle.reading.specs.Progress.{Comes, ShortGroup}
use Rattle.reading.proofs.Steps.{joined, same_value, never}

-- ---- tests

pub fails : (t : Bool) → (t ≡ true → ⊥) → t ≡ false
fails true n = absurd (n refl)
fails false n = refl

pub out_of_range : (lo hi v : ℕ) → (lo ≤ v → v ≤ hi → ⊥) → within lo hi v ≡ false
out_of_range lo hi v n = fails _ (λ t. n (within_lo lo hi v t) (within_hi lo hi v t))

-- ---- a value within bounds

module _ (job : List ℕ) (lo hi no spot i : ℕ) where
  pub bounded_stops : {f : Fault} → refused f ≡ group job i → refused f ≡ (bounded lo hi no spot).read job i
  unfolding bounded checked value hand_on
  bounded_stops e = rw (← e)

  module _ {v j : ℕ} (e : got v j ≡ group job i) where
    pub bounded_refuses : (lo ≤ v → v ≤ hi → ⊥) → refused (record { no = no; spot = spot }) ≡ (bounded lo hi no spot).read job i
    unfolding bounded checked value hand_on demand
    bounded_refuses n = rw (← e, out_of_range lo hi v n)

    pub bounded_gives : lo ≤ v → v ≤ hi → got v j ≡ (bounded lo hi no spot).read job i
    unfolding bounded checked value hand_on demand
    bounded_gives x y = rw (← e, in_range lo hi v x y)

  pub bounded_in : {v j : ℕ} → got v j ≡ (bounded lo hi no spot).read job i → (lo ≤ v) × (v ≤ hi)
  unfolding bounded checked
  bounded_in {v} e =
      let t = (says_now (sym e) ((bounded_sound lo hi no spot).one_form job i)).taken.1 in
      (within_lo lo hi v t, within_hi lo hi v t)

-- ---- a group that comes

module _ (job : List ℕ) (i : ℕ) (g : Comes (group job i)) where
  pub first_there : i < length job
  unfolding early
  first_there = by_order i (length job) (λ l. l) (λ l. absurd (never (ends_first job i l) g))

  module _ (a : 128 ≤ at job i) where
    pub second_there : i + 1 < length job
    unfolding early
    second_there = by_order (i + 1) (length job) (λ l. l) (λ l. absurd (never (ends_second job i first_there a l) g))

    pub second_some : 0 < at job (i + 1)
    second_some = by_order 0 (at job (i + 1)) (λ l. l) (λ l. absurd (never (two_bad job i first_there a second_there (omega arith)) g))

    module _ (b : 128 ≤ at job (i + 1)) where
      pub third_there : i + 2 < length job
      unfolding early
      third_there = by_order (i + 2) (length job) (λ l. l) (λ l. absurd (never (ends_third job i first_there a second_there b l) g))

      third_good : good job i ≡ true
      unfolding group_if
      third_good = by_test (good job i) (λ t. t)
          (λ t. absurd (never {f = record { no = 13; spot = i }} (three_if job i first_there a second_there b third_there ∙ rw t) g))

      pub third_last : at job (i + 2) < 128
      third_last = ltb-true _ _ (and_left _ _ (and_left _ _ third_good))

      pub third_some : 0 < at job (i + 2)
      third_some = let n = eqb-false (at job (i + 2)) 0 (not-true _ (and_right _ _ (and_left _ _ third_good))) in
          by_order 0 (at job (i + 2)) (λ l. l) (λ l. absurd (n (omega arith)))

      pub three_fits : three_of job i ≤ 65535
      three_fits = leb-true _ _ (and_right _ _ third_good)

-- a value of one byte or two has no third
pub short_last : (job : List ℕ) (i : ℕ) (g : ShortGroup (group job i)) → 128 ≤ at job i → at job (i + 1) < 128
short_last job i g a =
    let c = g.there in
    by_order (at job (i + 1)) 128 (λ l. l) (λ b.
    let e = same_value (sym c.comes ∙ three job i (first_there job i c) a (second_there job i c a) b (third_there job i c a b) (third_last job i c a b)
    (third_some job i c a b) (three_fits job i c a b)) in
    absurd (omega (arith, g.small, e, third_some job i c a b)))

-- the value of its bytes, the top bits taken off at once
pub two_is : (a b : ℕ) → 128 ≤ a → a < 256 → b < 128 → a + 128 * b - 128 ≡ a % 128 + 128 * (b % 128)
two_is a b x y z = omega arith

pub three_is : (a b c : ℕ) → 128 ≤ a → a < 256 → 128 ≤ b → b < 256 → a + 128 * b + 16384 * c - 16512 ≡ a % 128 + 128 * (b % 128) + 16384 * c
three_is a b c x y z w = omega arith

-- a value up to 255 is its group's first byte, and has a second byte where that says so
module _ (job : List ℕ) (i : ℕ) (g : Comes (group job i)) where
  pub gear_inside : at job i < 256 → i + 1 + at job i / 128 ≤ length job
  gear_inside b = by_order (at job i) 128 (λ a. omega (arith, first_there job i g)) (λ a. omega (arith, second_there job i g a))

  pub gear_first : at job i < 256 → g.what ≤ 255 → got (at job i) (i + 1 + at job i / 128) ≡ group job i
  gear_first b w =
      by_order (at job i) 128
      (λ a. let n : i + 1 + at job i / 128 ≡ i + 1 = omega arith in rw n (sym (one job i (first_there job i g) a)))
      (λ a. let c = short_last job i (record { there = g; small = omega (arith, w) }) a in
      let z = second_some job i g a in
      let t = two job i (first_there job i g) a (second_there job i g a) c z in
      let e : g.what ≡ two_of job i = same_value (sym g.comes ∙ t) in
      let v : two_of job i ≡ at job i = omega (arith, e, w, z, c, b, a) in
      let n : i + 1 + at job i / 128 ≡ i + 2 = omega arith in
      rw n (rw v at (sym t)))

-- ---- a hold

module _ (job : List ℕ) (next count i : ℕ) (some_second : 1 ≤ count) where
  in_trace : (s : ℕ) → leb next s and ltb s count ≡ within next (count - 1) s
  unfolding within
  in_trace s = ap (λ (t : Bool). leb next s and t)
      (by_order s count
      (λ l. lt-ltb s count l ∙ sym (le-leb s (count - 1) (omega arith)))
      (λ l. let m : count - 1 < s = omega arith in le-ltb s count l ∙ sym (lt-leb _ _ m)))

  hold_is : (one_hold count next).read job i ≡ (do
    s ← (bounded next (count - 1) 15 i).read job
    g ← (bounded 1 255 15 i).read job
    give (s, g)) i
  unfolding one_hold bounded checked ◌then◌ value hand_on
  hold_is = simp (in_trace, joined)

  pub second_stops : {f : Fault} → refused f ≡ (bounded next (count - 1) 15 i).read job i → refused f ≡ (one_hold count next).read job i
  unfolding hand_on
  second_stops e = rw (hold_is, ← e)

  module _ {s j : ℕ} (e : got s j ≡ (bounded next (count - 1) 15 i).read job i) where
    pub gear_stops : {f : Fault} → refused f ≡ (bounded 1 255 15 i).read job j → refused f ≡ (one_hold count next).read job i
    unfolding hand_on
    gear_stops f = rw (hold_is, ← e, ← f)

    pub hold_gives : {g k : ℕ} → got g k ≡ (bounded 1 255 15 i).read job j → got (s, g) k ≡ (one_hold count next).read job i
    unfolding hand_on
    hold_gives f = rw (hold_is, ← e, ← f)

-- ---- a part that versions have from the first so numbered on

module _ (part : Form ℕ) (job : List ℕ) (first v i : ℕ) where
  pub not_yet : v < first → got 0 i ≡ (only_if (leb first v) 0 part).read job i
  unfolding only_if known
  not_yet h = rw (lt-leb first v h)

  pub from_then_on : first ≤ v → {r : Read ℕ} → r ≡ part.read job i → r ≡ (only_if (leb first v) 0 part).read job i
  unfolding only_if
  from_then_on h e = rw (le-leb first v h) e

-- ---- a point

module _ (job : List ℕ) (v i : ℕ) where
  pub n_stops : {f : Fault} → refused f ≡ group job i → refused f ≡ (point v).read job i
  unfolding point ◌then◌ value hand_on
  n_stops e = rw (← e)

  module _ {n j : ℕ} (e : got n j ≡ group job i) where
    pub p_stops : {f : Fault} → refused f ≡ group job j → refused f ≡ (point v).read job i
    unfolding point ◌then◌ value hand_on
    p_stops g = rw (← e, ← g)

    module _ {p k : ℕ} (g : got p k ≡ group job j) where
      pub m_stops : {f : Fault} → refused f ≡ (only_if (leb 2 v) 0 value).read job k → refused f ≡ (point v).read job i
      unfolding point ◌then◌ value hand_on
      m_stops h = rw (← e, ← g, ← h)

      pub point_gives : {m l : ℕ} → got m l ≡ (only_if (leb 2 v) 0 value).read job k → got (n, (p, m)) l ≡ (point v).read job i
      unfolding point ◌then◌ value hand_on
      point_gives h = rw (← e, ← g, ← h)
