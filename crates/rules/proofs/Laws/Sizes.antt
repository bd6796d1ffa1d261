-- "Every product stays inside a signed 64-bit number": the sums of the power comparison, written out, are below 2^63 at every step.
use Rattle.rules.proofs.Base.{ℕ, suc, ◌+◌, ◌-◌, ◌*◌, ◌^◌, ◌≤◌, ◌<◌, mul-le-mul, arith, ◌≡◌, refl, T, ℤ, pos, nat_abs, ◌-ℤ◌, ◌*ℤ◌, Vehicle}
use Rattle.rules.specs.Inside.{InBounds}
use Rattle.rules.specs.Words.{at}
use Rattle.rules.specs.Units.{ratio_of, fastest, steepest}
use Rattle.rules.specs.Gears.{engine, required, derated, between, on_segment}
use Rattle.rules.specs.Vocabulary.{OnSegment, Sum, num, ◌plus◌, ◌less◌, ◌times◌, worth, Everywhere, In64, engine_sum, idle_sum, required_sum, w_sum}
use Rattle.rules.specs.Vocabulary.{past_sum, derated_sum, Q_sum, available_sum}
use Rattle.rules.proofs.Laws.Integers.{pos_sub}
use Rattle.rules.proofs.Laws.Range.{E, lit, var, is, ◌⊕◌, ◌⊖◌, ◌⊗◌, pure, size, ok, step_left, step_right, within, natAbs_below, natAbs_gap}

-- an expression, without the sizes of its parts
abbrev plain : E → Sum
plain (lit z) = num z
plain (var z n h) = num z
plain (is {m} {z} n e h) = num z
plain (a ⊕ b) = plain a plus plain b
plain (a ⊖ b) = plain a less plain b
plain (a ⊗ b) = plain a times plain b

plain_worth : (e : E) → worth (plain e) ≡ pure e
plain_worth (lit z) = refl
plain_worth (var z n h) = refl
plain_worth (is n e h) = refl
plain_worth (a ⊕ b) = rw (plain_worth a, plain_worth b)
plain_worth (a ⊖ b) = rw (plain_worth a, plain_worth b)
plain_worth (a ⊗ b) = rw (plain_worth a, plain_worth b)

below : (e : E) → T (ok e) → nat_abs (worth (plain e)) < 2 ^ 63
below e t = rw (plain_worth e) (natAbs_below e t)

-- where the sizes pass the test, every step is below 2^63
pub everywhere : (e : E) → T (ok e) → Everywhere (plain e)
everywhere (lit z) t = natAbs_below (lit z) t
everywhere (var z n h) t = natAbs_below (var z n h) t
everywhere (is n e h) t = natAbs_below (is n e h) t
everywhere (a ⊕ b) t =
    (below (a ⊕ b) t, everywhere a (step_left (size a + size b) (ok a) (ok b) t), everywhere b (step_right (size a + size b) (ok a) (ok b) t))
everywhere (a ⊖ b) t =
    (below (a ⊖ b) t, everywhere a (step_left (size a + size b) (ok a) (ok b) t), everywhere b (step_right (size a + size b) (ok a) (ok b) t))
everywhere (a ⊗ b) t =
    (below (a ⊗ b) t, everywhere a (step_left (size a * size b) (ok a) (ok b) t), everywhere b (step_right (size a * size b) (ok a) (ok b) t))

-- ---- sizes of the parts

module _ (car : Vehicle) (b : InBounds car) (v : ℕ) (v_to : v ≤ fastest) (d : ℤ) (d_in : nat_abs d ≤ steepest) where
  required_sized : E
  required_sized =
      let u = var (pos v) 2000 v_to in
      lit (pos 9000000) ⊗ var (pos car.f0) 10000 b.f0_to ⊗ u
      ⊕ lit (pos 9000) ⊗ var car.f1 5000 b.f1_in ⊗ u ⊗ u
      ⊕ lit (pos 9) ⊗ var (pos car.f2) 20000 b.f2_to ⊗ u ⊗ u ⊗ u
      ⊕ lit (pos 2575000) ⊗ var d 150 d_in ⊗ u ⊗ var (pos car.tm) 4000 b.tm_to

  pub required_inside : In64 (required_sum car v d) (required car v d)
  unfolding required required_sum required_sized
  required_inside = record { same = refl; each = everywhere required_sized tt }

  pub required_size : nat_abs (required car v d) ≤ 4890000000000000
  unfolding required required_sized
  required_size = within required_sized

-- the derated power of a point of the curve, which is not negative
abbrev pub left_at : Vehicle → ℕ → ℕ
left_at car k = at car.p k * (100 - car.margin - at car.m k)

module _ (car : Vehicle) (b : InBounds car) (k : ℕ) (h : k < car.points) where
  pub derated_is : derated car k ≡ pos (left_at car k)
  unfolding derated
  derated_is =
      let t = b.margins_to k h in
      rw (pos_sub 100 car.margin (omega arith), pos_sub (100 - car.margin) (at car.m k) (omega arith))

  pub derated_to : left_at car k ≤ 500000
  derated_to =
      let rest : 100 - car.margin - at car.m k ≤ 100 = omega arith in
      mul-le-mul (b.p_to k h) rest

  derated_each : Everywhere (derated_sum car k)
  unfolding derated_sum
  derated_each =
      everywhere
      (var (pos (at car.p k)) 5000 (b.p_to k h) ⊗ (lit (pos 100) ⊖ var (pos car.margin) 50 b.margin_to ⊖ var (pos (at car.m k)) 50 (b.m_to k h)))
      tt

  derated_size : nat_abs (derated car k) ≤ 500000
  derated_size = rw derated_is derated_to

module _ (car : Vehicle) (b : InBounds car) (x k : ℕ) (s : OnSegment car x k) where
  this : k < car.points
  this = omega (arith, s.next_point)

  pub w_size : nat_abs (on_segment car x k).w ≤ 1000
  unfolding on_segment between
  w_size = natAbs_gap (at car.n (suc k)) (at car.n k) 1000 (b.n_rises_by k s.next_point) (omega (arith, b.n_rises k s.next_point))

  past_size : nat_abs (pos x -ℤ pos 1000 *ℤ pos (at car.n k)) ≤ 1000000
  past_size = natAbs_gap x (1000 * at car.n k) 1000000 (omega (arith, s.to, b.n_rises_by k s.next_point)) (omega (arith, s.from))

  -- a2 - a1
  climb_size : nat_abs (derated car (suc k) -ℤ derated car k) ≤ 500000
  climb_size =
      let from = derated_to car b k this in
      let to = derated_to car b (suc k) s.next_point in
      rw (derated_is car b k this, derated_is car b (suc k) s.next_point)
      (natAbs_gap (left_at car (suc k)) (left_at car k) 500000 (omega arith) (omega arith))

  -- Q, with the sizes of w, of x - 1000 n1 and of a2 - a1
  Q_sized : E
  unfolding on_segment between
  Q_sized =
      lit (pos 1000) ⊗ var (derated car k) 500000 (derated_size car b k this) ⊗ var (on_segment car x k).w 1000 w_size
      ⊕ var (derated car (suc k) -ℤ derated car k) 500000 climb_size ⊗ var (pos x -ℤ pos 1000 *ℤ pos (at car.n k)) 1000000 past_size

  pub Q_size : nat_abs (on_segment car x k).Q ≤ 1000000000000
  unfolding on_segment between Q_sized
  Q_size = within Q_sized

  pub w_inside : In64 (w_sum car k) (on_segment car x k).w
  unfolding on_segment between w_sum
  w_inside = record {
    same = refl;
    each = everywhere
        (var (pos (at car.n (suc k))) 16000 (b.n_to (suc k) s.next_point) ⊖ var (pos (at car.n k)) 16000 (b.n_to k (omega (arith, s.next_point))))
        tt;
  }

  past_each : Everywhere (past_sum car x k)
  unfolding past_sum
  past_each =
      let lower : at car.n k ≤ 16000 = b.n_to k (omega (arith, s.next_point)) in
      let upper : at car.n (suc k) ≤ 16000 = b.n_to (suc k) s.next_point in
      everywhere (var (pos x) 16000000 (omega (arith, s.to)) ⊖ lit (pos 1000) ⊗ var (pos (at car.n k)) 16000 lower) tt

  climb_each : Everywhere (derated_sum car (suc k) less derated_sum car k)
  unfolding derated derated_sum
  climb_each = (
    natAbs_below (var (derated car (suc k) -ℤ derated car k) 500000 climb_size) tt,
    derated_each car b (suc k) s.next_point,
    derated_each car b k this,
  )

  pub Q_inside : In64 (Q_sum car x k) (on_segment car x k).Q
  unfolding on_segment between derated derated_sum Q_sum w_sum past_sum Q_sized
  Q_inside =
      let q = everywhere Q_sized tt in
      record { same = refl; each = (q.0, (q.1.0, (q.1.1.0, q.1.1.1, derated_each car b k this), w_inside.each), (q.2.0, climb_each, past_each)) }

  pub available_inside : In64 (available_sum car x k) ((on_segment car x k).Q *ℤ pos 3240000)
  unfolding on_segment between derated derated_sum available_sum Q_sum w_sum past_sum
  available_inside =
      let m = everywhere (var (on_segment car x k).Q 1000000000000 Q_size ⊗ lit (pos 3240000)) tt in
      record { same = refl; each = (m.0, Q_inside.each, m.2) }

-- ---- the theorem

-- the two sides of "Q x 3,240,000 >= E x w"
pub comparison_in_64_bits : (car : Vehicle) → InBounds car → (v : ℕ) → v ≤ fastest → (d : ℤ) → nat_abs d ≤ steepest → (x k : ℕ) → OnSegment car x k
    → In64 (required_sum car v d times w_sum car k) (required car v d *ℤ (on_segment car x k).w)
    × In64 (available_sum car x k) ((on_segment car x k).Q *ℤ pos 3240000)
unfolding required on_segment between required_sum w_sum
comparison_in_64_bits car b v v_to d d_in x k s =
    let l = everywhere
    (var (required car v d) 4890000000000000 (required_size car b v v_to d d_in) ⊗ var (on_segment car x k).w 1000 (w_size car b x k s)) tt in
    (record { same = refl; each = (l.0, (required_inside car b v v_to d d_in).each, (w_inside car b x k s).each) }, available_inside car b x k s)

-- Q of one segment times w of another
cross_inside : (car : Vehicle) → InBounds car → (x k : ℕ) → OnSegment car x k → (y j : ℕ) → OnSegment car y j
    → In64 (Q_sum car x k times w_sum car j) ((on_segment car x k).Q *ℤ (on_segment car y j).w)
unfolding on_segment between derated derated_sum Q_sum w_sum past_sum
cross_inside car b x k s y j r =
    let l = everywhere (var (on_segment car x k).Q 1000000000000 (Q_size car b x k s) ⊗ var (on_segment car y j).w 1000 (w_size car b y j r)) tt in
    record { same = refl; each = (l.0, (Q_inside car b x k s).each, (w_inside car b y j r).each) }

-- the two sides of "Q/w is more than Q'/w'"
pub more_in_64_bits : (car : Vehicle) → InBounds car → (x k : ℕ) → OnSegment car x k → (y j : ℕ) → OnSegment car y j
    → In64 (Q_sum car y j times w_sum car k) ((on_segment car y j).Q *ℤ (on_segment car x k).w)
    × In64 (Q_sum car x k times w_sum car j) ((on_segment car x k).Q *ℤ (on_segment car y j).w)
more_in_64_bits car b x k s y j r = (cross_inside car b y j r x k s, cross_inside car b x k s y j r)

-- the engine speeds that x is the larger of: X = G x V, and 1000 x idle
pub speed_in_64_bits : (car : Vehicle) → InBounds car → (v : ℕ) → v ≤ fastest → (g : ℕ) → 1 ≤ g → g ≤ car.ng
    → In64 (engine_sum car g v) (pos (engine car g v))
    × In64 (idle_sum car) (pos (1000 * car.idle))
unfolding engine engine_sum idle_sum
speed_in_64_bits car b v v_to g a h = (
  record { same = refl; each = everywhere (var (pos (ratio_of car g)) 50000 (b.ratio_to g a h) ⊗ var (pos v) 2000 v_to) tt },
  record { same = refl; each = everywhere (lit (pos 1000) ⊗ var (pos car.idle) 3000 b.idle_to) tt },
)
