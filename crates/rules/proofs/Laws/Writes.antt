-- What is written reads back, and what is read is written as the same bytes.
use Rattle.rules.proofs.Base.{ℕ, zero, suc, ◌+◌, ◌-◌, ◌≤◌, ◌<◌, zero-add, arith, ◌≡◌, refl, ap, ◌∙◌, true, false, none, List, [], ◌∷◌, map, length, drop}
use Rattle.rules.proofs.Base.{get_or-drop, leb, ℤ, pos, negsuc, nat_abs, ◌+ℤ◌, ◌-ℤ◌, +ℤ-neg_ℤ_cancel, le-leb, le-ltb, ltb-false, not-false, Vehicle}
use Prim.{Unit, tt}
use Rattle.rules.specs.Inside.{InBounds}
use Rattle.rules.specs.Words.{within, at, table}
use Rattle.rules.specs.Units.{ratio_of, bad_field, longest, fastest}
use Rattle.rules.specs.Refusals.{refuse_at, vehicle_fault, speed, over-ng, checks, bad, fault_of, seconds_fault}
use Rattle.rules.specs.Groups.{got}
use Rattle.rules.specs.Forms.{value, checked, bounded, ◌then◌, seen, RowTakes, row, many, counted}
use Rattle.rules.specs.Job.{version, profile, gearbox, numbers, point, curve, seconds, trace, points_of, parts_of, vehicle, Job, packed, fields}
use Rattle.rules.specs.Job.{stages, job, job_read}
use Rattle.rules.specs.Write.{job_bytes, checks_fault, write_fault}
use Rattle.rules.specs.Vocabulary.{Bytes, job_fault, job_from, cleared}
use Rattle.rules.proofs.Laws.Words.{both, length-table, at_table}
use Rattle.rules.proofs.Laws.Searches.{none_first}
use Rattle.rules.proofs.Laws.Vehicle.{low_plainly, bounds_in, no_profile, no_margins, same_bounds}
use Rattle.rules.proofs.Laws.Checks.{driven, orelse_none, none_orelse, refuse_none, when_none, none_when, trace_in, rooms_in}
use Rattle.rules.proofs.Laws.Forms.{says_now, reads_whole, whole_says}
use Rattle.rules.proofs.Laws.Takes.{in_range, All, many_takes, counted_takes, only_if_takes, takes_only_if, bounded_takes, ◌also◌}
use Rattle.rules.proofs.Laws.Gathers.{holds-take}
use Rattle.rules.proofs.Laws.Jobs.{parts_back, job_sound}

-- ---- what passes checks 1 to 9

pub record Writable (v : ℕ) (car : Vehicle) (vs hs : List ℕ) : Type 0 where
  pub known : within 1 3 v ≡ true
  pub bounds : InBounds car
  pub plain : leb 3 v ≡ false → car.profile ≡ 0
  pub unmarked : leb 2 v ≡ false → (i : ℕ) → i < car.points → at car.m i ≡ 0
  pub some_second : 1 ≤ length vs
  pub not_long : length vs ≤ longest
  pub even : length hs ≡ length vs
  pub speeds_in : (i : ℕ) → i < length vs → at vs i ≤ fastest
  pub holds_in : (i : ℕ) → i < length vs → at hs i ≤ car.ng

pub writable : (v : ℕ) (car : Vehicle) (vs hs : List ℕ) → checks_fault v car vs hs ≡ none → Writable v car vs hs
unfolding checks_fault seconds_fault checks fault_of bad
writable v car vs hs e =
    let one = orelse_none _ _ e in
    let a = orelse_none _ _ one.1 in
    let b = orelse_none _ _ a.1 in
    let c = orelse_none _ _ b.1 in
    let fields = refuse_none 3 _ c.0 in
    let four = orelse_none _ _ c.1 in
    let five = orelse_none _ _ four.1 in
    let six = orelse_none _ _ five.1 in
    let seven = orelse_none _ _ six.1 in
    record {
      known = not-false _ (when_none 14 _ 0 one.0);
      bounds = bounds_in v car fields;
      plain = no_profile v car fields;
      unmarked = no_margins v car fields;
      some_second = (trace_in vs a.0).0;
      not_long = (trace_in vs a.0).1;
      even = (rooms_in vs hs hs b.0).0;
      speeds_in = λ i h. ltb-false _ _ (none_first (bad speed car vs hs 0) (length vs - 0) 0 (refuse_none _ _ four.0) i (omega arith) (omega arith));
      holds_in = λ i h. (driven car (at hs i)
          (none_first (bad over-ng car vs hs 0) (length vs - 0) 0 (refuse_none _ _ seven.0) i (omega arith) (omega arith))).0;
    }

-- ---- lists of which every one is small

one_more : (i : ℕ) → 1 + i ≡ suc i
one_more i = omega arith

all_at : (hi : ℕ) (l : List ℕ) → ((i : ℕ) → i < length l → at l i ≤ hi) → All (λ x. x ≤ hi) l
unfolding All
all_at hi [] h = tt
all_at hi (x ∷ l) h = (h 0 (omega arith), all_at hi l (λ i b. h (suc i) (omega arith)))

all_table : (hi : ℕ) (f : ℕ → ℕ) (k : ℕ) → ((i : ℕ) → i < k → f i ≤ hi) → All (λ x. x ≤ hi) (table f 0 k)
all_table hi f k h = all_at hi (table f 0 k) (λ i b. let c : i < k = rw (length-table f 0 k) at b in rw (at_table f 0 k i c, zero-add) (h i c))

-- n, p and m of the first points
all_points : (P Q S : ℕ → Type 0) (k : ℕ) (ns ps ms : List ℕ) → ((i : ℕ) → i < k → P (at ns i)) → ((i : ℕ) → i < k → Q (at ps i))
    → ((i : ℕ) → i < k → S (at ms i))
    → All (λ x. P x.0 × (Q x.1.0 × S x.1.1)) (points_of k ns ps ms)
unfolding All points_of
all_points P Q S zero ns ps ms a b c = tt
all_points P Q S (suc k) ns ps ms a b c = (
  (a 0 (omega arith), (b 0 (omega arith), c 0 (omega arith))),
  all_points P Q S k (drop 1 ns) (drop 1 ps) (drop 1 ms) (λ i h. rw (get_or-drop 1 ns i 0, one_more i) (a (suc i) (omega arith)))
      (λ i h. rw (get_or-drop 1 ps i 0, one_more i) (b (suc i) (omega arith)))
      (λ i h. rw (get_or-drop 1 ms i 0, one_more i) (c (suc i) (omega arith))),
)

pub points_many : (k : ℕ) (ns ps ms : List ℕ) → length (points_of k ns ps ms) ≡ k
unfolding points_of
points_many zero ns ps ms = refl
points_many (suc k) ns ps ms = ap suc (points_many k (drop 1 ns) (drop 1 ps) (drop 1 ms))

-- a table that begins a place later
table_later : (l : List ℕ) (k lo : ℕ) → table (at (drop 1 l)) lo k ≡ table (at l) (suc lo) k
unfolding table
table_later l zero lo = refl
table_later l (suc k) lo = rw (get_or-drop 1 l lo 0, one_more lo, table_later l k (suc lo))

-- the columns of points are those that they are of
pub column_n : (k : ℕ) (ns ps ms : List ℕ) → map (λ x. x.0) (points_of k ns ps ms) ≡ table (at ns) 0 k
unfolding points_of table
column_n zero ns ps ms = refl
column_n (suc k) ns ps ms = rw (column_n k (drop 1 ns) (drop 1 ps) (drop 1 ms), table_later ns k 0)

pub column_p : (k : ℕ) (ns ps ms : List ℕ) → map (λ x. x.1.0) (points_of k ns ps ms) ≡ table (at ps) 0 k
unfolding points_of table
column_p zero ns ps ms = refl
column_p (suc k) ns ps ms = rw (column_p k (drop 1 ns) (drop 1 ps) (drop 1 ms), table_later ps k 0)

pub column_m : (k : ℕ) (ns ps ms : List ℕ) → map (λ x. x.1.1) (points_of k ns ps ms) ≡ table (at ms) 0 k
unfolding points_of table
column_m zero ns ps ms = refl
column_m (suc k) ns ps ms = rw (column_m k (drop 1 ns) (drop 1 ps) (drop 1 ms), table_later ms k 0)

-- ---- a vehicle in bounds, of its parts

-- F1 plus 5,000 is no less than 0
pub shifted : (z : ℤ) → nat_abs z ≤ 5000 → (pos (nat_abs (z +ℤ pos 5000)) ≡ z +ℤ pos 5000) × (nat_abs (z +ℤ pos 5000) ≤ 10000)
shifted (pos m) h = (refl, omega arith)
shifted (negsuc m) h = let k : suc m ≤ 5000 = h in rw (le-ltb 5000 (suc m) k) (refl, omega arith)

pub shifted_back : (z : ℤ) → nat_abs z ≤ 5000 → pos (nat_abs (z +ℤ pos 5000)) -ℤ pos 5000 ≡ z
shifted_back z h = ap (λ (x : ℤ). x -ℤ pos 5000) (shifted z h).0 ∙ +ℤ-neg_ℤ_cancel z (pos 5000)

module _ (car : Vehicle) (b : InBounds car) where
  pub same_parts : parts_of (cleared car) ≡ parts_of car
  unfolding parts_of cleared
  same_parts = parts_back (parts_of car) refl

  ratio_small : (i : ℕ) → i < car.ng → at car.ratio i ≤ 65535
  unfolding ratio_of
  ratio_small i h = let z : suc i - 1 ≡ i = omega arith in let r : at car.ratio i ≤ 50000 = rw z at (b.ratio_to (suc i) (omega arith) h) in omega arith

  parts_take : (v : ℕ) → (leb 3 v ≡ false → car.profile ≡ 0) → (leb 2 v ≡ false → (i : ℕ) → i < car.points → at car.m i ≡ 0)
      → (profile v then λ crawler. gearbox crawler then λ ratios. numbers then λ values. curve v).Takes (parts_of car)
  unfolding parts_of ◌then◌ profile gearbox numbers curve point value All
  parts_take v plain none-marked =
      let crawler : car.profile ≤ 1 = omega (arith, low_plainly car, b.low_to) in
      let ng-from : 2 + car.profile ≤ car.ng = omega (arith, low_plainly car, b.low_ng) in
      let ng = b.ng_to in
      let rated = b.rated_from in
      let nmax = b.nmax_from in
      only_if_takes (leb 3 v) 0 (bounded 0 1 3 1) car.profile
      (bounded_takes 0 1 3 1 car.profile (omega arith) (in_range 0 1 car.profile (omega arith) crawler)) plain
      also counted_takes _ _ _
      (rw (length-table (at car.ratio) 0 car.ng)
      (bounded_takes (2 + car.profile) 10 3 1 car.ng (omega arith) (in_range (2 + car.profile) 10 car.ng ng-from ng)))
      (all_table 65535 (at car.ratio) car.ng ratio_small)
      also many_takes _ 8 _ refl (
        omega (arith, b.idle_to),
        (
          omega (arith, b.nmax_to),
          (
            omega (arith, b.nmax_to),
            (
              omega (arith, b.f0_to),
              (
                omega (arith, (shifted car.f1 b.f1_in).1),
                (
                  omega (arith, b.f2_to),
                  (
                    omega (arith, b.tm_to),
                    (omega (arith, b.margin_to), tt),
                  ),
                ),
              ),
            ),
          ),
        ),
      )
      also counted_takes _ _ _
      (rw (points_many car.points car.n car.p car.m)
      (bounded_takes 2 64 3 11 car.points (omega arith) (in_range 2 64 car.points b.points_from b.points_to)))
      (all_points _ _ _ car.points car.n car.p car.m (λ i h. omega (arith, b.n_to i h)) (λ i h. omega (arith, b.p_to i h))
      (λ i h. only_if_takes (leb 2 v) 0 value (at car.m i) (omega (arith, b.m_to i h)) (λ l. none-marked l i h)))

  pub vehicle_takes : (v : ℕ) → (leb 3 v ≡ false → car.profile ≡ 0) → (leb 2 v ≡ false → (i : ℕ) → i < car.points → at car.m i ≡ 0)
      → (vehicle v).Takes (cleared car)
  unfolding vehicle seen cleared
  vehicle_takes v plain none-marked = (rw same_parts (parts_take v plain none-marked), rw same_parts refl)

-- ---- a job that passes checks 1 to 9

module _ (v : ℕ) (car : Vehicle) (vs hs : List ℕ) (w : Writable v car vs hs) (a b : ℕ) (x : length vs ≤ a) (y : length vs ≤ b) where
  job_takes : (job a b).Takes (job_from v (cleared car) vs hs)
  unfolding job seen stages fields packed job_from ◌then◌ version trace seconds checked longest value
  job_takes =
      let few = w.not_long in
      let ng = w.bounds.ng_to in (
        bounded_takes 1 3 14 0 v (omega arith) w.known
            also vehicle_takes car w.bounds v w.plain w.unmarked
            also counted_takes _ _ vs
            (bounded_takes 1 longest 1 0 (length vs) (omega arith) (in_range 1 longest (length vs) w.some_second few), both (le-leb _ _ x) (le-leb _ _ y))
            (all_at 65535 vs (λ i h. omega (arith, w.speeds_in i h)))
            also holds-take (length vs) hs w.even (omega arith) (all_at 255 hs (λ i h. omega (arith, w.even, w.holds_in i (omega (arith, w.even))))),
        refl,
      )

  -- what is written is read back
  pub reads_written : job_read (job_bytes v car vs hs) a b ≡ got (job_from v (cleared car) vs hs) (length (job_bytes v car vs hs))
  unfolding job_read job_bytes job seen stages fields job_from ◌then◌ version vehicle trace seconds checked counted
  reads_written = rw (← same_parts car w.bounds) (reads_whole (job_sound a b) (job_from v (cleared car) vs hs) job_takes)

-- what is read is written as the same bytes, in its own version
pub writes_read : (bytes : List ℕ) → Bytes bytes → (a b : ℕ) {j : Job} {end : ℕ} → job_read bytes a b ≡ got j end
    → job_bytes j.version j.vehicle j.speeds j.holds ≡ bytes
unfolding job_read job_bytes job seen stages fields job_from ◌then◌ trace seconds checked counted
writes_read bytes h a b {j} e = (says_now e (whole_says (job_sound a b) bytes)).1 h

-- of a job that is read in version 1 no point has a margin
row_unmarked : (v : ℕ) → leb 2 v ≡ false → (k : ℕ) (ns ps ms : List ℕ) → RowTakes (λ (s : Unit {0}). point v) (λ s a. s) tt (points_of k ns ps ms) → (i : ℕ)
    → i < k → at ms i ≡ 0
unfolding RowTakes points_of point ◌then◌
row_unmarked v l zero ns ps ms t i h = absurd (omega arith)
row_unmarked v l (suc k) ns ps ms t zero h = takes_only_if (leb 2 v) 0 value (at ms 0) t.0.1.1 l
row_unmarked v l (suc k) ns ps ms t (suc i) h =
    rw (← one_more i, ← get_or-drop 1 ms i 0) (row_unmarked v l k (drop 1 ns) (drop 1 ps) (drop 1 ms) t.1 i (omega arith))

vehicle_unmarked : (v : ℕ) (car : Vehicle) → (vehicle v).Takes car → leb 2 v ≡ false → (i : ℕ) → i < car.points → at car.m i ≡ 0
unfolding vehicle seen ◌then◌ parts_of curve counted many row
vehicle_unmarked v car t l = row_unmarked v l car.points car.n car.p car.m t.0.1.1.1.0.1.0

-- and of versions 1 and 2 the profile is 0
vehicle_plain : (v : ℕ) (car : Vehicle) → (vehicle v).Takes car → leb 3 v ≡ false → car.profile ≡ 0
unfolding vehicle seen ◌then◌ parts_of profile
vehicle_plain v car t l = takes_only_if (leb 3 v) 0 (bounded 0 1 3 1) car.profile t.0.0 l

-- so its own version takes it where it passes the working's checks
pub read_passes : (bytes : List ℕ) (a b : ℕ) {j : Job} {end : ℕ} → job_read bytes a b ≡ got j end → job_fault j.vehicle j.speeds j.holds ≡ none
    → checks_fault j.version j.vehicle j.speeds j.holds ≡ none
unfolding job_read job seen stages fields ◌then◌ version bounded checked job_fault checks_fault vehicle_fault bad_field refuse_at
read_passes bytes a b {j} e ok =
    let t = (says_now e (whole_says (job_sound a b) bytes)).0.0 in
    let one = orelse_none _ _ ok in
    let two = orelse_none _ _ one.1 in
    let three = orelse_none _ _ two.1 in
    none_orelse _ _ (none_when 14 _ 0 (rw t.0.1))
    ∙ none_orelse _ _ one.0
    ∙ none_orelse _ _ two.0
    ∙ none_orelse _ _ (rw (same_bounds j.version j.vehicle (vehicle_plain j.version j.vehicle t.1.0)
    (vehicle_unmarked j.version j.vehicle t.1.0)) three.0)
    ∙ three.1

-- ---- and where there is room

-- where nothing is refused the job is written
pub write_none : (v : ℕ) (car : Vehicle) (vs hs room : List ℕ) → write_fault v car vs hs room ≡ none
    → (checks_fault v car vs hs ≡ none) × (length (job_bytes v car vs hs) ≤ length room)
unfolding write_fault
write_none v car vs hs room e = ((orelse_none _ _ e).0, ltb-false _ _ (when_none 17 _ _ (orelse_none _ _ e).1))

pub none_write : (v : ℕ) (car : Vehicle) (vs hs room : List ℕ) → checks_fault v car vs hs ≡ none → length (job_bytes v car vs hs) ≤ length room
    → write_fault v car vs hs room ≡ none
unfolding write_fault
none_write v car vs hs room e h = none_orelse _ _ e ∙ none_when 17 _ _ (le-ltb _ _ h)
