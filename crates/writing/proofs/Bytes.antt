-- What the stages of a job are written as, in the pieces that the code puts.
use Rattle.rules.proofs.Offered.{ℕ, zero, suc, ◌+◌, ◌≤◌, arith, ◌≡◌, refl, ap, List, [], ◌∷◌, ◌++◌, length, take, length-append, leb}
use Rattle.rules.proofs.Offered.{form, value, only_if, checked, bounded, ◌then◌, seen, row_write, row, many, counted, version, profile, gearbox}
use Rattle.rules.proofs.Offered.{numbers, curve, seconds, trace, one_hold, points_of, parts_of, vehicle, gather, holds, fields, stages, job, job_bytes}
use Rattle.rules.proofs.Offered.{job_from, by_test, table_at, form-one, points_many, none, checks_fault, writable, within_hi}
use Rattle.rules.specs.declared.Vehicle.{Vehicle}
use Rattle.writing.specs.Writing.{values_bytes, counted_bytes, pair, pairs_bytes, since, margins_bytes, points_bytes}
use Rattle.writing.proofs.BytesLeft.{value-more, values_none, point-more, point_none, margin-more, margin_none}

-- the profile is written as a value
profile-bytes : (v x : ℕ) → (profile v).write x ≡ (since 3 v).write x
unfolding profile only_if bounded checked
profile-bytes v x = by_test (leb 3 v) (λ t. rw t) (λ t. rw t)

-- the profile, the gears, of which there are g, the eight numbers, the curve
pub vehicle-bytes : (v : ℕ) (car : Vehicle) {g : ℕ} {eight : List ℕ} → g ≡ car.ng → g ≤ length car.ratio → eight ≡ (parts_of car).1.1.0
    → (vehicle v).write car
    ≡ (since 3 v).write car.profile
    ++ (counted_bytes (take g car.ratio) ++ (values_bytes eight ++ (form car.points ++ points_bytes v (points_of car.points car.n car.p car.m))))
unfolding vehicle parts_of seen ◌then◌ gearbox numbers curve counted bounded checked value many row row_write
vehicle-bytes v car {g} a b e =
    rw (← a, e, profile-bytes v car.profile, table_at car.ratio g 0 (omega arith), points_many car.points car.n car.p car.m)

-- holds are written as pairs
rising_pairs : (count s : ℕ) (l : List (ℕ × ℕ)) → row_write (one_hold count) (λ next h. suc h.0) s l ≡ pairs_bytes l
unfolding row_write one_hold checked ◌then◌ value many row pair
rising_pairs count s [] = refl
rising_pairs count s (h ∷ l) = ap (λ (m : List ℕ). (form h.0 ++ form h.1) ++ m) (rising_pairs count (suc h.0) l)

-- version; vehicle; sample count and speeds; hold count, second and gear
pub job_pieces : (v : ℕ) (car : Vehicle) (vs hs : List ℕ) → job_bytes v car vs hs
    ≡ form v ++ ((vehicle v).write car ++ (counted_bytes vs ++ (form (length (gather 0 hs)) ++ pairs_bytes (gather 0 hs))))
unfolding job_bytes job_from job seen fields stages ◌then◌ version bounded checked value trace counted seconds holds many row
job_pieces v car vs hs = rw (rising_pairs (length vs) 0 (gather 0 hs))

-- ---- how long they are

-- points are as long as their columns
points_size : (v k : ℕ) (ns ps ms : List ℕ) → k ≤ length ns → k ≤ length ps → k ≤ length ms
    → length (points_bytes v (points_of k ns ps ms))
    ≡ length (values_bytes (take k ns)) + length (values_bytes (take k ps)) + length (margins_bytes v (take k ms))
unfolding points_of
points_size v zero ns ps ms a b c = omega (arith, ap length (point_none v), ap length values_none, ap length (margin_none v))
points_size v (suc k) (n ∷ ns) (p ∷ ps) (m ∷ ms) a b c =
    omega (
      arith,
      simp length-append at (ap length (point-more v (n, (p, m)) (points_of k ns ps ms))),
      simp length-append at (ap length (value-more n (take k ns))),
      simp length-append at (ap length (value-more p (take k ps))),
      simp length-append at (ap length (margin-more v m (take k ms))),
      points_size v k ns ps ms (omega arith) (omega arith) (omega arith),
    )
points_size v (suc k) [] ps ms a b c = absurd (omega arith)
points_size v (suc k) (n ∷ ns) [] ms a b c = absurd (omega arith)
points_size v (suc k) (n ∷ ns) (p ∷ ps) [] a b c = absurd (omega arith)

pub points-length : (v : ℕ) (car : Vehicle) {k : ℕ} → k ≡ car.points → k ≤ length car.n → k ≤ length car.p → k ≤ length car.m
    → length (points_bytes v (points_of car.points car.n car.p car.m))
    ≡ length (values_bytes (take k car.n)) + length (values_bytes (take k car.p)) + length (margins_bytes v (take k car.m))
points-length v car {k} e a b c = rw (← e) (points_size v k car.n car.p car.m a b c)

-- so long is the whole vehicle
pub vehicle-length : (v : ℕ) (car : Vehicle) {g : ℕ} {eight : List ℕ} → g ≡ car.ng → g ≤ length car.ratio → eight ≡ (parts_of car).1.1.0
    → length ((vehicle v).write car)
    ≡ length ((since 3 v).write car.profile) + length (counted_bytes (take g car.ratio)) + length (values_bytes eight) + length (form car.points)
    + length (points_bytes v (points_of car.points car.n car.p car.m))
vehicle-length v car {g} a b e =
    omega (
      arith,
      simp length-append at (ap length (vehicle-bytes v car a b e)),
      length-append (form (length (take g car.ratio))) (values_bytes (take g car.ratio)),
    )

-- and a job, which has so many holds
pub job-length : (v : ℕ) (car : Vehicle) (vs hs : List ℕ) {count : ℕ} → count ≡ length (gather 0 hs)
    → length (job_bytes v car vs hs)
    ≡ length (form v) + length ((vehicle v).write car) + length (counted_bytes vs) + length (form count) + length (pairs_bytes (gather 0 hs))
job-length v car vs hs e =
    rw e
    (omega (
      arith,
      simp length-append at (ap length (job_pieces v car vs hs)),
      length-append (form (length vs)) (values_bytes vs),
    ))

-- the version of a job that passed 14 and checks 1 to 9 has one byte
pub version-length : (v : ℕ) (car : Vehicle) (vs hs : List ℕ) → checks_fault v car vs hs ≡ none → length (form v) ≡ 1
version-length v car vs hs e =
    let known = within_hi 1 3 v (writable v car vs hs e).known in
    ap length (form-one v (omega arith))
