-- The job's form keeps the law of forms; which jobs it takes.
use Rattle.rules.proofs.Base.{ℕ, ◌-◌, ◌≤◌, arith, ◌≡◌, refl, sym, ap, ◌∙◌, List, [], ◌∷◌, ◌++◌, map, leb-true, length, replicate, length-append}
use Rattle.rules.proofs.Base.{drop_of_length-le, take-append_seam, drop-cons, pos, -ℤ-+ℤ_cancel}
use Rattle.rules.specs.Words.{at, table}
use Rattle.rules.specs.Units.{longest}
use Rattle.rules.specs.Groups.{Read, got, refused}
use Rattle.rules.specs.Forms.{checked, ◌then◌, seen, row, many, counted}
use Rattle.rules.specs.Job.{version, profile, gearbox, numbers, point, curve, seconds, trace, padded, points_of, JobParts, vehicle_of, parts_of, vehicle}
use Rattle.rules.specs.Job.{Job, packed, fields, stages, job, job_read, job_of}
use Rattle.rules.proofs.Laws.Words.{table_at, and_left}
use Rattle.rules.proofs.Laws.Forms.{Says, told, Sound, seen_sound, sounds, whole_says}
use Rattle.rules.proofs.Laws.Takes.{takes_bounded}
use Rattle.rules.proofs.Laws.Gathers.{holds_sound, takes_holds}

-- ---- the vehicle of its parts

-- what was padded, cut again
cut : (k : ℕ) (l : List ℕ) → table (at (padded k l)) 0 (length l) ≡ l
unfolding padded
cut k l =
    let r : List ℕ = replicate (k - length l) 0 in
    table_at (l ++ r) (length l) 0 (rw length-append (omega arith)) ∙ take-append_seam l r

-- n, p and m of points, whatever follows them
points_back : (l : List (ℕ × (ℕ × ℕ))) (r s t : List ℕ) → points_of (length l) (map (λ x. x.0) l ++ r) (map (λ x. x.1.0) l ++ s) (map (λ x. x.1.1) l ++ t)
    ≡ l
unfolding points_of
points_back [] r s t = refl
points_back (x ∷ l) r s t = ap (λ (m : List (ℕ × (ℕ × ℕ))). x ∷ m) (points_back l r s t)

-- a list of eight by its places
eight : (l : List ℕ) → length l ≡ 8 → at l 0 ∷ at l 1 ∷ at l 2 ∷ at l 3 ∷ at l 4 ∷ at l 5 ∷ at l 6 ∷ at l 7 ∷ [] ≡ l
eight l e =
    sym (drop-cons l 0 0 (omega arith)
    ∙ rw (
      drop-cons l 1 0 (omega arith),
      drop-cons l 2 0 (omega arith),
      drop-cons l 3 0 (omega arith),
      drop-cons l 4 0 (omega arith),
      drop-cons l 5 0 (omega arith),
      drop-cons l 6 0 (omega arith),
      drop-cons l 7 0 (omega arith),
      drop_of_length-le l {i = 8} (omega arith),
    ))

pub parts_back : (x : JobParts) → length x.1.1.0 ≡ 8 → parts_of (vehicle_of x) ≡ x
unfolding parts_of vehicle_of padded
parts_back (crawler, (ratios, (values, points))) e = rw (cut 10 ratios, -ℤ-+ℤ_cancel (pos (at values 4)) (pos 5000), eight values e, points_back points)

-- ---- each stage keeps the law

pub version_sound : Sound version
unfolding version
version_sound = search sounds

pub profile_sound : (v : ℕ) → Sound (profile v)
unfolding profile
profile_sound v = search sounds

pub gearbox_sound : (crawler : ℕ) → Sound (gearbox crawler)
unfolding gearbox
gearbox_sound crawler = search sounds

pub numbers_sound : Sound numbers
unfolding numbers
numbers_sound = search sounds

pub point_sound : (v : ℕ) → Sound (point v)
unfolding point
point_sound v = search sounds

pub curve_sound : (v : ℕ) → Sound (curve v)
unfolding curve
curve_sound v = search (sounds, point_sound)

pub vehicle_sound : (v : ℕ) → Sound (vehicle v)
unfolding vehicle ◌then◌ numbers many row
vehicle_sound v = seen_sound vehicle_of parts_of (search (sounds, profile_sound, gearbox_sound, numbers_sound, curve_sound))
    (λ x t. parts_back x t.1.1.0.1)

pub trace_sound : (speeds-room holds-room : ℕ) → Sound (trace speeds-room holds-room)
unfolding trace seconds
trace_sound speeds-room holds-room = search sounds

pub stages_sound : (speeds-room holds-room : ℕ) → Sound (stages speeds-room holds-room)
unfolding stages
stages_sound speeds-room holds-room = search (sounds, version_sound, vehicle_sound, trace_sound, holds_sound) depth 12

pub job_sound : (speeds-room holds-room : ℕ) → Sound (job speeds-room holds-room)
unfolding job packed fields
job_sound speeds-room holds-room = seen_sound packed fields (stages_sound speeds-room holds-room) (λ x t. refl)

-- ---- what was read has as many holds as speeds, and no more than the longest trace has

pub few_seconds : (a b k : ℕ) → (seconds a b).Takes k → k ≤ longest
unfolding seconds checked
few_seconds a b k t = takes_bounded 1 longest 1 0 k t.0

pub few_speeds : (a b : ℕ) (speeds : List ℕ) → (trace a b).Takes speeds → length speeds ≤ longest
unfolding trace counted seen ◌then◌
few_speeds a b speeds t = few_seconds a b (length speeds) t.0.0

pub record Even (j : Job) : Type 0 where
  pub even : length j.holds ≡ length j.speeds
  pub few : length j.speeds ≤ longest

takes_even : (a b : ℕ) (j : Job) → (job a b).Takes j → Even j
unfolding job seen stages fields ◌then◌
takes_even a b j t = record { even = takes_holds (length j.speeds) j.holds t.0.1.1.1; few = few_speeds a b j.speeds t.0.1.1.0 }

even_of : (a b : ℕ) (r : Read Job) {P : Job → Type 0} → Says (λ j _. (job a b).Takes j × P j) r → Even (job_of r)
unfolding job_of
even_of a b (got j end) (told t) = takes_even a b j t.0
even_of a b (refused f) s = record { even = refl; few = omega arith }

-- of every job: where it is refused it has no seconds
pub job_even : (bytes : List ℕ) (a b : ℕ) → Even (job_of (job_read bytes a b))
unfolding job_read
job_even bytes a b = even_of a b _ (whole_says (job_sound a b) bytes)

-- ---- and no more seconds than the room for speeds has

pub room_seconds : (a b k : ℕ) → (seconds a b).Takes k → k ≤ a
unfolding seconds checked
room_seconds a b k t = leb-true _ _ (and_left _ _ t.1)

pub room_speeds : (a b : ℕ) (speeds : List ℕ) → (trace a b).Takes speeds → length speeds ≤ a
unfolding trace counted seen ◌then◌
room_speeds a b speeds t = room_seconds a b (length speeds) t.0.0

room_of : (a b : ℕ) (r : Read Job) {P : Job → Type 0} → Says (λ j _. (job a b).Takes j × P j) r → length (job_of r).speeds ≤ a
unfolding job_of job seen stages fields ◌then◌
room_of a b (got j end) (told t) = room_speeds a b j.speeds t.0.0.1.1.0
room_of a b (refused f) s = omega arith

pub job_room : (bytes : List ℕ) (a b : ℕ) → length (job_of (job_read bytes a b)).speeds ≤ a
unfolding job_read
job_room bytes a b = room_of a b _ (whole_says (job_sound a b) bytes)
