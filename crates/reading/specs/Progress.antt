-- What the reader's own functions answer: how far reading came, and what is made of what was read.
use Rattle.std.specs.Prelude.{ℕ, suc, ◌<◌, ◌≤◌, ◌≡◌, List, map, length, pos, ◌-ℤ◌, Result, Ok, Err}
use Rattle.rules.specs.Words.{at}
use Rattle.std.proofs.lemmas.List.Edits.{sets}
use Rattle.rules.specs.declared.Vehicle.{Vehicle}
use Rattle.rules.specs.declared.Refusal.{Refusal}
use Rattle.rules.specs.declared.Refusal.TheVariants.{JobEndsEarly}
use Rattle.rules.specs.Units.{most_gears, most_points}
use Rattle.rules.specs.Refusals.{fault}
use Rattle.rules.specs.Groups.{Read, got, refused, Reader, ◌>>=◌, give}
use Rattle.rules.specs.Forms.{Form, row}
use Rattle.rules.specs.Job.{one_hold, padded}
use Rattle.reading.specs.declared.Gearbox.{Gearbox}
use Rattle.reading.specs.declared.Curve.{Curve}
use Rattle.reading.specs.declared.Car.{Car}

-- a byte of the job, and that it is there
pub record JobByte (job : List ℕ) (i r : ℕ) : Type 0 where
  pub is : r ≡ at job i
  pub small : r < 256
  pub there : i < length job

-- that byte, or that the job ends before it
abbrev pub ByteAs : List ℕ → ℕ → Result ℕ Refusal → Type 0
ByteAs job i (Ok b) = JobByte job i b
ByteAs job i (Err f) = (f ≡ JobEndsEarly (length job)) × (length job ≤ i)

-- ---- how far reading came

-- what reading as far as a place says of what was read on the way
abbrev pub reached : {A : Type 0} → Result ℕ Refusal → A → Read A
reached (Ok j) a = got a j
reached (Err f) a = refused (fault f)

-- reading that comes to its end
pub record Comes {A : Type 0} (m : Read A) : Type 0 where
  pub what : A
  pub end : ℕ
  pub comes : m ≡ got what end

-- and gives a value of one byte or two
pub record ShortGroup (m : Read ℕ) : Type 0 where
  pub there : Comes m
  pub small : there.what < 16384

-- ---- what is made of what was read

-- second and gear for each of k holds, seconds rising from 0 on
abbrev pub hold_row : ℕ → ℕ → Form (List (ℕ × ℕ))
hold_row count k = row (one_hold count) (λ next h. suc h.0) 0 k

-- what is read of a part, put to use
unfoldable pub used : {A B : Type 0} → (A → B) → Form A → List ℕ → Reader B
used f part job = do
  a ← part.read job
  give (f a)

-- n, p and m of points, from place i of three rooms on
abbrev pub into : List ℕ → List ℕ → List ℕ → ℕ → List (ℕ × (ℕ × ℕ)) → List ℕ × (List ℕ × List ℕ)
into ns ps ms i l = (sets ns i (map (λ x. x.0) l), (sets ps i (map (λ x. x.1.0) l), sets ms i (map (λ x. x.1.1) l)))

-- gear count and ratios, and point count, n, p and m, as the vehicle has them
abbrev pub gears : List ℕ → Gearbox
gears ratios = record { ng = length ratios; ratio = padded most_gears ratios }

abbrev pub columns : List (ℕ × (ℕ × ℕ)) → Curve
columns points = record {
  points = length points;
  n = padded most_points (map (λ x. x.0) points);
  p = padded most_points (map (λ x. x.1.0) points);
  m = padded most_points (map (λ x. x.1.1) points);
}

-- a version and a vehicle
abbrev pub car : ℕ × Vehicle → Car
car x = record { version = x.0; vehicle = x.1 }

-- the vehicle of this profile, of these gears, of the eight numbers between, F1 with 5,000 added, and of these columns
abbrev pub car_of : ℕ → Gearbox → List ℕ → Curve → Vehicle
car_of crawler gearbox numbers curve = record {
  ng = gearbox.ng;
  ratio = gearbox.ratio;
  idle = at numbers 0;
  rated = at numbers 1;
  nmax = at numbers 2;
  f0 = at numbers 3;
  f1 = pos (at numbers 4) -ℤ pos 5000;
  f2 = at numbers 5;
  tm = at numbers 6;
  margin = at numbers 7;
  points = curve.points;
  n = curve.n;
  p = curve.p;
  m = curve.m;
  profile = crawler;
}
