-- What the stages of the vehicle answer, one law for each way through them.
use Rattle.rules.proofs.Offered.{ℕ, zero, suc, ◌+◌, ◌-◌, ◌≤◌, zero-add, arith, ◌≡◌, ◌∙◌, List, ◌++◌, map, append-nil, length, take, drop, replicate, length-map}
use Rattle.rules.proofs.Offered.{length-replicate, length-take-le, sets, sets-eq, drop-length, leb, Fault, got, refused, hand_on, give, Form, value, known}
use Rattle.rules.proofs.Offered.{only_if, bounded, ◌then◌, seen, many, counted, version, profile, gearbox, numbers, point, curve, padded, vehicle_of, vehicle}
use Rattle.rules.proofs.Offered.{by_test, Sound, value_sound, point_sound}
use Rattle.rules.specs.declared.Vehicle.{Vehicle}
use Rattle.reading.specs.declared.Gearbox.{Gearbox}
use Rattle.reading.specs.declared.Curve.{Curve}
use Rattle.reading.specs.Progress.{used, into, gears, columns, car, car_of}
use Rattle.reading.proofs.GroupAnswers.{bounded_in}
use Rattle.reading.proofs.Steps.{joined, ext, same_value, used_gives, used_stops, many-length}

-- ---- what is read into zeros

zeros_left : (k n : ℕ) → drop {A = ℕ} k (replicate n 0) ≡ replicate (n - k) 0
zeros_left zero n = let z : n - 0 ≡ n = omega arith in rw z
zeros_left (suc k) zero = let z : 0 - suc k ≡ 0 = omega arith in rw z
zeros_left (suc k) (suc n) = let z : suc n - suc k ≡ n - k = omega arith in rw z (zeros_left k n)

into_zeros : (k : ℕ) (vs : List ℕ) → length vs ≤ k → sets (replicate k 0) 0 vs ≡ padded k vs
unfolding padded
into_zeros k vs h = sets-eq vs (replicate k 0) 0 (rw length-replicate (omega arith)) ∙ rw (zero-add, zeros_left (length vs) k)

pub all_filled : (room vs : List ℕ) → length vs ≡ length room → sets room 0 vs ≡ vs
all_filled room vs n = (rw (zero-add, n, drop-length) at (sets-eq vs room 0 (omega arith))) ∙ append-nil vs

-- ---- the vehicle's parts

-- a count, and so many parts, put to use
module _ {A B : Type 0} (count : Form ℕ) (part : Form A) (job : List ℕ) (i : ℕ) (f : List A → B) where
  pub counted_stops : {x : Fault} → refused x ≡ count.read job i → refused x ≡ used f (counted count (many part)) job i
  unfolding used counted seen ◌then◌ hand_on
  counted_stops e = rw (← e)

  module _ {v j : ℕ} (e : got v j ≡ count.read job i) where
    counted_on : used f (many part v) job j ≡ used f (counted count (many part)) job i
    unfolding used counted seen ◌then◌ hand_on
    counted_on = rw (← e) (simp joined)

    pub part_stops : {x : Fault} → refused x ≡ (many part v).read job j → refused x ≡ used f (counted count (many part)) job i
    unfolding used hand_on
    part_stops d = (rw (← d)) ∙ counted_on

    -- the parts were put into rooms, of which the use is made
    pub counted-gives : Sound part → {C : Type 0} (g : List A → C) (h : C → B) → ((l : List A) → length l ≡ v → h (g l) ≡ f l)
        → {x : C} {k : ℕ} → got x k ≡ used g (many part v) job j → got (h x) k ≡ used f (counted count (many part)) job i
    unfolding used hand_on
    counted-gives s g h same {x} {k} r =
        (rw (← r))
        ∙ (joined ((many part v).read job j) (λ l. give (g l)) (λ x. give (h x))
        ∙ (ext ((many part v).read job j) (λ l k come. rw (same l (many-length s job v j come))) ∙ counted_on))

module _ (job : List ℕ) (i : ℕ) where
  -- the profile is 0 or 1
  pub profile_in : (w : ℕ) {v j : ℕ} → got v j ≡ (profile w).read job i → v ≤ 1
  unfolding profile only_if known
  profile_in w {v} e =
      by_test (leb 3 w)
      (λ t. (bounded_in job 0 1 3 1 i (rw t at e)).1)
      (λ t. let z : v ≡ 0 = same_value (rw t at e) in omega arith)

  pub gearbox_stops : (w : ℕ) {f : Fault} → refused f ≡ (bounded (2 + w) 10 3 1).read job i → refused f ≡ used gears (gearbox w) job i
  unfolding gearbox
  gearbox_stops w e = counted_stops _ value job i gears e

  -- n is the gear count, as the index has it
  module _ (w : ℕ) {v j : ℕ} (e : got v j ≡ (bounded (2 + w) 10 3 1).read job i) {n : ℕ} (same : n ≡ v) where
    pub gears_fit : n ≤ 10
    gears_fit = let few = (bounded_in job (2 + w) 10 3 1 i e).1 in omega arith

    pub so_many_gears : length (take {A = ℕ} n (replicate 10 0)) ≡ n
    so_many_gears = length-take-le n (replicate 10 0) (gears_fit)

    pub ratio_stops : {f : Fault} → refused f ≡ (many value (length (take {A = ℕ} n (replicate 10 0)))).read job j → refused f ≡ used gears (gearbox w) job i
    unfolding gearbox
    ratio_stops d = part_stops _ value job i gears e (rw (so_many_gears, same) at d)

    pub gearbox_gives : {vs : List ℕ} {k : ℕ} → got vs k ≡ (many value (length (take {A = ℕ} n (replicate 10 0)))).read job j
        → got (record { ng = v; ratio = vs ++ drop n (replicate 10 0) }) k ≡ used gears (gearbox w) job i
    unfolding gearbox padded
    gearbox_gives d =
        counted-gives _ value job i gears e value_sound (λ l. l ++ drop n (replicate 10 0)) (λ l. record { ng = v; ratio = l })
        (λ l k. rw (k, same, zeros_left v 10)) (used_gives _ (many value v) job j (rw (so_many_gears, same) at d))

  pub curve_stops : (w : ℕ) {f : Fault} → refused f ≡ (bounded 2 64 3 11).read job i → refused f ≡ used columns (curve w) job i
  unfolding curve
  curve_stops w e = counted_stops _ (point w) job i columns e

  module _ (w : ℕ) {v j : ℕ} (e : got v j ≡ (bounded 2 64 3 11).read job i) where
    abbrev read_into : List (ℕ × (ℕ × ℕ)) → List ℕ × (List ℕ × List ℕ)
    read_into = into (replicate 64 0) (replicate 64 0) (replicate 64 0) 0

    pub points_stop : {f : Fault} → refused f ≡ used read_into (many (point w) v) job j → refused f ≡ used columns (curve w) job i
    unfolding curve
    points_stop d = part_stops _ (point w) job i columns e (used_stops read_into (many (point w) v) job j d)

    pub curve_gives : {ns ps ms : List ℕ} {k : ℕ} → got (ns, (ps, ms)) k ≡ used read_into (many (point w) v) job j
        → got (record { points = v; n = ns; p = ps; m = ms }) k ≡ used columns (curve w) job i
    unfolding curve
    curve_gives d =
        let few = (bounded_in job 2 64 3 11 i e).1 in
        counted-gives _ (point w) job i columns e (point_sound w) read_into (λ x. record { points = v; n = x.0; p = x.1.0; m = x.1.1 })
        (λ l n. rw (
          into_zeros 64 (map (λ x. x.0) l) (rw length-map (omega arith)),
          into_zeros 64 (map (λ x. x.1.0) l) (rw length-map (omega arith)),
          into_zeros 64 (map (λ x. x.1.1) l) (rw length-map (omega arith)),
          n,
        )) d

-- ---- the version and the vehicle

abbrev pub head : Form (ℕ × Vehicle)
head = version then λ v. vehicle v

-- as its parts are read
head_is : (job : List ℕ) (i : ℕ) → used car head job i
    ≡ hand_on ((bounded 1 3 14 0).read job i)
    (λ v j. hand_on ((profile v).read job j)
    (λ x h. hand_on (used gears (gearbox x) job h)
    (λ b k. hand_on ((many value 8).read job k) (λ ns l. hand_on (used columns (curve v) job l) (λ c. give (car (v, car_of x b ns c)))))))
unfolding version vehicle vehicle_of numbers seen ◌then◌ used hand_on
head_is job i = simp joined

module _ (job : List ℕ) (i : ℕ) where
  pub version_stops : {f : Fault} → refused f ≡ (bounded 1 3 14 0).read job i → refused f ≡ used car head job i
  unfolding hand_on
  version_stops e = rw (head_is, ← e)

  module _ {v j : ℕ} (e : got v j ≡ (bounded 1 3 14 0).read job i) where
    pub profile_stops : {f : Fault} → refused f ≡ (profile v).read job j → refused f ≡ used car head job i
    unfolding hand_on
    profile_stops g = rw (head_is, ← e, ← g)

    module _ {x h : ℕ} (q : got x h ≡ (profile v).read job j) where
      pub gears-stop : {f : Fault} → refused f ≡ used gears (gearbox x) job h → refused f ≡ used car head job i
      unfolding hand_on
      gears-stop g = rw (head_is, ← e, ← q, ← g)

      module _ {b : Gearbox} {k : ℕ} (g : got b k ≡ used gears (gearbox x) job h) where
        pub numbers-stop : {f : Fault} → refused f ≡ (many value 8).read job k → refused f ≡ used car head job i
        unfolding hand_on
        numbers-stop n = rw (head_is, ← e, ← q, ← g, ← n)

        module _ {ns : List ℕ} {l : ℕ} (n : got ns l ≡ (many value 8).read job k) where
          pub curve-stops : {f : Fault} → refused f ≡ used columns (curve v) job l → refused f ≡ used car head job i
          unfolding hand_on
          curve-stops c = rw (head_is, ← e, ← q, ← g, ← n, ← c)

          pub car_gives : {c : Curve} {m : ℕ} → got c m ≡ used columns (curve v) job l → got (car (v, car_of x b ns c)) m ≡ used car head job i
          unfolding hand_on
          car_gives c = rw (head_is, ← e, ← q, ← g, ← n, ← c)
