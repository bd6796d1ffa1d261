-- What is left to read of the job after each stage is what was asked, and what it answers there: one law for each way on.
use Rattle.std.specs.Prelude.{Ok, Err}
use Rattle.rules.proofs.Offered.{ℕ, ◌≤◌, ◌≡◌, sym, true, false, List, ◌++◌, length, length-take-le, take, drop, replicate, leb, eqb, le-leb, leb-true}
use Rattle.rules.proofs.Offered.{eq-eqb, ne_eqb, ◌and◌, longest, fault, Read, got, refused, Reader, hand_on, ◌>>=◌, ◌>>◌, give, cursor, demand, group, value}
use Rattle.rules.proofs.Offered.{checked, bounded, ◌then◌, seen, many, counted, to_the_end, seconds, trace, put, holds, Job, packed, stages, job, job_read}
use Rattle.rules.proofs.Offered.{and_left, and_right, both, value_sound}
use Rattle.rules.specs.declared.Refusal.{Refusal}
use Rattle.rules.specs.declared.Refusal.TheVariants.{RoomLength, BytesAfter}
use Rattle.reading.specs.declared.Car.{Car}
use Rattle.reading.specs.Reader.{ReadAs}
use Rattle.reading.specs.Progress.{hold_row, used, car, Comes}
use Rattle.reading.proofs.Steps.{joined, comes_by, many-length, used_stops, values, judged_comes}
use Rattle.reading.proofs.GroupAnswers.{fails, bounded_in}
use Rattle.reading.proofs.StageAnswers.{head}
use Rattle.reading.proofs.Rooms.{refused_as, filled_as, speeds_stand, holds_stand}

-- the longest trace, as the code has it
abbrev pub top : ℕ
top = 16384

-- ---- what follows each stage

module _ (job : List ℕ) (x : Car) where
  abbrev to_end : ℕ → List ℕ → List (ℕ × ℕ) → Reader Job
  to_end n vs hs = do
    end ← cursor
    demand (eqb end (length job)) 16 end
    give (record { version = x.version; vehicle = x.vehicle; speeds = vs; holds = put hs (replicate n 0) })

  abbrev to_holds : List ℕ → ℕ → Reader Job
  to_holds vs k = do
    hs ← (hold_row (length vs) k).read job
    to_end (length vs) vs hs

  abbrev to_number : List ℕ → Reader Job
  to_number vs = do
    k ← group job
    to_holds vs k

  abbrev to_speeds : ℕ → ℕ → ℕ → Reader Job
  to_speeds a b n = do
    demand (leb n a and leb n b) 2 0
    vs ← (many value n).read job
    to_number vs

on : {A : Type 0} {R : Read Job} {m : Read A} (next : A → Reader Job) {a : A} {j : ℕ} → R ≡ hand_on m next → got a j ≡ m → R ≡ next a j
unfolding hand_on
on next l e = rw (← e) at l

-- ---- the ways on, each by what was read before

module _ (job speeds holds : List ℕ) where
  abbrev asked : Read Job
  asked = job_read job (length speeds) (length holds)

  abbrev Refuses : Refusal → Type 0
  Refuses f = ReadAs job speeds holds (Err f) speeds holds

  pub in_order : asked ≡ hand_on (used car head job 0) (λ x j. hand_on ((bounded 1 top 1 0).read job j) (to_speeds job x (length speeds) (length holds)))
  unfolding job_read to_the_end job seen stages packed ◌then◌ trace counted seconds checked longest holds value used hand_on
  in_order = simp joined

  pub stops : {A : Type 0} {m : Read A} (next : A → Reader Job) → asked ≡ hand_on m next → {f : Refusal} → refused (fault f) ≡ m → Refuses f
  unfolding hand_on
  stops next l e = refused_as job speeds holds (sym (rw (← e) at l))

  pub car_stops : {f : Refusal} → refused (fault f) ≡ used car head job 0 → Refuses f
  car_stops e = stops _ in_order e

  module _ {x : Car} {j : ℕ} (a : got x j ≡ used car head job 0) where
    counting : asked ≡ hand_on ((bounded 1 top 1 0).read job j) (to_speeds job x (length speeds) (length holds))
    counting = on _ in_order a

    pub count_stops : {f : Refusal} → refused (fault f) ≡ (bounded 1 top 1 0).read job j → Refuses f
    count_stops e = stops _ counting e

    -- m is the sample count n, as the rooms are counted
    module _ {n t : ℕ} (b : got n t ≡ (bounded 1 top 1 0).read job j) {m : ℕ} (same : m ≡ n) where
      few : m ≤ top
      few = rw same (bounded_in job 1 top 1 0 j b).1

      pub no_room : (m ≤ length speeds → m ≤ length holds → ⊥) → Refuses RoomLength
      unfolding hand_on demand
      no_room h =
          let g = rw same at h in
          let r : leb n (length speeds) and leb n (length holds) ≡ false = fails _ (λ r. g (leb-true _ _ (and_left _ _ r)) (leb-true _ _ (and_right _ _ r))) in
          refused_as job speeds holds (sym (rw r at (on _ counting b)))

      module _ (v : m ≤ length speeds) (w : m ≤ length holds) where
        speeding : asked ≡ hand_on ((many value m).read job t) (to_number job x)
        unfolding hand_on demand
        speeding =
            let r : leb n (length speeds) and leb n (length holds) ≡ true = both (le-leb _ _ (rw same at v)) (le-leb _ _ (rw same at w)) in
            rw same (rw r at (on _ counting b))

        pub speeds_stop : {f : Refusal} → refused (fault f) ≡ used (λ vs. true) (many value m) job t → Refuses f
        speeds_stop e = stops _ speeding (used_stops (λ vs. true) (many value m) job t e)

        module _ {k : ℕ} (d : got true k ≡ used (λ vs. true) (many value m) job t) where
          read_speeds : got (values ((many value m).read job t)) k ≡ (many value m).read job t
          read_speeds = judged_comes (many value m) job t d

          so_many : length (values ((many value m).read job t)) ≡ m
          so_many = many-length value_sound job m t (sym read_speeds)

          pub speeds_come : Comes ((many value (length (take m speeds))).read job t)
          speeds_come = rw (length-take-le m speeds v) (comes_by read_speeds)

          numbering : asked ≡ hand_on (group job k) (to_holds job x (values ((many value m).read job t)))
          numbering = on _ speeding read_speeds

          pub number_stops : {f : Refusal} → refused (fault f) ≡ group job k → Refuses f
          number_stops e = stops _ numbering e

          -- i is the number of holds h, as the index has it
          module _ {h l : ℕ} (g : got h l ≡ group job k) {i : ℕ} (as_index : i ≡ h) where
            holding : asked ≡ hand_on ((hold_row m i).read job l) (to_end job x m (values ((many value m).read job t)))
            holding = rw as_index (rw so_many at (on _ numbering g))

            pub holds_stop : {f : Refusal} → refused (fault f) ≡ used (λ hs. true) (hold_row n i) job l → Refuses f
            holds_stop e = stops _ holding (rw same (used_stops (λ hs. true) (hold_row n i) job l e))

            module _ {z : ℕ} (q : got true z ≡ used (λ hs. true) (hold_row n i) job l) where
              judged : got true z ≡ used (λ hs. true) (hold_row m i) job l
              judged = rw same q

              read_holds : got (values ((hold_row m i).read job l)) z ≡ (hold_row m i).read job l
              read_holds = judged_comes (hold_row m i) job l judged

              pub holds_come : Comes ((hold_row (length (take m holds)) i).read job l) × (length (take m holds) ≤ top)
              holds_come = rw (length-take-le m holds w) (comes_by read_holds, few)

              pub more_bytes : (z ≡ length job → ⊥) → Refuses (BytesAfter z)
              unfolding hand_on demand
              more_bytes e = refused_as job speeds holds (sym (rw (ne_eqb _ _ e) at (on _ holding read_holds)))

              -- what was judged is put into the rooms as it was judged
              pub all_read : z ≡ length job → {vs hs : List ℕ} {r s : ℕ}
                  → got vs r ≡ (many value (length (take m speeds))).read job t
                  → got hs s ≡ used (λ hs. put hs (replicate (length (take m holds)) 0)) (hold_row (length (take m holds)) i) job l
                  → ReadAs job speeds holds (Ok (record { version = x.version; vehicle = x.vehicle; count = m })) (vs ++ drop m speeds) (hs ++ drop m holds)
              unfolding hand_on demand
              all_read e y u =
                  filled_as job speeds holds (sym (rw (eq-eqb _ _ e) at (on _ holding read_holds))) so_many
                  (speeds_stand job speeds m v t y d)
                  (holds_stand job holds m w i l u judged)
