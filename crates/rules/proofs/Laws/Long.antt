-- A job is no longer than so many groups of three bytes; those, and one byte more, say all that is printed.
use Rattle.rules.proofs.Base.{ℕ, zero, suc, ◌+◌, ◌-◌, ◌*◌, ◌≤◌, ◌<◌, arith, ◌≡◌, true, false, List, length, take, leb, ltb, leb-true, ltb-true, le-leb}
use Rattle.rules.proofs.Base.{lt-leb, lt-ltb, Vehicle}
use Rattle.rules.specs.Vocabulary.{most_groups, longest_job}
use Rattle.rules.specs.Words.{◌and◌, within}
use Rattle.rules.specs.Units.{longest}
use Rattle.rules.specs.Groups.{got, hand_on, demand, form, group}
use Rattle.rules.specs.Forms.{value, checked, bounded, ◌then◌, seen, row_read, row, counted, to_the_end}
use Rattle.rules.specs.Job.{version, profile, gearbox, numbers, point, curve, vehicle, seconds, trace, one_hold, holds, stages, job, job_read}
use Rattle.rules.specs.Text.{refusal_text, program_room, printed_fault, read_text, printed}
use Rattle.rules.proofs.Laws.Words.{by_test, by_order, and_left, and_right}
use Rattle.rules.proofs.Laws.Forms.{says_now, value_sound, checked_sound, bounded_sound}
use Rattle.rules.proofs.Laws.Takes.{takes_bounded}
use Rattle.rules.proofs.Laws.Gathers.{takes_hold, hold_sound}
use Rattle.rules.proofs.Laws.Jobs.{version_sound, profile_sound, gearbox_sound, numbers_sound, vehicle_sound, trace_sound, room_seconds, room_speeds}
use Rattle.rules.proofs.Laws.Reach.{went, then_both, stop-both, Reach, group-both, value_reach, less, checked_reach, then_reach, seen_reach, many_reach}
use Rattle.rules.proofs.Laws.Reach.{counted_reach, counted-many_reach, bounded_reach, long_whole, only_if_reach}

-- ---- holds are two groups each, and their seconds rise: no more of them than seconds are left

hold_reach : (count next : ℕ) → Reach (one_hold count next) 6
unfolding one_hold
hold_reach count next = checked_reach (then_reach (checked_sound value_sound _ _ _) (checked_reach value_reach _ _ _) (λ s t. value_reach)) _ _ _

-- no second is left
past : {P : Type 0} (count next s : ℕ) → count ≤ next → leb next s and ltb s count ≡ true → P
past count next s h t = let a : next ≤ s = leb-true _ _ (and_left _ _ t) in let b : s < count = ltb-true _ _ (and_right _ _ t) in absurd (omega arith)

-- then a hold's second is looked at, and refused
past-second : (count next : ℕ) → count ≤ next → Reach (checked value (λ s. leb next s and ltb s count) 15 (λ first. first)) 0
unfolding checked value hand_on
past-second count next none_left = record {
  reach = λ alike {i} {p} h room.
      then_both (group-both alike h (omega arith)) (λ s j e l.
      by_test (leb next s and ltb s count) (λ t. past count next s none_left t) (λ t. stop-both {l = p + 0} _ _ 15 i j _ _ t t));
}

past_reach : (count next : ℕ) → count ≤ next → Reach (one_hold count next) 0
unfolding one_hold checked
past_reach count next none_left =
    checked_reach (then_reach {k = 0} (checked_sound value_sound _ _ _) (past-second count next none_left) (λ s t. past count next s none_left t.1)) _ _ _

rising_reach : (count next k : ℕ) → Reach (row (one_hold count) (λ next h. suc h.0) next k) (6 * (count - next))
unfolding row row_read
rising_reach count next zero = record { reach = λ alike {i} {p} h room. let w : i ≤ p + 6 * (count - next) = omega arith in went w }
rising_reach count next (suc k) =
    by_order next count
    (λ some_left. record {
      reach = λ {job} alike {i} {p} h room.
          then_both ((hold_reach count next).reach alike h (omega arith)) (λ x j e l.
          let y = takes_hold count next x (says_now e ((hold_sound count next).one_form job i)).taken in
          then_both ((rising_reach count (suc x.0) k).reach alike l (omega arith)) (λ b m e u. went (omega arith)));
    })
    (λ none_left. record {
      reach = λ {job} alike {i} {p} h room.
          then_both ((past_reach count next none_left).reach alike h (omega arith)) (λ x j e l.
          let y = takes_hold count next x (says_now e ((hold_sound count next).one_form job i)).taken in absurd (omega arith));
    })

holds_reach : (room count : ℕ) → count ≤ room → Reach (holds count) (3 + 6 * room)
unfolding holds
holds_reach room count h = seen_reach _ _ (counted_reach value_sound value_reach (λ k t. less {m = 6 * room} (omega arith) (rising_reach count 0 k)))

-- ---- the stages

version_reach : Reach version 1
unfolding version
version_reach = bounded_reach 1 3 14 0 (omega arith)

profile_reach : (v : ℕ) → Reach (profile v) 1
unfolding profile
profile_reach v = only_if_reach _ _ (bounded_reach 0 1 3 1 (omega arith))

gearbox_reach : (crawler : ℕ) → Reach (gearbox crawler) (1 + 10 * 3)
unfolding gearbox
gearbox_reach crawler = counted-many_reach 10 (bounded_sound _ _ _ _) (bounded_reach (2 + crawler) 10 3 1 (omega arith))
    (takes_bounded (2 + crawler) 10 3 1) value_reach

numbers_reach : Reach numbers (8 * 3)
unfolding numbers
numbers_reach = many_reach value_reach 8

point_reach : (v : ℕ) → Reach (point v) (3 + (3 + 3))
unfolding point
point_reach v = then_reach value_sound value_reach (λ n _. then_reach value_sound value_reach (λ p _. only_if_reach _ _ value_reach))

curve_reach : (v : ℕ) → Reach (curve v) (1 + 64 * 9)
unfolding curve
curve_reach v = counted-many_reach 64 (bounded_sound _ _ _ _) (bounded_reach 2 64 3 11 (omega arith)) (takes_bounded 2 64 3 11) (point_reach v)

vehicle_reach : (v : ℕ) → Reach (vehicle v) (1 + (31 + (24 + 577)))
unfolding vehicle
vehicle_reach v = seen_reach _ _
    (then_reach (profile_sound v) (profile_reach v)
    (λ c _. then_reach (gearbox_sound c) (gearbox_reach c) (λ _ _. then_reach numbers_sound numbers_reach (λ _ _. curve_reach v))))

trace_reach : (a b : ℕ) → Reach (trace a b) (3 + a * 3)
unfolding trace seconds bounded
trace_reach a b = counted-many_reach a (checked_sound (bounded_sound _ _ _ _) _ _ _) (checked_reach (checked_reach value_reach _ _ _) _ _ _)
    (room_seconds a b) value_reach

stages_reach : (a b : ℕ) → Reach (stages a b) (1 + (633 + (3 + a * 3 + (3 + 6 * a))))
unfolding stages
stages_reach a b =
    then_reach version_sound version_reach (λ v _.
    then_reach (vehicle_sound v) (vehicle_reach v) (λ _ _.
    then_reach (trace_sound a b) (trace_reach a b) (λ vs t.
    holds_reach a (length vs) (room_speeds a b vs t))))

-- Theorem, "long jobs": of a job that is longer than the longest that the card program has room for, what its first bytes say, one more than that job
-- has, is all that is printed
pub long_job : (bytes : List ℕ) → longest_job program_room < length bytes → printed (take (suc (longest_job program_room)) bytes) ≡ printed bytes
unfolding printed job_read job longest_job most_groups
long_job bytes h = rw (long_whole (seen_reach _ _ (stages_reach program_room program_room)) (suc (longest_job program_room)) (omega arith) bytes h)

-- ---- request Ten: a trace that is longer than the card program has room for

-- whether its count is over the longest trace or not, what is printed is 1 at 0
pub too_long : (bytes : List ℕ) {v : ℕ} {car : Vehicle} {i j k n : ℕ} → version.read bytes 0 ≡ got v i → (vehicle v).read bytes i ≡ got car j
    → group bytes j ≡ got n k
    → program_room < n → printed bytes ≡ refusal_text (record { no = 1; spot = 0 })
unfolding printed job_read to_the_end job seen stages ◌then◌ trace counted seconds checked bounded value hand_on demand within read_text printed_fault ◌and◌
too_long bytes {n} a b c h =
    let f : leb n program_room ≡ false = lt-leb n program_room h in
    by_order longest n
    (λ l. rw (a, b, c, le-leb 1 n (omega arith), lt-leb n longest l))
    (λ l. rw (a, b, c, le-leb 1 n (omega arith), le-leb n longest l, f))

-- a value below 16,384 takes two bytes at most
pub two_bytes_most : (n : ℕ) → n < 16384 → length (form n) ≤ 2
unfolding form
two_bytes_most n h =
    let one : 1 ≤ 2 = omega arith in
    let two : 2 ≤ 2 = omega arith in
    by_test (ltb n 128) (λ t. rw t one) (λ t. rw (t, lt-ltb n 16384 h) two)
