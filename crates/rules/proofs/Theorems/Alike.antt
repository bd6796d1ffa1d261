-- Vehicles that are driven alike: places of the record that nothing looks at, and, with request Thirteen, a van and the car without its crawler.
use Rattle.rules.proofs.Base.{ℕ, ◌≡◌, none, List, map, Vehicle, Edit, Summary}
use Rattle.rules.specs.Units.{bad_field}
use Rattle.rules.specs.Refusals.{refuse_at, vehicle_fault, work_fault, work_card}
use Rattle.rules.specs.Edit.{Screen, edit_fault, edited}
use Rattle.rules.specs.Why.{why_fault, why}
use Rattle.rules.specs.Write.{job_bytes, write_fault, write_room}
use Rattle.rules.specs.Vocabulary.{without_crawler, up, SameUsed, up_edit, up_screen, up_reasons}
use Rattle.rules.proofs.Laws.Vehicle.{in_bounds}
use Rattle.rules.proofs.Laws.Vans.{geared_van, lower_bounds}
use Rattle.rules.proofs.Laws.GearedEdits.{edit_alike, speeds_left, holds_left, card_left}
use Rattle.rules.proofs.Laws.GearedReasons.{why_fault-up, gears-above-one, nothing-above-one, why-up}
use Rattle.rules.proofs.Laws.Unused.{work_same, work_card_same, edit_same, edited_same, bytes_same, write_same, room_same, why_fault_same, why_same}

-- ---- "Places of the vehicle record past ng and past the point count are no part of a job: nothing looks at them". Of two vehicles that differ there alone,
-- in bounds or not, for every input

module _ {car other : Vehicle} (S : SameUsed car other) where
  -- the working refuses the same, and leaves the same card
  pub unused_in_work : (vs hs old : List ℕ) → (work_fault other vs hs old ≡ work_fault car vs hs old) × (work_card other vs hs old ≡ work_card car vs hs old)
  unused_in_work vs hs old = (work_same S vs hs old, work_card_same S vs hs old)

  -- an edit of any screen, its card right or not, refuses the same, and leaves the same screen
  pub unused_in_edits : (e : Edit) (x : Screen) → (edit_fault other e x ≡ edit_fault car e x) × (edited other e x ≡ edited car e x)
  unused_in_edits e x = (edit_same S e x, edited_same S e x)

  -- the writer refuses the same, by the same length where room is short, and leaves the same bytes
  pub unused_in_writing : (v : ℕ) (vs hs room : List ℕ) → (write_fault v other vs hs room ≡ write_fault v car vs hs room)
      × (job_bytes v other vs hs ≡ job_bytes v car vs hs) × (write_room v other vs hs room ≡ write_room v car vs hs room)
  unused_in_writing v vs hs room = (write_same S v vs hs room, bytes_same S v vs hs, room_same S v vs hs room)

  -- of a second the same is refused, and the same is said
  pub unused_in_why : (vs hs : List ℕ) (s : ℕ) → (why_fault other vs hs s ≡ why_fault car vs hs s) × (why other vs hs s ≡ why car vs hs s)
  unused_in_why vs hs s = (why_fault_same S vs hs s, why_same S vs hs s)

-- ---- A van is edited as the car that it is without its crawler, each gear one higher: on any screen, its card right or not, an edit is refused as that of the
-- car, and leaves the same speeds, and holds and card one higher. The summary is the count of that card (request Nine)

pub van_edits : (van : Vehicle) → bad_field van ≡ none → van.profile ≡ 1 → (e : Edit) (x : Screen) (n : Summary)
    → let car = without_crawler van in let y = edited van (up_edit 1 e) (up_screen 1 x n) in
    (edit_fault van (up_edit 1 e) (up_screen 1 x n) ≡ edit_fault car e x)
    × (y.speeds ≡ (edited car e x).speeds)
    × (y.holds ≡ map (up 1) (edited car e x).holds)
    × (y.card ≡ map (up 1) (edited car e x).card)
unfolding vehicle_fault refuse_at
van_edits van ok crawls e x n =
    let G = geared_van van crawls (in_bounds van ok) in
    let a : vehicle_fault (without_crawler van) ≡ none = rw (lower_bounds van crawls ok) in
    let b : vehicle_fault van ≡ none = rw ok in
    (edit_alike G a b e x n, speeds_left G a b e x n, holds_left G a b e x n, card_left G a b e x n)

-- and what is said of a second names each gear one higher, with the facts of each gear one place higher and none of the crawler
pub van_why : (van : Vehicle) → bad_field van ≡ none → van.profile ≡ 1 → (vs hs : List ℕ) (s : ℕ)
    → let car = without_crawler van in
    (why_fault van vs (map (up 1) hs) s ≡ why_fault car vs hs s) × (why van vs (map (up 1) hs) s ≡ up_reasons 1 (why car vs hs s))
unfolding vehicle_fault refuse_at
van_why van ok crawls vs hs s =
    let G = geared_van van crawls (in_bounds van ok) in
    let low_ok = lower_bounds van crawls ok in
    let a : vehicle_fault (without_crawler van) ≡ none = rw low_ok in
    let b : vehicle_fault van ≡ none = rw ok in
    (why_fault-up G a b vs hs s, why-up G a b vs hs s (gears-above-one (in_bounds (without_crawler van) low_ok) G) nothing-above-one)
