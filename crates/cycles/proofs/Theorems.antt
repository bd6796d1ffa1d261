-- What a reader of request Three may conclude of the cycle and of the two calls, each by name.
use Rattle.rules.proofs.Offered.{ℕ, suc, ◌+◌, ◌-◌, ◌≤◌, ◌<◌, arith, ◌≡◌, refl, sym, ap, ◌∙◌, false, none, some, List, [], ◌++◌, lit<, lit≤, length, drop}
use Rattle.rules.proofs.Offered.{length-append, length-drop, take-append-le, drop-append-le, drop-append_seam}
use Rattle.rules.proofs.Offered.{◌or◌, at, part, longest, moving, filled, Fault, said, left}
use Rattle.rules.specs.Determined.{Promises}
use Rattle.rules.specs.declared.Vehicle.{Vehicle}
use Rattle.rules.specs.Refusals.{Answer}
use Rattle.cycles.specs.Cycle.{cycle, low_phase, medium_phase, high_phase, extra_high_phase, speed_sum}
use Rattle.cycles.specs.Parts.{trace_checks, first_second, last_second, fill_fault, fill_room, part_seconds}
use Rattle.cycles.proofs.Stretches.{by_fault, ordered, at_ends, accepted, accepted_part, accepted_room}
use Rattle.cycles.proofs.Table.{boundary, length-cycle, slow, Near, near, rests}
use Rattle.cycles.proofs.Demands.{Filled}
use Rattle.cycles.proofs.Drives.{Driven, passes, driven_part}
use Rattle.cycles.proofs.parts.part_of.Kinds as part-kinds
use Rattle.cycles.proofs.parts.part_of.Reads as part-reads

-- ---- the table

-- the sums of Table A1/13, in tenths: 11140.3, 17121.2, 25782.2 and 29714.9
pub sums : (speed_sum low_phase ≡ 111403) × (speed_sum medium_phase ≡ 171212) × (speed_sum high_phase ≡ 257822) × (speed_sum extra_high_phase ≡ 297149)
unfolding speed_sum low_phase medium_phase high_phase extra_high_phase
sums = (refl, refl, refl, refl)

-- 1,801 seconds, every speed at most 2,000, every step at most 150
pub whole : length cycle ≡ 1801
whole = length-cycle

pub never_fast : (i : ℕ) → i < 1801 → at cycle i ≤ 2000
never_fast i h = slow i (rw length-cycle h)

pub never_steep : (i : ℕ) → suc i < 1801 → Near (at cycle i) (at cycle (suc i))
never_steep i h = near i (rw length-cycle h)

-- at rest at 0, 589, 1022, 1477 and 1800: where a part begins and where it ends
pub parts_rest : (p : ℕ) → p ≤ 4 → (moving (at cycle (first_second p)) ≡ false) × (moving (at cycle (last_second p)) ≡ false)
unfolding boundary ◌or◌
parts_rest p h =
    at_ends (λ i. moving (at cycle i) ≡ false)
    (rests 0 (rw length-cycle (lit< tt)) refl)
    (rests 589 (rw length-cycle (lit< tt)) refl)
    (rests 1022 (rw length-cycle (lit< tt)) refl)
    (rests 1477 (rw length-cycle (lit< tt)) refl)
    (rests 1800 (rw length-cycle (lit< tt)) refl) p h

-- the four parts take 589, 433, 455 and 323 seconds
pub parts_take : (last_second 1 - first_second 1 ≡ 589) × (last_second 2 - first_second 2 ≡ 433) × (last_second 3 - first_second 3 ≡ 455)
    × (last_second 4 - first_second 4 ≡ 323)
unfolding first_second last_second
parts_take = (refl, refl, refl, refl)

pub cycle_driven : Driven cycle
unfolding longest first_second last_second
cycle_driven = record {
  some_second = rw length-cycle (lit≤ tt);
  not_long = rw length-cycle (lit≤ tt);
  slow_at = slow;
  near_at = near;
  begins = (parts_rest 0 (lit≤ tt)).0;
  comes_to_rest = rw length-cycle (parts_rest 0 (lit≤ tt)).1;
}

-- the table passes checks 1, 4, 5 and 6, for every vehicle and whatever is held
pub cycle_passes : (car : Vehicle) (hs : List ℕ) → trace_checks car cycle hs ≡ none
cycle_passes car hs = passes cycle_driven car hs

-- ---- a part of the table

pub part_driven : (p : ℕ) → p ≤ 4 → Driven (part cycle (first_second p) (last_second p + 1))
part_driven p h = driven_part cycle_driven (first_second p) (last_second p) (ordered p).0 (omega (arith, (ordered p).1, length-cycle)) (parts_rest p h).0
    (parts_rest p h).1

-- ---- the two calls

-- what the contract of `part_of` says: the part that is handed back
pub record HandedBack (p : ℕ) (room r : List ℕ) : Type 0 where
  pub part_back : r ≡ part_seconds p room

pub part_says : Promises part-kinds.ps part-kinds.r part-reads.Asked part-reads.Learnt
    (λ κs a z ws. HandedBack a.1.0 (a.0.now) (z.now))
part_says κs a asked z ws p = record { part_back = p }

-- a part that lies in the first of two lists
part_front : (xs ys : List ℕ) (a e : ℕ) → a ≤ e → e ≤ length xs → part (xs ++ ys) a e ≡ part xs a e
part_front xs ys a e l h = rw (drop-append-le a xs ys (omega arith), take-append-le (e - a) (drop a xs) ys (simp length-drop (omega arith)))

-- the part of a room that was filled is the table's
same_part : (p : ℕ) (room : List ℕ) → fill_fault p (length room) ≡ none → part_seconds p (fill_room p room) ≡ part cycle (first_second p) (last_second p + 1)
unfolding fill_room left filled part_seconds
same_part p room e =
    let n : 1801 ≤ length room = accepted_room p (length room) e in
    let l : 1801 ≤ length (cycle ++ drop (length cycle) room) = omega (arith, length-append cycle (drop (length cycle) room), length-cycle) in
    let h : last_second p + 1 ≤ length cycle = omega (arith, (ordered p).1, length-cycle) in
    rw (e, accepted p _ (accepted_part p (length room) e) l)
    (part_front cycle (drop (length cycle) room) (first_second p) (last_second p + 1) (omega (arith, (ordered p).0)) h)

module _ {p : ℕ} {room : List ℕ} {z : Answer} {new r : List ℕ} (F : Filled p room z new) (T : HandedBack p new r) where
  -- after a filling that was accepted the part is the table's ..
  pub filled-part : said z ≡ none → r ≡ part cycle (first_second p) (last_second p + 1)
  filled-part e = T.part_back ∙ ap (part_seconds p) F.room_left ∙ same_part p room (sym F.answer ∙ e)

  -- .. begins and ends at rest ..
  pub part-rests : said z ≡ none → (moving (at r 0) ≡ false) × (moving (at r (length r - 1)) ≡ false)
  part-rests e = let d = part_driven p (accepted_part p (length room) (sym F.answer ∙ e)) in rw (filled-part e) (d.begins, d.comes_to_rest)

  -- .. and passes the trace's checks by itself
  pub part_passes : said z ≡ none → (car : Vehicle) (hs : List ℕ) → trace_checks car r hs ≡ none
  part_passes e car hs = rw (filled-part e) (passes (part_driven p (accepted_part p (length room) (sym F.answer ∙ e))) car hs)

  -- after a refusal the room is as it was, and the part is empty
  pub nothing-filled : (q : Fault) → said z ≡ some q → (new ≡ room) × (r ≡ [])
  unfolding fill_room part_seconds left
  nothing-filled q e =
      let f : fill_fault p (length room) ≡ some q = sym F.answer ∙ e in
      let same : new ≡ room = F.room_left ∙ rw f in
      (same, T.part_back ∙ rw (same, f))

-- whatever is answered, the room beyond the cycle is as it was
pub beyond : {p : ℕ} {room : List ℕ} {z : Answer} {new : List ℕ} → Filled p room z new → drop (length cycle) new ≡ drop (length cycle) room
unfolding fill_room left filled
beyond {p} {room} F =
    ap (drop (length cycle)) F.room_left
    ∙ by_fault (λ f. drop (length cycle) (left f room (filled room cycle)) ≡ drop (length cycle) room) (fill_fault p (length room))
    (drop-append_seam cycle (drop (length cycle) room)) (λ q. refl)
