-- One edit of the screen: document 01, "One hold, the quick way", and document 02, requests Seven, Eight and Nine.
use Rattle.std.specs.Prelude.{ℕ, suc, ◌-◌, min, Bool, not, List, [], ◌∷◌, length, set, ltb, eqb, if◌then◌else◌}
use Rattle.rules.specs.Words.{Option, ◌and◌, ◌or◌, at, patch}
use Rattle.rules.specs.declared.Vehicle.{Vehicle}
use Rattle.rules.specs.declared.Summary.{Summary}
use Rattle.rules.specs.declared.Edit.{Edit}
use Rattle.rules.specs.declared.Edit.TheVariants.{Hold, Release, Mend}
use Rattle.rules.specs.Units.{moving, start, stop}
use Rattle.rules.specs.Corrections.{card_at}
use Rattle.rules.specs.Refusals.{Fault, refuse_at, ◌orelse◌, when, trace_fault, room_fault, vehicle_fault, Check, check_number, all_checks, bad, fault_of}
use Rattle.rules.specs.Refusals.{left}
use Rattle.rules.specs.Summary.{summary, updated}

-- ---- what stands on the screen, and what may be asked of it

-- Nine: "Keep beside the card a summary". One place a second in each list
pub record Screen : Type 0 where
  pub speeds : List ℕ
  pub holds : List ℕ
  pub card : List ℕ
  pub summary : Summary

-- the screen of these parts
abbrev pub showing : List ℕ → List ℕ → List ℕ → Summary → Screen
showing vs hs bytes n = record { speeds = vs; holds = hs; card = bytes; summary = n }

-- Seven: "one to hold, one to release". Eight: "Correct one speed sample". An `Edit` is `Hold` of a second and a gear, `Release` of a second, or `Mend` of a
-- second and a speed; the second that is edited
unfoldable pub second : Edit → ℕ
second (Hold s g) = s
second (Release s) = s
second (Mend s v) = s

-- Eight: "changing the speed at one second"; the speeds that are asked for
unfoldable pub asked_speeds : Edit → List ℕ → List ℕ
asked_speeds (Hold s g) vs = vs
asked_speeds (Release s) vs = vs
asked_speeds (Mend s v) vs = set vs s v

-- document 01: "a second and a gear (0 clears), the hold is written". Eight: "a hold stays in force"; the holds that are asked for
unfoldable pub asked_holds : Edit → List ℕ → List ℕ
asked_holds (Hold s g) hs = set hs s g
asked_holds (Release s) hs = set hs s 0
asked_holds (Mend s v) hs = hs

-- ---- where

-- the seconds from lo up to hi are re-worked, those from lo up to end are looked at
pub record Extent : Type 0 where
  pub lo : ℕ
  pub hi : ℕ
  pub end : ℕ

-- Eight: "the trips that hold this second or a neighbour in the new trace, the standing second before each such trip, the second itself and the second before
-- it"; looked at are "those trips with a standing second on either side, the second itself and its neighbours". At a moving second whose speed stays this is
-- document 01's "that second's trip and the standing second before it", looked at "from the standing one before the trip to the standing one after"
unfoldable pub around : List ℕ → ℕ → Extent
around ws s = record { lo = start ws s - 1; hi = stop ws (suc s); end = min (suc (stop ws (suc s))) (length ws) }

-- document 01: "for a standing second only that second is looked at" and "only its hold byte is written"
unfoldable pub hold_span : List ℕ → ℕ → Extent
hold_span vs s = if moving (at vs s) then around vs s else record { lo = s; hi = s; end = suc s }

-- each edit's, on the speeds that it asks for
unfoldable pub span : Edit → List ℕ → Extent
span (Hold s g) ws = hold_span ws s
span (Release s) ws = hold_span ws s
span (Mend s v) ws = around ws s

-- ---- what is refused

-- a check of the table fails at second i of a span that begins at lo. Seven: "holding with gear 0 is now 7", at that second
unfoldable pub fails : Edit → Vehicle → List ℕ → List ℕ → ℕ → Check → ℕ → Bool
fails (Hold s g) car ws ks lo c i = eqb g 0 and eqb (check_number c) 7 and eqb i s or bad c car ws ks lo i
fails (Release s) car ws ks lo c i = bad c car ws ks lo i
fails (Mend s v) car ws ks lo c i = bad c car ws ks lo i

-- "the checks are made in the same order, but on" the seconds of the span "and on no others": 4 to 10, of what is asked for
unfoldable pub asked_fault : Vehicle → Edit → List ℕ → List ℕ → Option Fault
asked_fault car e vs hs =
    let ws = asked_speeds e vs in
    let r = span e ws in
    fault_of (fails e car ws (asked_holds e hs) r.lo) r.lo r.end all_checks

-- 1, 2, 3; 11, second outside the trace; then 4 to 10
unfoldable pub edit_fault : Vehicle → Edit → Screen → Option Fault
edit_fault car e x =
    trace_fault x.speeds orelse room_fault x.speeds x.holds x.card orelse vehicle_fault car
    orelse refuse_at 11 (when (not (ltb (second e) (length x.speeds))) (second e)) orelse asked_fault car e x.speeds x.holds

-- ---- what is left

-- the hold or the sample is written "and the card re-worked"; Nine: "bring it up to date from the old and new speeds and bytes"
unfoldable pub asked_screen : Vehicle → Edit → Screen → Screen
asked_screen car e x =
    let ws = asked_speeds e x.speeds in
    let ks = asked_holds e x.holds in
    let new = patch x.card (span e ws).lo (span e ws).hi (card_at car ws ks) in
    record { speeds = ws; holds = ks; card = new; summary = updated x.summary (summary x.speeds x.card) (summary ws new) }

-- Eight: "written together or not at all". Nine: "a refused edit changes no count"
unfoldable pub edited : Vehicle → Edit → Screen → Screen
edited car e x = left (edit_fault car e x) x (asked_screen car e x)

-- edits one after the other, each perhaps refused
unfoldable pub after : Vehicle → List Edit → Screen → Screen
after car [] x = x
after car (e ∷ es) x = after car es (edited car e x)
