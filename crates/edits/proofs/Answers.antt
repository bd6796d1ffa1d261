-- What is said of an edit: its row of checks begins with the opening and the second, and ends with the checks of its span.
use Rattle.rules.proofs.Offered.{ℕ, ◌+◌, ◌≤◌, ◌<◌, min, arith, ◌≡◌, refl, sym, ap, ◌∙◌, true, not, Option, List, eqb, ltb, length, set, set-get_or}
use Rattle.rules.proofs.Offered.{lt-ltb, le-ltb, eqb-true, ◌or◌, Fault, said, refuse_at, ◌orelse◌, when, not_driven, span_fault, Extent, showing, second}
use Rattle.rules.proofs.Offered.{asked_speeds, asked_holds, span, asked_fault, edit_fault, none_held, by_test, own-checks, zero_as_over, span-kept}
use Rattle.rules.specs.declared.Vehicle.{Vehicle}
use Rattle.rules.specs.declared.Summary.{Summary}
use Rattle.rules.specs.declared.Edit.{Edit}
use Rattle.rules.specs.declared.Edit.TheVariants.{Hold, Release, Mend}
use Rattle.rules.specs.declared.Refusal.{Refusal}
use Rattle.rules.specs.declared.Refusal.TheVariants.{OutsideTrace}
use Rattle.std.specs.Prelude.{Result, Ok, Err}
use Rattle.edits.specs.declared.Judged.{Judged}
use Rattle.checks.specs.Asked.{speeds_with, holds_with}
use Rattle.checks.proofs.Rows.{opening, Opened, after_opening, opening_first}
use Rattle.edits.specs.Asks.{answer_in, over_all, gear_asked, asked_of}
use Rattle.edits.proofs.Places.{lies}

-- the answer alone says what the whole says
pub said_in : (r : Result Summary Refusal) → said (answer_in r) ≡ said r
unfolding said
said_in (Ok n) = refl
said_in (Err q) = refl

-- ---- what is asked of the checks

pub asked_second : (e : Edit) (vs hs : List ℕ) → (asked_of e vs hs).second ≡ second e
unfolding asked_of second
asked_second (Hold s g) vs hs = refl
asked_second (Release s) vs hs = refl
asked_second (Mend s v) vs hs = refl

pub asked_speeds_are : (e : Edit) (vs hs : List ℕ) → speeds_with (asked_of e vs hs) vs ≡ asked_speeds e vs
unfolding asked_of asked_speeds
asked_speeds_are (Hold s g) vs hs = set-get_or vs s 0
asked_speeds_are (Release s) vs hs = set-get_or vs s 0
asked_speeds_are (Mend s v) vs hs = refl

over_all-fails : (car : Vehicle) → car.ng ≤ 10 → not_driven car over_all ≡ true
unfolding not_driven ◌or◌ over_all
over_all-fails car h = rw (lt-ltb car.ng over_all (omega arith))

-- the table's checks of that are the edit's own
own : (car : Vehicle) (e : Edit) (vs hs : List ℕ) → second e < length vs → length hs ≡ length vs → car.ng ≤ 10
    → span_fault car (asked_speeds e vs) (holds_with (asked_of e vs hs) hs) (span e vs).lo (span e vs).end ≡ asked_fault car e vs hs
unfolding asked_of gear_asked asked_speeds asked_holds span second none_held
own car (Hold s g) vs hs l n few =
    by_test (eqb g 0)
    (λ t. let z : g ≡ 0 = eqb-true g 0 t in rw (t, z) (sym (zero_as_over car vs hs s over_all l n (over_all-fails car few))))
    (λ t. rw t (sym (own-checks car (Hold s g) vs hs t)))
own car (Release s) vs hs l n few = sym (own-checks car (Release s) vs hs refl)
own car (Mend s v) vs hs l n few =
    rw (set-get_or hs s 0)
    (ap (λ (r : Extent). span_fault car (set vs s v) hs r.lo r.end) (sym (span-kept (Mend s v) vs)) ∙ sym (own-checks car (Mend s v) vs hs refl))

pub own_at : (car : Vehicle) (e : Edit) (vs hs : List ℕ) → second e < length vs → length hs ≡ length vs → car.ng ≤ 10 → {lo end : ℕ} → lo ≡ (span e vs).lo
    → end ≡ min ((span e vs).hi + 1) (length vs)
    → span_fault car (speeds_with (asked_of e vs hs) vs) (holds_with (asked_of e vs hs) hs) lo end ≡ asked_fault car e vs hs
own_at car e vs hs l n few a b = let z = (lies e vs l).end_is in rw (asked_speeds_are e vs hs, a, b, ← z) (own car e vs hs l n few)

-- ---- each way out

module _ (car : Vehicle) (e : Edit) (vs hs old : List ℕ) (n : Summary) where
  abbrev said_of : Option Fault
  said_of = edit_fault car e (showing vs hs old n)

  pub at_opening : (q : Refusal) → said {A = Unit {0}} (Err q) ≡ opening car vs hs old → said {A = Judged} (Err q) ≡ said_of
  unfolding edit_fault
  at_opening q r = opening_first car vs hs old (refuse_at 11 (when (not (ltb (second e) (length vs))) (second e)) orelse asked_fault car e vs hs) r refl refl

  pub at_second : {s : ℕ} → s ≡ second e → Opened car vs hs old → length vs ≤ s → said {A = Judged} (Err (OutsideTrace s)) ≡ said_of
  unfolding edit_fault when refuse_at ◌orelse◌ said
  at_second q O h =
      rw q (sym (after_opening (refuse_at 11 (when (not (ltb (second e) (length vs))) (second e)) orelse asked_fault car e vs hs) O
      ∙ rw (le-ltb (second e) (length vs) (omega arith))))

  pub at-span : Opened car vs hs old → second e < length vs → asked_fault car e vs hs ≡ said_of
  unfolding edit_fault when refuse_at ◌orelse◌
  at-span O h = sym (after_opening (refuse_at 11 (when (not (ltb (second e) (length vs))) (second e)) orelse asked_fault car e vs hs) O
      ∙ rw (lt-ltb (second e) (length vs) h))
