-- An edit judged: where it is refused the screen is left as it was, and where it is not, carrying it out asks what was judged and leaves the screen of the
-- definitions. One law each for the three edits.
use Rattle.rules.proofs.Offered.{ℕ, suc, ◌-◌, ◌<◌, min, add-one, arith, ◌≡◌, refl, sym, ap, ◌∙◌, inl, none, List, length, patch}
use Rattle.rules.proofs.Offered.{card_at, fault, said, span_fault}
use Rattle.rules.proofs.Offered.{summary, Screen, Extent, showing, second, asked_speeds, asked_holds, span, asked_fault, edit_fault, asked_screen, edited}
use Rattle.rules.proofs.Offered.{by_order, Taken, taken, trace_in, rooms_in, vehicle_in, length_asked, length-holds, refused_alone, taken_asked, span_passes}
use Rattle.rules.proofs.Offered.{span-kept, counts_by_range}
use Rattle.rules.specs.declared.Vehicle.{Vehicle}
use Rattle.rules.specs.declared.Summary.{Summary}
use Rattle.rules.specs.declared.Edit.{Edit}
use Rattle.rules.specs.declared.Refusal.{Refusal}
use Rattle.std.specs.Prelude.{Result, Ok, Err}
use Rattle.std.specs.Result.{result_unwrap_or}
use Rattle.checks.proofs.Rows.{Opened, said_none, longest_is}
use Rattle.cards.specs.Rework.{Range, Passes}
use Rattle.cards.proofs.Reworking.{ends_stand}
use Rattle.summaries.specs.Tallies.{Countable}
use Rattle.summaries.proofs.Counting.{ten_of}
use Rattle.edits.specs.declared.Judged.{Judged}
use Rattle.edits.specs.Asks.{Clear, Carries, CarriedOut}
use Rattle.edits.proofs.Places.{lies_asked}

-- what its own checks passed is what the sweep asks for
pub passes_at : (car : Vehicle) (e : Edit) (vs hs : List ℕ) → second e < length vs → asked_fault car e vs hs ≡ none
    → Passes car (asked_speeds e vs) (asked_holds e hs) (span e vs).lo (span e vs).hi
passes_at car e vs hs l ok =
    let L = lies_asked e vs l in
    let z : min (suc (span e vs).hi) (length (asked_speeds e vs)) ≡ (span e vs).end = sym (L.end_is ∙ rw (add-one (span e vs).hi)) in
    rw z (ap (λ (r : Extent). span_fault car (asked_speeds e vs) (asked_holds e hs) r.lo r.end) (sym (span-kept e vs)) ∙ span_passes car e vs hs l ok)

-- an answer with the summary that it brings, and the lists of a screen as an edit leaves them
pub record Leaves (car : Vehicle) (e : Edit) (x : Screen) (r : Result Summary Refusal) (vs hs bytes : List ℕ) : Type 0 where
  pub answer : said r ≡ edit_fault car e x
  pub summary : result_unwrap_or r x.summary ≡ (edited car e x).summary
  pub speeds : vs ≡ (edited car e x).speeds
  pub holds : hs ≡ (edited car e x).holds
  pub card : bytes ≡ (edited car e x).card

-- a refusal leaves the screen as it was
pub refused-left : (car : Vehicle) (e : Edit) (vs hs old : List ℕ) (n : Summary) (q : Refusal)
    → said {A = Judged} (Err q) ≡ edit_fault car e (showing vs hs old n)
    → Leaves car e (showing vs hs old n) (Err q) vs hs old
unfolding said
refused-left car e vs hs old n q r =
    let z = sym (refused_alone car e (showing vs hs old n) (fault q) (sym r)) in
    record {
      answer = r;
      summary = ap (λ (x : Screen). x.summary) z;
      speeds = ap (λ (x : Screen). x.speeds) z;
      holds = ap (λ (x : Screen). x.holds) z;
      card = ap (λ (x : Screen). x.card) z;
    }

-- an edit of a screen that was judged, and not refused
module _ {car : Vehicle} {e : Edit} {vs hs old powers : List ℕ} (j : Judged) (J : (n : Summary) → said (Ok j) ≡ edit_fault car e (showing vs hs old n))
    (R : Clear car e vs hs old j powers) where
  accepted_at : (n : Summary) → edit_fault car e (showing vs hs old n) ≡ none
  accepted_at n = said_none (J n) refl

  its : Taken car e (showing vs hs old (summary vs old))
  its = taken car e _ (accepted_at _)

  opened_at : Opened car vs hs old
  opened_at =
      let l = rooms_in vs hs old its.room in
      record { trace = its.trace; room = its.room; vehicle = its.vehicle; holds_long = l.0; card_long = l.1; bounds = vehicle_in car its.vehicle }

  pub in_trace_at : second e < length vs
  in_trace_at = its.in_trace

  pub in_holds_at : second e < length hs
  in_holds_at = omega (arith, in_trace_at, opened_at.holds_long)

  range_at : Range (asked_speeds e vs) (asked_holds e hs) old j.range.lo j.range.hi
  range_at =
      let L = lies_asked e vs in_trace_at in
      let O = opened_at in
      let k = length_asked e vs in
      let z = L.end_is in
      rw (R.from, R.to) (record {
        holds = length-holds e hs ∙ O.holds_long ∙ sym k;
        room = O.card_long ∙ sym k;
        order = L.order;
        inside = L.within;
        begins = by_order 0 (span e vs).lo
            (λ w. L.begins (λ y. omega arith))
            (λ w. ends_stand car (asked_speeds e vs) (asked_holds e hs) (span e vs).lo (min (suc (span e vs).hi) (length (asked_speeds e vs)))
            R.passes (span e vs).lo (omega arith) (omega (arith, L.inside, L.since, L.order)) (inl (omega arith)));
        ends = L.ends;
      })

  -- the seconds can be counted again
  countable_again : (new : List ℕ) → length new ≡ length old → Countable (asked_speeds e vs) new j.range.lo j.range.hi
  countable_again new n =
      let L = lies_asked e vs in_trace_at in
      let k = length_asked e vs in
      let t = (trace_in vs its.trace).1 in
      rw (R.from, R.to) (record {
        order = L.order;
        in_trace = L.within;
        in_card = omega (arith, n, opened_at.card_long, k, L.within);
        few = omega (arith, longest_is, t, k, L.within);
        ends = λ z. L.ends;
      })

  -- what carrying it out asks, of the speeds and the holds that it asks for
  pub carries_at : Carries car (asked_speeds e vs) (asked_holds e hs) old j
  carries_at = record { reworkable = range_at; passes = rw (R.from, R.to) R.passes; countable = countable_again }

  -- ---- what is left

  left_at : (n : Summary) → edited car e (showing vs hs old n) ≡ asked_screen car e (showing vs hs old n)
  left_at n = taken_asked car e (showing vs hs old n) (accepted_at n)

  pub carried_at : {n r : Summary} {new : List ℕ} → CarriedOut car (asked_speeds e vs) (asked_holds e hs) old j n r new
      → Leaves car e (showing vs hs old n) (Ok r) (asked_speeds e vs) (asked_holds e hs) new
  unfolding asked_screen said
  carried_at {n} {r} {new} c =
      let a = (span e vs).lo in
      let k = (span e vs).hi - (span e vs).lo in
      let speeds : asked_speeds e vs ≡ (edited car e (showing vs hs old n)).speeds = sym (ap (λ (w : Screen). w.speeds) (left_at n)) in
      let card : new ≡ (edited car e (showing vs hs old n)).card = c.reworked
      ∙ rw (R.from, R.to) (ap (λ (r : Extent). patch old r.lo r.hi (card_at car (asked_speeds e vs) (asked_holds e hs))) (sym (span-kept e vs)))
      ∙ sym (ap (λ (w : Screen). w.card) (left_at n)) in
      record {
        answer = J n;
        summary = c.recounted ∙ rw (R.from, R.to, R.counted_are, ten_of vs old a k, ten_of (asked_speeds e vs) new a k, speeds, card)
            (sym (counts_by_range car e (showing vs hs old n) (accepted_at n)));
        speeds = speeds;
        holds = sym (ap (λ (w : Screen). w.holds) (left_at n));
        card = card;
      }
