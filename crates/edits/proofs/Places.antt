-- Where an edit lies in the trace that it asks for: from a standing second, or the trace's first, up to a standing one.
use Rattle.rules.proofs.Offered.{ℕ, suc, ◌+◌, ◌-◌, ◌≤◌, ◌<◌, min, add-one, arith, ◌≡◌, ◌∙◌, ◌≢◌, false, List, length, at, moving, start, stop}
use Rattle.rules.proofs.Offered.{second, asked_speeds, Extent, around, hold_span, span, by_test, start_le, start-before, stop_le, stop-after, stop_to, trace_in}
use Rattle.rules.proofs.Offered.{length_asked, span-kept}
use Rattle.rules.specs.declared.Vehicle.{Vehicle}
use Rattle.rules.specs.declared.Edit.{Edit}
use Rattle.rules.specs.declared.Edit.TheVariants.{Hold, Release, Mend}
use Rattle.checks.specs.Checks.{Spanned}
use Rattle.checks.specs.Want.{Resting}
use Rattle.checks.proofs.Rows.{Opened, spanned, longest_is}
use Rattle.summaries.specs.Tallies.{Countable}

pub record Lies (ws : List ℕ) (r : Extent) (s : ℕ) : Type 0 where
  pub inside : s < length ws
  pub since : r.lo ≤ s
  pub order : r.lo ≤ r.hi
  pub within : r.hi ≤ length ws
  pub begins : r.lo ≢ 0 → moving (at ws r.lo) ≡ false
  pub ends : moving (at ws r.hi) ≡ false
  pub end_is : r.end ≡ min (r.hi + 1) (length ws)

around_lies : (ws : List ℕ) (s : ℕ) → s < length ws → Lies ws (around ws s) s
unfolding around
around_lies ws s h =
    let x = start_le ws s in
    let y = stop_le ws (suc s) in
    record {
      inside = h;
      since = omega arith;
      order = omega arith;
      within = stop_to ws (suc s) h;
      begins = λ z. start-before ws s (start ws s - 1) (omega arith);
      ends = stop-after ws (suc s);
      end_is = rw (add-one (stop ws (suc s)));
    }

held_lies : (ws : List ℕ) (s : ℕ) → s < length ws → Lies ws (hold_span ws s) s
unfolding hold_span
held_lies ws s h =
    by_test (moving (at ws s))
    (λ m. rw m (around_lies ws s h))
    (λ m. rw m (record { inside = h; since = omega arith; order = omega arith; within = omega arith; begins = λ z. m; ends = m; end_is = omega arith }))

pub lies : (e : Edit) (ws : List ℕ) → second e < length ws → Lies ws (span e ws) (second e)
unfolding span second
lies (Hold s g) ws h = held_lies ws s h
lies (Release s) ws h = held_lies ws s h
lies (Mend s v) ws h = around_lies ws s h

-- of the speeds that it asks for, where it lies in those that are there
pub lies_asked : (e : Edit) (vs : List ℕ) → second e < length vs → Lies (asked_speeds e vs) (span e vs) (second e)
lies_asked e vs h = let k = span-kept e vs in rw (← k) (lies e (asked_speeds e vs) (rw (length_asked e vs) h))

-- ---- what the checks ask, on the seconds from lo up to end, and what counting asks

module _ {car : Vehicle} {vs hs old : List ℕ} (O : Opened car vs hs old) (e : Edit) (h : second e < length vs) where
  module _ {lo end : ℕ} (a : lo ≡ (span e vs).lo) (b : end ≡ min ((span e vs).hi + 1) (length vs)) where
    pub spanned_at : Spanned car vs lo end
    spanned_at = let L = lies e vs h in spanned O (omega (arith, h, L.since, L.order)) (omega arith)

    pub since_at : lo ≤ second e
    since_at = let L = lies e vs h in omega (arith, L.since)

    pub resting_at : {ws : List ℕ} → ws ≡ asked_speeds e vs → Resting ws lo end
    resting_at {ws} w =
        let L = lies_asked e vs h in
        let n = length_asked e vs in
        rw w (record {
          some = omega (arith, h, L.since, L.order);
          begins = λ z. rw a (L.begins (λ y. z (a ∙ y)));
          ends = λ z. let y : end - 1 ≡ (span e vs).hi = omega (arith, L.within, n) in rw y L.ends;
        })

  pub countable_at : {lo hi : ℕ} → lo ≡ (span e vs).lo → hi ≡ (span e vs).hi → Countable vs old lo hi
  countable_at a b =
      let L = lies e vs h in
      let t = (trace_in vs O.trace).1 in
      record {
        order = omega (arith, L.order);
        in_trace = omega (arith, L.within);
        in_card = omega (arith, L.within, O.card_long);
        few = omega (arith, L.within, t, longest_is);
        ends = λ z. rw b L.ends;
      }
