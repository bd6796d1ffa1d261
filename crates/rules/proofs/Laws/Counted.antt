-- Request Nine: an edit brings the summary up to date from the seconds that it re-works, and each second of a right card is counted once.
use Rattle.rules.proofs.Base.{ℕ, zero, suc, ◌+◌, ◌-◌, ◌≤◌, ◌<◌, ◌%◌, zero-add, arith, ◌≡◌, refl, sym, ap, ◌∙◌, inl, inr, true, false, none, List, []}
use Rattle.rules.proofs.Base.{◌∷◌, eqb, length, eq-eqb, ne_eqb, eqb-true, eqb-false, Vehicle, Summary, Edit, Hold, Release, Mend}
use Rattle.rules.specs.Words.{◌and◌, at, part, table, patch}
use Rattle.rules.specs.Units.{low, moving, start, stop, longest}
use Rattle.rules.specs.Corrections.{gear_at, card_at, card, shown}
use Rattle.rules.specs.Edit.{Screen, Extent, second, asked_speeds, asked_holds, around, span, edit_fault, asked_screen, edited, after}
use Rattle.rules.specs.Summary.{tally, rests, drives, summary, updated}
use Rattle.rules.specs.Vocabulary.{Counted, total, seconds_in}
use Rattle.rules.proofs.Laws.Words.{by_test, by_order, by_eq, patch_none, at_table}
use Rattle.rules.proofs.Laws.Trips.{start_le, start-before, stop_le, stop-after, stop_to}
use Rattle.rules.proofs.Laws.Checks.{Accepted, taken, trace_in, rooms_in, vehicle_in, by_fault}
use Rattle.rules.proofs.Laws.Limits.{floor-low}
use Rattle.rules.proofs.Laws.Cards.{fit_of, gear_in_range, byte_gear}
use Rattle.rules.proofs.Laws.Span.{span-kept}
use Rattle.rules.proofs.Laws.Edits.{by_kind, refused_alone, taken_asked, speeds_frame, length-edited, card-around}
use Rattle.rules.proofs.Laws.Summary.{one, counts, at-gears, updated_ext, Changed, updated-span, skips, counts_part, updated_right}

-- ---- an edit

module _ (car : Vehicle) (e : Edit) (x : Screen) where
  -- an edit that is not refused is of a trace of the longest at most
  short : edit_fault car e x ≡ none → length x.speeds ≤ 65535
  unfolding longest
  short ok = let n = trace_in x.speeds (taken car e x ok).trace in omega arith

  -- the stretch that it may change: the trips next to the second
  edit_changed : second e < length x.speeds
      → Changed x.speeds x.card (edited car e x).speeds (edited car e x).card (start x.speeds (second e)) (stop x.speeds (suc (second e)))
  edit_changed l =
      let a = start_le x.speeds (second e) in
      let b = stop_le x.speeds (suc (second e)) in
      record {
        speeds = length-edited car e x;
        in_trace = stop_to x.speeds (suc (second e)) l;
        rest = record { order = omega arith; before = start-before x.speeds (second e); after = stop-after x.speeds (suc (second e)) };
        speed_at = λ i o. speeds_frame car e x i (λ z. elim o [ inl c ↦ omega arith | inr c ↦ omega arith ]);
        byte_at = λ i o. card-around car e x i o;
      }

  -- the second after the stretch still stands
  still_rests : moving (at (edited car e x).speeds (stop x.speeds (suc (second e)))) ≡ false
  still_rests =
      let y = stop_le x.speeds (suc (second e)) in
      rw (speeds_frame car e x (stop x.speeds (suc (second e))) (omega arith)) (stop-after x.speeds (suc (second e)))

  -- where it is not refused
  whole_counts : edit_fault car e x ≡ none
      → (edited car e x).summary ≡ updated x.summary (summary x.speeds x.card) (summary (edited car e x).speeds (edited car e x).card)
  unfolding asked_screen
  whole_counts ok = rw (taken_asked car e x ok)

  -- brought up to date from the old and new speeds and bytes of the stretch
  pub counts_by_part : edit_fault car e x ≡ none
      → let lo = start x.speeds (second e) in let hi = stop x.speeds (suc (second e)) in
      (edited car e x).summary
      ≡ updated x.summary (summary (part x.speeds lo hi) (part x.card lo hi))
      (summary (part (edited car e x).speeds lo hi) (part (edited car e x).card lo hi))
  counts_by_part ok =
      let l = (taken car e x ok).in_trace in
      let lo = start x.speeds (second e) in
      let hi = stop x.speeds (suc (second e)) in
      let n = stop_to x.speeds (suc (second e)) l in
      let k = length-edited car e x in
      whole_counts ok ∙ updated-span (edit_changed l) x.summary ∙ rw (
        counts_part x.speeds x.card lo hi n (stop-after x.speeds (suc (second e))),
        counts_part (edited car e x).speeds (edited car e x).card lo hi (rw k n) still_rests,
      )

  -- and so from the counts of the seconds that the edit re-works
  around_counts : second e < length x.speeds
      → (edited car e x).summary ≡ updated x.summary (summary x.speeds x.card) (summary (edited car e x).speeds (edited car e x).card)
      → let r = around x.speeds (second e) in
      (edited car e x).summary ≡ updated x.summary (counts x.speeds x.card r.lo (r.hi - r.lo))
      (counts (edited car e x).speeds (edited car e x).card r.lo (r.hi - r.lo))
  unfolding around
  around_counts l w =
      let a = start x.speeds (second e) in
      let b = stop x.speeds (suc (second e)) in
      let C = edit_changed l in
      by_order 0 a
      (λ p.
      let k : a ≡ suc (a - 1) = omega arith in
      let n : b - (a - 1) ≡ suc (b - a) = let y = stop_le x.speeds (suc (second e)) in let z = start_le x.speeds (second e) in omega arith in
      w ∙ updated-span C x.summary
      ∙ rw n (sym (skips x.summary x.speeds x.card (edited car e x).speeds (edited car e x).card (a - 1) (b - a) (C.rest.before (a - 1) (sym k))
      (C.speed_at (a - 1) (inl (omega arith)))
      ∙ ap (λ (i : ℕ). updated x.summary (counts x.speeds x.card i (b - a)) (counts (edited car e x).speeds (edited car e x).card i (b - a)))
      (sym k))))
      (λ p. let k : a - 1 ≡ a = omega arith in
      w ∙ updated-span C x.summary
      ∙ ap (λ (i : ℕ). updated x.summary (counts x.speeds x.card i (b - i)) (counts (edited car e x).speeds (edited car e x).card i (b - i)))
      (sym k))

  pub counts_right : Counted x → Counted (edited car e x)
  counts_right right =
      by_fault (edit_fault car e x)
      (λ ok. whole_counts ok
      ∙ ap (λ (m : Summary). updated m (summary x.speeds x.card) (summary (edited car e x).speeds (edited car e x).card)) right
      ∙ updated_right x.speeds x.card (edited car e x).speeds (edited car e x).card (rw (length-edited car e x) (short ok)))
      (λ q z. rw (refused_alone car e x q z) right)

-- where no second is re-worked, no speed is asked for, and no byte changes
speeds_still : (e : Edit) (vs : List ℕ) → (span e vs).lo ≡ (span e vs).hi → asked_speeds e vs ≡ vs
unfolding asked_speeds span around
speeds_still (Hold s g) vs k = refl
speeds_still (Release s) vs k = refl
speeds_still (Mend s v) vs k = let a = start_le vs s in let b = stop_le vs (suc s) in absurd (omega arith)

card_still : (car : Vehicle) (e : Edit) (x : Screen) → (span e x.speeds).lo ≡ (span e x.speeds).hi → (asked_screen car e x).card ≡ x.card
unfolding asked_screen
card_still car e x k =
    let f = card_at car (asked_speeds e x.speeds) (asked_holds e x.holds) in
    ap (λ (r : Extent). patch x.card r.lo r.hi f) (span-kept e x.speeds)
    ∙ ap (λ (b : ℕ). patch x.card (span e x.speeds).lo b f) (sym k)
    ∙ patch_none x.card (span e x.speeds).lo f

pub counts_by_range : (car : Vehicle) (e : Edit) (x : Screen) → edit_fault car e x ≡ none
    → let r = span e x.speeds in
    (edited car e x).summary ≡ updated x.summary (counts x.speeds x.card r.lo (r.hi - r.lo))
    (counts (edited car e x).speeds (edited car e x).card r.lo (r.hi - r.lo))
unfolding asked_screen
counts_by_range car e x ok =
    by_kind e x.speeds
    (λ k. rw k (around_counts car e x (taken car e x ok).in_trace (whole_counts car e x ok)))
    (λ k.
    let t = taken_asked car e x ok in
    let a : (edited car e x).speeds ≡ x.speeds = ap (λ (w : Screen). w.speeds) t ∙ speeds_still e x.speeds k in
    let b : (edited car e x).card ≡ x.card = ap (λ (w : Screen). w.card) t ∙ card_still car e x k in
    whole_counts car e x ok ∙ rw (a, b) (updated_ext x.summary _ _ _ _ refl (λ g h. refl) refl))

-- edits one after the other
pub run_counts : (car : Vehicle) (es : List Edit) (x : Screen) → Counted x → Counted (after car es x)
unfolding after
run_counts car [] x e = e
run_counts car (e ∷ es) x right = run_counts car es (edited car e x) (counts_right car e x right)

-- ---- the seconds add up

total_ext : (f g : ℕ → ℕ) (k lo : ℕ) → ((i : ℕ) → lo ≤ i → i < lo + k → f i ≡ g i) → total f lo k ≡ total g lo k
unfolding total
total_ext f g zero lo h = refl
total_ext f g (suc k) lo h = rw (h lo (omega arith) (omega arith), total_ext f g k (suc lo) (λ i a b. h i (omega arith) (omega arith)))

total_add : (f g : ℕ → ℕ) (k lo : ℕ) → total (λ i. f i + g i) lo k ≡ total f lo k + total g lo k
unfolding total
total_add f g zero lo = refl
total_add f g (suc k) lo = rw (total_add f g k (suc lo)) (omega arith)

total_none : (k lo : ℕ) → total (λ i. 0) lo k ≡ 0
unfolding total
total_none zero lo = refl
total_none (suc k) lo = rw (total_none k (suc lo))

-- one of k places is x
total-one : (x k lo : ℕ) → lo ≤ x → x < lo + k → total (λ i. one (eqb x i)) lo k ≡ 1
unfolding total
total-one x zero lo a b = absurd (omega arith)
total-one x (suc k) lo a b =
    by_eq a
    (λ e. rw (eq-eqb x lo (sym e))
    (ap (λ (n : ℕ). 1 + n) (total_ext (λ i. one (eqb x i)) (λ i. 0) k (suc lo) (λ i c d. rw (ne_eqb x i (omega arith))) ∙ total_none k (suc lo))))
    (λ l. rw (ne_eqb x lo (omega arith), total-one x k (suc lo) l (omega arith)))

same_place : (x g : ℕ) → 1 ≤ x → one (eqb x (suc g)) ≡ one (eqb (x - 1) g)
same_place x g h = by_test (eqb (x - 1) g) (λ t. let e : x - 1 ≡ g = eqb-true _ _ t in rw (t, eq-eqb x (suc g) (omega arith)))
    (λ t. rw (t, ne_eqb x (suc g) (λ z. eqb-false (x - 1) g t (omega arith))))

module _ (vs bs : List ℕ) where
  -- a second with a gear from 1 to 10, if it moves, is counted once
  abbrev Shown : ℕ → Type 0
  Shown i = moving (at vs i) ≡ true → (1 ≤ shown (at bs i)) × (shown (at bs i) ≤ 10)

  once_each : (i : ℕ) → Shown i → one (rests vs i) + total (λ g. one (drives (suc g) vs bs i)) 0 10 ≡ 1
  unfolding rests drives ◌and◌
  once_each i h =
      by_test (moving (at vs i))
      (λ m. let x = shown (at bs i) in
      let r = h m in
      rw m (zero-add _ ∙
      (total_ext (λ g. one (eqb x (suc g))) (λ g. one (eqb (x - 1) g)) 10 0 (λ g a b. same_place x g r.0)
      ∙ total-one (x - 1) 10 0 (omega arith) (omega arith))))
      (λ m. rw m (ap (λ (n : ℕ). 1 + n) (total_none 10 0)))

  -- so each of n seconds
  pub adds_up : (n lo : ℕ) → ((i : ℕ) → lo ≤ i → i < lo + n → Shown i) → tally (rests vs) lo n + total (λ g. tally (drives (suc g) vs bs) lo n) 0 10 ≡ n
  unfolding tally
  adds_up zero lo h = zero-add _ ∙ total_none 10 0
  adds_up (suc n) lo h =
      let e = once_each lo (h lo (omega arith) (omega arith)) in
      let r = adds_up n (suc lo) (λ i a b. h i (omega arith) (omega arith)) in
      rw (total_add (λ g. one (drives (suc g) vs bs lo)) (λ g. tally (drives (suc g) vs bs) (suc lo) n) 10 0) (omega arith)

  pub seconds_of : ((i : ℕ) → i < length vs → Shown i) → seconds_in (summary vs bs) ≡ length vs
  unfolding summary counts seconds_in
  seconds_of h =
      ap (λ (n : ℕ). tally (rests vs) 0 (length vs) + n)
      (total_ext (at (table (λ g. tally (drives g vs bs) 0 (length vs)) 1 10)) (λ g. tally (drives (suc g) vs bs) 0 (length vs)) 10 0
      (λ g a b. at-gears vs bs 0 (length vs) g (omega arith)))
      ∙ adds_up (length vs) 0 (λ i a b. h i (omega arith))

-- so of a right card
pub gears-shown : (car : Vehicle) (vs hs old : List ℕ) → Accepted car vs hs old → (i : ℕ) → i < length vs → moving (at vs i) ≡ true
    → (1 ≤ shown (at (card car vs hs) i)) × (shown (at (card car vs hs) i) ≤ 10)
unfolding low card
gears-shown car vs hs old A i l m =
    let n = (rooms_in vs hs old A.room).0 in
    let C = vehicle_in car A.vehicle in
    let F = fit_of car vs hs 0 (length vs) A.span i (omega arith) l in
    let r = gear_in_range car vs hs n i m C F in
    let c : at (card car vs hs) i ≡ card_at car vs hs i = at_table (card_at car vs hs) 0 (length vs) i l ∙ rw zero-add in
    let e : at (card car vs hs) i % 16 ≡ gear_at car vs hs i = ap (λ (b : ℕ). b % 16) c ∙ byte_gear car vs hs n i m C F in
    rw e (omega (arith, r.0, floor-low car C (at vs i), r.1, C.ng_to))
