-- Request Twelve: what a card shows at a second whose byte is the definitions' and whose checks have passed. Its gear turns the engine at nmax or
-- below; and where the speed rises, a free second's gear is at most one above the gear before, or no higher than its floor.
use Rattle.rules.proofs.Base.{ℕ, suc, ◌+◌, ◌-◌, ◌≤◌, ◌<◌, ◌%◌, min, zero-add, arith, ◌≡◌, sym, ap, ◌∙◌, ◌⊎◌, inl, inr, true, false, none, List, leb, ltb}
use Rattle.rules.proofs.Base.{eqb, length, lt-ltb, ltb-false, leb-true, eqb-true, eq-eqb, Vehicle, Edit}
use Rattle.rules.specs.Inside.{InBounds, Fit}
use Rattle.rules.specs.Words.{if◌then◌else◌, ◌and◌, at, pass}
use Rattle.rules.specs.Units.{low, moving, start, stop}
use Rattle.rules.specs.Gears.{is_under_nmax}
use Rattle.rules.specs.Corrections.{floor, ceiling, free, too_high, rising, too_low, slowing, after_A, after_B, gears, trip_speeds, trip_holds, gear_at}
use Rattle.rules.specs.Corrections.{card_at, card}
use Rattle.rules.specs.Refusals.{span_fault}
use Rattle.rules.specs.Edit.{Screen, second, asked_speeds, asked_holds, around, span, edit_fault, asked_screen, edited}
use Rattle.rules.specs.Vocabulary.{AtMostNmax, Spares}
use Rattle.rules.proofs.Laws.Words.{clash, by_order, if_ind, and_right, and-fails, both, pass-at, pass_done, pass_later, pass-holds, at_table, patch_in}
use Rattle.rules.proofs.Laws.Words.{of₃}
use Rattle.rules.proofs.Laws.Held.{length_A, length_B}
use Rattle.rules.proofs.Laws.Trips.{next_start, next-stop, trip_of, start-before, stop_to, moving_in}
use Rattle.rules.proofs.Laws.Limits.{floor-low}
use Rattle.rules.proofs.Laws.Checks.{vehicle_in, rooms_in, Accepted, Taken, taken}
use Rattle.rules.proofs.Laws.Edits.{by_kind, length_asked, length-holds, taken_asked, span_passes}
use Rattle.rules.proofs.Laws.Cards.{fit_of, in_trip, hold_in, speed_in, gear_in_range, no_over_rev, byte_gear}

-- the ceiling is at most one above the gear before
ceiling_le : (j : ℕ) (gs : List ℕ) → ceiling j gs ≤ at gs (j - 1) + 1
unfolding ceiling
ceiling_le j gs = if_ind (λ c. c ≤ at gs (j - 1) + 1) (leb 2 j and eqb (at gs (j - 1)) (at gs (j - 2))) (λ t. omega arith) (λ t. omega arith)

-- ---- in a trip: second j is not its first, has no hold, and the speed before is lower

module _ (car : Vehicle) (us hs : List ℕ) (j : ℕ) (l : j < length hs) (p : 0 < j) (no_hold : at hs j ≡ 0) (up : at us (j - 1) < at us j) where
  abbrev B : List ℕ
  B = after_B car us hs

  abbrev G : List ℕ
  G = gears car us hs

  abbrev before_B : List ℕ
  before_B = pass (rising car us hs) j (after_A car us hs)

  abbrev before_C : List ℕ
  before_C = pass (slowing car us hs) j (after_B car us hs)

  -- pass B leaves nothing above the larger of ceiling and floor
  rising_le : (rising car us hs j before_B ≤ at before_B (j - 1) + 1) ⊎ (rising car us hs j before_B ≤ floor car (at us j))
  unfolding rising too_high free
  rising_le =
      let c = ceiling_le j before_B in
      if_ind (λ g. (g ≤ at before_B (j - 1) + 1) ⊎ (g ≤ floor car (at us j))) (too_high car us hs j before_B)
      (λ t. by_order (ceiling j before_B) (floor car (at us j)) (λ h. inr (omega arith)) (λ h. inl (omega arith)))
      (λ t. let f : (eqb (at hs j) 0 and ltb 0 j and ltb (at us (j - 1)) (at us j)) ≡ true =
      both (both (eq-eqb (at hs j) 0 no_hold) (lt-ltb 0 j p)) (lt-ltb (at us (j - 1)) (at us j) up) in
      let x : at before_B j ≤ ceiling j before_B = ltb-false (ceiling j before_B) (at before_B j) (and-fails _ _ f t) in inl (omega arith))

  B_le : (at B j ≤ at B (j - 1) + 1) ⊎ (at B j ≤ floor car (at us j))
  unfolding after_B
  B_le =
      let n : length (after_A car us hs) ≡ length hs = length_A car us hs in
      rw (
        pass-at (rising car us hs) (after_A car us hs) (length hs) j l (omega arith),
        of₃ (pass_done (rising car us hs) (after_A car us hs) (length hs) j (j - 1)) (omega arith),
      ) rising_le

  -- pass C lowers no gear
  C_raises : (k : ℕ) → k < length hs → at B k ≤ at G k
  unfolding gears slowing too_low after_A after_B
  C_raises k h =
      pass-holds (slowing car us hs) (after_B car us hs) (λ i g. at B i ≤ g)
      (λ i rs x. if_ind (λ g. at B i ≤ g) (too_low car us hs i rs) (λ t. let e : at rs i ≡ low car = eqb-true _ _ (and_right _ _ t) in omega arith) (λ t. x))
      (length hs) k (rw (length_B car us hs) h) (omega arith)

  last : at G j ≡ (if too_low car us hs j before_C then low car + 1 else at before_C j)
  unfolding gears slowing after_A after_B
  last = let n : length (after_B car us hs) ≡ length hs = length_B car us hs in pass-at (slowing car us hs) (after_B car us hs) (length hs) j l (omega arith)

  -- and where it raises the lowest gear, the gear before is the lowest at least
  pub gears_le : low car ≤ at G (j - 1) → (at G j ≤ at G (j - 1) + 1) ⊎ (at G j ≤ floor car (at us j))
  gears_le some_gear =
      let up-before = C_raises (j - 1) (omega arith) in
      rw last (if_ind (λ g. (g ≤ at G (j - 1) + 1) ⊎ (g ≤ floor car (at us j))) (too_low car us hs j before_C)
      (λ t. inl (omega arith))
      (λ t. rw (pass_later (slowing car us hs) (after_B car us hs) j j (omega arith)) (elim B_le [ inl x ↦ inl (omega arith) | inr x ↦ inr x ])))

-- ---- in the trace

-- a second and the one before it in one trip
module _ (vs : List ℕ) (k : ℕ) (m : moving (at vs k) ≡ true) (u : moving (at vs (suc k)) ≡ true) where
  same_speeds : trip_speeds vs (suc k) ≡ trip_speeds vs k
  unfolding trip_speeds
  same_speeds = rw (next_start vs k m, next-stop vs k m u)

  same_holds : (hs : List ℕ) → trip_holds vs hs (suc k) ≡ trip_holds vs hs k
  unfolding trip_holds
  same_holds hs = rw (next_start vs k m, next-stop vs k m u)

  in_trip_before : (0 < suc k - start vs (suc k)) × (suc k - start vs (suc k) - 1 ≡ k - start vs k)
  in_trip_before = let e = next_start vs k m in let h = (trip_of vs k m).1 in omega arith

-- the gear of a free second whose speed is above that before
module _ (car : Vehicle) (vs hs : List ℕ) (n : length hs ≡ length vs) (k : ℕ) (m : moving (at vs k) ≡ true) (u : moving (at vs (suc k)) ≡ true) where
  abbrev us : List ℕ
  us = trip_speeds vs (suc k)

  abbrev ks : List ℕ
  ks = trip_holds vs hs (suc k)

  abbrev j : ℕ
  j = suc k - start vs (suc k)

  gear_before : at (gears car us ks) (j - 1) ≡ gear_at car vs hs k
  unfolding gear_at
  gear_before = rw ((in_trip_before vs k m u).1, same_speeds vs k m u, same_holds vs k m u hs)

  speed_before : at us (j - 1) ≡ at vs k
  speed_before = rw ((in_trip_before vs k m u).1, same_speeds vs k m u) (speed_in vs hs n k m)

  rises_by_one : at hs (suc k) ≡ 0 → at vs k < at vs (suc k) → low car ≤ gear_at car vs hs k
      → (gear_at car vs hs (suc k) ≤ gear_at car vs hs k + 1) ⊎ (gear_at car vs hs (suc k) ≤ floor car (at vs (suc k)))
  unfolding gear_at
  rises_by_one no_hold up some_gear =
      rw (gear_before, speed_in vs hs n (suc k) u)
      at (gears_le car us ks j (in_trip vs hs n (suc k) u) (in_trip_before vs k m u).0 (hold_in vs hs n (suc k) u ∙ no_hold)
      (rw (speed_before, speed_in vs hs n (suc k) u) up) (rw gear_before some_gear))

-- ---- on a card

-- of the seconds of a part of the trace: their checks have passed, and the card's bytes there are the definitions'
pub record RightPart (car : Vehicle) (vs hs shown : List ℕ) (lo hi : ℕ) : Type 0 where
  pub vehicle : InBounds car
  pub holds : length hs ≡ length vs
  pub fit : (i : ℕ) → lo ≤ i → i < hi → Fit car vs hs i
  pub byte_at : (i : ℕ) → lo ≤ i → i < hi → at shown i ≡ card_at car vs hs i

module _ {car : Vehicle} {vs hs shown : List ℕ} {lo hi : ℕ} (R : RightPart car vs hs shown lo hi) where
  -- at a moving second the card shows the definitions' gear, whatever the clutch
  shows_gear : (i : ℕ) → lo ≤ i → i < hi → moving (at vs i) ≡ true → at shown i % 16 ≡ gear_at car vs hs i
  shows_gear i a b m = ap (λ (x : ℕ). x % 16) (R.byte_at i a b) ∙ byte_gear car vs hs R.holds i m R.vehicle (R.fit i a b)

  -- which lies from the lowest up to ng
  gear_from : (i : ℕ) → lo ≤ i → i < hi → moving (at vs i) ≡ true → low car ≤ gear_at car vs hs i
  gear_from i a b m = omega (arith, (gear_in_range car vs hs R.holds i m R.vehicle (R.fit i a b)).0, floor-low car R.vehicle (at vs i))

  at_most_nmax : (i : ℕ) → lo ≤ i → i < hi → moving (at vs i) ≡ true → AtMostNmax car vs shown i
  unfolding is_under_nmax
  at_most_nmax i a b m = record {
    from = rw (shows_gear i a b m) (gear_from i a b m);
    to = rw (shows_gear i a b m) (gear_in_range car vs hs R.holds i m R.vehicle (R.fit i a b)).1;
    in_limits = rw (shows_gear i a b m) (leb-true _ _ (no_over_rev car vs hs R.holds i m R.vehicle (R.fit i a b)));
  }

  -- where the speed rises from one moving second to a free one
  by_one : (k : ℕ) → lo ≤ k → suc k < hi → moving (at vs k) ≡ true → moving (at vs (suc k)) ≡ true → at hs (suc k) ≡ 0 → at vs k < at vs (suc k)
      → (at shown (suc k) % 16 ≤ at shown k % 16 + 1) ⊎ (at shown (suc k) % 16 ≤ floor car (at vs (suc k)))
  by_one k a b m u no_hold up =
      rw (shows_gear k a (omega arith) m, shows_gear (suc k) (omega arith) b u)
      (rises_by_one car vs hs R.holds k m u no_hold up (gear_from k a (omega arith) m))

  -- both sentences of the request, at a second whose trip does not begin before the part
  pub spares : (i : ℕ) → lo ≤ i → i < hi → (moving (at vs i) ≡ true → lo ≤ start vs i) → Spares car vs hs shown i
  spares i a b inside = record {
    never_over_revs = at_most_nmax i a b;
    rises_by_one_or_floor = λ F.
        let t = trip_of vs i F.moves in
        let l : start vs i < i = by_order (start vs i) i (λ h. h) (λ h. absurd (F.not_first (omega arith))) in
        let e : suc (i - 1) ≡ i = omega arith in
        rw e at (by_one (i - 1) (omega (arith, inside F.moves)) (rw e b) (t.0.inside (i - 1) (omega arith) (omega arith)) (rw e F.moves)
        (rw e F.no_hold) (rw e F.above));
  }

-- the whole card of a trace that passes every check
pub right_spares : (car : Vehicle) (vs hs old : List ℕ) → Accepted car vs hs old → old ≡ card car vs hs → (i : ℕ) → Spares car vs hs old i
unfolding card
right_spares car vs hs old A e i =
    by_order i (length vs)
    (λ l. spares (record {
      vehicle = vehicle_in car A.vehicle;
      holds = (rooms_in vs hs old A.room).0;
      fit = λ k a b. fit_of car vs hs 0 (length vs) A.span k a b;
      byte_at = λ k a b. ap (λ (c : List ℕ). at c k) e ∙ at_table (card_at car vs hs) 0 (length vs) k b ∙ rw zero-add;
    }) i (omega arith) l (λ m. omega arith))
    (λ l. let past : moving (at vs i) ≡ true → i < length vs = moving_in vs i in
    record { never_over_revs = λ m. absurd (omega (arith, past m)); rises_by_one_or_floor = λ F. absurd (omega (arith, past F.moves)) })

-- a trip does not begin before a standing second that is not after it
starts_in : (vs : List ℕ) (a i : ℕ) → ((k : ℕ) → suc k ≡ a → moving (at vs k) ≡ false) → a ≤ i → moving (at vs i) ≡ true → a ≤ start vs i
starts_in vs a i before h m =
    let t = trip_of vs i m in
    by_order (start vs i) a (λ l. clash (t.0.inside (a - 1) (omega arith) (omega arith)) (before (a - 1) (omega arith))) (λ l. l)

-- the seconds that an edit re-works, whether or not the card was right
module _ (car : Vehicle) (ws ks new : List ℕ) (s : ℕ) (C : InBounds car) (n : length ks ≡ length ws)
    (pass : span_fault car ws ks (around ws s).lo (around ws s).end ≡ none)
    (byte_at : (i : ℕ) → (around ws s).lo ≤ i → i < (around ws s).hi → i < length ws → at new i ≡ card_at car ws ks i) where
  reworked_part : s < length ws → RightPart car ws ks new (start ws s) (stop ws (suc s))
  unfolding around
  reworked_part l =
      let c = stop_to ws (suc s) l in
      record {
        vehicle = C;
        holds = n;
        fit = λ i a b. fit_of car ws ks (start ws s - 1) (min (suc (stop ws (suc s))) (length ws)) pass i (omega arith) (omega arith);
        byte_at = λ i a b. byte_at i (omega arith) b (omega arith);
      }

  around_spares : s < length ws → (i : ℕ) → (around ws s).lo ≤ i → i < (around ws s).hi → Spares car ws ks new i
  unfolding around
  around_spares l i a b =
      by_order i (start ws s)
      (λ h. let e : suc i ≡ start ws s = omega arith in
      record { never_over_revs = λ u. clash u (start-before ws s i e); rises_by_one_or_floor = λ F. clash F.moves (start-before ws s i e) })
      (λ h. spares (reworked_part l) i h b (λ u. starts_in ws (start ws s) i (start-before ws s) h u))

module _ (car : Vehicle) (e : Edit) (x : Screen) (ok : edit_fault car e x ≡ none) where
  T : Taken car e x
  T = taken car e x ok

  abbrev new_speeds : List ℕ
  new_speeds = asked_speeds e x.speeds

  abbrev new_holds : List ℕ
  new_holds = asked_holds e x.holds

  long : length x.card ≡ length new_speeds
  long = (rooms_in x.speeds x.holds x.card T.room).1 ∙ sym (length_asked e x.speeds)

  asked_byte : (i : ℕ) → (span e new_speeds).lo ≤ i → i < (span e new_speeds).hi → i < length new_speeds
      → at (asked_screen car e x).card i ≡ card_at car new_speeds new_holds i
  unfolding asked_screen
  asked_byte i a b l = patch_in x.card (span e new_speeds).lo (span e new_speeds).hi (card_at car new_speeds new_holds) i a b (rw long l)

  pub edit_spares : (i : ℕ) → (span e new_speeds).lo ≤ i → i < (span e new_speeds).hi
      → Spares car (edited car e x).speeds (edited car e x).holds (edited car e x).card i
  unfolding asked_screen
  edit_spares i a b =
      by_kind e new_speeds
      (λ k. rw (taken_asked car e x ok)
      (around_spares car new_speeds new_holds (asked_screen car e x).card (second e) (vehicle_in car T.vehicle)
      (length-holds e x.holds ∙ (rooms_in x.speeds x.holds x.card T.room).0 ∙ sym (length_asked e x.speeds))
      (rw k at (span_passes car e x.speeds x.holds T.in_trace T.own))
      (λ j p q r. asked_byte j (rw k p) (rw k q) r) (rw (length_asked e x.speeds) T.in_trace) i (rw k at a) (rw k at b)))
      (λ k. absurd (omega (arith, k)))
