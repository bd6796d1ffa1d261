-- What an edit of one second reaches, of its hold or of its speed: outside the second, the trips next to it and the one standing second before, no byte
-- changes; and where the checks passed before, those of the span find what those of the whole find.
use Rattle.rules.proofs.Base.{ℕ, suc, ◌-◌, ◌≤◌, ◌<◌, min, arith, ◌≡◌, refl, ◌∙◌, ◌≢◌, inl, inr, true, false, List, length, set, length-set}
use Rattle.rules.proofs.Base.{get_or-set_other, le-ltb, Vehicle, Edit, Hold, Release, Mend}
use Rattle.rules.specs.Words.{◌and◌, at}
use Rattle.rules.specs.Units.{moving, rise, start, stop}
use Rattle.rules.specs.Corrections.{trip_speeds, trip_holds, first_at, gear_at, clutch, byte, card_at}
use Rattle.rules.specs.Refusals.{Check, speed, step, ends, over-ng, at_rest, over-rev, no-gear, bad}
use Rattle.rules.specs.Edit.{second, asked_speeds, asked_holds, around, hold_span, span}
use Rattle.rules.specs.Vocabulary.{IsTrip, Out}
use Rattle.rules.proofs.Laws.Words.{clash, by_test, by_order, part_ext}
use Rattle.rules.proofs.Laws.Trips.{trip_of, trip_start, trip_stop, start_le, start-before, stop_le, stop-after}
use Rattle.rules.proofs.Laws.Window.{Reaches}

-- the speeds and holds ws, ks are vs, hs but for second s
pub record ButFor (vs hs ws ks : List ℕ) (s : ℕ) : Type 0 where
  pub in_trace : s < length vs
  pub speeds : length ws ≡ length vs
  pub holds : length ks ≡ length hs
  pub speed_at : (i : ℕ) → i ≢ s → at ws i ≡ at vs i
  pub hold_at : (i : ℕ) → i ≢ s → at ks i ≡ at hs i

-- so what an edit asks for
but_for : (vs hs : List ℕ) (e : Edit) → second e < length vs → ButFor vs hs (asked_speeds e vs) (asked_holds e hs) (second e)
unfolding second asked_speeds asked_holds
but_for vs hs (Hold s g) l =
    record { in_trace = l; speeds = refl; holds = length-set hs s g; speed_at = λ i n. refl; hold_at = λ i n. get_or-set_other hs s i g 0 n }
but_for vs hs (Release s) l =
    record { in_trace = l; speeds = refl; holds = length-set hs s 0; speed_at = λ i n. refl; hold_at = λ i n. get_or-set_other hs s i 0 0 n }
but_for vs hs (Mend s v) l =
    record { in_trace = l; speeds = length-set vs s v; holds = refl; speed_at = λ i n. get_or-set_other vs s i v 0 n; hold_at = λ i n. refl }

-- from the second before the trip that s or the second before it lies in ..
abbrev reach_lo : List ℕ → ℕ → ℕ
reach_lo ws s = start ws s - 1

-- .. up to the end of the trip that s or the second after it lies in
abbrev reach_hi : List ℕ → ℕ → ℕ
reach_hi ws s = stop ws (suc s)

-- ---- an edit of one second

module _ (car : Vehicle) {vs hs ws ks : List ℕ} {s : ℕ} (E : ButFor vs hs ws ks s) where
  -- a trip of the new trace next to s lies within reach
  near : {a b : ℕ} → IsTrip ws a b → a ≤ suc s → s ≤ b → (start ws s ≤ a) × (b ≤ reach_hi ws s)
  near {a} {b} T p q =
      let l = start_le ws s in
      let m = stop_le ws (suc s) in (
        by_order a (start ws s)
            (λ h. clash (T.inside (start ws s - 1) (omega arith) (omega arith)) (start-before ws s (start ws s - 1) (omega arith))) (λ h. h),
        by_order (reach_hi ws s) b
            (λ h. clash (T.inside (reach_hi ws s) (omega arith) h) (stop-after ws (suc s))) (λ h. h),
      )

  -- any other is a trip of the old trace too, with the same speeds and holds
  module _ (i : ℕ) (m : moving (at ws i) ≡ true) (o : Out (start ws s) (reach_hi ws s) i) where
    far : Out (start ws i - 1) (suc (stop ws i)) s
    far =
        let t = trip_of ws i m in
        by_order s (start ws i - 1) inl (λ x. by_order (stop ws i) s inr (λ y.
        let n = near t.0 (omega arith) y in elim o [ inl c ↦ absurd (omega arith) | inr c ↦ absurd (omega arith) ]))

    off : (k : ℕ) → start ws i ≤ suc k → k ≤ stop ws i → k ≢ s
    off k x y e = elim far [ inl c ↦ omega arith | inr c ↦ omega arith ]

    old_trip : IsTrip vs (start ws i) (stop ws i)
    old_trip =
        let t = trip_of ws i m in
        record {
          some_second = t.0.some_second;
          inside = λ k x y. rw (E.speed_at k (off k (omega arith) (omega arith))) at (t.0.inside k x y);
          before = λ k x. rw (E.speed_at k (off k (omega arith) (omega arith))) at (t.0.before k x);
          after = rw (E.speed_at (stop ws i) (off (stop ws i) (omega arith) (omega arith))) at t.0.after;
        }

    same_start : start vs i ≡ start ws i
    same_start = let t = trip_of ws i m in trip_start vs old_trip i t.1 t.2

    same_stop : stop vs i ≡ stop ws i
    same_stop = let t = trip_of ws i m in trip_stop vs old_trip i t.1 t.2

    same_speeds : trip_speeds ws i ≡ trip_speeds vs i
    unfolding trip_speeds
    same_speeds =
        part_ext ws vs (start ws i) (suc (stop ws i)) E.speeds (λ k x y. E.speed_at k (off k (omega arith) (omega arith)))
        ∙ rw (same_start, same_stop)

    same_holds : trip_holds ws ks i ≡ trip_holds vs hs i
    unfolding trip_holds
    same_holds =
        part_ext ks hs (start ws i) (stop ws i) E.holds (λ k x y. E.hold_at k (off k (omega arith) (omega arith)))
        ∙ rw (same_start, same_stop)

    gear_same : gear_at car ws ks i ≡ gear_at car vs hs i
    unfolding gear_at
    gear_same = rw (same_speeds, same_holds, same_start)

    first_same : first_at car ws ks i ≡ first_at car vs hs i
    unfolding first_at
    first_same = rw (same_speeds, same_holds, same_start)

  -- ---- the card

  byte_same : (i g : ℕ) → i ≢ s → suc i ≢ s → byte car ws i g ≡ byte car vs i g
  unfolding byte clutch rise
  byte_same i g x y = rw (E.speed_at i x, E.speed_at (suc i) y, E.speeds)

  -- a byte out of reach is as it was
  card_same : (i : ℕ) → Out (reach_lo ws s) (reach_hi ws s) i → card_at car ws ks i ≡ card_at car vs hs i
  unfolding card_at
  card_same i o =
      let l = start_le ws s in
      let n = stop_le ws (suc s) in
      let x : i ≢ s = λ e. elim o [ inl c ↦ omega arith | inr c ↦ omega arith ] in
      let y : suc i ≢ s = λ e. elim o [ inl c ↦ omega arith | inr c ↦ omega arith ] in
      by_test (moving (at ws i))
      (λ t. rw (← E.speed_at i x, t, byte_same i (gear_at car ws ks i) x y, gear_same i t (elim o [ inl c ↦ inl (omega arith) | inr c ↦ inr c ])))
      (λ t. by_test (moving (at ws (suc i)))
      (λ u. rw (← E.speed_at i x, ← E.speed_at (suc i) y, t, u, gear_same (suc i) u (elim o [ inl c ↦ inl (omega arith) | inr c ↦ inr (omega arith) ])))
      (λ u. rw (← E.speed_at i x, ← E.speed_at (suc i) y, t, u)))

  -- ---- the checks

  -- out of the span, which looks one second further, each check says what it said
  bad_same : (c : Check) (i : ℕ) → Out (reach_lo ws s) (suc (reach_hi ws s)) i → bad c car ws ks 0 i ≡ bad c car vs hs 0 i
  unfolding ◌and◌ bad
  bad_same c i o =
      let l = start_le ws s in
      let n = stop_le ws (suc s) in
      let x : i ≢ s = λ e. elim o [ inl c ↦ omega arith | inr c ↦ omega arith ] in
      let y : i - 1 ≢ s = λ e. elim o [ inl c ↦ omega arith | inr c ↦ omega arith ] in
      let v = E.speed_at i x in
      let h = E.hold_at i x in
      elim c as (λ k. bad k car ws ks 0 i ≡ bad k car vs hs 0 i) [
        | speed ↦ rw v
        | step ↦ rw (v, E.speed_at (i - 1) y)
        | ends ↦ rw (v, E.speeds)
        | over-ng ↦ rw h
        | at_rest ↦ rw (v, h)
        | over-rev ↦ rw (v, h)
        | no-gear ↦
            by_test (moving (at ws i))
            (λ t. rw (← v, t, first_same i t (elim o [ inl c ↦ inl (omega arith) | inr c ↦ inr (omega arith) ])))
            (λ t. rw (← v, t))
      ]

  -- the step into the span's first second is as it was
  step_in : bad step car ws ks 0 (reach_lo ws s) ≡ bad step car vs hs 0 (reach_lo ws s)
  unfolding ◌and◌ bad
  step_in =
      let l = start_le ws s in
      by_order 0 (start ws s - 1)
      (λ h. rw (E.speed_at (start ws s - 1) (omega arith), E.speed_at (start ws s - 1 - 1) (omega arith)))
      (λ h. rw (le-ltb 0 (start ws s - 1) h))

  -- an edit of one second reaches the trips next to it in the new speeds, the second before and, for the checks, the one after
  reaches : Reaches car vs hs ws ks (reach_lo ws s) (min (suc (reach_hi ws s)) (length ws)) (reach_hi ws s)
  reaches = record {
    speeds = E.speeds;
    holds = E.holds;
    in_order = omega (arith, start_le ws s, stop_le ws (suc s), E.speeds, E.in_trace);
    in_trace = omega arith;
    checks_same = λ c i h o. bad_same c i (elim o [ inl x ↦ inl x | inr x ↦ inr (omega (arith, E.speeds)) ]);
    step_same = step_in;
    bytes_same = card_same;
  }

-- ---- a hold at a standing second

module _ (car : Vehicle) (vs hs : List ℕ) (s g : ℕ) (r : moving (at vs s) ≡ false) where
  -- it lies in no trip
  rest_holds : (i : ℕ) → moving (at vs i) ≡ true → trip_holds vs (set hs s g) i ≡ trip_holds vs hs i
  unfolding trip_holds
  rest_holds i m =
      let t = trip_of vs i m in
      part_ext (set hs s g) hs (start vs i) (stop vs i) (length-set hs s g)
      (λ k x y. get_or-set_other hs s k g 0 (λ e. clash (t.0.inside k x y) (rw e r)))

  bad_rest : (c : Check) (i : ℕ) → i ≢ s → bad c car vs (set hs s g) 0 i ≡ bad c car vs hs 0 i
  unfolding bad ◌and◌ first_at
  bad_rest c i n =
      let h = get_or-set_other hs s i g 0 n in
      elim c as (λ k. bad k car vs (set hs s g) 0 i ≡ bad k car vs hs 0 i) [
        | speed ↦ refl
        | step ↦ refl
        | ends ↦ refl
        | over-ng ↦ rw h
        | at_rest ↦ rw h
        | over-rev ↦ rw h
        | no-gear ↦ by_test (moving (at vs i)) (λ t. rw (t, rest_holds i t)) (λ t. rw t)
      ]

  gear_rest : (i : ℕ) → moving (at vs i) ≡ true → gear_at car vs (set hs s g) i ≡ gear_at car vs hs i
  unfolding gear_at
  gear_rest i m = rw (rest_holds i m)

  byte_rest : (i : ℕ) → card_at car vs (set hs s g) i ≡ card_at car vs hs i
  unfolding card_at
  byte_rest i =
      by_test (moving (at vs i)) (λ t. rw (t, gear_rest i t))
      (λ t. by_test (moving (at vs (suc i))) (λ u. rw (t, u, gear_rest (suc i) u)) (λ u. rw (t, u)))

  -- so it reaches the checks of the one second, and no byte
  reaches_rest : s < length vs → Reaches car vs hs vs (set hs s g) s (suc s) s
  unfolding bad
  reaches_rest l = record {
    speeds = refl;
    holds = length-set hs s g;
    in_order = omega arith;
    in_trace = l;
    checks_same = λ c i h o. bad_rest c i (λ x. elim o [ inl y ↦ omega arith | inr y ↦ omega arith ]);
    step_same = refl;
    bytes_same = λ i o. byte_rest i;
  }

-- ---- each edit reaches its span

reach_hold : (car : Vehicle) (vs hs : List ℕ) (s g : ℕ) → ButFor vs hs vs (set hs s g) s
    → Reaches car vs hs vs (set hs s g) (hold_span vs s).lo (hold_span vs s).end (hold_span vs s).hi
unfolding hold_span around
reach_hold car vs hs s g E =
    by_test (moving (at vs s)) (λ t. rw t (reaches car E)) (λ t. rw t (reaches_rest car vs hs s g t E.in_trace))

pub reach_of : (car : Vehicle) (vs hs : List ℕ) (e : Edit) → second e < length vs
    → let r = span e (asked_speeds e vs) in Reaches car vs hs (asked_speeds e vs) (asked_holds e hs) r.lo r.end r.hi
unfolding second asked_speeds asked_holds span around
reach_of car vs hs (Hold s g) l = reach_hold car vs hs s g (but_for vs hs (Hold s g) l)
reach_of car vs hs (Release s) l = reach_hold car vs hs s 0 (but_for vs hs (Release s) l)
reach_of car vs hs (Mend s v) l = reaches car (but_for vs hs (Mend s v) l)
