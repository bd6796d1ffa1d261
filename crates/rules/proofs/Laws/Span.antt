-- A span between standing seconds: its checks and its bytes look at its seconds and at no others; and so does each edit.
use Rattle.rules.proofs.Base.{ℕ, suc, ◌-◌, ◌≤◌, ◌<◌, min, arith, ◌≡◌, refl, sym, ◌∙◌, true, false, List, leb, ltb, eqb, length, set, length-set}
use Rattle.rules.proofs.Base.{list_get_or-eq_default, get_or-set_other, get_or-set_same, le-ltb, leb-true, ltb-true, eqb-true, eqb-false, Vehicle, Edit, Hold}
use Rattle.rules.proofs.Base.{Release, Mend}
use Rattle.rules.specs.Words.{◌and◌, ◌or◌, at, patch}
use Rattle.rules.specs.Units.{moving, rise, start, stop}
use Rattle.rules.specs.Corrections.{firsts, gears, trip_speeds, trip_holds, first_at, gear_at, clutch, byte, card_at}
use Rattle.rules.specs.Refusals.{Check, speed, step, ends, over-ng, at_rest, over-rev, no-gear, check_number, all_checks, bad}
use Rattle.rules.specs.Edit.{Screen, second, asked_speeds, asked_holds, Extent, around, hold_span, span, fails, asked_fault, asked_screen}
use Rattle.rules.specs.Vocabulary.{SameSpan, none_held}
use Rattle.rules.proofs.Laws.Words.{clash, by_test, by_order, part_ext, table_ext, patch_none}
use Rattle.rules.proofs.Laws.Trips.{trip_of, stop_in, moving_in, start_le, start-before, stop_le, stop-after, start_agree, stop_agree}
use Rattle.rules.proofs.Laws.Checks.{fault_ext}

-- ---- where to look

-- they say the same when one second is written in both
set_same : (l m : List ℕ) (s x lo hi : ℕ) → length m ≡ length l → ((i : ℕ) → lo ≤ i → i < hi → at m i ≡ at l i) → (i : ℕ) → lo ≤ i → i < hi
    → at (set m s x) i ≡ at (set l s x) i
set_same l m s x lo hi n h i a b =
    by_test (eqb i s)
    (λ t. let e : i ≡ s = eqb-true i s t in
    by_order s (length l)
    (λ y. rw e (get_or-set_same m s x 0 (omega arith) ∙ sym (get_or-set_same l s x 0 y)))
    (λ y. rw e (list_get_or-eq_default (set m s x) 0 (omega (arith, length-set m s x))
    ∙ sym (list_get_or-eq_default (set l s x) 0 (omega (arith, length-set l s x))))))
    (λ t. get_or-set_other m s i x 0 (eqb-false i s t) ∙ h i a b ∙ sym (get_or-set_other l s i x 0 (eqb-false i s t)))

same_hold : (vs hs ws ks : List ℕ) (lo hi s g : ℕ) → SameSpan vs hs ws ks lo hi → SameSpan vs (set hs s g) ws (set ks s g) lo hi
same_hold vs hs ws ks lo hi s g S =
    record {
      speeds = S.speeds;
      holds = length-set ks s g ∙ S.holds ∙ sym (length-set hs s g);
      speed_at = S.speed_at;
      hold_at = set_same hs ks s g lo hi S.holds S.hold_at;
    }

pub same_speed : (vs hs ws ks : List ℕ) (lo hi s v : ℕ) → SameSpan vs hs ws ks lo hi → SameSpan (set vs s v) hs (set ws s v) ks lo hi
same_speed vs hs ws ks lo hi s v S =
    record {
      speeds = length-set ws s v ∙ S.speeds ∙ sym (length-set vs s v);
      holds = S.holds;
      speed_at = set_same vs ws s v lo hi S.speeds S.speed_at;
      hold_at = S.hold_at;
    }

-- A span between two standing seconds, the one before a and b, and these with it, as far as the trace goes. No trip crosses its ends
pub record Between (vs : List ℕ) (a b : ℕ) : Type 0 where
  pub order : a ≤ b
  pub before : (k : ℕ) → suc k ≡ a → moving (at vs k) ≡ false
  pub after : moving (at vs b) ≡ false

-- the trip of a moving second of the span lies between
pub in_span : {vs : List ℕ} {a b : ℕ} → Between vs a b → (i : ℕ) → a ≤ suc i → i ≤ b → moving (at vs i) ≡ true → (a ≤ start vs i) × (stop vs i ≤ b)
in_span {vs} {a} {b} B i x y u =
    let t = trip_of vs i u in (
      by_order (start vs i) a (λ h. by_order i a
          (λ j. clash u (B.before i (omega arith)))
          (λ j. clash (t.0.inside (a - 1) (omega arith) (omega arith)) (B.before (a - 1) (omega arith)))) (λ h. h),
      by_order b (stop vs i) (λ h. clash (t.0.inside b (omega arith) h) B.after) (λ h. h),
    )

module _ (car : Vehicle) (vs hs ws ks : List ℕ) (a b : ℕ) (B : Between vs a b) (S : SameSpan vs hs ws ks (a - 1) (min (suc b) (length vs))) where
  -- past the trace's end both are 0
  pub speed_to : (i : ℕ) → a ≤ suc i → i ≤ b → at ws i ≡ at vs i
  speed_to i x y =
      by_order i (length vs) (λ h. S.speed_at i (omega arith) (omega arith))
      (λ h. list_get_or-eq_default ws 0 (omega (arith, S.speeds)) ∙ sym (list_get_or-eq_default vs 0 h))

  module _ (i : ℕ) (x : a ≤ suc i) (y : i ≤ b) (u : moving (at vs i) ≡ true) where
    -- whatever is worked out from the trip's own speeds and holds is the same
    of_trip : (f : List ℕ → List ℕ → ℕ → ℕ)
        → f (trip_speeds ws i) (trip_holds ws ks i) (i - start ws i) ≡ f (trip_speeds vs i) (trip_holds vs hs i) (i - start vs i)
    unfolding trip_speeds trip_holds
    of_trip f =
        let t = trip_of vs i u in
        let n = in_span B i x y u in
        let c = stop_in vs i u in
        rw (
          start_agree vs ws i (λ k p q. speed_to k (omega arith) (omega arith)),
          stop_agree vs ws i (λ k p q. speed_to k (omega arith) (omega arith)),
          part_ext ws vs (start vs i) (suc (stop vs i)) S.speeds (λ k p q. speed_to k (omega arith) (omega arith)),
          part_ext ks hs (start vs i) (stop vs i) S.holds (λ k p q. S.hold_at k (omega arith) (omega arith)),
        )

    first_same : first_at car ws ks i ≡ first_at car vs hs i
    unfolding first_at
    first_same = of_trip (λ us gs j. at (firsts car us gs) j)

    gear_same : gear_at car ws ks i ≡ gear_at car vs hs i
    unfolding gear_at
    gear_same = of_trip (λ us gs j. at (gears car us gs) j)

  pub bad_same : (c : Check) (i : ℕ) → a - 1 ≤ i → i < min (suc b) (length vs) → bad c car ws ks (a - 1) i ≡ bad c car vs hs (a - 1) i
  unfolding bad ◌and◌
  bad_same c i x y =
      let v = S.speed_at i x y in
      let h = S.hold_at i x y in
      elim c as (λ k. bad k car ws ks (a - 1) i ≡ bad k car vs hs (a - 1) i) [
        | speed ↦ rw v
        | step ↦ by_order (a - 1) i (λ z. rw (v, S.speed_at (i - 1) (omega arith) (omega arith))) (λ z. rw (le-ltb (a - 1) i z))
        | ends ↦ rw (v, S.speeds)
        | over-ng ↦ rw h
        | at_rest ↦ rw (v, h)
        | over-rev ↦ rw (v, h)
        | no-gear ↦ by_test (moving (at vs i)) (λ t. rw (v, t, first_same i (omega arith) (omega arith) t)) (λ t. rw (v, t))
      ]

  -- so does each byte before its last second
  byte_same : (i : ℕ) → a - 1 ≤ i → i < b → card_at car ws ks i ≡ card_at car vs hs i
  unfolding card_at byte clutch rise
  byte_same i x y =
      let v = speed_to i (omega arith) (omega arith) in
      let u = speed_to (suc i) (omega arith) (omega arith) in
      by_test (moving (at vs i))
      (λ t. rw (v, u, S.speeds, t, gear_same i (omega arith) (omega arith) t))
      (λ t. by_test (moving (at vs (suc i)))
      (λ w. rw (v, u, t, w, gear_same (suc i) (omega arith) (omega arith) w))
      (λ w. rw (v, u, t, w)))

  -- and so the card that is left
  pub card-between : (old : List ℕ) → patch old (a - 1) b (card_at car ws ks) ≡ patch old (a - 1) b (card_at car vs hs)
  unfolding patch ◌and◌
  card-between old =
      table_ext _ _ 0 (length old) (λ i x y.
      by_test (leb (a - 1) i)
      (λ p. by_test (ltb i b) (λ q. rw (p, q) (byte_same i (leb-true _ _ p) (ltb-true _ _ q))) (λ q. rw (p, q)))
      (λ p. rw p))

-- ---- each edit looks at its span, and at no other second

-- two traces with their holds, and the spans r and q of one edit on them: the spans lie alike, and checks and bytes there say the same
record Alike (car : Vehicle) (vs hs us ls : List ℕ) (r q : Extent) : Type 0 where
  pub place : q ≡ r
  pub checks : (c : Check) (i : ℕ) → r.lo ≤ i → i < r.end → bad c car us ls r.lo i ≡ bad c car vs hs r.lo i
  pub bytes : (old : List ℕ) → patch old r.lo r.hi (card_at car us ls) ≡ patch old r.lo r.hi (card_at car vs hs)

-- the trips next to s
pub its_trips : (vs : List ℕ) (s : ℕ) → Between vs (start vs s) (stop vs (suc s))
its_trips vs s = record { order = omega (arith, start_le vs s, stop_le vs (suc s)); before = start-before vs s; after = stop-after vs (suc s) }

module _ (car : Vehicle) (vs hs us ls : List ℕ) (s : ℕ) where
  alike_around : SameSpan vs hs us ls (around vs s).lo (around vs s).end → Alike car vs hs us ls (around vs s) (around us s)
  unfolding around
  alike_around S =
      let to = speed_to car vs hs us ls (start vs s) (stop vs (suc s)) (its_trips vs s) S in
      let x = start_le vs s in
      let y = stop_le vs (suc s) in
      record {
        place = rw (start_agree vs us s (λ k p q. to k p (omega arith)), stop_agree vs us (suc s) (λ k p q. to k (omega arith) q), S.speeds);
        checks = bad_same car vs hs us ls (start vs s) (stop vs (suc s)) (its_trips vs s) S;
        bytes = card-between car vs hs us ls (start vs s) (stop vs (suc s)) (its_trips vs s) S;
      }

  -- a standing second alone
  bad_alone : SameSpan vs hs us ls s (suc s) → moving (at vs s) ≡ false → (c : Check) (i : ℕ) → s ≤ i → i < suc s → bad c car us ls s i ≡ bad c car vs hs s i
  unfolding bad ◌and◌
  bad_alone S m c i x y =
      let e : i ≡ s = omega arith in
      let v = S.speed_at s (omega arith) (omega arith) in
      let h = S.hold_at s (omega arith) (omega arith) in
      elim c as (λ k. bad k car us ls s i ≡ bad k car vs hs s i) [
        | speed ↦ rw (e, v)
        | step ↦ rw (e, le-ltb s s (omega arith))
        | ends ↦ rw (e, v, S.speeds)
        | over-ng ↦ rw (e, h)
        | at_rest ↦ rw (e, v, h)
        | over-rev ↦ rw (e, v, h)
        | no-gear ↦ rw (e, v, m)
      ]

  alike_hold : SameSpan vs hs us ls (hold_span vs s).lo (hold_span vs s).end → Alike car vs hs us ls (hold_span vs s) (hold_span us s)
  unfolding hold_span around
  alike_hold S =
      by_test (moving (at vs s))
      (λ m.
      let T : SameSpan vs hs us ls (around vs s).lo (around vs s).end = rw m at S in
      let x = start_le vs s in
      let y = stop_le vs (suc s) in
      let v = T.speed_at s (omega arith) (omega (arith, moving_in vs s m)) in
      rw (v, m) (alike_around T))
      (λ m.
      let T : SameSpan vs hs us ls s (suc s) = rw m at S in
      let v = T.speed_at s (omega arith) (omega arith) in
      rw (v, m) (record { place = refl; checks = bad_alone T m; bytes = λ old. patch_none old s _ ∙ sym (patch_none old s _) }))

-- the span does not hang on the speed at the edited second, old or new
pub span-kept : (e : Edit) (vs : List ℕ) → span e (asked_speeds e vs) ≡ span e vs
unfolding span asked_speeds around
span-kept (Hold s g) vs = refl
span-kept (Release s) vs = refl
span-kept (Mend s v) vs =
    rw (
      start_agree vs (set vs s v) s (λ k a b. get_or-set_other vs s k v 0 (omega arith)),
      stop_agree vs (set vs s v) (suc s) (λ k a b. get_or-set_other vs s k v 0 (omega arith)),
      length-set vs s v,
    )

alike_of : (car : Vehicle) (e : Edit) (vs hs us ls : List ℕ) → SameSpan vs hs us ls (span e vs).lo (span e vs).end
    → Alike car (asked_speeds e vs) (asked_holds e hs) (asked_speeds e us) (asked_holds e ls) (span e (asked_speeds e vs)) (span e (asked_speeds e us))
unfolding span asked_speeds asked_holds
alike_of car (Hold s g) vs hs us ls S = alike_hold car vs (set hs s g) us (set ls s g) s (same_hold vs hs us ls _ _ s g S)
alike_of car (Release s) vs hs us ls S = alike_hold car vs (set hs s 0) us (set ls s 0) s (same_hold vs hs us ls _ _ s 0 S)
alike_of car (Mend s v) vs hs us ls S =
    alike_around car (set vs s v) hs (set us s v) ls s (rw (span-kept (Mend s v) vs) (same_speed vs hs us ls (around vs s).lo (around vs s).end s v S))

-- each check, for every edit in one line
pub fails_is : (e : Edit) (car : Vehicle) (ws ks : List ℕ) (lo : ℕ) (c : Check) (i : ℕ)
    → fails e car ws ks lo c i ≡ (none_held e and eqb (check_number c) 7 and eqb i (second e) or bad c car ws ks lo i)
unfolding fails none_held second ◌and◌ ◌or◌
fails_is (Hold s g) car ws ks lo c i = refl
fails_is (Release s) car ws ks lo c i = refl
fails_is (Mend s v) car ws ks lo c i = refl

-- what the checks say depends on the seconds of the span alone
pub looks_at-span : (car : Vehicle) (e : Edit) (vs hs us ls : List ℕ) → SameSpan vs hs us ls (span e vs).lo (span e vs).end
    → asked_fault car e us ls ≡ asked_fault car e vs hs
unfolding asked_fault
looks_at-span car e vs hs us ls S =
    let A = alike_of car e vs hs us ls S in
    let r = span e (asked_speeds e vs) in
    rw A.place (fault_ext _ _ r.lo r.end (λ c i x y. fails_is e car _ _ r.lo c i ∙ rw (A.checks c i x y) (sym (fails_is e car _ _ r.lo c i)))
    all_checks)

-- and so does the card that is left
pub reworks_span : (car : Vehicle) (e : Edit) (x y : Screen)
    → SameSpan x.speeds x.holds y.speeds y.holds (span e x.speeds).lo (span e x.speeds).end → y.card ≡ x.card
    → (asked_screen car e y).card ≡ (asked_screen car e x).card
unfolding asked_screen
reworks_span car e x y S same = let A = alike_of car e x.speeds x.holds y.speeds y.holds S in rw (same, A.place) (A.bytes x.card)
