-- The byte that is explained is the card's.
use Rattle.rules.proofs.Offered.{ℕ, suc, ◌+◌, ◌*◌, ◌<◌, add_comm, zero-add, mod-eq_of_lt, add-mod_right, arith, ◌≡◌, refl, sym, ◌∙◌, true, false, none, List}
use Rattle.rules.proofs.Offered.{ltb, pos, le_z, length, within, at, ◌and◌, moving, rise, engine, gear_at, clutch, byte, pressed, card_at, card, left}
use Rattle.rules.proofs.Offered.{hold_span, kind, about, clutch_reason_at, pedal_down, byte_of, why_lo, why_end, why_fault, early_fault, nothing, said_of, why}
use Rattle.rules.proofs.Offered.{by_test, at_table, fit_of, gear_in_range, card_mod}
use Rattle.rules.specs.declared.Vehicle.{Vehicle}
use Rattle.reasons.specs.Says.{Shows}
use Rattle.reasons.proofs.Places.{inside_span, about-next, about_itself, kind-moving, kind-before, kind-rests}
use Rattle.reasons.proofs.Saying.{pedal-before}
use Rattle.reasons.proofs.Passed.{row_none, passed_early, even, bounds, said_there, rests_there, early_none}

-- ---- the byte

-- at a moving second the clutch is the card's
pedal_is : (car : Vehicle) (vs : List ℕ) (s g : ℕ) → moving (at vs s) ≡ true → pedal_down (clutch_reason_at car vs s g) ≡ clutch car vs s g
unfolding clutch_reason_at pedal_down clutch within ◌and◌
pedal_is car vs s g m =
    by_test (le_z (rise vs s) (pos 0))
    (λ f. by_test (ltb (engine car g (at vs s)) (1000 * car.idle)) (λ x. rw (m, f, x)) (λ x. rw (m, f, x)))
    (λ f. rw (m, f))

module _ (car : Vehicle) (vs hs : List ℕ) (s : ℕ) where
  -- by what the second is
  by_kind : {P : Type 0} → (moving (at vs s) ≡ true → P) → (moving (at vs s) ≡ false → moving (at vs (suc s)) ≡ true → P)
      → (moving (at vs s) ≡ false → moving (at vs (suc s)) ≡ false → P) → P
  by_kind f g h = by_test (moving (at vs s)) f (λ m. by_test (moving (at vs (suc s))) (g m) (h m))

  card-moving : moving (at vs s) ≡ true → card_at car vs hs s ≡ byte_of (clutch_reason_at car vs s (gear_at car vs hs s)) (gear_at car vs hs s)
  unfolding card_at byte byte_of
  card-moving m = rw (m, pedal_is car vs s (gear_at car vs hs s) m)

  card-before : moving (at vs s) ≡ false → moving (at vs (suc s)) ≡ true → card_at car vs hs s ≡ gear_at car vs hs (suc s) + pressed
  unfolding card_at
  card-before m n = rw (m, n) (add_comm pressed (gear_at car vs hs (suc s)))

  card_resting : moving (at vs s) ≡ false → moving (at vs (suc s)) ≡ false → card_at car vs hs s ≡ 0
  unfolding card_at
  card_resting m n = rw (m, n)

  module _ (e : why_fault car vs hs s ≡ none) where
    early : early_fault car vs hs s ≡ none
    early = early_none car vs hs s e

    here_in : s < length vs
    here_in = (passed_early car vs hs s early).1

    -- the gear at the second that is spoken of leaves room for the clutch
    small : moving (at vs (about vs s)) ≡ true → gear_at car vs hs (about vs s) < 16
    unfolding why_fault why_lo why_end
    small m =
        let i = about vs s in
        let B = bounds car vs hs s early in
        let l = inside_span vs i m in
        let r = gear_in_range car vs hs (even car vs hs s early) i m B
        (fit_of car vs hs (hold_span vs i).lo (hold_span vs i).end (row_none car vs hs s _ e).2 i l.0 l.1) in
        omega (arith, r.1, B.ng_to)

    shows_moving : (m : moving (at vs s) ≡ true) → gear_at car vs hs s < 16 → Shows (said_of car vs hs s s none) (card_at car vs hs s)
    unfolding said_of left byte_of
    shows_moving m l = record { the_byte = sym (card-moving m); the_gear = card_mod car vs hs s m l; the_clutch = card-moving m }

    shows_before : moving (at vs s) ≡ false → moving (at vs (suc s)) ≡ true → gear_at car vs hs (suc s) < 16
        → Shows (said_of car vs hs s (suc s) none) (card_at car vs hs s)
    unfolding said_of left byte_of pedal_down within ◌and◌
    shows_before m n l =
        let b = card-before m n in
        let p : clutch_reason_at car vs s (gear_at car vs hs (suc s)) ≡ 1 = sym (pedal-before car vs s (gear_at car vs hs (suc s)) m) in
        record {
          the_byte = rw p (sym b);
          the_gear = rw b (add-mod_right (gear_at car vs hs (suc s)) 16 ∙ mod-eq_of_lt l);
          the_clutch = rw p b;
        }

    shows_nothing : Shows nothing 0
    unfolding nothing
    shows_nothing = record { the_byte = refl; the_gear = refl; the_clutch = refl }

    shows : Shows (why car vs hs s) (card_at car vs hs s)
    shows =
        by_kind
        (λ m.
        let z : kind vs s ≡ 2 = sym (kind-moving vs s m) in
        let a : s ≡ about vs s = about_itself vs s (λ y. omega (arith, y, z)) in
        rw (said_there car vs hs s early (λ y. omega (arith, y, z)), e, ← a) (shows_moving m (rw a (small (rw (← a) m)))))
        (λ m n.
        let z : kind vs s ≡ 1 = sym (kind-before vs s m n) in
        let a : suc s ≡ about vs s = about-next vs s z in
        rw (said_there car vs hs s early (λ y. omega (arith, y, z)), e, ← a) (shows_before m n (rw a (small (rw (← a) n)))))
        (λ m n. rw (rests_there car vs hs s early (sym (kind-rests vs s m n)), card_resting m n) shows_nothing)

    pub shows_card : Shows (why car vs hs s) (at (card car vs hs) s)
    unfolding card
    shows_card = rw (at_table (card_at car vs hs) 0 (length vs) s here_in, zero-add) shows
