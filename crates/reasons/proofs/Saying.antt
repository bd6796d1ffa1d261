-- What is said of a second, field by field.
use Rattle.rules.proofs.Offered.{ℕ, ◌+◌, ◌-◌, ◌<◌, arith, ◌≡◌, refl, sym, ap, ◌∙◌, Bool, true, false, none, some, List, leb, ℤ, pos, le_z, length, drop, eq-eqb}
use Rattle.rules.proofs.Offered.{ne_eqb, le-leb, lt-leb, at, moving, rise, start, stop, required, floor, closing, role_of, here, firsts, trip_speeds}
use Rattle.rules.proofs.Offered.{trip_holds, first_at, gear_at, Fault, left, role_at, kind, role_code, gear_facts, gear_list, sentence, A_at, B_at, ceiling_at}
use Rattle.rules.proofs.Offered.{clutch_reason_at, pedal_down, byte_of, said_of, by_order, trip_of, trip_start, trip_stop, stop_in, closing-part}
use Rattle.rules.specs.declared.Vehicle.{Vehicle}
use Rattle.rules.specs.declared.GearFacts.{GearFacts}
use Rattle.rules.specs.declared.Reasons.{Reasons}
use Rattle.trips.proofs.Clutch.{rise-here, fall_yes, fall_no}
use Rattle.reasons.specs.declared.Chain.{Chain}
use Rattle.reasons.specs.Asks.{chain_of, uncorrected}

-- ---- a moving second of its trip

module _ (car : Vehicle) (vs hs : List ℕ) (i : ℕ) (m : moving (at vs i) ≡ true) where
  -- what it is, seen from its trip and from the whole trace
  role_is : here car (trip_speeds vs i) (trip_holds vs hs i) (i - start vs i) (firsts car (trip_speeds vs i) (trip_holds vs hs i)) ≡ role_at car vs hs i
  unfolding here role_at role_of trip_speeds trip_holds first_at
  role_is =
      let t = trip_of vs i m in
      let a = start vs i in
      let b = stop vs i in
      by_order a i
      (λ h.
      let y : i - 1 - a ≡ i - a - 1 = omega arith in
      rw (
        ne_eqb (i - a) 0 (λ e. omega arith),
        ne_eqb i a (λ e. omega arith),
        closing-part vs t.0 (stop_in vs i m) i t.1 t.2,
        trip_start vs t.0 (i - 1) (omega arith) (omega arith),
        trip_stop vs t.0 (i - 1) (omega arith) (omega arith),
        y,
      ))
      (λ h. rw (eq-eqb (i - a) 0 (omega arith), eq-eqb i a (omega arith)))

  -- and whether it lies in the closing run
  closes_is : closing (drop (i - start vs i) (trip_speeds vs i)) ≡ closing (drop i vs)
  unfolding trip_speeds
  closes_is = let t = trip_of vs i m in closing-part vs t.0 (stop_in vs i m) i t.1 t.2

  -- what the stages left there
  module _ {links : Chain} (q : links ≡ chain_of car (trip_speeds vs i) (trip_holds vs hs i) (i - start vs i)) where
    pub link_role : links.role ≡ role_at car vs hs i
    unfolding chain_of
    link_role = ap (λ (x : Chain). x.role) q ∙ role_is

    pub link_closes : links.closes ≡ closing (drop i vs)
    unfolding chain_of
    link_closes = ap (λ (x : Chain). x.closes) q ∙ closes_is

    pub link_choice : links.choice ≡ first_at car vs hs i
    unfolding chain_of first_at
    link_choice = ap (λ (x : Chain). x.choice) q

    pub link_A : links.after_a ≡ A_at car vs hs i
    unfolding chain_of A_at
    link_A = ap (λ (x : Chain). x.after_a) q

    pub link_B : links.after_b ≡ B_at car vs hs i
    unfolding chain_of B_at
    link_B = ap (λ (x : Chain). x.after_b) q

    pub link_C : links.after_c ≡ gear_at car vs hs i
    unfolding chain_of gear_at
    link_C = ap (λ (x : Chain). x.after_c) q

    pub link_ceiling : links.ceiling ≡ ceiling_at car vs hs i
    unfolding chain_of ceiling_at
    link_ceiling = ap (λ (x : Chain). x.ceiling) q

module _ (car : Vehicle) (vs hs : List ℕ) (s i : ℕ) where
  -- field by field
  pub said_is : {a b : ℕ} {e : ℤ} {gs : List GearFacts} {what role held choice word x y z low top : ℕ} {down : Bool} {reason shown : ℕ}
      → a ≡ start vs i → b ≡ stop vs i - 1 → e ≡ required car (at vs i) (rise vs i)
      → gs ≡ gear_list car (role_at car vs hs i) (closing (drop i vs)) (at vs i) (rise vs i)
      → what ≡ kind vs s → role ≡ role_code (role_at car vs hs i) → held ≡ at hs i → choice ≡ first_at car vs hs i
      → word ≡ sentence (role_at car vs hs i) (at hs i) (first_at car vs hs i)
      (gear_facts car (role_at car vs hs i) (closing (drop i vs)) (at vs i) (rise vs i) (first_at car vs hs i)).enough
      → x ≡ A_at car vs hs i → y ≡ B_at car vs hs i → z ≡ gear_at car vs hs i → low ≡ floor car (at vs i) → top ≡ ceiling_at car vs hs i
      → down ≡ pedal_down (clutch_reason_at car vs s (gear_at car vs hs i)) → reason ≡ clutch_reason_at car vs s (gear_at car vs hs i)
      → shown ≡ byte_of (clutch_reason_at car vs s (gear_at car vs hs i)) (gear_at car vs hs i)
      → ◌≡◌ {A = Reasons} (record {
        about = i;
        first = a;
        last = b;
        required = e;
        gears = gs;
        kind = what;
        role = role;
        held = held;
        choice = choice;
        sentence = word;
        after_a = x;
        after_b = y;
        after_c = z;
        floor = low;
        ceiling = top;
        clutch = down;
        clutch_reason = reason;
        byte = shown;
      }) (said_of car vs hs s i none)
  unfolding said_of left
  said_is p1 p2 p3 p4 p5 p6 p7 p8 p9 p10 p11 p12 p13 p14 p15 p16 p17 t = record {
    about = i;
    first = p1 t;
    last = p2 t;
    required = p3 t;
    gears = p4 t;
    kind = p5 t;
    role = p6 t;
    held = p7 t;
    choice = p8 t;
    sentence = p9 t;
    after_a = p10 t;
    after_b = p11 t;
    after_c = p12 t;
    floor = p13 t;
    ceiling = p14 t;
    clutch = p15 t;
    clutch_reason = p16 t;
    byte = p17 t;
  }

  -- refused by 10: nothing was corrected
  pub said-wanting : (q : Fault) → uncorrected (said_of car vs hs s i none) ≡ said_of car vs hs s i (some q)
  unfolding said_of left uncorrected
  said-wanting q = refl

-- ---- the clutch

-- D is 0 or less where the next V is not above this V
pub falls : (vs : List ℕ) (s : ℕ) → s + 1 < length vs → le_z (rise vs s) (pos 0) ≡ leb (at vs (s + 1)) (at vs s)
falls vs s l =
    rw (rise-here vs s l)
    (by_order (at vs s) (at vs (s + 1))
    (λ h. fall_no (at vs s) (at vs (s + 1)) h ∙ sym (lt-leb (at vs (s + 1)) (at vs s) h))
    (λ h. fall_yes (at vs s) (at vs (s + 1)) h ∙ sym (le-leb (at vs (s + 1)) (at vs s) h)))

-- before a trip it is down
pub pedal-before : (car : Vehicle) (vs : List ℕ) (s g : ℕ) → moving (at vs s) ≡ false → 1 ≡ clutch_reason_at car vs s g
unfolding clutch_reason_at
pedal-before car vs s g m = rw m
