-- Two vehicles whose gears turn the engine alike, those of one d higher: what is said of a second names each gear d higher.
use Rattle.rules.proofs.Base.{ℕ, suc, ◌+◌, ◌-◌, ◌≤◌, ◌<◌, min, arith, ◌≡◌, refl, sym, ap, ◌∙◌, true, false, Option, none, some, List, [], ◌∷◌, ◌++◌}
use Rattle.rules.proofs.Base.{Bool, eqb, ℤ, length, take, drop, replicate, eqb-false, lt-leb, Vehicle, Role}
use Rattle.rules.specs.declared.Reasons.{Reasons}
use Rattle.rules.specs.Words.{◌and◌, within, at}
use Rattle.rules.specs.Units.{low, moving, rise, start, stop}
use Rattle.rules.specs.Gears.{enough}
use Rattle.rules.specs.Corrections.{floor, closing, ceiling, after_A, after_B, trip_speeds, trip_holds, first_at, gear_at}
use Rattle.rules.specs.Refusals.{Fault, room_fault, vehicle_fault, span_fault, left}
use Rattle.rules.specs.Edit.{Extent, around, hold_span}
use Rattle.rules.specs.Why.{kind, about, role_code, listed_power, minimum_role, driven_facts, no_facts, gear_facts, gear_list, sentence, A_at, B_at}
use Rattle.rules.specs.Why.{B_looks}
use Rattle.rules.specs.Why.{ceiling_of, ceiling_at, clutch_reason_at, pedal_down, byte_of, why_lo, why_end, row_fault, why_fault, early_fault, nothing}
use Rattle.rules.specs.Why.{said_of, why}
use Rattle.rules.specs.Inside.{InBounds}
use Rattle.rules.specs.Vocabulary.{Geared, up, role_at, up_reasons}
use Rattle.rules.proofs.Laws.Words.{clash, by_test, if_ind}
use Rattle.rules.proofs.Laws.Trips.{own_trip, stop_in}
use Rattle.rules.proofs.Laws.Held.{length_B}
use Rattle.rules.proofs.Laws.Checks.{orelse_none, rooms_in, vehicle_in, by_fault, left_none, left_some, left_by}
use Rattle.rules.proofs.Laws.Cards.{fit_of, in_trip}
use Rattle.rules.proofs.Laws.Limits.{floor-low}
use Rattle.rules.proofs.Laws.Vehicle.{low_from, within_lo, within_hi}
use Rattle.rules.proofs.Laws.Geared.{up_none, up_some, up_zero, leb_same, engine-up, under_up, minimum-up, allowed-up, over-up, fits-up}
use Rattle.rules.proofs.Laws.Geared.{required_same, power-up, floor-up}
use Rattle.rules.proofs.Laws.GearedTrips.{up_by_none, ups, length_ups, at_ups, role_up, free_up, ceiling-up, ceiling_some, A_up, B_up}
use Rattle.rules.proofs.Laws.GearedSpans.{TripFits, trip_ups, some_firsts, gear_up, gear_driven, first-up-at, fault-up, seconds-up}

-- ---- each gear

module _ {d : ℕ} {car van : Vehicle} (G : Geared d car van) (C : InBounds car) where
  enough-up : (v : ℕ) (z : ℤ) (g : ℕ) → low car ≤ g → g ≤ car.ng → enough van v z (g + d) ≡ enough car v z g
  unfolding enough
  enough-up v z g a b = rw (required_same G v z, power-up G C.points_from v g a b)

  driven_up : (here : Role) (closes : Bool) (v : ℕ) (z : ℤ) (g : ℕ) → low car ≤ g → g ≤ car.ng
      → driven_facts van here closes v z (g + d) ≡ driven_facts car here closes v z g
  unfolding driven_facts listed_power
  driven_up here closes v z g a b =
      let e : g + d - low van ≡ g - low car = omega (arith, G.lowest) in
      rw (
        power-up G C.points_from v g a b,
        engine-up G v g a b,
        minimum-up G (minimum_role here closes) g,
        e,
        allowed-up G here g,
        over-up G (minimum_role here closes) v g a b,
        under_up G v g a b,
        fits-up G here v g b,
        enough-up v z g a b,
      )

  same_range : (g : ℕ) → within (low van) van.ng (g + d) ≡ within (low car) car.ng g
  unfolding within
  same_range g =
      rw (
        leb_same {a = low van} {b = g + d} {c = low car} {e = g} (λ z. omega (arith, G.lowest)) (λ z. omega (arith, G.lowest)),
        leb_same {a = g + d} {b = van.ng} {c = g} {e = car.ng} (λ z. omega (arith, G.highest)) (λ z. omega (arith, G.highest)),
      )

  pub facts_up : (here : Role) (closes : Bool) (v : ℕ) (z : ℤ) (g : ℕ) → gear_facts van here closes v z (g + d) ≡ gear_facts car here closes v z g
  unfolding gear_facts
  facts_up here closes v z g =
      rw (same_range g)
      (by_test (within (low car) car.ng g)
      (λ t. rw t (driven_up here closes v z g (within_lo _ _ _ t) (within_hi _ _ _ t)))
      (λ t. rw t))

  -- below the lowest gear nothing is said
  pub facts_below : (here : Role) (closes : Bool) (v : ℕ) (z : ℤ) (g : ℕ) → g < low van → gear_facts van here closes v z g ≡ no_facts
  unfolding gear_facts within ◌and◌
  facts_below here closes v z g h = rw (lt-leb (low van) g h)

-- the ten gears, each in the place d higher
abbrev pub GearsUp : ℕ → Vehicle → Vehicle → Type 0
GearsUp d car van = (here : Role) (closes : Bool) (v : ℕ) (z : ℤ)
    → gear_list van here closes v z ≡ replicate d no_facts ++ take (10 - d) (gear_list car here closes v z)

module _ {car van : Vehicle} (C : InBounds car) where
  -- none higher, and one higher, above a gear of which nothing is said
  pub gears_as_they_are : Geared 0 car van → GearsUp 0 car van
  unfolding gear_list
  gears_as_they_are G here closes v z =
      let f = facts_up G C here closes v z in
      λ i. f 1 i ∷ f 2 i ∷ f 3 i ∷ f 4 i ∷ f 5 i ∷ f 6 i ∷ f 7 i ∷ f 8 i ∷ f 9 i ∷ f 10 i ∷ []

  pub gears-above-one : Geared 1 car van → GearsUp 1 car van
  unfolding gear_list
  gears-above-one G here closes v z =
      let f = facts_up G C here closes v z in
      let crawler : gear_facts van here closes v z 1 ≡ no_facts = facts_below G C here closes v z 1 (omega (arith, G.lowest, low_from car)) in
      λ i. crawler i ∷ f 1 i ∷ f 2 i ∷ f 3 i ∷ f 4 i ∷ f 5 i ∷ f 6 i ∷ f 7 i ∷ f 8 i ∷ f 9 i ∷ []

-- of nothing that is said nothing is higher
pub nothing_as_it_is : up_reasons 0 nothing ≡ nothing
unfolding up_reasons nothing up
nothing_as_it_is = refl

pub nothing-above-one : up_reasons 1 nothing ≡ nothing
unfolding up_reasons nothing up
nothing-above-one = refl

-- ---- the steps

-- what is left of a refused second is 0, which stays 0
left_up : (d : ℕ) (f : Option Fault) (a b : ℕ) → (f ≡ none → a ≡ up d b) → left f 0 a ≡ up d (left f 0 b)
unfolding left
left_up d none a b h = h refl
left_up d (some q) a b h = sym (up_none d)

left_alike : {A : Type 0} (f : Option Fault) (old : A) {a b : A} → (f ≡ none → a ≡ b) → left f old a ≡ left f old b
unfolding left
left_alike none old h = h refl
left_alike (some q) old h = refl

module _ {d : ℕ} {car van : Vehicle} (G : Geared d car van) (C : InBounds car) (vs hs : List ℕ) (even : length hs ≡ length vs) where
  role_at-up : (i : ℕ) → role_at van vs (ups d hs) i ≡ role_at car vs hs i
  unfolding role_at
  role_at-up i = rw (first-up-at G C vs hs (i - 1)) (role_up G _ _ _)

  -- the sentence of the first choice: of no choice its power is not asked
  sentence-up : (here : Role) (closes : Bool) (v : ℕ) (z : ℤ) (hold c : ℕ)
      → sentence here (up d hold) (up d c) (gear_facts van here closes v z (up d c)).enough ≡ sentence here hold c (gear_facts car here closes v z c).enough
  unfolding sentence
  sentence-up here closes v z hold c =
      rw (up_zero d hold, up_zero d c)
      (by_test (eqb c 0)
      (λ t. rw t)
      (λ t. let n = eqb-false c 0 t in rw (up_some d c (omega arith), facts_up G C here closes v z c)))

  told : (i : ℕ) → let here = role_at van vs (ups d hs) i in let here' = role_at car vs hs i in
      sentence here (at (ups d hs) i) (first_at van vs (ups d hs) i)
      (gear_facts van here (closing (drop i vs)) (at vs i) (rise vs i) (first_at van vs (ups d hs) i)).enough
      ≡ sentence here' (at hs i) (first_at car vs hs i) (gear_facts car here' (closing (drop i vs)) (at vs i) (rise vs i) (first_at car vs hs i)).enough
  told i =
      rw (role_at-up i, at_ups d hs i, first-up-at G C vs hs i)
      (sentence-up (role_at car vs hs i) (closing (drop i vs)) (at vs i) (rise vs i) (at hs i) (first_at car vs hs i))

  floor-above : (i : ℕ) → floor van (at vs i) ≡ up d (floor car (at vs i))
  floor-above i = floor-up G (at vs i) ∙ sym (up_some d _ (omega (arith, floor-low car C (at vs i), low_from car)))

  module _ (i : ℕ) (m : moving (at vs i) ≡ true) (F : TripFits car vs hs i) where
    abbrev us : List ℕ
    us = trip_speeds vs i

    abbrev ks : List ℕ
    ks = trip_holds vs hs i

    abbrev j : ℕ
    j = i - start vs i

    in_it : j < length ks
    in_it = in_trip vs hs even i m

    A_at-up : A_at van vs (ups d hs) i ≡ up d (A_at car vs hs i)
    unfolding A_at
    A_at-up = rw (trip_ups d vs hs i, (A_up G us ks C (some_firsts car vs hs even i m F)).0) (at_ups d (after_A car us ks) j)

    B_at-up : B_at van vs (ups d hs) i ≡ up d (B_at car vs hs i)
    unfolding B_at
    B_at-up = rw (trip_ups d vs hs i, (B_up G us ks C (some_firsts car vs hs even i m F)).0) (at_ups d (after_B car us ks) j)

    C_at-up : gear_at van vs (ups d hs) i ≡ up d (gear_at car vs hs i)
    C_at-up = let g = gear_up G C vs hs even i m F in g.0 ∙ sym (up_some d _ g.1)

    ceiling_at-up : ceiling_at van vs (ups d hs) i ≡ up d (ceiling_at car vs hs i)
    unfolding ceiling_at ceiling_of B_looks
    ceiling_at-up =
        let B = B_up G us ks C (some_firsts car vs hs even i m F) in
        let l : j < length (after_B car us ks) = rw (length_B car us ks) in_it in
        let s = B.1 in
        let c : 1 ≤ ceiling j (after_B car us ks) = ceiling_some j (after_B car us ks) (s (j - 1) (omega arith)) in
        rw (trip_ups d vs hs i, free_up G us ks j, B.0, ceiling-up G us ks j (after_B car us ks) l s)
        (by_test (B_looks car us ks j) (λ t. rw t (sym (up_some d _ c))) (λ t. rw t (sym (up_none d))))

    -- the clutch at a second s that shows this gear, and its byte
    reason_up : (s : ℕ) → clutch_reason_at van vs s (gear_at van vs (ups d hs) i) ≡ clutch_reason_at car vs s (gear_at car vs hs i)
    unfolding clutch_reason_at
    reason_up s =
        let r = gear_driven G C vs hs even i m F in
        rw ((gear_up G C vs hs even i m F).0, engine-up G (at vs s) (gear_at car vs hs i) r.0 r.1, G.idle)

    byte-up : (s : ℕ) → byte_of (clutch_reason_at van vs s (gear_at van vs (ups d hs) i)) (gear_at van vs (ups d hs) i)
        ≡ up d (byte_of (clutch_reason_at car vs s (gear_at car vs hs i)) (gear_at car vs hs i))
    unfolding byte_of
    byte-up s =
        let g = gear_up G C vs hs even i m F in
        let x = g.1 in
        rw (reason_up s, g.0)
        (by_test (pedal_down (clutch_reason_at car vs s (gear_at car vs hs i)))
        (λ t. let e : gear_at car vs hs i + d + 16 ≡ gear_at car vs hs i + 16 + d = omega arith in rw t (e ∙ sym (up_some d _ (omega arith))))
        (λ t. rw t (sym (up_some d _ x))))

  -- ---- what is said of the moving second i, where f is refusal 10 or nothing

  pub said-up : GearsUp d car van → (s i : ℕ) (f : Option Fault) → moving (at vs i) ≡ true → (f ≡ none → TripFits car vs hs i)
      → said_of van vs (ups d hs) s i f ≡ up_reasons d (said_of car vs hs s i f)
  unfolding said_of up_reasons
  said-up L s i f m F =
      let role = role_at-up i in
      let choice = first-up-at G C vs hs i in
      let v = at vs i in
      let z = rise vs i in
      λ k. record {
        about = i;
        first = start vs i;
        last = stop vs i - 1;
        required = required_same G v z k;
        gears = (ap (λ (r : Role). gear_list van r (closing (drop i vs)) v z) role ∙ L (role_at car vs hs i) (closing (drop i vs)) v z) k;
        kind = kind vs s;
        role = role_code (role k);
        held = at_ups d hs i k;
        choice = choice k;
        sentence = told i k;
        after_a = left_up d f (A_at van vs (ups d hs) i) (A_at car vs hs i) (λ e. A_at-up i m (F e)) k;
        after_b = left_up d f (B_at van vs (ups d hs) i) (B_at car vs hs i) (λ e. B_at-up i m (F e)) k;
        after_c = left_up d f (gear_at van vs (ups d hs) i) (gear_at car vs hs i) (λ e. C_at-up i m (F e)) k;
        floor = floor-above i k;
        ceiling = left_up d f (ceiling_at van vs (ups d hs) i) (ceiling_at car vs hs i) (λ e. ceiling_at-up i m (F e)) k;
        clutch = left_alike f false (λ e. ap pedal_down (reason_up i m (F e) s)) k;
        clutch_reason = left_alike f 0 (λ e. reason_up i m (F e) s) k;
        byte = left_up d f _ (byte_of (clutch_reason_at car vs s (gear_at car vs hs i)) (gear_at car vs hs i)) (λ e. byte-up i m (F e) s) k;
      }

-- ---- the whole

-- a second of which something is said is about a moving one
about_moves : (vs : List ℕ) (s : ℕ) → eqb (kind vs s) 0 ≡ false → moving (at vs (about vs s)) ≡ true
unfolding about kind
about_moves vs s h =
    by_test (moving (at vs s))
    (λ t. rw (t, t))
    (λ t. by_test (moving (at vs (suc s))) (λ u. rw (t, u, u)) (λ u. let z : true ≡ false = rw (t, u) at h in clash refl z))

-- its trip passes its checks where the seconds looked at do
span_fits : (car : Vehicle) (vs hs : List ℕ) (i : ℕ) → moving (at vs i) ≡ true
    → span_fault car vs hs (hold_span vs i).lo (hold_span vs i).end ≡ none → TripFits car vs hs i
unfolding hold_span around
span_fits car vs hs i m pass k a b =
    let c = stop_in vs i m in
    let r : Extent = record { lo = start vs i - 1; hi = stop vs i; end = min (suc (stop vs i)) (length vs) } in
    let e : r ≡ hold_span vs i = rw (m, own_trip vs i m) in
    fit_of car vs hs r.lo r.end (ap (λ (x : Extent). span_fault car vs hs x.lo x.end) e ∙ pass) k (omega arith) (omega arith)

module _ {d : ℕ} {car van : Vehicle} (G : Geared d car van) (a : vehicle_fault car ≡ none) (b : vehicle_fault van ≡ none) (vs hs : List ℕ) (s : ℕ) where
  pub why_fault-up : why_fault van vs (ups d hs) s ≡ why_fault car vs hs s
  unfolding why_fault row_fault room_fault
  why_fault-up = rw (length_ups d hs, a, b, fault-up G (vehicle_in car a) vs hs (why_lo vs s) (why_end vs s))

  early-up : early_fault van vs (ups d hs) s ≡ early_fault car vs hs s
  unfolding early_fault row_fault room_fault
  early-up = rw (length_ups d hs, a, b, seconds-up G (vehicle_in car a) vs hs (why_lo vs s) (why_end vs s))

  -- the rooms are as long as the trace where nothing is refused early
  early_even : early_fault car vs hs s ≡ none → length hs ≡ length vs
  unfolding early_fault row_fault
  early_even e = (rooms_in vs hs hs (orelse_none _ _ (orelse_none _ _ e).1).0).0

  no_want : why_fault car vs hs s ≡ none → span_fault car vs hs (hold_span vs (about vs s)).lo (hold_span vs (about vs s)).end ≡ none
  unfolding why_fault row_fault why_lo why_end
  no_want e = (orelse_none _ _ (orelse_none _ _ (orelse_none _ _ (orelse_none _ _ e).1).1).1).1

  pub why-up : GearsUp d car van → up_reasons d nothing ≡ nothing → why van vs (ups d hs) s ≡ up_reasons d (why car vs hs s)
  unfolding why
  why-up L N =
      by_fault (early_fault car vs hs s)
      (λ e.
      rw (left_none _ _ e, left_none _ _ (early-up ∙ e))
      (by_test (eqb (kind vs s) 0)
      (λ t. rw t (sym N))
      (λ t.
      let m = about_moves vs s t in
      rw (t, why_fault-up)
      (said-up G (vehicle_in car a) vs hs (early_even e) L s (about vs s) (why_fault car vs hs s) m (λ f. span_fits car vs hs (about vs s) m (no_want f))))))
      (λ q e. rw (left_some _ _ e, left_some _ _ (early-up ∙ e)) (sym N))

-- ---- d 0: nothing is higher

-- what is said lists ten gears
ten_listed : (car : Vehicle) (vs hs : List ℕ) (s : ℕ) → take 10 (why car vs hs s).gears ≡ (why car vs hs s).gears
unfolding why said_of nothing gear_list
ten_listed car vs hs s =
    left_by (λ (r : Reasons). take 10 r.gears ≡ r.gears) (early_fault car vs hs s) nothing _ refl
    (λ e. if_ind (λ (r : Reasons). take 10 r.gears ≡ r.gears) (eqb (kind vs s) 0) (λ t. refl) (λ t. refl))

pub why_none_higher : (car : Vehicle) (vs hs : List ℕ) (s : ℕ) → up_reasons 0 (why car vs hs s) ≡ why car vs hs s
unfolding up_reasons
why_none_higher car vs hs s =
    let r = why car vs hs s in
    λ k. record {
      about = r.about;
      first = r.first;
      last = r.last;
      required = r.required;
      gears = ten_listed car vs hs s k;
      kind = r.kind;
      role = r.role;
      held = up_by_none r.held k;
      choice = up_by_none r.choice k;
      sentence = r.sentence;
      after_a = up_by_none r.after_a k;
      after_b = up_by_none r.after_b k;
      after_c = up_by_none r.after_c k;
      floor = up_by_none r.floor k;
      ceiling = up_by_none r.ceiling k;
      clutch = r.clutch;
      clutch_reason = r.clutch_reason;
      byte = up_by_none r.byte k;
    }
