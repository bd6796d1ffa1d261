-- What the calls of one trip's work come to, one after the other.
use Rattle.rules.proofs.Offered.{ℕ, suc, ◌-◌, ◌*◌, ◌≤◌, ◌<◌, arith, ◌≡◌, refl, sym, ap, ◌∙◌, Bool, true, false, List, leb, eqb, ℤ, length, drop, eq-eqb, ne_eqb}
use Rattle.rules.proofs.Offered.{InBounds, if◌then◌else◌, ◌and◌, ◌or◌, at, pass, table, rise, closing, role_of, here, first_choice, peak, rising, slowing}
use Rattle.rules.proofs.Offered.{firsts, after_A, after_B, gears, byte, by_order, by_test, clash, and_left, and_no, low, engine, choose, fits, suits, allowed}
use Rattle.rules.proofs.Offered.{is_first, is_under_nmax, le-leb, lt-leb, eqb-true, both, first_choice_plainly}
use Rattle.std.proofs.lemmas.Bool.Decides.{nat_tests}
use Rattle.rules.specs.declared.Vehicle.{Vehicle}
use Rattle.rules.specs.declared.Role.TheVariants.{First}
use Rattle.trips.proofs.Passes.{pass_same, firsts_fresh}
use Rattle.gears.specs.Choosing.{first_of, first_parts}
use Rattle.trips.specs.Ready.{WithGears}
use Rattle.trips.specs.Trip.{RunFrom, AllGeared, on_way, trip_bytes}

module _ (car : Vehicle) (v : ℕ) where
  -- at a trip's first second the lowest gear fits where it turns at most at nmax, and no other one
  fits_first : (g : ℕ) → fits car First v g ≡ (eqb g (low car) and leb (engine car (low car) v) (1000 * car.nmax))
  unfolding fits allowed is_first is_under_nmax ◌and◌ ◌or◌
  fits_first g = grind (arith, nat_tests)

  module _ (b : InBounds car) (d : ℤ) {hold lowest : ℕ} (free : hold ≡ 0) (e : lowest ≡ low car) where
    -- so with no hold it is the first choice there
    pub first_one : engine car lowest v ≤ 1000 * car.nmax → lowest ≡ first_of car First v d hold
    unfolding first_of suits
    first_one h =
        let f : fits car First v (low car) ≡ true = rw fits_first (both (eq-eqb (low car) (low car) refl) (le-leb _ _ (rw e at h))) in
        let only : (g : ℕ) → fits car First v g ≡ true → g ≡ low car = λ g t. eqb-true g (low car) (and_left _ _ (rw fits_first at t)) in
        let C = first_choice_plainly car First v d b in
        let l : low car ≤ car.ng = omega (arith, b.low_ng) in
        rw (eq-eqb hold 0 free) (e ∙ sym (only (choose car First v d)
        (by_test (suits car First v d (low car))
        (λ s. (C.choice_enough (low car) l s).fitting)
        (λ s. (C.choice_most (λ g m. by_test (suits car First v d g) (λ t. clash (rw (only g (and_left _ _ t)) at t) s) (λ t. t)) (low car) l f).fitting))))

    -- otherwise there is none
    pub first_none : 1000 * car.nmax < engine car lowest v → 0 ≡ first_of car First v d hold
    unfolding first_of
    first_none h =
        let C = first_choice_plainly car First v d b in
        rw (eq-eqb hold 0 free) (sym (C.choice_none (λ g l. rw fits_first (and_no _ _ (lt-leb _ _ (rw e at h))))))

module _ (car : Vehicle) (us hs : List ℕ) where
  -- a trip's seconds in a row, from its first on: what second j is, and its first choice
  known : (run j : ℕ) (gs : List ℕ) → closing (drop j us) ≡ leb run j
      → role_of car (true and eqb j 0) (leb run j) (if eqb j 0 then 0 else at gs (j - 1)) ≡ here car us hs j gs
  unfolding here role_of ◌and◌
  known run j gs c =
      by_order 0 j
      (λ l. rw (c, ne_eqb j 0 (λ z. omega arith)))
      (λ l. rw (eq-eqb j 0 (omega arith)))

  on_way_is : (run : ℕ) → RunFrom us run → length us ≡ suc (length hs) → (j : ℕ) (gs : List ℕ) → j < length hs
      → on_way car us hs true run 0 j gs ≡ first_choice car us hs j gs
  unfolding on_way
  on_way_is run R n j gs l = rw (known run j gs (R.run j (omega arith))) (sym (first_parts car us hs j gs))

  -- so that going through all of them gives the trip's first choices
  pub way_firsts : (run : ℕ) → RunFrom us run → length us ≡ suc (length hs) → (gs : List ℕ) {f : List ℕ} → length gs ≡ length hs
      → f ≡ pass (on_way car us hs true run 0) (length hs) gs → f ≡ firsts car us hs
  way_firsts run R n gs m e =
      e ∙ pass_same (on_way car us hs true run 0) (first_choice car us hs) gs (length hs) (λ j rs l. on_way_is run R n j rs l) ∙ firsts_fresh car us hs gs m

  -- one second of some in a row: the trip's first
  pub way_begins : (begins : Bool) (run last : ℕ) (gs : List ℕ) {v : ℕ} → begins ≡ true → v ≡ first_of car First (at us 0) (rise us 0) (at hs 0)
      → v ≡ on_way car us hs begins run last 0 gs
  unfolding on_way role_of ◌and◌
  way_begins begins run last gs t e = e ∙ rw t

  -- and any other
  pub way_step : (begins : Bool) (run last before j : ℕ) (gs : List ℕ) {v : ℕ} → (begins and eqb j 0) ≡ false
      → before ≡ (if eqb j 0 then last else at gs (j - 1))
      → v ≡ first_of car (role_of car false (leb run j) before) (at us j) (rise us j) (at hs j) → v ≡ on_way car us hs begins run last j gs
  unfolding on_way
  way_step begins run last before j gs a b e = e ∙ rw (a, b)

  -- what the passes make of them are the trip's gears
  pub gears_is : {f a b g : List ℕ} → f ≡ firsts car us hs → a ≡ pass (peak car us hs) (length hs) f → b ≡ pass (rising car us hs) (length hs) a
      → g ≡ pass (slowing car us hs) (length hs) b → g ≡ gears car us hs
  unfolding gears after_B after_A
  gears_is e pa pb pc = rw (pc, pb, pa, e)

  -- which the ratios have places for
  pub gears_there : {g : List ℕ} → g ≡ gears car us hs → length us ≡ suc (length hs) → length g ≡ length hs → AllGeared car us hs → WithGears us g
  gears_there e s n G = record { speeds = s ∙ ap suc (sym n); gear = λ j l. rw e (G.gear j (omega (arith, n))) }

  -- then the bytes
  pub bytes_is : {g t : List ℕ} → g ≡ gears car us hs → length g ≡ length hs → t ≡ table (λ j. byte car us j (at g j)) 0 (length g) → t ≡ trip_bytes car us hs
  unfolding trip_bytes
  bytes_is e n q = q ∙ rw (n, e)
