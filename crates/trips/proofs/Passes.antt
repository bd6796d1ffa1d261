-- A pass as a loop meets it: one turn further, places that it leaves alone, places that it writes without having looked at them.
-- And no gear of a trip is above ng + 1.
use Rattle.rules.proofs.Offered.{ℕ, zero, suc, ◌+◌, ◌-◌, ◌≤◌, ◌<◌, zero-add, le_refl, not-suc-le-zero, add-one, arith, ◌≡◌, refl, sym, ap, ◌∙◌, Option, none}
use Rattle.rules.proofs.Offered.{some, option_get_or, List, eqb, length, set, replicate, length-replicate, get_or-set_same, get_or-set_other}
use Rattle.rules.proofs.Offered.{set-get_or, set_out, ext_get_or}
use Rattle.rules.proofs.Offered.{ltb-true, at, first, pass, table, low, rise, is_under_nmax, floor, ceiling, role_of, here, first_choice, is_peak}
use Rattle.rules.proofs.Offered.{peak, too_high}
use Rattle.rules.proofs.Offered.{rising, too_low, slowing, firsts, after_A, after_B, gears, InBounds, by_eq, by_order, if_ind, and_right, length-pass, pass-at}
use Rattle.rules.proofs.Offered.{pass_later, pass-holds, length-table, at_table, Found, first_found, length-firsts, length_A, length_B, first_is, choose_to}
use Rattle.rules.specs.declared.Vehicle.{Vehicle}

-- ---- one turn further

-- before the first place the list is as it was
pub pass-start : (f : ℕ → List ℕ → ℕ) (gs : List ℕ) → gs ≡ pass f 0 gs
unfolding pass
pass-start f gs = refl

-- `l` is the list as it stands before place k
pub pass-more : (f : ℕ → List ℕ → ℕ) (gs l : List ℕ) (k v : ℕ) → l ≡ pass f k gs → v ≡ f k l → set l k v ≡ pass f (k + 1) gs
unfolding pass
pass-more f gs l k v e h = rw (h, e, add-one)

-- a place that the rule leaves as it stands
pub pass_still : (f : ℕ → List ℕ → ℕ) (gs : List ℕ) (k : ℕ) {l : List ℕ} → l ≡ pass f k gs → f k l ≡ at l k → pass f (suc k) gs ≡ pass f k gs
unfolding pass
pass_still f gs k {l} e h = let same : f k (pass f k gs) ≡ at (pass f k gs) k = rw e at h in rw same (set-get_or (pass f k gs) k 0)

-- places that the rule leaves alone may be passed over
pub pass_skip : (f : ℕ → List ℕ → ℕ) (gs : List ℕ) (k : ℕ) → ((j : ℕ) → j < k → f j gs ≡ at gs j) → pass f k gs ≡ gs
unfolding pass
pass_skip f gs zero h = refl
pass_skip f gs (suc k) h = rw (pass_skip f gs k (λ j l. h j (omega arith)), h k (omega arith)) (set-get_or gs k 0)

-- past the list's end there is no place to write
pub pass_over : (f : ℕ → List ℕ → ℕ) (gs : List ℕ) {n : ℕ} → length gs ≡ n → (k : ℕ) → n ≤ k → pass f k gs ≡ pass f n gs
unfolding pass
pass_over f gs {n} e zero h = let z : 0 ≡ n = omega arith in ap (λ (i : ℕ). pass f i gs) z
pass_over f gs {n} e (suc k) h =
    by_eq h
    (λ z. ap (λ (i : ℕ). pass f i gs) (sym z))
    (λ l. set_out (pass f k gs) k (f k (pass f k gs)) (simp length-pass (omega (arith, e))) ∙ pass_over f gs e k (omega arith))

-- a list of one place, or the first place of more, if the rule leaves the first alone
pub pass-first : (f : ℕ → List ℕ → ℕ) (gs : List ℕ) (k : ℕ) → k ≤ 1 → at gs 0 ≡ f 0 gs → gs ≡ pass f k gs
pass-first f gs k l h = sym (pass_skip f gs k (λ j m. let e : j ≡ 0 = omega arith in rw e (sym h)))

-- rules that say the same of every place make the same of a list
pub pass_same : (f g : ℕ → List ℕ → ℕ) (gs : List ℕ) (k : ℕ) → ((j : ℕ) (rs : List ℕ) → j < k → f j rs ≡ g j rs) → pass f k gs ≡ pass g k gs
unfolding pass
pass_same f g gs zero h = refl
pass_same f g gs (suc k) h = rw (pass_same f g gs k (λ j rs l. h j rs (omega arith)), h k (pass g k gs) (omega arith))

-- ---- what was there before

-- the rule for a place looks at earlier places only
pub record LooksBack (f : ℕ → List ℕ → ℕ) : Type 0 where
  pub same : (j : ℕ) (rs ss : List ℕ) → length rs ≡ length ss → ((i : ℕ) → i < j → at rs i ≡ at ss i) → f j rs ≡ f j ss

-- then a pass does not depend on what the list held before
pub pass_fresh : {f : ℕ → List ℕ → ℕ} → LooksBack f → (gs hs : List ℕ) → length gs ≡ length hs → (k : ℕ) → k ≤ length gs
    → (j : ℕ) → j < k → at (pass f k gs) j ≡ at (pass f k hs) j
unfolding pass
pass_fresh {f} B gs hs n zero h j l = absurd (not-suc-le-zero l)
pass_fresh {f} B gs hs n (suc k) h j l =
    let before : (i : ℕ) → i < k → at (pass f k gs) i ≡ at (pass f k hs) i = pass_fresh B gs hs n k (omega arith) in
    let sizes : length (pass f k gs) ≡ length (pass f k hs) = length-pass f gs k ∙ n ∙ sym (length-pass f hs k) in
    let one : length (pass f k gs) ≡ length gs = length-pass f gs k in
    by_eq (omega arith)
    (λ (e : j ≡ k). rw e
    (get_or-set_same (pass f k gs) k (f k (pass f k gs)) 0 (omega arith)
    ∙ B.same k (pass f k gs) (pass f k hs) sizes before
    ∙ sym (get_or-set_same (pass f k hs) k (f k (pass f k hs)) 0 (omega arith))))
    (λ (m : j < k). get_or-set_other (pass f k gs) k j (f k (pass f k gs)) 0 (omega arith)
    ∙ before j m
    ∙ sym (get_or-set_other (pass f k hs) k j (f k (pass f k hs)) 0 (omega arith)))

-- a first choice looks at no place that is not yet written
pub first_looks_back : (car : Vehicle) (us hs : List ℕ) → LooksBack (first_choice car us hs)
unfolding first_choice here role_of
first_looks_back car us hs = record {
  same = λ j rs ss n h. by_order 0 j (λ l. rw (h (j - 1) (omega arith))) (λ l. let e : j ≡ 0 = omega arith in rw e);
}

-- so the first choices come out whatever the list held before
pub firsts_fresh : (car : Vehicle) (us hs gs : List ℕ) → length gs ≡ length hs → pass (first_choice car us hs) (length hs) gs ≡ firsts car us hs
unfolding firsts
firsts_fresh car us hs gs n =
    let f = first_choice car us hs in
    let zs : List ℕ = replicate (length hs) 0 in
    let m : length zs ≡ length hs = length-replicate (length hs) 0 in
    let s : length (pass f (length hs) gs) ≡ length gs = length-pass f gs (length hs) in
    ext_get_or 0 (pass f (length hs) gs) (pass f (length hs) zs) (s ∙ n ∙ sym (length-pass f zs (length hs) ∙ m))
    (λ i l. pass_fresh (first_looks_back car us hs) gs zs (n ∙ sym m) (length hs) (omega arith) i (omega arith))

-- ---- a table

-- a rule that looks at its own place only makes a table
pub pass-table : (f : ℕ → ℕ → ℕ) (gs : List ℕ) → pass (λ j rs. f j (at rs j)) (length gs) gs ≡ table (λ j. f j (at gs j)) 0 (length gs)
pass-table f gs =
    let g : ℕ → List ℕ → ℕ = λ j rs. f j (at rs j) in
    let s : length (pass g (length gs) gs) ≡ length gs = length-pass g gs (length gs) in
    ext_get_or 0 (pass g (length gs) gs) (table (λ j. f j (at gs j)) 0 (length gs)) (s ∙ sym (length-table (λ j. f j (at gs j)) 0 (length gs)))
    (λ i l.
    let h : i < length gs = omega arith in
    pass-at g gs (length gs) i h h
    ∙ ap (f i) (pass_later g gs i i (le_refl i))
    ∙ sym (at_table (λ j. f j (at gs j)) 0 (length gs) i h ∙ ap (λ (m : ℕ). f m (at gs m)) (zero-add i)))

-- ---- no gear is above ng + 1

-- the floor of a second
pub floor_to : (car : Vehicle) (v : ℕ) → floor car v ≤ suc car.ng
unfolding floor
floor_to car v = go (first (is_under_nmax car v) (low car) (suc car.ng - low car)) refl
  where
    go : (o : Option ℕ) → first (is_under_nmax car v) (low car) (suc car.ng - low car) ≡ o → option_get_or o (suc car.ng) ≤ suc car.ng
    go none e = omega arith
    go (some i) e =
        let n = suc car.ng - low car in
        let f : Found (is_under_nmax car v) (low car) (low car + n) i = first_found (is_under_nmax car v) n (low car) i e in
        omega (arith, f.from, f.below)

module _ (car : Vehicle) (C : InBounds car) where
  module _ (us hs : List ℕ) where
    -- a gear that is at most ng + 1, at any second
    abbrev To : ℕ → ℕ → Type 0
    To j g = g ≤ suc car.ng

    -- a first choice, if the hold is a gear
    first_to : (j : ℕ) (rs : List ℕ) → at hs j ≤ car.ng → first_choice car us hs j rs ≤ suc car.ng
    unfolding first_choice
    first_to j rs h =
        if_ind (λ g. g ≤ suc car.ng) (eqb (at hs j) 0)
        (λ t. omega (arith, choose_to car (here car us hs j rs) (at us j) (rise us j))) (λ t. omega arith)

    -- what pass A leaves
    peak_to : (j : ℕ) (rs : List ℕ) → To j (at rs j) → To j (peak car us hs j rs)
    unfolding peak
    peak_to j rs h = if_ind (To j) (is_peak car us hs j rs) (λ t. omega arith) (λ t. h)

    -- what pass B leaves
    rising_to : (j : ℕ) (rs : List ℕ) → To j (at rs j) → To j (rising car us hs j rs)
    unfolding rising too_high
    rising_to j rs h =
        if_ind (To j) (too_high car us hs j rs)
        (λ t. let c : ceiling j rs < at rs j = ltb-true _ _ (and_right _ _ t) in omega (arith, floor_to car (at us j))) (λ t. h)

    -- what pass C leaves
    slowing_to : (j : ℕ) (rs : List ℕ) → To j (at rs j) → To j (slowing car us hs j rs)
    unfolding slowing
    slowing_to j rs h = if_ind (To j) (too_low car us hs j rs) (λ t. omega (arith, C.low_ng)) (λ t. h)

    -- the gears of a trip after B, and all in all
    pub B_to : (j : ℕ) → j < length hs → at hs j ≤ car.ng → at (after_B car us hs) j ≤ suc car.ng
    unfolding after_B after_A
    B_to j l h =
        let n = length hs in
        pass-holds (rising car us hs) (after_A car us hs) To rising_to n j (rw (length_A car us hs) l)
        (pass-holds (peak car us hs) (firsts car us hs) To peak_to n j (rw (length-firsts car us hs) l)
        (rw (first_is car us hs j l) (first_to j _ h)))

    pub gears_to : (j : ℕ) → j < length hs → at hs j ≤ car.ng → at (gears car us hs) j ≤ suc car.ng
    unfolding gears
    gears_to j l h = pass-holds (slowing car us hs) (after_B car us hs) To slowing_to (length hs) j (rw (length_B car us hs) l) (B_to j l h)
