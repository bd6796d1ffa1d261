-- Two vehicles whose gears turn the engine alike, those of one d higher: in a trip every gear is d higher, after each pass.
use Rattle.rules.proofs.Base.{ℕ, zero, suc, ◌+◌, ◌-◌, ◌≤◌, ◌<◌, max, min, add-zero, arith, ◌≡◌, refl, sym, ap, ◌∙◌, Bool, List, [], ◌∷◌, map, leb, eqb}
use Rattle.rules.proofs.Base.{length, set, take, drop, replicate, length-set, get_or-set_same, get_or-set_other, le-ltb, eqb-true, eqb-false, ne_eqb}
use Rattle.rules.proofs.Base.{Vehicle}
use Rattle.rules.specs.Words.{◌and◌, at, part, pass, table}
use Rattle.rules.specs.Units.{low, rise}
use Rattle.rules.specs.Corrections.{floor, closing, role_of, ceiling, here, first_choice, free, is_peak, peak, too_high, rising, too_low, slowing, firsts}
use Rattle.rules.specs.Corrections.{after_A, after_B, gears}
use Rattle.rules.specs.Inside.{InBounds}
use Rattle.rules.specs.Vocabulary.{Geared, up}
use Rattle.rules.proofs.Laws.Words.{by_test, by_order, if_ind, and_left, and_right, length-pass}
use Rattle.rules.proofs.Laws.Vehicle.{low_from}
use Rattle.rules.proofs.Laws.Held.{length-firsts, length_A, length_B}
use Rattle.rules.proofs.Laws.Geared.{up_none, up_some, up_zero, eqb_same, leb_same, ltb_same, choose-up, floor-up}

-- ---- lists of gears

abbrev pub ups : ℕ → List ℕ → List ℕ
ups d l = map (up d) l

pub length_ups : (d : ℕ) (l : List ℕ) → length (ups d l) ≡ length l
length_ups d [] = refl
length_ups d (x ∷ l) = ap suc (length_ups d l)

pub at_ups : (d : ℕ) (l : List ℕ) (i : ℕ) → at (ups d l) i ≡ up d (at l i)
at_ups d [] i = sym (up_none d)
at_ups d (x ∷ l) zero = refl
at_ups d (x ∷ l) (suc i) = at_ups d l i

pub set_ups : (d : ℕ) (l : List ℕ) (k x : ℕ) → set (ups d l) k (up d x) ≡ ups d (set l k x)
set_ups d [] k x = refl
set_ups d (y ∷ l) zero x = refl
set_ups d (y ∷ l) (suc k) x = ap (λ (m : List ℕ). up d y ∷ m) (set_ups d l k x)

none_ups : (d n : ℕ) → ups d (replicate n 0) ≡ replicate n 0
none_ups d zero = refl
none_ups d (suc n) = rw (up_none d, none_ups d n)

drop_ups : (d n : ℕ) (l : List ℕ) → drop n (ups d l) ≡ ups d (drop n l)
drop_ups d zero l = refl
drop_ups d (suc n) [] = refl
drop_ups d (suc n) (x ∷ l) = drop_ups d n l

take_ups : (d n : ℕ) (l : List ℕ) → take n (ups d l) ≡ ups d (take n l)
take_ups d zero l = refl
take_ups d (suc n) [] = refl
take_ups d (suc n) (x ∷ l) = ap (λ (m : List ℕ). up d x ∷ m) (take_ups d n l)

pub part_ups : (d : ℕ) (l : List ℕ) (a e : ℕ) → part (ups d l) a e ≡ ups d (part l a e)
part_ups d l a e = ap (take (e - a)) (drop_ups d a l) ∙ take_ups d (e - a) (drop a l)

pub table_ups : (d : ℕ) (f : ℕ → ℕ) (k lo : ℕ) → ups d (table f lo k) ≡ table (λ i. up d (f i)) lo k
unfolding table
table_ups d f zero lo = refl
table_ups d f (suc k) lo = ap (λ (m : List ℕ). up d (f lo) ∷ m) (table_ups d f k (suc lo))

-- every one of a list is a gear
abbrev pub Some : List ℕ → Type 0
Some l = (i : ℕ) → i < length l → 1 ≤ at l i

-- a pass whose rule goes d higher goes d higher
pass_up : (d : ℕ) (f g : ℕ → List ℕ → ℕ) → ((j : ℕ) (rs : List ℕ) → g j (ups d rs) ≡ up d (f j rs)) → (k : ℕ) (gs : List ℕ)
    → pass g k (ups d gs) ≡ ups d (pass f k gs)
unfolding pass
pass_up d f g h zero gs = refl
pass_up d f g h (suc k) gs = rw (pass_up d f g h k gs, h k (pass f k gs)) (set_ups d (pass f k gs) k (f k (pass f k gs)))

-- the same of a rule that makes gears of gears
pass-up_some : (d : ℕ) (f g : ℕ → List ℕ → ℕ) → ((j : ℕ) (rs : List ℕ) → j < length rs → Some rs → (g j (ups d rs) ≡ up d (f j rs)) × (1 ≤ f j rs))
    → (k : ℕ) (gs : List ℕ) → k ≤ length gs → Some gs → (pass g k (ups d gs) ≡ ups d (pass f k gs)) × Some (pass f k gs)
unfolding pass
pass-up_some d f g h zero gs l s = (refl, s)
pass-up_some d f g h (suc k) gs l s =
    let ih = pass-up_some d f g h k gs (omega arith) s in
    let r = pass f k gs in
    let n : length r ≡ length gs = length-pass f gs k in
    let w = h k r (omega arith) ih.1 in (
      rw (ih.0, w.0) (set_ups d r k (f k r)),
      λ i b. by_test (eqb i k)
          (λ t. let e : i ≡ k = eqb-true i k t in rw (e, get_or-set_same r k (f k r) 0 (omega arith)) w.1)
          (λ t. rw (get_or-set_other r k i (f k r) 0 (eqb-false i k t)) (ih.1 i (omega (arith, length-set r k (f k r))))),
    )

-- ---- the gears of a trip

pub ceiling_some : (j : ℕ) (gs : List ℕ) → 1 ≤ at gs (j - 1) → 1 ≤ ceiling j gs
unfolding ceiling
ceiling_some j gs h = if_ind (λ c. 1 ≤ c) (leb 2 j and eqb (at gs (j - 1)) (at gs (j - 2))) (λ t. omega arith) (λ t. h)

module _ {d : ℕ} {car van : Vehicle} (G : Geared d car van) where
  low_up : (x : ℕ) → eqb (up d x) (low van) ≡ eqb x (low car)
  low_up x =
      let l = low_from car in
      by_test (eqb x 0)
      (λ t. let z : x ≡ 0 = eqb-true x 0 t in rw (z, up_none d, ne_eqb 0 (low van) (λ e. omega (arith, G.lowest)), ne_eqb 0 (low car) (λ e. omega arith)))
      (λ t. let z = eqb-false x 0 t in
      rw (up_some d x (omega arith)) (eqb_same {a = x + d} {b = low van} {c = x} {e = low car} (λ e. omega (arith, G.lowest)) (λ e. omega (arith, G.lowest))))

  pub role_up : (begins closes : Bool) (x : ℕ) → role_of van begins closes (up d x) ≡ role_of car begins closes x
  unfolding role_of
  role_up begins closes x = rw (low_up x)

  module _ (us hs : List ℕ) where
    pub free_up : (j : ℕ) → free van us (ups d hs) j ≡ free car us hs j
    unfolding free
    free_up j = rw (at_ups d hs j, up_zero d (at hs j))

    first_choice-up : InBounds car → (j : ℕ) (gs : List ℕ) → first_choice van us (ups d hs) j (ups d gs) ≡ up d (first_choice car us hs j gs)
    unfolding first_choice here
    first_choice-up C j gs =
        rw (at_ups d hs j, up_zero d (at hs j), at_ups d gs (j - 1), role_up (eqb j 0) (closing (drop j us)) (at gs (j - 1)))
        (by_test (eqb (at hs j) 0)
        (λ t. rw t (choose-up G C (role_of car (eqb j 0) (closing (drop j us)) (at gs (j - 1))) (at us j) (rise us j)))
        (λ t. rw t))

    module _ (j : ℕ) (rs : List ℕ) (l : j < length rs) (s : Some rs) where
      gear_here : at (ups d rs) j ≡ at rs j + d
      gear_here = at_ups d rs j ∙ up_some d (at rs j) (s j l)

      gear_before : at (ups d rs) (j - 1) ≡ at rs (j - 1) + d
      gear_before = at_ups d rs (j - 1) ∙ up_some d (at rs (j - 1)) (s (j - 1) (omega arith))

      is_peak-up : is_peak van us (ups d hs) j (ups d rs) ≡ is_peak car us hs j rs
      unfolding is_peak ◌and◌
      is_peak-up =
          by_order (suc j) (length rs)
          (λ h.
          let p = at rs (j - 1) in
          let q = at rs (suc j) in
          let g = at rs j in
          let next : at (ups d rs) (suc j) ≡ q + d = at_ups d rs (suc j) ∙ up_some d q (s (suc j) h) in
          let f = floor car (at us j) in
          let sp = s (j - 1) (omega arith) in
          let sg = s j l in
          rw (
            free_up j,
            length_ups d rs,
            gear_here,
            gear_before,
            next,
            floor-up G (at us j),
            eqb_same {a = g + d} {b = max (p + d) (q + d) + 1} {c = g} {e = max p q + 1} (λ z. omega arith) (λ z. omega arith),
            eqb_same {a = g + d} {b = min (p + d) (q + d) + 1} {c = g} {e = min p q + 1} (λ z. omega arith) (λ z. omega arith),
            eqb_same {a = g + d} {b = min (p + d) (q + d) + 2} {c = g} {e = min p q + 2} (λ z. omega arith) (λ z. omega arith),
            leb_same {a = f + d} {b = g + d - 1} {c = f} {e = g - 1} (λ z. omega arith) (λ z. omega arith),
          ))
          (λ h. by_test (free car us hs j) (λ t. rw (free_up j, length_ups d rs, t, le-ltb (suc j) (length rs) h)) (λ t. rw (free_up j, t)))

      peak-up : (peak van us (ups d hs) j (ups d rs) ≡ up d (peak car us hs j rs)) × (1 ≤ peak car us hs j rs)
      unfolding peak is_peak
      peak-up =
          let sg = s j l in
          let sp = s (j - 1) (omega arith) in
          by_test (is_peak car us hs j rs)
          (λ t.
          let z : at rs j ≡ max (at rs (j - 1)) (at rs (suc j)) + 1 = eqb-true _ _ (and_right _ _ (and_left _ _ (and_left _ _ t))) in
          let e : at rs j + d - 1 ≡ at rs j - 1 + d = omega arith in
          (rw (is_peak-up, t, gear_here) (e ∙ sym (up_some d (at rs j - 1) (omega arith))), rw t (omega arith)))
          (λ t. (rw (is_peak-up, t) (at_ups d rs j), rw t sg))

      pub ceiling-up : ceiling j (ups d rs) ≡ ceiling j rs + d
      unfolding ceiling
      ceiling-up =
          let two : at (ups d rs) (j - 2) ≡ at rs (j - 2) + d = at_ups d rs (j - 2) ∙ up_some d (at rs (j - 2)) (s (j - 2) (omega arith)) in
          rw (
            gear_before,
            two,
            eqb_same {a = at rs (j - 1) + d} {b = at rs (j - 2) + d} {c = at rs (j - 1)} {e = at rs (j - 2)} (λ z. omega arith)
                (λ z. omega arith),
          )
          (by_test (leb 2 j and eqb (at rs (j - 1)) (at rs (j - 2))) (λ t. rw t (omega arith)) (λ t. rw t))

      too_high-up : too_high van us (ups d hs) j (ups d rs) ≡ too_high car us hs j rs
      unfolding too_high
      too_high-up =
          rw (
            free_up j,
            gear_here,
            ceiling-up,
            ltb_same {a = ceiling j rs + d} {b = at rs j + d} {c = ceiling j rs} {e = at rs j} (λ z. omega arith)
                (λ z. omega arith),
          )

      rising-up : (rising van us (ups d hs) j (ups d rs) ≡ up d (rising car us hs j rs)) × (1 ≤ rising car us hs j rs)
      unfolding rising
      rising-up =
          let sg = s j l in
          let c = ceiling j rs in
          let f = floor car (at us j) in
          by_test (too_high car us hs j rs)
          (λ t.
          let sp = s (j - 1) (omega arith) in
          let low-c : 1 ≤ c = ceiling_some j rs (s (j - 1) (omega arith)) in (
            rw (too_high-up, t, ceiling-up, floor-up G (at us j))
                (let e : max (c + d) (f + d) ≡ max c f + d = omega arith in e ∙ sym (up_some d (max c f) (omega arith))),
            rw t (omega arith),
          ))
          (λ t. (rw (too_high-up, t) (at_ups d rs j), rw t sg))

      slowing-up : (slowing van us (ups d hs) j (ups d rs) ≡ up d (slowing car us hs j rs)) × (1 ≤ slowing car us hs j rs)
      unfolding slowing too_low
      slowing-up =
          let sg = s j l in
          let same : eqb (at (ups d rs) j) (low van) ≡ eqb (at rs j) (low car) = rw (at_ups d rs j) (low_up (at rs j)) in
          by_test (free car us hs j and closing (drop j us) and eqb (at rs j) (low car))
          (λ t. (
            rw (free_up j, same, t) (let e : low van + 1 ≡ low car + 1 + d = omega (arith, G.lowest) in e ∙ sym (up_some d (low car + 1) (omega arith))),
            rw t (omega arith),
          ))
          (λ t. (rw (free_up j, same, t) (at_ups d rs j), rw t sg))

    -- the first choices
    pub firsts-up : InBounds car → firsts van us (ups d hs) ≡ ups d (firsts car us hs)
    unfolding firsts
    firsts-up C =
        rw (length_ups d hs)
        (ap (λ (z : List ℕ). pass (first_choice van us (ups d hs)) (length hs) z) (sym (none_ups d (length hs)))
        ∙ pass_up d (first_choice car us hs) (first_choice van us (ups d hs)) (first_choice-up C) (length hs) (replicate (length hs) 0))

    -- the gears after A, after B and after C; each of them is a gear
    pub A_up : InBounds car → Some (firsts car us hs) → (after_A van us (ups d hs) ≡ ups d (after_A car us hs)) × Some (after_A car us hs)
    unfolding after_A
    A_up K s =
        let n = length-firsts car us hs in
        rw (length_ups d hs, firsts-up K) (pass-up_some d (peak car us hs) (peak van us (ups d hs)) peak-up (length hs) (firsts car us hs) (omega arith) s)

    pub B_up : InBounds car → Some (firsts car us hs) → (after_B van us (ups d hs) ≡ ups d (after_B car us hs)) × Some (after_B car us hs)
    unfolding after_B
    B_up K s =
        let n = length_A car us hs in
        let A = A_up K s in
        rw (length_ups d hs, A.0) (pass-up_some d (rising car us hs) (rising van us (ups d hs)) rising-up (length hs) (after_A car us hs) (omega arith) A.1)

    pub gears-up : InBounds car → Some (firsts car us hs) → (gears van us (ups d hs) ≡ ups d (gears car us hs)) × Some (gears car us hs)
    unfolding gears
    gears-up K s =
        let n = length_B car us hs in
        let B = B_up K s in
        rw (length_ups d hs, B.0)
        (pass-up_some d (slowing car us hs) (slowing van us (ups d hs)) slowing-up (length hs) (after_B car us hs) (omega arith) B.1)

-- ---- d 0: nothing is higher

pub up_by_none : (g : ℕ) → up 0 g ≡ g
unfolding up
up_by_none g = by_test (eqb g 0) (λ t. let z : g ≡ 0 = eqb-true g 0 t in rw (t, z)) (λ t. rw t (add-zero g))

pub ups_none : (l : List ℕ) → ups 0 l ≡ l
ups_none [] = refl
ups_none (x ∷ l) = rw (up_by_none x, ups_none l)
