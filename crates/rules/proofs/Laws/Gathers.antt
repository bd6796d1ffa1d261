-- Holds: the list in the job and the places of the trace are one thing, so their form keeps the law.
use Rattle.rules.proofs.Base.{ℕ, zero, suc, ◌+◌, ◌-◌, ◌≤◌, ◌<◌, arith, ◌≡◌, refl, sym, ap, ◌∙◌, List, [], ◌∷◌, length, set, replicate, length-set}
use Rattle.rules.proofs.Base.{length-replicate, eqb, leb-true, ltb-true, eqb-true, eqb-false, ne_eqb, le-leb, lt-ltb}
use Prim.{tt}
use Rattle.rules.specs.Words.{within}
use Rattle.rules.specs.Forms.{value, checked, ◌then◌, seen, row, RowTakes, counted}
use Rattle.rules.specs.Job.{one_hold, put, gather, holds}
use Rattle.rules.proofs.Laws.Words.{by_test, by_order, and_left, and_right, both, of₃}
use Rattle.rules.proofs.Laws.Forms.{Sound, value_sound, checked_sound, then_sound, seen_sound, row_sound, counted_sound}
use Rattle.rules.proofs.Laws.Takes.{All}

-- ---- a hold of the job

pub hold_sound : (count next : ℕ) → Sound (one_hold count next)
unfolding one_hold
hold_sound count next = checked_sound (then_sound (checked_sound value_sound _ _ _) (λ s. value_sound)) _ _ _

-- its second from `next` on and before `count`, its gear a byte that is not 0
pub record HoldFits (count next : ℕ) (h : ℕ × ℕ) : Type 0 where
  pub small : h.0 ≤ 65535
  pub from : next ≤ h.0
  pub below : h.0 < count
  pub some_gear : 1 ≤ h.1
  pub byte : h.1 ≤ 255

hold_takes : {count next : ℕ} {h : ℕ × ℕ} → HoldFits count next h → (one_hold count next).Takes h
unfolding one_hold checked ◌then◌ value within
hold_takes r = (
  ((r.small, both (le-leb _ _ r.from) (lt-ltb _ _ r.below)), omega (arith, r.byte)),
  both (le-leb _ _ r.some_gear) (le-leb _ _ r.byte),
)

pub takes_hold : (count next : ℕ) (h : ℕ × ℕ) → (one_hold count next).Takes h → HoldFits count next h
unfolding one_hold checked ◌then◌ value within
takes_hold count next h t = record {
  small = t.0.0.0;
  from = leb-true _ _ (and_left _ _ t.0.0.1);
  below = ltb-true _ _ (and_right _ _ t.0.0.1);
  some_gear = leb-true _ _ (and_left _ _ t.1);
  byte = leb-true _ _ (and_right _ _ t.1);
}

-- holds of seconds that rise from `next` on
abbrev Rising : ℕ → ℕ → List (ℕ × ℕ) → Type 0
Rising count next hs = RowTakes (one_hold count) (λ next h. suc h.0) next hs

-- ---- the list, put at its seconds and gathered again

pub length-put : (hs : List (ℕ × ℕ)) (gs : List ℕ) → length (put hs gs) ≡ length gs
unfolding put
length-put [] gs = refl
length-put (h ∷ hs) gs = length-put hs (set gs h.0 h.1) ∙ length-set gs h.0 h.1

-- put at seconds that are counted from s on
unfoldable put_from : ℕ → List (ℕ × ℕ) → List ℕ → List ℕ
put_from s [] gs = gs
put_from s (h ∷ hs) gs = put_from s hs (set gs (h.0 - s) h.1)

from_first : (hs : List (ℕ × ℕ)) (gs : List ℕ) → put_from 0 hs gs ≡ put hs gs
unfolding put_from put
from_first [] gs = refl
from_first (h ∷ hs) gs = let e : h.0 - 0 ≡ h.0 = omega arith in rw e (from_first hs (set gs h.0 h.1))

-- no holds
gather_none : (k s : ℕ) → gather s (replicate k 0) ≡ []
unfolding gather
gather_none zero s = refl
gather_none (suc k) s = gather_none k (suc s)

-- a second before all holds keeps what it has
put_later : (count s next : ℕ) (hs : List (ℕ × ℕ)) (g : ℕ) (gs : List ℕ) → s < next → Rising count next hs → put_from s hs (g ∷ gs) ≡ g ∷ put_from (suc s) hs gs
unfolding put_from RowTakes
put_later count s next [] g gs l each = refl
put_later count s next (h ∷ hs) g gs l each =
    let r = takes_hold count next h each.0 in
    let e : h.0 - s ≡ suc (h.0 - suc s) = omega arith in
    rw e (put_later count s (suc h.0) hs g (set gs (h.0 - suc s) h.1) (omega arith) each.1)

gather-put : (k s count next : ℕ) (hs : List (ℕ × ℕ)) → s + k ≡ count → s ≤ next → Rising count next hs → gather s (put_from s hs (replicate k 0)) ≡ hs
unfolding gather put_from RowTakes
gather-put zero s count next [] e l each = refl
gather-put zero s count next (h ∷ hs) e l each = let r = takes_hold count next h each.0 in absurd (omega arith)
gather-put (suc k) s count next [] e l each = gather_none k (suc s)
gather-put (suc k) s count next (h ∷ hs) e l each =
    let r = takes_hold count next h each.0 in
    by_order s h.0
    (λ y. let later : Rising count (suc s) (h ∷ hs) =
    (hold_takes (record { small = r.small; from = y; below = r.below; some_gear = r.some_gear; byte = r.byte }), each.1) in
    rw (put_later count s (suc s) (h ∷ hs) 0 (replicate k 0) (omega arith) later)
    (gather-put k (suc s) count (suc s) (h ∷ hs) (omega arith) (omega arith) later))
    (λ y. let x : h.0 ≡ s = omega arith in
    let z : h.0 - s ≡ 0 = omega arith in
    rw (
      z,
      put_later count s (suc h.0) hs h.1 (replicate k 0) (omega arith) each.1,
      ne_eqb h.1 0 (λ z. omega arith),
      gather-put k (suc s) count (suc h.0) hs (omega arith) (omega arith) each.1,
      ← x,
    ))

pub holds_sound : (count : ℕ) → Sound (holds count)
unfolding holds counted seen ◌then◌ row
holds_sound count =
    seen_sound _ _ (counted_sound value_sound (λ k. row_sound _ (hold_sound count) 0 k) (λ k hs t. t.1))
    (λ hs t. rw (← from_first hs (replicate count 0)) (gather-put count 0 count 0 hs (omega arith) (omega arith) t.0.1.0))

-- ---- the places, gathered and put again

-- the holds of a trace rise
gather_rises : (count s next : ℕ) (gs : List ℕ) → next ≤ s → s + length gs ≡ count → count ≤ 65536 → All (λ g. g ≤ 255) gs → Rising count next (gather s gs)
unfolding gather RowTakes All
gather_rises count s next [] a b c t = tt
gather_rises count s next (g ∷ gs) a b c t =
    by_test (eqb g 0)
    (λ z. rw z (gather_rises count (suc s) next gs (omega arith) (omega arith) c t.1))
    (λ z. let y = eqb-false g 0 z in
    rw z (
      hold_takes (record {
        small = omega arith;
        from = a;
        below = omega arith;
        some_gear = by_order 0 g (λ h. h) (λ h. absurd (y (omega arith)));
        byte = t.0;
      }),
      gather_rises count (suc s) (suc s) gs (omega arith) (omega arith) c t.1,
    ))

-- no more holds than seconds
pub gather_few : (s : ℕ) (gs : List ℕ) → length (gather s gs) ≤ length gs
unfolding gather
gather_few s [] = omega arith
gather_few s (g ∷ gs) = let r = gather_few (suc s) gs in by_test (eqb g 0) (λ z. rw z (omega arith)) (λ z. rw z (omega arith))

-- a hold of the first second
put-here : (s g : ℕ) (hs : List (ℕ × ℕ)) (gs : List ℕ) → put_from s ((s, g) ∷ hs) (0 ∷ gs) ≡ put_from s hs (g ∷ gs)
unfolding put_from
put-here s g hs gs = let e : s - s ≡ 0 = omega arith in rw e

put-gather : (count s : ℕ) (gs : List ℕ) → s + length gs ≡ count → count ≤ 65536 → All (λ g. g ≤ 255) gs
    → put_from s (gather s gs) (replicate (length gs) 0) ≡ gs
unfolding gather put_from All
put-gather count s [] b c t = refl
put-gather count s (g ∷ gs) b c t =
    let later = gather_rises count (suc s) (suc s) gs (omega arith) (omega arith) c t.1 in
    let back = put-gather count (suc s) gs (omega arith) c t.1 in
    by_test (eqb g 0)
    (λ z. let y : g ≡ 0 = eqb-true g 0 z in rw (z, put_later count s (suc s) (gather (suc s) gs) 0 (replicate (length gs) 0) (omega arith) later, back, y))
    (λ z. rw z (put-here s g (gather (suc s) gs) (replicate (length gs) 0)
    ∙ rw (put_later count s (suc s) (gather (suc s) gs) g (replicate (length gs) 0) (omega arith) later, back)))

pub holds-take : (count : ℕ) (gs : List ℕ) → length gs ≡ count → count ≤ 65535 → All (λ g. g ≤ 255) gs → (holds count).Takes gs
unfolding holds counted row seen ◌then◌ value
holds-take count gs e c t = (
  ((omega (arith, gather_few 0 gs), (of₃ (gather_rises count 0 0 gs) (omega arith) t, refl)), refl),
  rw (← from_first (gather 0 gs) (replicate count 0), ← e) (put-gather count 0 gs (omega arith) (omega arith) t),
)

-- as many holds are taken as there are seconds
pub takes_holds : (count : ℕ) (gs : List ℕ) → (holds count).Takes gs → length gs ≡ count
unfolding holds seen
takes_holds count gs t = ap length (sym t.1) ∙ (length-put (gather 0 gs) (replicate count 0) ∙ length-replicate count 0)
