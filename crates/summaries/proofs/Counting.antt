-- Counting: the seconds of a stretch, each at its place, and the changes between them.
use Rattle.rules.proofs.Offered.{ℕ, suc, ◌+◌, ◌-◌, ◌≤◌, ◌<◌, ◌%◌, add-zero, zero-add, sub_self, mod-lt, add-one, arith, ◌≡◌, refl, sym, ap, ◌∙◌, Bool, false}
use Rattle.rules.proofs.Offered.{not, List, eqb, length, set, length-set, replicate, get_or-replicate, get_or-set_same, get_or-set_other, ext_get_or, eqb-true}
use Rattle.rules.proofs.Offered.{eqb-false, eq-eqb, ne_eqb, if◌then◌else◌, ◌and◌, at, table, moving, tally, rests, drives, changes, shown, by_test, by_order}
use Rattle.rules.proofs.Offered.{at_table, table_ext, length-table, tally_add, tally-shift, tally_le, same_counts, counts}
use Rattle.summaries.specs.declared.Tally.{Tally}
use Rattle.summaries.specs.Tallies.{tallied, in_ten, place_of, counts_at, Countable}

-- one place more
tally_end : (p : ℕ → Bool) (lo k : ℕ) → tally p lo (suc k) ≡ tally p lo k + (if p (lo + k) then 1 else 0)
unfolding tally
tally_end p lo k = ap (λ (n : ℕ). tally p lo n) (sym (add-one k)) ∙ tally_add p k 1 lo ∙ ap (λ (n : ℕ). tally p lo k + n) (add-zero _)

-- ---- a second at its place

-- there are 17
pub place_to : (v byte : ℕ) → place_of v byte ≤ 16
unfolding place_of
place_to v byte = by_test (moving v) (λ t. let l : byte % 16 < 16 = mod-lt byte (omega arith) in rw t (omega arith)) (λ t. rw t (omega arith))

module _ (vs bs : List ℕ) (lo : ℕ) where
  -- the seconds from lo up to i are counted
  pub record Filled (places : List ℕ) (i : ℕ) : Type 0 where
    pub since : lo ≤ i
    pub size : length places ≡ 17
    pub each : (g : ℕ) → g < 17 → at places g ≡ tally (counts_at g vs bs) lo (i - lo)

  pub fill_none : Filled (replicate 17 0) lo
  unfolding tally
  fill_none = record { since = omega arith; size = refl; each = λ g h. rw (sub_self lo) (get_or-replicate 17 g 0 0 h) }

  module _ {places : List ℕ} {i : ℕ} (F : Filled places i) where
    pub fill_more : {x : ℕ} → x ≡ place_of (at vs i) (at bs i) → x ≤ 16 → Filled (set places x (at places x + 1)) (i + 1)
    unfolding counts_at
    fill_more {x} here small = record {
      since = omega (arith, F.since);
      size = length-set places x _ ∙ F.size;
      each = λ g h.
          let a : i + 1 - lo ≡ suc (i - lo) = omega (arith, F.since) in
          let b : lo + (i - lo) ≡ i = omega (arith, F.since) in
          let e : tally (counts_at g vs bs) lo (i + 1 - lo) ≡ tally (counts_at g vs bs) lo (i - lo) + (if eqb x g then 1 else 0) =
          rw a (tally_end (counts_at g vs bs) lo (i - lo) ∙ rw (b, here)) in
          by_test (eqb x g)
          (λ q. let y : x ≡ g = eqb-true x g q in
          let z : at (set places x (at places x + 1)) x ≡ at places x + 1 = get_or-set_same places x _ 0 (omega (arith, F.size)) in
          rw (e, q, ← y) (z ∙ ap (λ (n : ℕ). n + 1) (F.each x (omega arith))))
          (λ q. rw (e, q) (get_or-set_other places x g _ 0 (λ y. eqb-false x g q (sym y)) ∙ F.each g h ∙ omega arith));
    }

    -- there is room for one more
    pub fill_room : {hi : ℕ} → i < hi → hi ≤ 65535 → (g : ℕ) → g < 17 → at places g + 1 ≤ 65535
    fill_room h few g l = let a = tally_le (counts_at g vs bs) (i - lo) lo in rw (F.each g l) (omega (arith, F.since))

    pub fill_done : (hi : ℕ) → i ≡ hi → places ≡ table (λ g. tally (counts_at g vs bs) lo (hi - lo)) 0 17
    fill_done hi e =
        ext_get_or 0 places _ (F.size ∙ sym (length-table _ 0 17))
        (λ g h. let l : g < 17 = omega (arith, F.size) in
        F.each g l ∙ rw e (sym (at_table (λ g. tally (counts_at g vs bs) lo (hi - lo)) 0 17 g l ∙ rw (zero-add g))))

  -- ---- the changes

  pub changes_none : 0 ≡ tally (changes vs bs) lo (lo + 1 - 1 - lo)
  unfolding tally
  changes_none = let e : lo + 1 - 1 - lo ≡ 0 = omega arith in rw e

  module _ {n x i : ℕ} (since : lo < i) (so_far : n ≡ tally (changes vs bs) lo (i - 1 - lo))
      (here : x ≡ (if moving (at vs (i - 1)) and (moving (at vs i) and not (eqb (shown (at bs (i - 1))) (shown (at bs i)))) then 1 else 0)) where
    pub changes-more : n + x ≡ tally (changes vs bs) lo (i + 1 - 1 - lo)
    unfolding changes
    changes-more =
        let a : i + 1 - 1 - lo ≡ suc (i - 1 - lo) = omega arith in
        let b : lo + (i - 1 - lo) ≡ i - 1 = omega arith in
        let c : suc (i - 1) ≡ i = omega arith in
        rw (a, so_far, here) (sym (tally_end (changes vs bs) lo (i - 1 - lo) ∙ rw (b, c)))

    -- none is more than the seconds so far
    pub changes_to : (n ≤ i - 1 - lo) × (x ≤ 1)
    changes_to = (
      rw so_far (tally_le (changes vs bs) (i - 1 - lo) lo),
      rw here (by_test (moving (at vs (i - 1)) and (moving (at vs i) and not (eqb (shown (at bs (i - 1))) (shown (at bs i))))) (λ t. rw t (omega arith))
          (λ t. rw t (omega arith))),
    )

  -- ---- the whole stretch

  module _ {hi : ℕ} (C : Countable vs bs lo hi) where
    -- none at the last second: the next one stands
    no_last : tally (changes vs bs) lo (hi - 1 - lo) ≡ tally (changes vs bs) lo (hi - lo)
    unfolding changes ◌and◌
    no_last =
        by_order lo hi
        (λ h.
        let e : hi - lo ≡ suc (hi - 1 - lo) = omega arith in
        let f : lo + (hi - 1 - lo) ≡ hi - 1 = omega arith in
        let g : suc (hi - 1) ≡ hi = omega arith in
        let z : changes vs bs (hi - 1) ≡ false = by_test (moving (at vs (hi - 1))) (λ t. rw (t, g, C.ends h)) (λ t. rw t) in
        sym (rw e (tally_end (changes vs bs) lo (hi - 1 - lo) ∙ rw (f, z) (add-zero _))))
        (λ h. let e : hi - 1 - lo ≡ hi - lo = omega arith in rw e)

    pub count_done : {places : List ℕ} {n : ℕ} → places ≡ table (λ g. tally (counts_at g vs bs) lo (hi - lo)) 0 17 → n ≡ tally (changes vs bs) lo (hi - 1 - lo)
        → ◌≡◌ {A = Tally} (record { counts = places; changes = n }) (tallied vs bs lo (hi - lo))
    unfolding tallied
    count_done a b i = record { counts = a i; changes = (b ∙ no_last) i }

-- ---- of the seventeen counts the summary's

module _ (vs bs : List ℕ) (lo k : ℕ) where
  -- a moving second's byte shows a gear below 16
  rests-at : (i : ℕ) → counts_at 16 vs bs i ≡ rests vs i
  unfolding counts_at place_of rests
  rests-at i =
      by_test (moving (at vs i)) (λ t. let l : at bs i % 16 < 16 = mod-lt (at bs i) (omega arith) in rw t (ne_eqb (at bs i % 16) 16 (λ z. omega arith)))
      (λ t. rw t (eq-eqb 16 16 refl))

  drives-at : (g : ℕ) → g < 16 → (i : ℕ) → counts_at g vs bs i ≡ drives g vs bs i
  unfolding counts_at place_of drives ◌and◌
  drives-at g h i = by_test (moving (at vs i)) (λ t. rw t) (λ t. rw t (ne_eqb 16 g (λ z. omega arith)))

  pub ten_of : in_ten (tallied vs bs lo k) ≡ counts vs bs lo k
  unfolding in_ten tallied counts
  ten_of =
      same_counts
      (at_table (λ g. tally (counts_at g vs bs) lo k) 0 17 16 (omega arith) ∙ tally-shift (counts_at 16 vs bs) (rests vs) k lo lo (λ j h. rests-at (lo + j)))
      (table_ext _ _ 1 10 (λ g p q.
      at_table (λ g. tally (counts_at g vs bs) lo k) 0 17 g (omega arith)
      ∙ rw (zero-add g) (tally-shift (counts_at g vs bs) (drives g vs bs) k lo lo (λ j h. drives-at g (omega arith) (lo + j)))))
      refl
