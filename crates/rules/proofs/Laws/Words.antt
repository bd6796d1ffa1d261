-- Laws of tests, and of `pass`, `table`, `part` and `patch`.
use Rattle.rules.proofs.Base.{ℕ, zero, suc, ◌+◌, ◌-◌, ◌≤◌, ◌<◌, suc-add, add-suc, zero-add, add-zero, not-suc-le-zero, le_of_suc-le-suc, eq-or-lt_of_le}
use Rattle.rules.proofs.Base.{le_refl, arith, ◌≡◌, refl, sym, ap, ◌∙◌, inl, inr, Bool, true, false, true≢false, List, ◌∷◌, ◌++◌, length, take, drop}
use Rattle.rules.proofs.Base.{length-set, length-take, length-drop, list_get_or-eq_default, leb, ltb, ltb-true, ltb-false, lt-ltb, le-ltb, le-leb, lt-leb}
use Rattle.rules.proofs.Base.{drop-cons, get_or-set_same, get_or-set_other, get_or-take, get_or-drop, ext_get_or}
use Rattle.rules.specs.Words.{if◌then◌else◌, ◌and◌, ◌or◌, at, part, pass, table, patch}
use Rattle.rules.specs.Vocabulary.{Out}

-- ---- by cases

-- a test cannot both hold and fail
pub clash : {P : Type 0} {t : Bool} → t ≡ true → t ≡ false → P
clash a b = absurd (true≢false (sym a ∙ b))

pub by_test : {P : Type 0} (t : Bool) → (t ≡ true → P) → (t ≡ false → P) → P
by_test true f g = f refl
by_test false f g = g refl

pub if_ind : {A : Type 0} (P : A → Type 0) (t : Bool) {x y : A} → (t ≡ true → P x) → (t ≡ false → P y) → P (if t then x else y)
if_ind P true f g = f refl
if_ind P false f g = g refl

pub and_left : (a b : Bool) → a and b ≡ true → a ≡ true
unfolding ◌and◌
and_left true b e = refl
and_left false b e = e

pub and_right : (a b : Bool) → a and b ≡ true → b ≡ true
unfolding ◌and◌
and_right true b e = e
and_right false b e = let z : ◌≡◌ {A = ℕ} 0 1 = cc in absurd (omega arith)

-- the second of two tests fails
pub and_no : (a b : Bool) → b ≡ false → a and b ≡ false
unfolding ◌and◌
and_no true b e = e
and_no false b e = refl

pub both : {a b : Bool} → a ≡ true → b ≡ true → a and b ≡ true
unfolding ◌and◌
both x y = rw (x, y)

pub or_left : (a b : Bool) → a or b ≡ false → a ≡ false
unfolding ◌or◌
or_left true b e = e
or_left false b e = refl

pub or_right : (a b : Bool) → a or b ≡ false → b ≡ false
unfolding ◌or◌
or_right true b e = let z : ◌≡◌ {A = ℕ} 0 1 = cc in absurd (omega arith)
or_right false b e = e

-- one of two tests holds, and not the first
pub or_skip : (a b : Bool) → a ≡ false → a or b ≡ true → b ≡ true
unfolding ◌or◌
or_skip true b h e = let z : ◌≡◌ {A = ℕ} 0 1 = cc in absurd (omega arith)
or_skip false b h e = e

-- a conjunction that fails, the first part of which holds
pub and-fails : (a b : Bool) → a ≡ true → a and b ≡ false → b ≡ false
unfolding ◌and◌
and-fails true b h e = e
and-fails false b h e = let z : ◌≡◌ {A = ℕ} 0 1 = cc in absurd (omega arith)

pub by_order : {P : Type 0} (i j : ℕ) → (i < j → P) → (j ≤ i → P) → P
by_order i j f g = by_test (ltb i j) (λ t. f (ltb-true i j t)) (λ t. g (ltb-false i j t))

pub by_eq : {P : Type 0} {i j : ℕ} → i ≤ j → (i ≡ j → P) → (i < j → P) → P
by_eq h f g = elim (eq-or-lt_of_le h) [ inl a ↦ f a | inr b ↦ g b ]

-- ---- a pass

module _ (f : ℕ → List ℕ → ℕ) (gs : List ℕ) where
  pub length-pass : (k : ℕ) → length (pass f k gs) ≡ length gs
  unfolding pass
  length-pass zero = refl
  length-pass (suc k) = length-set (pass f k gs) k _ ∙ length-pass k

  -- places that the pass has not come to are as they were
  pub pass_later : (k j : ℕ) → k ≤ j → at (pass f k gs) j ≡ at gs j
  unfolding pass
  pass_later zero j h = refl
  pass_later (suc k) j h = get_or-set_other (pass f k gs) k j _ 0 (omega arith) ∙ pass_later k j (omega arith)

  -- a place that it has passed holds what the rule said of the list as it then stood
  pub pass-at : (k j : ℕ) → j < k → j < length gs → at (pass f k gs) j ≡ f j (pass f j gs)
  unfolding pass
  pass-at zero j h l = absurd (not-suc-le-zero h)
  pass-at (suc k) j h l =
      by_eq (le_of_suc-le-suc h)
      (λ e. rw e (get_or-set_same (pass f k gs) k (f k (pass f k gs)) 0 (rw length-pass (omega arith))))
      (λ m. get_or-set_other (pass f k gs) k j (f k (pass f k gs)) 0 (omega arith) ∙ pass-at k j m l)

  -- a place that has been passed over stays
  pub pass_done : (k m j : ℕ) → j < k → j < m → j < length gs → at (pass f k gs) j ≡ at (pass f m gs) j
  pass_done k m j a b l = pass-at k j a l ∙ sym (pass-at m j b l)

  -- what the rule says of a place, if it says nothing of it, or keeps a property of it
  pub pass-holds : (P : ℕ → ℕ → Type 0) → ((j : ℕ) (rs : List ℕ) → P j (at rs j) → P j (f j rs))
      → (k j : ℕ) → j < length gs → P j (at gs j) → P j (at (pass f k gs) j)
  pass-holds P keeps k j l h =
      by_order j k
      (λ m. rw (pass-at k j m l) (keeps j (pass f j gs) (rw (pass_later j j (le_refl j)) h)))
      (λ m. rw (pass_later k j m) h)

  pub pass_keeps : (k j : ℕ) → j < length gs → ((rs : List ℕ) → f j rs ≡ at rs j) → at (pass f k gs) j ≡ at gs j
  pass_keeps k j l keeps =
      by_order j k
      (λ m. rw (pass-at k j m l, keeps (pass f j gs)) (pass_later j j (le_refl j)))
      (λ m. pass_later k j m)

-- ---- a table

pub length-table : (f : ℕ → ℕ) (lo k : ℕ) → length (table f lo k) ≡ k
unfolding table
length-table f lo zero = refl
length-table f lo (suc k) = ap suc (length-table f (suc lo) k)

pub at_table : (f : ℕ → ℕ) (lo k i : ℕ) → i < k → at (table f lo k) i ≡ f (lo + i)
unfolding table
at_table f lo zero i h = absurd (not-suc-le-zero h)
at_table f lo (suc k) zero h = rw add-zero
at_table f lo (suc k) (suc i) h = at_table f (suc lo) k i (le_of_suc-le-suc h) ∙ rw (suc-add, add-suc)

pub table_ext : (f g : ℕ → ℕ) (lo k : ℕ) → ((i : ℕ) → lo ≤ i → i < lo + k → f i ≡ g i) → table f lo k ≡ table g lo k
unfolding table
table_ext f g lo zero h = refl
table_ext f g lo (suc k) h =
    rw (h lo (omega arith) (omega arith)) (ap (λ (l : List ℕ). g lo ∷ l) (table_ext f g (suc lo) k (λ i a b. h i (omega arith) (omega arith))))

-- ---- a part: two lists that agree from a up to e have the same part there

pub part_ext : (l m : List ℕ) (a e : ℕ) → length l ≡ length m → ((k : ℕ) → a ≤ k → k < e → at l k ≡ at m k) → part l a e ≡ part m a e
part_ext l m a e n h =
    ext_get_or 0 (part l a e) (part m a e) (simp (length-take, length-drop, n))
    (λ i b. let c : i < e - a = omega (arith, simp (length-take, length-drop) at b) in
    simp (get_or-take, get_or-drop) (h (a + i) (omega arith) (omega arith)))

pub at_part : (l : List ℕ) (a e j : ℕ) → a + j < e → at (part l a e) j ≡ at l (a + j)
at_part l a e j h = get_or-take (e - a) (drop a l) j 0 (omega arith) ∙ get_or-drop a l j 0

pub length_part : (l : List ℕ) (a e : ℕ) → e ≤ length l → length (part l a e) ≡ e - a
length_part l a e h = simp (length-take, length-drop) (omega arith)

-- ---- a table in parts

pub table_add : (f : ℕ → ℕ) (j k lo : ℕ) → table f lo (j + k) ≡ table f lo j ++ table f (lo + j) k
unfolding table
table_add f zero k lo = rw (zero-add k, add-zero lo)
table_add f (suc j) k lo = rw (suc-add j k, table_add f j k (suc lo), suc-add lo j, add-suc lo j)

-- the elements of a list from lo on, as a table
pub table_at : (l : List ℕ) (k lo : ℕ) → lo + k ≤ length l → table (at l) lo k ≡ take k (drop lo l)
unfolding table
table_at l zero lo h = refl
table_at l (suc k) lo h = rw (table_at l k (suc lo) (omega arith), drop-cons l lo 0 (omega arith))

-- ---- a patch

pub patch_out : (old : List ℕ) (lo hi : ℕ) (f : ℕ → ℕ) (i : ℕ) → Out lo hi i → at (patch old lo hi f) i ≡ at old i
unfolding patch ◌and◌
patch_out old lo hi f i o =
    by_order i (length old)
    (λ h. at_table (λ k. if leb lo k and ltb k hi then f k else at old k) 0 (length old) i h ∙ rw zero-add
    (elim o [ inl c ↦ rw (lt-leb lo i c) | inr c ↦ by_test (leb lo i) (λ t. rw (t, le-ltb i hi c)) (λ t. rw t) ]))
    (λ h. list_get_or-eq_default (patch old lo hi f) 0 (rw (length-table (λ k. if leb lo k and ltb k hi then f k else at old k) 0 (length old)) h)
    ∙ sym (list_get_or-eq_default old 0 h))

pub patch_in : (old : List ℕ) (lo hi : ℕ) (f : ℕ → ℕ) (i : ℕ) → lo ≤ i → i < hi → i < length old → at (patch old lo hi f) i ≡ f i
unfolding patch ◌and◌
patch_in old lo hi f i a b h =
    at_table (λ k. if leb lo k and ltb k hi then f k else at old k) 0 (length old) i h ∙ rw (zero-add, le-leb lo i a, lt-ltb i hi b)

-- where there is nothing to patch the list is as it was
pub patch_none : (old : List ℕ) (lo : ℕ) (f : ℕ → ℕ) → patch old lo lo f ≡ old
unfolding patch
patch_none old lo f =
    ext_get_or 0 (patch old lo lo f) old (length-table _ 0 (length old)) (λ i h. patch_out old lo lo f i (by_order i lo inl inr))

-- ---- a law of so many facts, which one call of omega finds together

pub of₃ : {A B C D : Type 0} → (A → B → C → D) → A × B × C → D
of₃ f h = f h.0 h.1 h.2

pub of₄ : {A B C D E : Type 0} → (A → B → C → D → E) → A × B × C × D → E
of₄ f h = f h.0 h.1 h.2 h.3

pub of₅ : {A B C D E F : Type 0} → (A → B → C → D → E → F) → A × B × C × D × E → F
of₅ f h = f h.0 h.1 h.2 h.3 h.4

pub of₈ : {A B C D E F G H I : Type 0} → (A → B → C → D → E → F → G → H → I) → A × B × C × D × E × F × G × H → I
of₈ f h = f h.0 h.1 h.2 h.3 h.4 h.5 h.6 h.7
