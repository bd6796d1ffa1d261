-- Lists of which a stretch has been worked.
use Rattle.rules.proofs.Offered.{ℕ, suc, ◌+◌, ◌-◌, ◌≤◌, ◌<◌, zero-add, arith, ◌≡◌, sym, ap, ◌∙◌, inl, inr, List}
use Rattle.rules.proofs.Offered.{◌++◌, leb, ltb, length, set, take, drop, length-set, length-drop, ext_get_or, take_all}
use Rattle.rules.proofs.Offered.{get_or-set_same, get_or-set_other, lt-leb, le-leb, lt-ltb, le-ltb, if◌then◌else◌, ◌and◌, at, table, patch}
use Rattle.rules.proofs.Offered.{by_order}
use Rattle.rules.proofs.Offered.{at_table, length-table, table_ext, table_add, table_at, patch_in, patch_out, of₃}

-- ---- a list of which a stretch has been worked

module _ (f : ℕ → ℕ) where
  pub length-patch : (old : List ℕ) (lo hi : ℕ) → length (patch old lo hi f) ≡ length old
  unfolding patch
  length-patch old lo hi = length-table (λ i. if leb lo i and ltb i hi then f i else at old i) 0 (length old)

  -- nothing worked
  pub patch_none : (old : List ℕ) (lo : ℕ) → old ≡ patch old lo lo f
  patch_none old lo =
      ext_get_or 0 old (patch old lo lo f) (sym (length-patch old lo lo))
      (λ i h. sym (by_order i lo (λ a. patch_out old lo lo f i (inl a)) (λ a. patch_out old lo lo f i (inr a))))

  -- two stretches that meet are one
  pub patch_join : (old : List ℕ) (lo mid hi : ℕ) → lo ≤ mid → mid ≤ hi → patch (patch old lo mid f) mid hi f ≡ patch old lo hi f
  patch_join old lo mid hi a b =
      let l : length (patch (patch old lo mid f) mid hi f) ≡ length old = length-patch (patch old lo mid f) mid hi ∙ length-patch old lo mid in
      ext_get_or 0 (patch (patch old lo mid f) mid hi f) (patch old lo hi f) (l ∙ sym (length-patch old lo hi))
      (λ i h.
      let k : i < length old = omega (arith, l) in
      by_order i mid
      (λ c. patch_out (patch old lo mid f) mid hi f i (inl c)
      ∙ by_order i lo
      (λ d. patch_out old lo mid f i (inl d) ∙ sym (patch_out old lo hi f i (inl d)))
      (λ d. patch_in old lo mid f i d c k ∙ sym (patch_in old lo hi f i d (omega arith) k)))
      (λ c. by_order i hi
      (λ d. patch_in (patch old lo mid f) mid hi f i c d (omega (arith, length-patch old lo mid)) ∙ sym (patch_in old lo hi f i (omega arith) d k))
      (λ d. patch_out (patch old lo mid f) mid hi f i (inr d) ∙ patch_out old lo mid f i (inr c) ∙ sym (patch_out old lo hi f i (inr d)))))

  -- in either order
  pub patch_join_back : (old : List ℕ) (lo mid hi : ℕ) → lo ≤ mid → mid ≤ hi → patch (patch old mid hi f) lo mid f ≡ patch old lo hi f
  patch_join_back old lo mid hi a b =
      let l : length (patch (patch old mid hi f) lo mid f) ≡ length old = length-patch (patch old mid hi f) lo mid ∙ length-patch old mid hi in
      ext_get_or 0 (patch (patch old mid hi f) lo mid f) (patch old lo hi f) (l ∙ sym (length-patch old lo hi))
      (λ i h.
      let k : i < length old = omega (arith, l) in
      by_order i mid
      (λ c. by_order i lo
      (λ d. patch_out (patch old mid hi f) lo mid f i (inl d) ∙ patch_out old mid hi f i (inl c) ∙ sym (patch_out old lo hi f i (inl d)))
      (λ d. patch_in (patch old mid hi f) lo mid f i d c (omega (arith, length-patch old mid hi)) ∙ sym (patch_in old lo hi f i d (omega arith) k)))
      (λ c. patch_out (patch old mid hi f) lo mid f i (inr c)
      ∙ by_order i hi
      (λ d. patch_in old mid hi f i c d k ∙ sym (patch_in old lo hi f i (omega arith) d k))
      (λ d. patch_out old mid hi f i (inr d) ∙ sym (patch_out old lo hi f i (inr d)))))

  -- one place
  pub patch-one : (old : List ℕ) (i : ℕ) → set old i (f i) ≡ patch old i (suc i) f
  patch-one old i =
      ext_get_or 0 (set old i (f i)) (patch old i (suc i) f) (length-set old i (f i) ∙ sym (length-patch old i (suc i)))
      (λ j h.
      let k : j < length old = omega (arith, length-set old i (f i)) in
      by_order j i
      (λ a. get_or-set_other old i j (f i) 0 (λ e. omega arith) ∙ sym (patch_out old i (suc i) f j (inl a)))
      (λ a. by_order i j
      (λ b. get_or-set_other old i j (f i) 0 (λ e. omega arith) ∙ sym (patch_out old i (suc i) f j (inr b)))
      (λ b. let e : j ≡ i = omega arith in rw e (get_or-set_same old i (f i) 0 (omega arith) ∙ sym (of₃ (patch_in old i (suc i) f i) (omega arith))))))

  -- all places
  pub patch_all : (old : List ℕ) → patch old 0 (length old) f ≡ table f 0 (length old)
  patch_all old =
      ext_get_or 0 (patch old 0 (length old) f) (table f 0 (length old)) (length-patch old 0 (length old) ∙ sym (length-table f 0 (length old)))
      (λ i h.
      let k : i < length old = omega (arith, length-patch old 0 (length old)) in
      patch_in old 0 (length old) f i (omega arith) k k ∙ sym (at_table f 0 (length old) i k ∙ ap f (zero-add i)))

  -- a part that was lent and worked, put back
  pub patch-part : (old : List ℕ) (lo hi : ℕ) → lo ≤ hi → hi ≤ length old → take lo old ++ (table f lo (hi - lo) ++ drop hi old) ≡ patch old lo hi f
  unfolding patch ◌and◌
  patch-part old lo hi a b =
      let F : ℕ → ℕ = λ i. if leb lo i and ltb i hi then f i else at old i in
      let n = length old in
      let e : n ≡ lo + (hi - lo + (n - hi)) = omega arith in
      let x : lo + (hi - lo) ≡ hi = omega arith in
      let one : table F 0 lo ≡ take lo old = table_ext F (at old) 0 lo (λ i c d. rw (lt-leb lo i (omega arith))) ∙ table_at old lo 0 (omega arith) in
      let two : table F lo (hi - lo) ≡ table f lo (hi - lo) = table_ext F f lo (hi - lo) (λ i c d. rw (le-leb lo i c, lt-ltb i hi (omega arith))) in
      let three : table F hi (n - hi) ≡ drop hi old =
      table_ext F (at old) hi (n - hi) (λ i c d. rw (le-leb lo i (omega arith), le-ltb i hi c)) ∙ table_at old (n - hi) hi (omega arith)
      ∙ take_all (n - hi) (drop hi old) (simp length-drop (omega arith)) in
      sym (ap (λ (k : ℕ). table F 0 k) e ∙ table_add F lo (hi - lo + (n - hi)) 0
      ∙ rw (zero-add lo, table_add F (hi - lo) (n - hi) lo, x, one, two, three))
