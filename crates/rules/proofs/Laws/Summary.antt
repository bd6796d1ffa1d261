-- Counts: they add up over stretches, and a change within a stretch between standing seconds shows in that stretch alone.
use Rattle.rules.proofs.Base.{ℕ, zero, suc, ◌+◌, ◌-◌, ◌≤◌, ◌<◌, suc-add, add-suc, zero-add, add-zero, one-add, arith, ◌≡◌, refl, sym, ap, ◌∙◌, inl, inr}
use Rattle.rules.proofs.Base.{Bool, false, List, length, Summary}
use Rattle.rules.specs.Words.{if◌then◌else◌, ◌and◌, at, part, table}
use Rattle.rules.specs.Units.{moving}
use Rattle.rules.specs.Summary.{tally, rests, drives, changes, summary, settled, updated}
use Rattle.rules.specs.Vocabulary.{Out}
use Rattle.rules.proofs.Laws.Words.{by_test, by_order, at_part, length_part, at_table, table_ext}
use Rattle.rules.proofs.Laws.Trips.{standing_past}
use Rattle.rules.proofs.Laws.Span.{Between}

-- ---- a tally

abbrev pub one : Bool → ℕ
one b = if b then 1 else 0

-- it adds up over stretches
pub tally_add : (p : ℕ → Bool) (j k lo : ℕ) → tally p lo (j + k) ≡ tally p lo j + tally p (lo + j) k
unfolding tally
tally_add p zero k lo = rw (zero-add k, add-zero lo, zero-add (tally p lo k))
tally_add p (suc j) k lo = rw (suc-add j k, tally_add p j k (suc lo), suc-add lo j, add-suc lo j) (omega arith)

-- it is the same for tests that say the same, place by place
pub tally-shift : (p q : ℕ → Bool) (k a b : ℕ) → ((j : ℕ) → j < k → p (a + j) ≡ q (b + j)) → tally p a k ≡ tally q b k
unfolding tally
tally-shift p q zero a b h = refl
tally-shift p q (suc k) a b h =
    let e : p a ≡ q b = rw (add-zero a, add-zero b) at (h 0 (omega arith)) in
    let r = tally-shift p q k (suc a) (suc b) (λ j x. rw (suc-add a j, suc-add b j, ← add-suc a j, ← add-suc b j) (h (suc j) (omega arith))) in
    rw (e, r)

pub tally_le : (p : ℕ → Bool) (k lo : ℕ) → tally p lo k ≤ k
unfolding tally
tally_le p zero lo = omega arith
tally_le p (suc k) lo = let r = tally_le p k (suc lo) in by_test (p lo) (λ t. rw t (omega arith)) (λ t. rw t (omega arith))

-- two tests that say the same outside lo to hi: what the counts differ by, they differ by there
pub tally_diff : (p q : ℕ → Bool) (n lo hi : ℕ) → lo ≤ hi → hi ≤ n → ((i : ℕ) → Out lo hi i → q i ≡ p i)
    → tally p 0 n + tally q lo (hi - lo) ≡ tally q 0 n + tally p lo (hi - lo)
tally_diff p q n lo hi a b h =
    let e : n ≡ lo + (hi - lo + (n - hi)) = omega arith in
    let f : lo + (hi - lo) ≡ hi = omega arith in
    let cut : (r : ℕ → Bool) → tally r 0 n ≡ tally r 0 lo + (tally r lo (hi - lo) + tally r hi (n - hi)) = λ r.
    ap (λ (m : ℕ). tally r 0 m) e ∙ tally_add r lo (hi - lo + (n - hi)) 0 ∙ rw (zero-add lo, tally_add r (hi - lo) (n - hi) lo, f) in
    let x : tally q 0 lo ≡ tally p 0 lo = tally-shift q p lo 0 0 (λ j l. h (0 + j) (inl (omega arith))) in
    let y : tally q hi (n - hi) ≡ tally p hi (n - hi) = tally-shift q p (n - hi) hi hi (λ j l. h (hi + j) (inr (omega arith))) in
    rw (cut p, cut q, x, y) (omega arith)

-- ---- bringing a count up to date

-- what it comes to hangs on the difference alone
pub settled_diff : (was a b c d : ℕ) → a + d ≡ b + c → settled was a b ≡ settled was c d
unfolding settled
settled_diff was a b c d e = let x : was + b - a ≡ was + d - c = omega arith in rw x

-- a right count stays right
pub settled_right : (a b : ℕ) → b ≤ 65535 → settled a a b ≡ b
unfolding settled
settled_right a b h = omega arith

-- ---- a summary

-- the counts over the k seconds from lo on
unfoldable pub counts : List ℕ → List ℕ → ℕ → ℕ → Summary
counts vs bs lo k = record {
  standing = tally (rests vs) lo k;
  gears = table (λ g. tally (drives g vs bs) lo k) 1 10;
  changes = tally (changes vs bs) lo k;
}

-- a table, and one that begins a place later
table_up : (f g : ℕ → ℕ) (k lo : ℕ) → ((i : ℕ) → lo ≤ i → i < lo + k → f i ≡ g (suc i)) → table f lo k ≡ table g (suc lo) k
unfolding table
table_up f g zero lo h = refl
table_up f g (suc k) lo h = rw (h lo (omega arith) (omega arith), table_up f g k (suc lo) (λ i a b. h i (omega arith) (omega arith)))

-- two summaries are one where each count is
pub same_counts : {m n : Summary} → m.standing ≡ n.standing → m.gears ≡ n.gears → m.changes ≡ n.changes → m ≡ n
same_counts a b c i = record { standing = a i; gears = b i; changes = c i }

-- the count of a gear
pub at-gears : (vs bs : List ℕ) (lo k g : ℕ) → g < 10 → at (counts vs bs lo k).gears g ≡ tally (drives (suc g) vs bs) lo k
unfolding counts
at-gears vs bs lo k g h = at_table (λ g. tally (drives g vs bs) lo k) 1 10 g h ∙ rw (one-add g)

-- the counts over one stretch and the next
pub updated_ext : (was a b c d : Summary) → a.standing + d.standing ≡ b.standing + c.standing
    → ((g : ℕ) → g < 10 → at a.gears g + at d.gears g ≡ at b.gears g + at c.gears g)
    → a.changes + d.changes ≡ b.changes + c.changes → updated was a b ≡ updated was c d
unfolding updated
updated_ext was a b c d x y z =
    same_counts (settled_diff _ _ _ _ _ x) (table_ext _ _ 0 10 (λ g p q. settled_diff _ _ _ _ _ (y g (omega arith)))) (settled_diff _ _ _ _ _ z)

-- ---- a change within a stretch between standing seconds

-- speeds vs with bytes bs became ws with cs between a and b; before a the standing second's byte may change too
pub record Changed (vs bs ws cs : List ℕ) (a b : ℕ) : Type 0 where
  pub speeds : length ws ≡ length vs
  pub in_trace : b ≤ length vs
  pub rest : Between vs a b
  pub speed_at : (i : ℕ) → Out a b i → at ws i ≡ at vs i
  pub byte_at : (i : ℕ) → Out (a - 1) b i → at cs i ≡ at bs i

-- a pair of which one stands is no change
stands-first : (vs bs : List ℕ) (i : ℕ) → moving (at vs i) ≡ false → changes vs bs i ≡ false
unfolding changes ◌and◌
stands-first vs bs i r = rw r

stands-next : (vs bs : List ℕ) (i : ℕ) → moving (at vs (suc i)) ≡ false → changes vs bs i ≡ false
unfolding changes ◌and◌
stands-next vs bs i r = by_test (moving (at vs i)) (λ t. rw (t, r)) (λ t. rw t)

pair_same : (vs bs ws cs : List ℕ) (i : ℕ) → at cs i ≡ at bs i → at cs (suc i) ≡ at bs (suc i) → at ws i ≡ at vs i → at ws (suc i) ≡ at vs (suc i)
    → changes ws cs i ≡ changes vs bs i
unfolding changes
pair_same vs bs ws cs i e f x y = rw (e, f, x, y)

module _ {vs bs ws cs : List ℕ} {a b : ℕ} (C : Changed vs bs ws cs a b) where
  -- outside the stretch a second is a standing one whose speed stays, or a moving one whose speed and byte stay
  by_second : {P : Type 0} (i : ℕ) → Out a b i → (moving (at vs i) ≡ false → P) → (at cs i ≡ at bs i → P) → P
  by_second i o f g =
      elim o [
        | inl x ↦ by_order (suc i) a (λ y. g (C.byte_at i (inl (omega arith)))) (λ y. f (C.rest.before i (omega arith)))
        | inr x ↦ g (C.byte_at i (inr x))
      ]

  rests_same : (i : ℕ) → Out a b i → rests ws i ≡ rests vs i
  unfolding rests
  rests_same i o = rw (C.speed_at i o)

  drives_same : (g i : ℕ) → Out a b i → drives g ws cs i ≡ drives g vs bs i
  unfolding drives ◌and◌
  drives_same g i o = by_second i o (λ r. rw (C.speed_at i o, r)) (λ e. rw (C.speed_at i o, e))

  -- the second after one outside is outside, or the stretch begins there, after a standing second
  changes_same : (i : ℕ) → Out a b i → changes ws cs i ≡ changes vs bs i
  changes_same i o =
      by_second i o
      (λ r. stands-first ws cs i (rw (C.speed_at i o) r) ∙ sym (stands-first vs bs i r))
      (λ e. elim o [
        | inl x ↦
            by_order (suc i) a
            (λ y. by_second (suc i) (inl y)
            (λ r. stands-next ws cs i (rw (C.speed_at (suc i) (inl y)) r) ∙ sym (stands-next vs bs i r))
            (λ f. pair_same vs bs ws cs i e f (C.speed_at i (inl x)) (C.speed_at (suc i) (inl y))))
            (λ y. let r = C.rest.before i (omega arith) in stands-first ws cs i (rw (C.speed_at i (inl x)) r) ∙ sym (stands-first vs bs i r))
        | inr x ↦ pair_same vs bs ws cs i e (C.byte_at (suc i) (inr (omega arith))) (C.speed_at i (inr x)) (C.speed_at (suc i) (inr (omega arith)))
      ])

  -- so the summary is brought up to date from the counts of the stretch
  pub updated-span : (was : Summary) → updated was (summary vs bs) (summary ws cs) ≡ updated was (counts vs bs a (b - a)) (counts ws cs a (b - a))
  unfolding summary counts
  updated-span was =
      let d : (p q : ℕ → Bool) → ((i : ℕ) → Out a b i → q i ≡ p i)
      → tally p 0 (length vs) + tally q a (b - a) ≡ tally q 0 (length vs) + tally p a (b - a) = λ p q.
      tally_diff p q (length vs) a b C.rest.order C.in_trace in
      rw C.speeds
      (updated_ext was _ _ _ _ (d (rests vs) (rests ws) rests_same)
      (λ g h. rw (at-gears vs bs 0 (length vs) g h, at-gears ws cs 0 (length vs) g h, at-gears vs bs a (b - a) g h, at-gears ws cs a (b - a) g h)
      (d (drives (suc g) vs bs) (drives (suc g) ws cs) (drives_same (suc g))))
      (d (changes vs bs) (changes ws cs) changes_same))

-- a standing second more before the stretch, whose speed stays, counts the same before and after
tally_skip : (p q : ℕ → Bool) (m k : ℕ) → p m ≡ q m → tally p m (suc k) + tally q (suc m) k ≡ tally q m (suc k) + tally p (suc m) k
unfolding tally
tally_skip p q m k e = rw e (omega arith)

pub skips : (was : Summary) (vs bs ws cs : List ℕ) (m k : ℕ) → moving (at vs m) ≡ false → at ws m ≡ at vs m
    → updated was (counts vs bs m (suc k)) (counts ws cs m (suc k)) ≡ updated was (counts vs bs (suc m) k) (counts ws cs (suc m) k)
unfolding counts rests drives ◌and◌
skips was vs bs ws cs m k r e =
    let s : moving (at ws m) ≡ false = rw e r in
    updated_ext was _ _ _ _ (tally_skip (rests vs) (rests ws) m k (rw e))
    (λ g h. rw (at-gears vs bs m (suc k) g h, at-gears ws cs m (suc k) g h, at-gears vs bs (suc m) k g h, at-gears ws cs (suc m) k g h)
    (tally_skip (drives (suc g) vs bs) (drives (suc g) ws cs) m k (rw (r, s))))
    (tally_skip (changes vs bs) (changes ws cs) m k (stands-first vs bs m r ∙ sym (stands-first ws cs m s)))

-- the counts of a part that ends before a standing second are the counts of its seconds in the whole: no pair of moving seconds crosses its end
module _ (vs bs : List ℕ) (lo hi : ℕ) (l : hi ≤ length vs) (r : moving (at vs hi) ≡ false) where
  part_pair : (j : ℕ) → lo + j < hi → changes (part vs lo hi) (part bs lo hi) j ≡ changes vs bs (lo + j)
  unfolding changes
  part_pair j h =
      by_order (suc (lo + j)) hi
      (λ x. let y : lo + suc j < hi = omega arith in
      rw (at_part vs lo hi j h, at_part bs lo hi j h, at_part vs lo hi (suc j) y, at_part bs lo hi (suc j) y, add-suc lo j))
      (λ x. let e : suc (lo + j) ≡ hi = omega arith in
      stands-next (part vs lo hi) (part bs lo hi) j (standing_past (part vs lo hi) (suc j) (rw (length_part vs lo hi l) (omega arith)))
      ∙ sym (stands-next vs bs (lo + j) (rw e r)))

  pub counts_part : summary (part vs lo hi) (part bs lo hi) ≡ counts vs bs lo (hi - lo)
  unfolding summary counts rests drives
  counts_part =
      let s : (p q : ℕ → Bool) → ((j : ℕ) → lo + j < hi → p j ≡ q (lo + j)) → tally p 0 (hi - lo) ≡ tally q lo (hi - lo) = λ p q h.
      tally-shift p q (hi - lo) 0 lo (λ j x. rw (zero-add j) (h j (omega arith))) in
      rw (length_part vs lo hi l)
      (same_counts
      (s (rests (part vs lo hi)) (rests vs) (λ j h. rw (at_part vs lo hi j h)))
      (table_ext _ _ 1 10 (λ g x y. s (drives g (part vs lo hi) (part bs lo hi)) (drives g vs bs) (λ j h. rw (at_part vs lo hi j h, at_part bs lo hi j h))))
      (s (changes (part vs lo hi) (part bs lo hi)) (changes vs bs) part_pair))

-- a right summary stays right
pub updated_right : (vs bs ws cs : List ℕ) → length ws ≤ 65535 → updated (summary vs bs) (summary vs bs) (summary ws cs) ≡ summary ws cs
unfolding updated summary counts
updated_right vs bs ws cs h =
    let n = length ws in
    let to : (p : ℕ → Bool) → tally p 0 n ≤ 65535 = λ p. let l = tally_le p n 0 in omega arith in
    same_counts (settled_right _ _ (to (rests ws)))
    (table_up _ _ 10 0 (λ g x y. let e = at-gears ws cs 0 n g (omega arith) in settled_right _ _ (rw e (to (drives (suc g) ws cs))) ∙ e))
    (settled_right _ _ (to (changes ws cs)))
