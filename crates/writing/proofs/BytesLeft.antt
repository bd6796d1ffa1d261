-- The bytes of values, pairs, points and holds in a row: how they begin, and what is left of them after some.
use Rattle.rules.proofs.Offered.{ℕ, suc, ◌+◌, ◌-◌, ◌≤◌, ◌<◌, add-one, arith, not, ◌≡◌, refl, ◌∙◌, List, [], ◌∷◌, ◌++◌, append_assoc, length, drop}
use Rattle.rules.proofs.Offered.{drop_of_length-le, drop-cons, get_or-drop, drop-drop, le-leb, lt-leb, eqb, at, form, Form, value, known, only_if}
use Rattle.rules.proofs.Offered.{◌then◌, row_write, row, many, point, points_of, gather, by_test}
use mir.Val.{bool_byte}
use Rattle.rules.specs.declared.Vehicle.{Vehicle}
use Rattle.writing.specs.Writing.{values_bytes, pair, pairs_bytes, since, margin, margins_bytes, points_bytes, hold_bytes}

-- ---- parts of one form in a row

abbrev parts : {A : Type 0} → Form A → List A → List ℕ
parts part l = (many part (length l)).write l

parts-more : {A : Type 0} (part : Form A) (x : A) (l : List A) → parts part (x ∷ l) ≡ part.write x ++ parts part l
unfolding many row row_write
parts-more part x l = refl

parts_none : {A : Type 0} (part : Form A) → parts part [] ≡ []
unfolding many row row_write
parts_none part = refl

-- ---- values in a row, and pairs

pub value-more : (x : ℕ) (vs : List ℕ) → values_bytes (x ∷ vs) ≡ form x ++ values_bytes vs
unfolding value
value-more x vs = parts-more value x vs

pub values_none : values_bytes [] ≡ []
values_none = parts_none value

-- what is left of them from the one at i on
pub values_left : (vs : List ℕ) (i : ℕ) → i < length vs → values_bytes (drop i vs) ≡ form (at vs i) ++ values_bytes (drop (i + 1) vs)
values_left vs i h = rw (drop-cons vs i 0 h, add-one) (value-more (at vs i) (drop (suc i) vs))

pub values_end : (vs : List ℕ) (i : ℕ) → length vs ≤ i → values_bytes (drop i vs) ≡ []
values_end vs i h = rw (drop_of_length-le vs {i = i} h) values_none

pub pair-more : (x : ℕ × ℕ) (l : List (ℕ × ℕ)) → pairs_bytes (x ∷ l) ≡ form x.0 ++ (form x.1 ++ pairs_bytes l)
unfolding pair ◌then◌ value
pair-more x l = parts-more pair x l ∙ append_assoc (form x.0) (form x.1) (pairs_bytes l)

pub pair_none : pairs_bytes [] ≡ []
pair_none = parts_none pair

-- ---- points in a row

pub point-more : (v : ℕ) (x : ℕ × (ℕ × ℕ)) (l : List (ℕ × (ℕ × ℕ)))
    → points_bytes v (x ∷ l) ≡ form x.0 ++ (form x.1.0 ++ ((margin v).write x.1.1 ++ points_bytes v l))
unfolding point ◌then◌ value
point-more v x l = parts-more (point v) x l ∙ rw (append_assoc, append_assoc)

pub point_none : (v : ℕ) → points_bytes v [] ≡ []
point_none v = parts_none (point v)

-- what is left of a vehicle's from the one at i on
abbrev pub points_left : ℕ → Vehicle → ℕ → List ℕ
points_left v car i = points_bytes v (points_of (car.points - i) (drop i car.n) (drop i car.p) (drop i car.m))

pub points_more : (v : ℕ) (car : Vehicle) (i : ℕ) → i < car.points
    → points_left v car i ≡ form (at car.n i) ++ (form (at car.p i) ++ ((margin v).write (at car.m i) ++ points_left v car (i + 1)))
unfolding points_of
points_more v car i h =
    let z : car.points - i ≡ suc (car.points - (i + 1)) = omega arith in
    let o : i + 0 ≡ i = omega arith in
    rw (
      z,
      point-more,
      get_or-drop i car.n 0 0,
      get_or-drop i car.p 0 0,
      get_or-drop i car.m 0 0,
      o,
      drop-drop 1 i car.n,
      drop-drop 1 i car.p,
      drop-drop 1 i car.m,
    )

pub points_end : (v : ℕ) (car : Vehicle) (i : ℕ) → car.points ≤ i → points_left v car i ≡ []
unfolding points_of
points_end v car i h = let z : car.points - i ≡ 0 = omega arith in rw z (point_none v)

-- ---- what not every version has

-- a value, in the versions that have it and before them
pub since_late : (first v m : ℕ) → first ≤ v → (since first v).write m ≡ form m
unfolding only_if value
since_late first v m h = rw (le-leb first v h)

pub since_early : (first v m : ℕ) → v < first → (since first v).write m ≡ []
unfolding only_if known
since_early first v m h = rw (lt-leb first v h)

-- margins are values from version 2 on, before they are nothing
pub margins_late : (v : ℕ) (ms : List ℕ) → 2 ≤ v → margins_bytes v ms ≡ values_bytes ms
unfolding only_if many row
margins_late v ms h = rw (le-leb 2 v h)

pub margin-more : (v x : ℕ) (ms : List ℕ) → margins_bytes v (x ∷ ms) ≡ (margin v).write x ++ margins_bytes v ms
margin-more v x ms = parts-more (margin v) x ms

pub margin_none : (v : ℕ) → margins_bytes v [] ≡ []
margin_none v = parts_none (margin v)

pub margins_early : (v : ℕ) (ms : List ℕ) → v < 2 → margins_bytes v ms ≡ []
margins_early v [] h = margin_none v
margins_early v (x ∷ ms) h = margin-more v x ms ∙ rw (since_early 2 v x h) (margins_early v ms h)

-- ---- holds

-- what is left of them from the second i on
abbrev pub held_left : List ℕ → ℕ → List (ℕ × ℕ)
held_left hs i = gather i (drop i hs)

-- one where there is a hold
abbrev pub held_one : ℕ → ℕ
held_one g = bool_byte (not (eqb g 0))

module _ (hs : List ℕ) (i : ℕ) (h : i < length hs) where
  pub held_more : pairs_bytes (held_left hs i) ≡ hold_bytes i (at hs i) ++ pairs_bytes (held_left hs (i + 1))
  unfolding gather hold_bytes
  held_more = rw (drop-cons hs i 0 h, add-one) (by_test (eqb (at hs i) 0) (λ z. rw z) (λ z. rw (z, pair-more, append_assoc)))

  pub held_count : length (held_left hs i) ≡ held_one (at hs i) + length (held_left hs (i + 1))
  unfolding gather
  held_count = rw (drop-cons hs i 0 h, add-one) (by_test (eqb (at hs i) 0) (λ z. rw z (omega arith)) (λ z. rw z (omega arith)))

pub one_short : (g : ℕ) → held_one g ≤ 1
one_short g = by_test (eqb g 0) (λ z. rw z (omega arith)) (λ z. rw z (omega arith))

held_none : (hs : List ℕ) (i : ℕ) → length hs ≤ i → held_left hs i ≡ []
unfolding gather
held_none hs i h = rw (drop_of_length-le hs {i = i} h)

pub held_end : (hs : List ℕ) (i : ℕ) → length hs ≤ i → pairs_bytes (held_left hs i) ≡ []
held_end hs i h = rw (held_none hs i h) pair_none

pub held_nought : (hs : List ℕ) (i : ℕ) → length hs ≤ i → length (held_left hs i) ≡ 0
held_nought hs i h = rw (held_none hs i h)

-- no hold, so no bytes
no_pairs : (l : List (ℕ × ℕ)) → length l ≡ 0 → pairs_bytes l ≡ []
no_pairs [] e = pair_none
no_pairs (x ∷ l) e = absurd (omega arith)

pub held_nowhere : (hs : List ℕ) → length (gather 0 hs) ≡ 0 → pairs_bytes (gather 0 hs) ≡ []
held_nowhere hs e = no_pairs (gather 0 hs) e
