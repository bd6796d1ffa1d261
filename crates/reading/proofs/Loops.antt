-- The reader's loops. The invariant says that what is left to read, from here, is what was asked; the laws are the loop's ways on.
use Rattle.rules.proofs.Offered.{ℕ, suc, ◌+◌, ◌-◌, ◌/◌, ◌<◌, ◌≤◌, add-one, arith, ◌≡◌, sym, ◌∙◌, true, List, [], ◌∷◌, leb, ltb, length, set, sets, Fault, ◌and◌}
use Rattle.rules.proofs.Offered.{within, at, Read, got, refused, hand_on, ◌>>=◌, ◌>>◌, give, demand, group, Form, value, checked, ◌then◌, row_read, row, many}
use Rattle.rules.proofs.Offered.{one_hold, put, says_now, value_sound, HoldFits, takes_hold, hold_sound}
use Prim.{Unit, tt}
use Rattle.reading.specs.Progress.{hold_row, Comes, ShortGroup, used}
use Rattle.reading.proofs.Steps.{joined, went, passed, use_as_is, many-length}
use Rattle.reading.proofs.GroupAnswers.{first_there, gear_inside, gear_first}
use Rattle.reading.proofs.StageAnswers.{all_filled}

-- ---- k parts in a row, of which i are read: `keep` is what becomes of the others

pub record InRow {A S B : Type 0} (part : S → Form A) (move : S → A → S) (job : List ℕ) (k i : ℕ) (s : S) (next : ℕ) (keep : List A → B)
    (R : Read B) : Type 0 where
  pub left : hand_on (row_read part move (k - i) s job next) (λ l. give (keep l)) ≡ R

pub row_begins : {A S B : Type 0} (part : S → Form A) (move : S → A → S) (job : List ℕ) (k : ℕ) (s : S) (next : ℕ) (keep : List A → B)
    → InRow part move job k 0 s next keep (used keep (row part move s k) job next)
unfolding used row
row_begins part move job k s next keep = let z : k - 0 ≡ k = omega arith in record { left = rw z }

module _ {A S B : Type 0} {part : S → Form A} {move : S → A → S} {job : List ℕ} {k i : ℕ} {s : S} {next : ℕ} {keep : List A → B} {R : Read B}
    (p : InRow part move job k i s next keep R) where
  pub ends : k ≤ i → got (keep []) next ≡ R
  unfolding hand_on row_read
  ends h = let z : k - i ≡ 0 = omega arith in rw z at p.left

  module _ (h : i < k) where
    more : k - i ≡ suc (k - suc i)
    more = omega arith

    pub stops : {f : Fault} → refused f ≡ (part s).read job next → refused f ≡ R
    unfolding hand_on row_read
    stops e = rw (more, ← e) at p.left

    pub again : {a : A} {after : ℕ} → got a after ≡ (part s).read job next → InRow part move job k (i + 1) (move s a) after (λ l. keep (a ∷ l)) R
    unfolding hand_on row_read
    again {a} {after} e = record {
      left = rw add-one (sym (joined (row_read part move (k - suc i) (move s a) job after) (λ l. give (a ∷ l)) (λ l. give (keep l)))
          ∙ (rw (more, ← e) at p.left));
    }

    -- where all of it comes, the next part does
    pub comes_here : Comes R → Comes ((part s).read job next)
    unfolding row_read
    comes_here r =
        went (row_read part move (k - i) s job next) _ (p.left ∙ r.comes) (λ l j e _.
        went ((part s).read job next) _ (rw more at e) (λ a m e _. record { what = a; end = m; comes = e }))

-- what is put to use comes where what is read does
pub used_comes : {A B : Type 0} (f : A → B) (part : Form A) (job : List ℕ) (i : ℕ) → Comes (part.read job i) → Comes (used f part job i)
unfolding used hand_on
used_comes f part job i c = record { what = f c.what; end = c.end; comes = rw c.comes }

-- ---- parts of one form

abbrev pub Many : {A B : Type 0} → Form A → List ℕ → ℕ → ℕ → ℕ → (List A → B) → Read B → Type 0
Many part job k i next keep R = InRow (λ (s : Unit {0}). part) (λ s a. s) job k i tt next keep R

pub many_begins : {A B : Type 0} (part : Form A) (job : List ℕ) (k next : ℕ) (keep : List A → B)
    → Many part job k 0 next keep (used keep (many part k) job next)
unfolding many
many_begins part job k next keep = row_begins (λ (s : Unit {0}). part) (λ s a. s) job k tt next keep

-- the values in a row, where a group is at hand
module _ {B : Type 0} {job : List ℕ} {k i next : ℕ} {keep : List ℕ → B} {R : Read B} (p : Many value job k i next keep R) (h : i < k) where
  pub value_stops : {f : Fault} → refused f ≡ group job next → refused f ≡ R
  unfolding value
  value_stops e = stops p h e

  pub value_again : {v after : ℕ} → got v after ≡ group job next → Many value job k (i + 1) after (λ vs. keep (v ∷ vs)) R
  unfolding value
  value_again e = again p h e

  pub value_comes : Comes R → Comes (group job next)
  unfolding value
  value_comes r = comes_here p h r

-- a room is filled with values: those that are left go from place i on
pub fill_begins : (job room : List ℕ) (at : ℕ) → Many value job (length room) 0 at (sets room 0) ((many value (length room)).read job at)
fill_begins job room at = record {
  left = (many_begins value job (length room) at (sets room 0)).left
      ∙ use_as_is (many value (length room)) job at (λ l k come. all_filled room l (many-length value_sound job (length room) at come));
}

pub fill_again : {job : List ℕ} {k i next : ℕ} {room : List ℕ} {R : Read (List ℕ)} → Many value job k i next (sets room i) R → i < k → {v after : ℕ}
    → got v after ≡ group job next → Many value job k (i + 1) after (sets (set room i v) (i + 1)) R
fill_again {i = i} p h e = rw (add-one i) (rw (add-one i) at (value_again p h e))

-- ---- holds

abbrev pub Holds : {B : Type 0} → ℕ → List ℕ → ℕ → ℕ → ℕ → ℕ → (List (ℕ × ℕ) → B) → Read B → Type 0
Holds count job k i next place keep R = InRow (one_hold count) (λ next h. suc h.0) job k i next place keep R

pub holds_begin : {B : Type 0} (count : ℕ) (job : List ℕ) (k place : ℕ) (keep : List (ℕ × ℕ) → B)
    → Holds count job k 0 0 place keep (used keep (hold_row count k) job place)
holds_begin count job k place keep = row_begins (one_hold count) (λ next h. suc h.0) job k 0 place keep

-- a hold that comes: its second and its gear do, one after the other, and are in their bounds
module _ (job : List ℕ) (count next i : ℕ) where
  hold-steps : (one_hold count next).read job i ≡ (do
    s ← group job
    demand (leb next s and ltb s count) 15 i
    g ← group job
    demand (within 1 255 g) 15 i
    give (s, g)) i
  unfolding one_hold checked ◌then◌ value hand_on
  hold-steps = simp joined

  module _ (c : Comes ((one_hold count next).read job i)) where
    pub second_comes : Comes (group job i)
    second_comes = went (group job i) _ (sym hold-steps ∙ c.comes) (λ s j e _. record { what = s; end = j; comes = e })

    module _ {s j : ℕ} (e : got s j ≡ group job i) where
      after-second : {P : Type 0}
          → (hand_on (group job j) (λ g j. hand_on (demand (within 1 255 g) 15 i j) (λ _. give (s, g))) ≡ got c.what c.end → leb next s and ltb s count
          ≡ true → P) → P
      unfolding hand_on
      after-second f = passed (leb next s and ltb s count) _ _ _ _ (rw (← e) at (sym hold-steps ∙ c.comes)) (λ t x. f x t)

      pub gear_comes : Comes (group job j)
      gear_comes = after-second (λ x _. went (group job j) _ x (λ g l f _. record { what = g; end = l; comes = f }))

      pub hold_comes : {g l : ℕ} → got g l ≡ group job j → got (s, g) l ≡ (one_hold count next).read job i
      unfolding hand_on demand
      hold_comes {g} f =
          after-second (λ x t.
          passed (within 1 255 g) _ _ _ _ (rw (← f) at x) (λ u _. rw (hold-steps, ← e, t, ← f, u)))

pub hold-fits : (job : List ℕ) (count next i : ℕ) {s g j : ℕ} → got (s, g) j ≡ (one_hold count next).read job i → HoldFits count next (s, g)
hold-fits job count next i e = takes_hold count next _ (says_now (sym e) ((hold_sound count next).one_form job i)).taken

-- ---- judged holds put into a room; what the next second must rise from is not kept

pub record Putting (count : ℕ) (job : List ℕ) (k i place : ℕ) (room : List ℕ) (R : Read (List ℕ)) : Type 0 where
  pub next : ℕ
  pub left : Holds count job k i next place (λ hs. put hs room) R
  pub all : Comes R
  pub few : count ≤ 16384

pub put_begins : (count : ℕ) (job : List ℕ) (k place : ℕ) (room : List ℕ) → Comes ((hold_row count k).read job place) → count ≤ 16384
    → Putting count job k 0 place room (used (λ hs. put hs room) (hold_row count k) job place)
put_begins count job k place room c f =
    record { next = 0; left = holds_begin count job k place (λ hs. put hs room); all = used_comes (λ hs. put hs room) (hold_row count k) job place c; few = f }

module _ {count : ℕ} {job : List ℕ} {k i place : ℕ} {room : List ℕ} {R : Read (List ℕ)} (p : Putting count job k i place room R) where
  pub put_ends : k ≤ i → got room place ≡ R
  unfolding put
  put_ends h = ends p.left h

  module _ (h : i < k) where
    here : Comes ((one_hold count p.next).read job place)
    here = comes_here p.left h p.all

    second : Comes (group job place)
    second = second_comes job count p.next place here

    fits : {s j : ℕ} → got s j ≡ group job place → {g l : ℕ} → got g l ≡ group job j → HoldFits count p.next (s, g)
    fits e f = hold-fits job count p.next place (hold_comes job count p.next place here e f)

    -- its second has one byte or two
    pub put_short : ShortGroup (group job place)
    put_short =
        let b = gear_comes job count p.next place here (sym second.comes) in
        record { there = second; small = omega (arith, p.few, (fits (sym second.comes) (sym b.comes)).below) }

    module _ {s j : ℕ} (e : got s j ≡ group job place) where
      gear : Comes (group job j)
      gear = gear_comes job count p.next place here e

      pub gear_there : j < length job
      gear_there = first_there job j gear

      -- its gear is its group's first byte
      module _ (b : at job j < 256) where
        geared : got (at job j) (j + 1 + at job j / 128) ≡ group job j
        geared = gear_first job j gear b (omega (arith, (fits e (sym gear.comes)).byte))

        pub gear_ends : j + 1 + at job j / 128 ≤ length job
        gear_ends = gear_inside job j gear b

        pub second_fits : s < count
        second_fits = (fits e geared).below

        pub put_again : Putting count job k (i + 1) (j + 1 + at job j / 128) (set room s (at job j)) R
        unfolding put
        put_again = record { next = suc s; left = again p.left h (hold_comes job count p.next place here e geared); all = p.all; few = p.few }
