-- One reading after another.
use Rattle.rules.proofs.Offered.{ℕ, arith, ◌≡◌, refl, sym, ◌∙◌, Bool, true, false, List, [], length, Fault, Read, got, refused, Reader, hand_on, give}
use Rattle.rules.proofs.Offered.{demand, Form, row, many, says_now, Sound, many_sound}
use Rattle.reading.specs.Progress.{Comes, used}

-- two readings one after the other, and a third
pub joined : {A B C : Type 0} (m : Read A) (f : A → Reader B) (g : B → Reader C) → hand_on (hand_on m f) g ≡ hand_on m (λ a j. hand_on (f a j) g)
unfolding hand_on
joined (got a j) f g = refl
joined (refused x) f g = refl

-- what follows a reading may be looked at where it was read
pub ext : {A B : Type 0} (m : Read A) {f g : A → Reader B} → ((a : A) (j : ℕ) → m ≡ got a j → f a j ≡ g a j) → hand_on m f ≡ hand_on m g
unfolding hand_on
ext (got a j) h = h a j refl
ext (refused x) h = refl

-- ---- a reading that came to its end went by each step

pub went : {A B P : Type 0} (m : Read A) (f : A → Reader B) {b : B} {j : ℕ} → hand_on m f ≡ got b j
    → ((a : A) (k : ℕ) → m ≡ got a k → f a k ≡ got b j → P) → P
unfolding hand_on
went (got a k) f e next = next a k refl e
went (refused x) f e next = let z : ◌≡◌ {A = ℕ} 0 1 = cc in absurd (omega arith)

pub passed : {B P : Type 0} (t : Bool) (n s i : ℕ) (f : Bool → Reader B) {b : B} {j : ℕ} → hand_on (demand t n s i) f ≡ got b j
    → (t ≡ true → f true i ≡ got b j → P) → P
unfolding hand_on demand
passed true n s i f e next = next refl e
passed false n s i f e next = let z : ◌≡◌ {A = ℕ} 0 1 = cc in absurd (omega arith)

pub same_value : {A : Type 0} {a b : A} {j k : ℕ} → ◌≡◌ {A = Read A} (got a j) (got b k) → a ≡ b
same_value e = cc

pub comes_by : {A : Type 0} {a : A} {j : ℕ} {m : Read A} → got a j ≡ m → Comes m
comes_by {a = a} {j = j} e = record { what = a; end = j; comes = sym e }

-- a refusal is no end that reading comes to
pub never : {A : Type 0} {m : Read A} {f : Fault} → m ≡ refused f → Comes m → ⊥
never e c = let d = c.comes in let z : ◌≡◌ {A = ℕ} 0 1 = cc in absurd (omega arith)

-- ---- what was read, put to use

give_on : {A : Type 0} (m : Read A) → hand_on m (λ a. give a) ≡ m
unfolding hand_on
give_on (got a j) = refl
give_on (refused f) = refl

-- what comes is put to use
pub used_gives : {A B : Type 0} (f : A → B) (part : Form A) (job : List ℕ) (i : ℕ) {a : A} {j : ℕ} → got a j ≡ part.read job i
    → got (f a) j ≡ used f part job i
unfolding used hand_on
used_gives f part job i e = rw (← e)

stops_of : {A B : Type 0} (f : A → B) (m : Read A) {x : Fault} → refused x ≡ hand_on m (λ a. give (f a)) → refused x ≡ m
unfolding hand_on
stops_of f (got a j) e = let z : ◌≡◌ {A = ℕ} 0 1 = cc in absurd (omega arith)
stops_of f (refused y) e = cc

-- a refusal comes from what was read
pub used_stops : {A B : Type 0} (f : A → B) (part : Form A) (job : List ℕ) (i : ℕ) {x : Fault} → refused x ≡ used f part job i
    → refused x ≡ part.read job i
unfolding used
used_stops f part job i e = stops_of f (part.read job i) e

-- where it is put to use as it is, it is what was read
pub use_as_is : {A : Type 0} {f : A → A} (part : Form A) (job : List ℕ) (i : ℕ) → ((a : A) (j : ℕ) → part.read job i ≡ got a j → f a ≡ a)
    → used f part job i ≡ part.read job i
unfolding used
use_as_is part job i h = ext (part.read job i) (λ a j e. rw (h a j e)) ∙ give_on (part.read job i)

-- as many parts are read as were asked
pub many-length : {A : Type 0} {part : Form A} → Sound part → (job : List ℕ) (k i : ℕ) {l : List A} {j : ℕ} → (many part k).read job i ≡ got l j → length l ≡ k
unfolding many row
many-length {part} s job k i e = (says_now e ((many_sound s k).one_form job i)).taken.1

-- ---- what was only judged

-- what comes, nothing in a refusal
abbrev pub values : {A : Type 0} → Read (List A) → List A
values (got l j) = l
values (refused f) = []

module _ {A : Type 0} (part : Form (List A)) (job : List ℕ) (i : ℕ) where
  comes_of : (m : Read (List A)) {k : ℕ} → got true k ≡ hand_on m (λ x. give true) → got (values m) k ≡ m
  unfolding hand_on
  comes_of (got l j) {k} e = let same : k ≡ j = cc in rw same
  comes_of (refused x) e = let z : ◌≡◌ {A = ℕ} 0 1 = cc in absurd (omega arith)

  pub judged_comes : {k : ℕ} → got true k ≡ used (λ x. true) part job i → got (values (part.read job i)) k ≡ part.read job i
  unfolding used
  judged_comes e = comes_of (part.read job i) e
