-- Forms: one law, which each way of putting forms together keeps, so the law of a composed form is found by `search sounds`.
use Rattle.rules.proofs.Base.{ℕ, zero, suc, ◌+◌, ◌-◌, ◌≤◌, arith, ◌≡◌, refl, sym, ap, ◌∙◌, Bool, true, false, not, List, [], ◌∷◌, ◌++◌, append-nil}
use Rattle.rules.proofs.Base.{append_assoc, length, take, drop, length-append, length-drop, take-append-drop, drop-append_seam, drop-length, drop-drop}
use Rattle.rules.proofs.Base.{length-take-le, eqb, leb, ltb, eqb-true, eq-eqb, ltb-true, leb-true}
use Prim.{tt}
use Rattle.rules.specs.Words.{at}
use Rattle.rules.specs.Refusals.{Fault}
use Rattle.rules.specs.Groups.{Read, got, refused, Reader, hand_on, demand, early, group_if, form, group}
use Rattle.rules.specs.Forms.{Form, value, known, only_if, checked, bounded, ◌then◌, seen, row_read, row_write, RowTakes, row, many, counted, to_the_end}
use Rattle.rules.specs.Vocabulary.{Bytes}
use Rattle.rules.proofs.Laws.Words.{if_ind, and_right}
use Rattle.rules.proofs.Laws.Reading.{two_of, good}
use Rattle.rules.proofs.Laws.Groups.{no_byte, bytes-more, form_size, form-bytes, reads_form, only_form}

-- ---- what stands in a job

-- these bytes stand in the job from i up to j
pub record Spells (job : List ℕ) (i : ℕ) (bytes : List ℕ) (j : ℕ) : Type 0 where
  pub ends : j ≡ i + length bytes
  pub here : drop i job ≡ bytes ++ drop j job

module _ {job : List ℕ} where
  none_stand : {i : ℕ} → Spells job i [] i
  none_stand = record { ends = omega arith; here = refl }

  -- one after another
  both_stand : {i j k : ℕ} {u v : List ℕ} → Spells job i u j → Spells job j v k → Spells job i (u ++ v) k
  both_stand {i} {j} {k} {u} {v} a b = record {
    ends = omega (arith, length-append u v, a.ends, b.ends);
    here = a.here ∙ rw (b.here, append_assoc);
  }

  -- and apart again
  each_stands : (u v : List ℕ) {i k : ℕ} → Spells job i (u ++ v) k → Spells job i u (i + length u) × Spells job (i + length u) v k
  each_stands u v {i} {k} s =
      let n = s.ends in
      let e : drop (i + length u) job ≡ v ++ drop k job = sym (drop-drop (length u) i job)
      ∙ rw (s.here, append_assoc) (drop-append_seam u (v ++ drop k job)) in
      (record { ends = refl; here = s.here ∙ rw (e, append_assoc) }, record { ends = omega (arith, length-append u v); here = e })

-- ---- what is said of a reading

-- what is said of the value and the place that a reading gives, where it gives one
pub data Says {A : Type 0} (P : A → ℕ → Type 0) : Read A → Type 0 where
  told : {a : A} {j : ℕ} → P a j → Says P (got a j)
  stopped : {f : Fault} → Says P (refused f)

-- it is said of what follows, where it is said after every value
pub then_says : {A B : Type 0} {P : A → ℕ → Type 0} {Q : B → ℕ → Type 0} {m : Read A} {f : A → Reader B}
    → Says P m → ((a : A) (j : ℕ) → P a j → Says Q (f a j)) → Says Q (hand_on m f)
unfolding hand_on
then_says (told {a} {j} p) h = h a j p
then_says stopped h = stopped

-- and after a demand, where what is demanded holds
demand-says : {B : Type 0} {Q : B → ℕ → Type 0} (f : Bool → Reader B) (t : Bool) (n s i : ℕ) → (t ≡ true → Says Q (f true i))
    → Says Q (hand_on (demand t n s i) f)
unfolding hand_on demand
demand-says f true n s i h = h refl
demand-says f false n s i h = stopped

-- of a value that was given it holds
says_it : {A : Type 0} {P : A → ℕ → Type 0} {a : A} {j : ℕ} → Says P (got a j) → P a j
says_it (told p) = p

-- the same of a reading that is known to give it
pub says_now : {A : Type 0} {P : A → ℕ → Type 0} {m : Read A} {a : A} {j : ℕ} → m ≡ got a j → Says P m → P a j
says_now e s = says_it (rw e at s)

-- ---- the law

-- the form takes the value, and in a job of bytes the value stands, as it is written, from i up to j
pub record Stood {A : Type 0} (part : Form A) (job : List ℕ) (i : ℕ) (a : A) (j : ℕ) : Type 0 where
  pub taken : part.Takes a
  pub stands : Bytes job → Spells job i (part.write a) j

-- what is written is read back, nothing else is read, and bytes are written
pub record Sound {A : Type 0} (part : Form A) : Type 0 where
  pub reads_back : {job : List ℕ} {i j : ℕ} {a : A} → part.Takes a → Spells job i (part.write a) j → part.read job i ≡ got a j
  pub one_form : (job : List ℕ) (i : ℕ) → Says (Stood part job i) (part.read job i)
  pub bytes : (a : A) → part.Takes a → Bytes (part.write a)

-- ---- each form keeps it

-- a group's value is at most 65,535, of whatever it is read
value_small : (job : List ℕ) (i : ℕ) → Says (λ n j. n ≤ 65535) (group job i)
unfolding group group_if early
value_small job i =
    if_ind (Says _) (leb (length job) i) (λ _. stopped) (λ _.
    if_ind (Says _) (ltb (at job i) 128) (λ s. let h : at job i ≤ 65535 = omega (arith, ltb-true (at job i) 128 s) in told h) (λ _.
    if_ind (Says _) (leb (length job) (i + 1)) (λ _. stopped) (λ _.
    if_ind (Says _) (ltb (at job (i + 1)) 128)
    (λ _. if_ind (Says _) (not (eqb (at job (i + 1)) 0)) (λ _. let h : two_of job i ≤ 65535 = omega arith in told h) (λ _. stopped))
    (λ _. if_ind (Says _) (leb (length job) (i + 2)) (λ _. stopped) (λ _.
    if_ind (Says _) (good job i) (λ t. told (leb-true _ _ (and_right _ _ t))) (λ _. stopped))))))

-- a group that is read stands there
value-stands : (job : List ℕ) (i n j : ℕ) → group job i ≡ got n j → Bytes job → Spells job i (form n) j
value-stands job i n j e bytes =
    let a = only_form job bytes.each i n j e in
    let z : i + (j - i) ≡ j = omega (arith, a.after_it) in
    let d : drop (j - i) (drop i job) ≡ drop j job = rw (drop-drop (j - i) i job, z) in
    record { ends = a.after_it; here = sym (take-append-drop (j - i) (drop i job)) ∙ rw (a.written, d) }

value_only : (job : List ℕ) (i : ℕ) (r : Read ℕ) → group job i ≡ r → Says (λ n j. n ≤ 65535) r → Says (Stood value job i) r
unfolding value
value_only job i (got n j) e (told s) = told (record { taken = s; stands = value-stands job i n j e })
value_only job i (refused f) e s = stopped

pub value_sound : Sound value
unfolding value
value_sound = record {
  reads_back = λ {job} {i} {j} {a = n} t s.
      let e : job ≡ take i job ++ (form n ++ drop j job) = sym (take-append-drop i job) ∙ rw s.here in
      let m : length job - i ≡ length (form n) + length (drop j job) = sym (length-drop i job) ∙ rw s.here (length-append (form n) (drop j job)) in
      let l : length (take i job) ≡ i = length-take-le i job (omega (arith, (form_size n).0)) in
      let r = reads_form (take i job) n (drop j job) t in
      rw (← e, l, ← s.ends) at r;
  one_form = λ job i. value_only job i (group job i) refl (value_small job i);
  bytes = λ n t. form-bytes n t;
}

module _ {A : Type 0} where
  pub known_sound : (a : A) → Sound (known a)
  unfolding known
  known_sound a = record {
    reads_back = λ {i} {j} t s. let e : j ≡ i = omega (arith, s.ends) in rw (e, t);
    one_form = λ job i. told (record { taken = refl; stands = λ h. none_stand });
    bytes = λ b t. no_byte;
  }

  pub only_if_sound : (t : Bool) (a : A) {part : Form A} → Sound part → Sound (only_if t a part)
  unfolding only_if
  only_if_sound true a s = s
  only_if_sound false a s = known_sound a

  pub checked_sound : {part : Form A} → Sound part → (test : A → Bool) (n : ℕ) (spot : ℕ → ℕ) → Sound (checked part test n spot)
  unfolding checked hand_on demand
  checked_sound f test n spot = record {
    reads_back = λ t s. rw (f.reads_back t.0 s, t.1);
    one_form = λ job i.
        then_says (f.one_form job i) (λ a j w.
        demand-says _ (test a) n (spot i) j (λ t. told (record { taken = (w.taken, t); stands = w.stands })));
    bytes = λ a t. f.bytes a t.0;
  }

  module _ {B : Type 0} where
    pub then_sound : {part : Form A} {next : A → Form B} → Sound part → ((a : A) → Sound (next a)) → Sound (part then next)
    unfolding ◌then◌ hand_on
    then_sound {part} {next} f g = record {
      reads_back = λ {a = x} t s.
          let p = each_stands (part.write x.0) ((next x.0).write x.1) s in
          rw (f.reads_back t.0 p.0, (g x.0).reads_back t.1 p.1);
      one_form = λ job i.
          then_says (f.one_form job i) (λ a j v.
          then_says ((g a).one_form job j) (λ b k w.
          told (record { taken = (v.taken, w.taken); stands = λ h. both_stand (v.stands h) (w.stands h) })));
      bytes = λ x t. bytes-more _ _ (f.bytes x.0 t.0) ((g x.0).bytes x.1 t.1);
    }

    pub seen_sound : (to : A → B) (from : B → A) {part : Form A} → Sound part → ((a : A) → part.Takes a → from (to a) ≡ a) → Sound (seen to from part)
    unfolding seen hand_on
    seen_sound to from f back = record {
      reads_back = λ t s. rw (f.reads_back t.0 s, t.1);
      one_form = λ job i.
          then_says (f.one_form job i) (λ a j w.
          let e : from (to a) ≡ a = back a w.taken in
          told (record { taken = (rw e w.taken, ap to e); stands = λ h. rw (e, seen) (w.stands h) }));
      bytes = λ b t. f.bytes (from b) t.0;
    }

module _ {A S : Type 0} {part : S → Form A} (move : S → A → S) (sound : (s : S) → Sound (part s)) where
  row_back : (k : ℕ) (s : S) (l : List A) {job : List ℕ} {i j : ℕ} → RowTakes part move s l → length l ≡ k → Spells job i (row_write part move s l) j
      → row_read part move k s job i ≡ got l j
  unfolding row_read row_write RowTakes hand_on
  row_back zero s [] {i} {j} each n w = let e : j ≡ i = omega (arith, w.ends) in rw e
  row_back zero s (a ∷ l) each n w = absurd (omega arith)
  row_back (suc k) s [] each n w = absurd (omega arith)
  row_back (suc k) s (a ∷ l) each n w =
      let p = each_stands ((part s).write a) (row_write part move (move s a) l) w in
      rw ((sound s).reads_back each.0 p.0, row_back k (move s a) l each.1 (omega arith) p.1)

  row_only : (k : ℕ) (s : S) (job : List ℕ) (i : ℕ) → Says (Stood (row part move s k) job i) (row_read part move k s job i)
  unfolding row row_read row_write RowTakes
  row_only zero s job i = told (record { taken = (tt, refl); stands = λ h. none_stand })
  row_only (suc k) s job i =
      then_says ((sound s).one_form job i) (λ a j v.
      then_says (row_only k (move s a) job j) (λ l m w.
      told (record { taken = ((v.taken, w.taken.0), ap suc w.taken.1); stands = λ h. both_stand (v.stands h) (w.stands h) })))

  row-bytes : (s : S) (l : List A) → RowTakes part move s l → Bytes (row_write part move s l)
  unfolding row_write RowTakes
  row-bytes s [] t = no_byte
  row-bytes s (a ∷ l) t = bytes-more _ _ ((sound s).bytes a t.0) (row-bytes (move s a) l t.1)

  pub row_sound : (s : S) (k : ℕ) → Sound (row part move s k)
  unfolding row
  row_sound s k = record {
    reads_back = λ {a = l} t w. row_back k s l t.0 t.1 w;
    one_form = row_only k s;
    bytes = λ l t. row-bytes s l t.0;
  }

pub many_sound : {A : Type 0} {part : Form A} → Sound part → (k : ℕ) → Sound (many part k)
unfolding many
many_sound f k = row_sound _ (λ s. f) tt k

pub counted_sound : {A : Type 0} {count : Form ℕ} {parts : ℕ → Form (List A)} → Sound count → ((k : ℕ) → Sound (parts k))
    → ((k : ℕ) (l : List A) → (parts k).Takes l → length l ≡ k) → Sound (counted count parts)
unfolding counted ◌then◌
counted_sound {A} c f so_many = seen_sound _ _ (then_sound c f) (λ x t. ap (λ (n : ℕ). (n, x.1)) (so_many x.0 x.1 t.1))

pub counted-many_sound : {A : Type 0} {count : Form ℕ} {part : Form A} → Sound count → Sound part → Sound (counted count (many part))
unfolding many row
counted-many_sound c f = counted_sound c (many_sound f) (λ k l t. t.1)

pub bounded_sound : (lo hi refusal spot : ℕ) → Sound (bounded lo hi refusal spot)
unfolding bounded
bounded_sound lo hi refusal spot = checked_sound value_sound _ _ _

-- for `search`: a form that is put together from these keeps the law
pub ruleset sounds = (value_sound, then_sound, only_if_sound, checked_sound, bounded_sound, counted-many_sound, many_sound)

-- ---- the whole of a job

-- what is written reads back
pub reads_whole : {A : Type 0} {part : Form A} → Sound part → (a : A) → part.Takes a → to_the_end part (part.write a) ≡ got a (length (part.write a))
unfolding to_the_end hand_on demand
reads_whole {A} {part} f a t =
    let l = part.write a in
    rw (
      f.reads_back {job = l} {i = 0} {j = length l} t (record { ends = omega arith; here = rw (drop-length l, append-nil) }),
      eq-eqb (length l) (length l) refl,
    )

-- what is read of a whole job is taken, and in a job of bytes written as the same bytes
pub whole_says : {A : Type 0} {part : Form A} → Sound part → (job : List ℕ)
    → Says (λ a j. part.Takes a × (Bytes job → part.write a ≡ job)) (to_the_end part job)
unfolding to_the_end hand_on
whole_says {A} {part} f job =
    then_says (f.one_form job 0) (λ a j w.
    demand-says _ (eqb j (length job)) 16 j j (λ t.
    let e : j ≡ length job = eqb-true _ _ t in
    told (w.taken, λ h. sym ((w.stands h).here ∙ rw (e, drop-length job, append-nil)))))
