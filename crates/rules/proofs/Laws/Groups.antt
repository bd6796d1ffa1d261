-- Groups: each value 0 to 65,535 has exactly one form that is accepted, its shortest, and reading that form gives the value and the place after it.
use Rattle.rules.proofs.Base.{ℕ, zero, suc, ◌+◌, ◌-◌, ◌*◌, ◌/◌, ◌%◌, ◌≤◌, ◌<◌, arith, ◌≡◌, sym, ◌∙◌, List, [], ◌∷◌, ◌++◌, length, length-append}
use Rattle.rules.proofs.Base.{drop-cons, get_or-append_seam, get_or-append-add, drop-append_seam, take-append_seam, lt-ltb, le-ltb, leb-true, eqb-false}
use Rattle.rules.proofs.Base.{not-true}
use Rattle.rules.specs.Words.{at, part}
use Rattle.rules.specs.Refusals.{Fault}
use Rattle.rules.specs.Groups.{Read, got, refused, early, group_if, group, form}
use Rattle.rules.specs.Vocabulary.{Bytes, OneForm}
use Rattle.rules.proofs.Laws.Reading.{two_of, three_of, good, ends_first, one, ends_second, two, two_bad, ends_third, three_if, three}
use Rattle.rules.proofs.Laws.Words.{by_test, by_order, and_left, and_right, of₅, of₈}

-- ---- the form of a value

pub form-one : (n : ℕ) → n < 128 → form n ≡ n ∷ []
unfolding form
form-one n h = rw (lt-ltb _ _ h)

pub form_two : (n : ℕ) → 128 ≤ n → n < 16384 → form n ≡ (128 + n % 128) ∷ n / 128 ∷ []
unfolding form
form_two n h k = rw (le-ltb _ _ h, lt-ltb _ _ k)

pub form_three : (n : ℕ) → 16384 ≤ n → form n ≡ (128 + n % 128) ∷ (128 + n / 128 % 128) ∷ n / 16384 ∷ []
unfolding form
form_three n h = let k : 128 ≤ n = omega arith in rw (le-ltb _ _ k, le-ltb _ _ h)

pub no_byte : Bytes []
no_byte = record { each = λ k. omega arith }

byte_more : {x : ℕ} {l : List ℕ} → x < 256 → Bytes l → Bytes (x ∷ l)
byte_more {x} {l} h r = record { each = here } where
  here : (k : ℕ) → at (x ∷ l) k < 256
  here zero = h
  here (suc k) = r.each k

-- bytes and more bytes
pub bytes-more : (l m : List ℕ) → Bytes l → Bytes m → Bytes (l ++ m)
bytes-more [] m x y = y
bytes-more (b ∷ l) m x y = byte_more (x.each 0) (bytes-more l m (record { each = λ k. x.each (suc k) }) y)

-- one to three of them
pub form_size : (n : ℕ) → (1 ≤ length (form n)) × (length (form n) ≤ 3)
form_size n =
    by_order n 128
    (λ s. rw (form-one n s) (omega arith))
    (λ s. by_order n 16384
    (λ t. rw (form_two n s t) (omega arith))
    (λ t. rw (form_three n t) (omega arith)))

pub form-bytes : (n : ℕ) → n ≤ 65535 → Bytes (form n)
form-bytes n h =
    by_order n 128
    (λ s. rw (form-one n s) (byte_more (omega arith) no_byte))
    (λ s. by_order n 16384
    (λ t. rw (form_two n s t) (byte_more (omega arith) (byte_more (omega arith) no_byte)))
    (λ t. rw (form_three n t) (byte_more (omega arith) (byte_more (omega arith) (byte_more (omega arith) no_byte)))))

-- ---- reading a value's form, wherever it stands, gives the value and the place after it

module _ (before : List ℕ) (n : ℕ) (after : List ℕ) where
  reads_one : n < 128 → group (before ++ n ∷ after) (length before) ≡ got n (length before + 1)
  reads_one s =
      let job = before ++ n ∷ after in
      let len : length job ≡ length before + suc (length after) = length-append before (n ∷ after) in
      let e : at job (length before) ≡ n = get_or-append_seam before n after 0 in
      rw e at (one job (length before) (omega arith) (omega arith))

  reads_two : 128 ≤ n → n < 16384 → group (before ++ (128 + n % 128) ∷ n / 128 ∷ after) (length before) ≡ got n (length before + 2)
  reads_two s t =
      let form = (128 + n % 128) ∷ n / 128 ∷ after in
      let job = before ++ form in
      let len : length job ≡ length before + suc (suc (length after)) = length-append before form in
      let a : at job (length before) ≡ 128 + n % 128 = get_or-append_seam before _ _ 0 in
      let b : at job (length before + 1) ≡ n / 128 = get_or-append-add before form 1 0 in
      let v : two_of job (length before) ≡ n = rw (a, b) (omega arith) in
      rw v at (of₅ (two job (length before)) (omega arith))

  reads_three : 16384 ≤ n → n ≤ 65535
      → group (before ++ (128 + n % 128) ∷ (128 + n / 128 % 128) ∷ n / 16384 ∷ after) (length before) ≡ got n (length before + 3)
  reads_three s t =
      let form = (128 + n % 128) ∷ (128 + n / 128 % 128) ∷ n / 16384 ∷ after in
      let job = before ++ form in
      let len : length job ≡ length before + suc (suc (suc (length after))) = length-append before form in
      let a : at job (length before) ≡ 128 + n % 128 = get_or-append_seam before _ _ 0 in
      let b : at job (length before + 1) ≡ 128 + n / 128 % 128 = get_or-append-add before form 1 0 in
      let c : at job (length before + 2) ≡ n / 16384 = get_or-append-add before form 2 0 in
      let v : three_of job (length before) ≡ n = rw (a, b, c) (omega arith) in
      rw v at (of₈ (three job (length before)) (omega arith))

  pub reads_form : n ≤ 65535 → group (before ++ (form n ++ after)) (length before) ≡ got n (length before + length (form n))
  reads_form h =
      by_order n 128
      (λ s. rw (form-one n s) (reads_one s))
      (λ s. by_order n 16384
      (λ t. rw (form_two n s t) (reads_two s t))
      (λ t. rw (form_three n t) (reads_three t h)))

-- ---- what is accepted is a value's form

-- what a group that is read says: the value is at most 65,535, its form stands there, and the place is the one after it
pub record Shortest (job : List ℕ) (i n j : ℕ) : Type 0 where
  pub small : n ≤ 65535
  pub within_job : j ≤ length job
  pub written : part job i j ≡ form n
  pub after_it : j ≡ i + length (form n)

low7 : (r q : ℕ) → r < 128 → (r + 128 * q) % 128 ≡ r
low7 r q h = omega arith

module _ (job : List ℕ) (i : ℕ) where
  part-one : i < length job → part job i (i + 1) ≡ at job i ∷ []
  part-one h = let z : i + 1 - i ≡ 1 = omega arith in rw (z, drop-cons job i 0 h)

  part_two : i + 1 < length job → part job i (i + 2) ≡ at job i ∷ at job (i + 1) ∷ []
  part_two h =
      let z : i + 2 - i ≡ 2 = omega arith in
      let e : i + 1 ≡ suc i = omega arith in
      rw (z, drop-cons job i 0 (omega arith), e, drop-cons job (suc i) 0 (omega arith))

  part_three : i + 2 < length job → part job i (i + 3) ≡ at job i ∷ at job (i + 1) ∷ at job (i + 2) ∷ []
  part_three h =
      let z : i + 3 - i ≡ 3 = omega arith in
      let e : i + 1 ≡ suc i = omega arith in
      let f : i + 2 ≡ suc (suc i) = omega arith in
      rw (z, drop-cons job i 0 (omega arith), e, drop-cons job (suc i) 0 (omega arith), f, drop-cons job (suc (suc i)) 0 (omega arith))

  module _ (bytes : (k : ℕ) → at job k < 256) where
    accepts_one : i < length job → at job i < 128 → Shortest job i (at job i) (i + 1)
    accepts_one h a =
        let f = form-one (at job i) a in
        record { small = omega arith; within_job = omega arith; written = rw f (part-one h); after_it = rw f }

    accepts_two : i + 1 < length job → 128 ≤ at job i → at job (i + 1) < 128 → 0 < at job (i + 1) → Shortest job i (two_of job i) (i + 2)
    accepts_two h a b z =
        let m = bytes i in
        let p : at job i % 128 ≡ at job i - 128 = omega arith in
        let q : at job (i + 1) % 128 ≡ at job (i + 1) = omega arith in
        let v : two_of job i ≡ at job i - 128 + 128 * at job (i + 1) = omega arith in
        let f = form_two (two_of job i) (omega arith) (omega arith) in
        let x : 128 + two_of job i % 128 ≡ at job i = omega arith in
        let y : two_of job i / 128 ≡ at job (i + 1) = omega arith in
        record { small = omega arith; within_job = omega arith; written = rw (f, x, y) (part_two h); after_it = rw f }

    accepts_three : i + 2 < length job → 128 ≤ at job i → 128 ≤ at job (i + 1) → 0 < at job (i + 2) → three_of job i ≤ 65535
        → Shortest job i (three_of job i) (i + 3)
    accepts_three h a b z s =
        let m = bytes i in
        let o = bytes (i + 1) in
        let p : at job i % 128 ≡ at job i - 128 = omega arith in
        let q : at job (i + 1) % 128 ≡ at job (i + 1) - 128 = omega arith in
        let v : three_of job i ≡ at job i - 128 + 128 * (at job (i + 1) - 128) + 16384 * at job (i + 2) = omega arith in
        let f = form_three (three_of job i) (omega arith) in
        let x : 128 + three_of job i % 128 ≡ at job i = omega arith in
        let u : three_of job i / 128 ≡ at job (i + 1) - 128 + 128 * at job (i + 2) = omega arith in
        let y : 128 + three_of job i / 128 % 128 ≡ at job (i + 1) = rw (u, low7 (at job (i + 1) - 128) (at job (i + 2)) (omega arith)) (omega arith) in
        let w : three_of job i / 16384 ≡ at job (i + 2) = omega arith in
        record { small = s; within_job = omega arith; written = rw (f, x, y, w) (part_three h); after_it = rw f }

    accepted_as : {n j m k : ℕ} → ◌≡◌ {A = Read ℕ} (got m k) (got n j) → Shortest job i m k → Shortest job i n j
    accepted_as {n} {j} {m} {k} e h = let x : m ≡ n = cc in let y : k ≡ j = cc in rw (x, y) at h

    never : {P : Type 0} {n j : ℕ} {f : Fault} → group job i ≡ refused f → group job i ≡ got n j → P
    never x y = let z : ◌≡◌ {A = ℕ} 0 1 = cc in absurd (omega arith)

    three_only : {n j : ℕ} → i + 2 < length job → 128 ≤ at job i → 128 ≤ at job (i + 1) → group job i ≡ got n j → Shortest job i n j
    unfolding group_if
    three_only l a b e =
        let r = three_if job i (omega arith) a (omega arith) b l in
        by_test (good job i)
        (λ t.
        let z : at job (i + 2) ≡ 0 → ⊥ = eqb-false _ _ (not-true _ (and_right _ _ (and_left _ _ t))) in
        let y : 0 < at job (i + 2) = by_order 0 (at job (i + 2)) (λ h. h) (λ h. absurd (z (omega arith))) in
        accepted_as (rw t at (sym r ∙ e)) (accepts_three l a b y (leb-true _ _ (and_right _ _ t))))
        (λ t. never (rw t at r) e)

    two_only : {n j : ℕ} → i + 1 < length job → 128 ≤ at job i → group job i ≡ got n j → Shortest job i n j
    unfolding early
    two_only k a e =
        by_order (at job (i + 1)) 128
        (λ b. by_order 0 (at job (i + 1))
        (λ z. accepted_as (sym (two job i (omega arith) a k b z) ∙ e) (accepts_two k a b z))
        (λ z. never (two_bad job i (omega arith) a k (omega arith)) e))
        (λ b. by_order (i + 2) (length job)
        (λ l. three_only l a b e)
        (λ l. never (ends_third job i (omega arith) a k b l) e))

    any_only : {n j : ℕ} → group job i ≡ got n j → Shortest job i n j
    unfolding early
    any_only e =
        by_order i (length job)
        (λ h. by_order (at job i) 128
        (λ a. accepted_as (sym (one job i h a) ∙ e) (accepts_one h a))
        (λ a. by_order (i + 1) (length job) (λ k. two_only k a e) (λ k. never (ends_second job i h a k) e)))
        (λ h. never (ends_first job i h) e)

-- a group that is accepted is the shortest form of the value that it gives, which is at most 65,535
pub only_form : (job : List ℕ) → ((k : ℕ) → at job k < 256) → (i n j : ℕ) → group job i ≡ got n j → Shortest job i n j
only_form job bytes i n j e = any_only job i bytes e

pub one_form : (n : ℕ) → n ≤ 65535 → OneForm n
one_form n h = record {
  bytes = form-bytes n h;
  accepted = λ before after. reads_form before n after h;
  no_other = λ before written after bytes e.
      let job = before ++ (written ++ after) in
      let a = only_form job bytes.each (length before) n (length before + length written) e in
      let z : length before + length written - length before ≡ length written = omega arith in
      rw (z, drop-append_seam before (written ++ after), take-append_seam written after) at a.written;
}
