-- How far a form reads: another law, which each way of putting forms together keeps; so a job's first bytes say all that is said of it.
use Rattle.rules.proofs.Base.{ℕ, zero, suc, ◌+◌, ◌*◌, ◌%◌, ◌≤◌, ◌<◌, suc-mul, mul-le-mul_right, arith, ◌≡◌, refl, sym, Bool, true, false, not, List}
use Rattle.rules.proofs.Base.{length, take, length-take-le, get_or-take, leb, ltb, eqb, lt-leb, ltb-true, eqb-false, not-true, ne_eqb}
use Rattle.rules.specs.Words.{◌and◌, within, at}
use Rattle.rules.specs.Refusals.{Fault}
use Rattle.rules.specs.Groups.{Read, got, refused, Reader, hand_on, demand, early, group_if, group}
use Rattle.rules.specs.Forms.{Form, value, known, only_if, checked, bounded, ◌then◌, seen, row_read, row, many, counted, to_the_end}
use Rattle.rules.proofs.Laws.Words.{if_ind, and_left, and_right}
use Rattle.rules.proofs.Laws.Vehicle.{within_hi}
use Rattle.rules.proofs.Laws.Forms.{says_now, Sound}

-- ---- how far a group goes

-- three bytes at most, and a value below 128 one
data Near (i : ℕ) : Read ℕ → Type 0 where
  near : {v j : ℕ} → j ≤ i + 3 → (v < 128 → j ≤ i + 1) → Near i (got v j)
  off : {f : Fault} → Near i (refused f)

-- a group goes so far
group_near : (job : List ℕ) (i : ℕ) → Near i (group job i)
unfolding group group_if early
group_near job i =
    if_ind (Near i) (leb (length job) i) (λ _. off) (λ _.
    if_ind (Near i) (ltb (at job i) 128) (λ _. near (omega arith) (λ _. omega arith)) (λ _.
    if_ind (Near i) (leb (length job) (i + 1)) (λ _. off) (λ _.
    if_ind (Near i) (ltb (at job (i + 1)) 128)
    (λ s. if_ind (Near i) (not (eqb (at job (i + 1)) 0))
    (λ t. near (omega arith) (λ small.
    let b : at job (i + 1) < 128 = ltb-true _ _ s in
    absurd (eqb-false (at job (i + 1)) 0 (not-true _ t) (omega arith))))
    (λ _. off))
    (λ _. if_ind (Near i) (leb (length job) (i + 2)) (λ _. off) (λ _.
    if_ind (Near i) (ltb (at job (i + 2)) 128 and not (eqb (at job (i + 2)) 0)
    and leb (at job i % 128 + 128 * (at job (i + 1) % 128) + 16384 * at job (i + 2)) 65535)
    (λ t. near (omega arith) (λ small. absurd (eqb-false (at job (i + 2)) 0 (not-true _ (and_right _ _ (and_left _ _ t))) (omega arith))))
    (λ _. off))))))

-- of a value below 128
near_small : {i v j : ℕ} → Near i (got v j) → v < 128 → j ≤ i + 1
near_small (near h s) = s

-- a group whose value is below 128 is one byte
group_small : (job : List ℕ) (i : ℕ) {v j : ℕ} → group job i ≡ got v j → v < 128 → j ≤ i + 1
group_small job i e = near_small (rw e at (group_near job i))

-- ---- two readings that say the same

-- the same value and the same place, which is k at most, or the same refusal
pub data Both {A : Type 0} (k : ℕ) : Read A → Read A → Type 0 where
  went : {a : A} {j : ℕ} → j ≤ k → Both k (got a j) (got a j)
  stop : {f : Fault} → Both k (refused f) (refused f)

-- readings that say the same are one
both_same : {A : Type 0} {k : ℕ} {x y : Read A} → Both k x y → x ≡ y
both_same (went h) = refl
both_same stop = refl

-- what follows two readings that say the same
pub then_both : {A B : Type 0} {k l : ℕ} {m m' : Read A} {f f' : A → Reader B} → Both k m m'
    → ((a : A) (j : ℕ) → m ≡ got a j → j ≤ k → Both l (f a j) (f' a j)) → Both l (hand_on m f) (hand_on m' f')
unfolding hand_on
then_both (went h) g = g _ _ refl h
then_both stop g = stop

-- a place that is k at most is also l at most
farther : {A : Type 0} {k l : ℕ} {x y : Read A} → k ≤ l → Both k x y → Both l x y
farther {A} {k} {l} h (went {a} {j} u) = let w : j ≤ l = omega arith in went w
farther h stop = stop

-- a demand says the same
demand-both : (t : Bool) (n s i : ℕ) {p : ℕ} → i ≤ p → Both p (demand t n s i) (demand t n s i)
unfolding demand
demand-both true n s i h = went h
demand-both false n s i h = stop

-- what is demanded in vain is refused alike
pub stop-both : {B : Type 0} {l : ℕ} (t t' : Bool) (n s i : ℕ) (f f' : Bool → Reader B) → t ≡ false → t' ≡ false
    → Both l (hand_on (demand t n s i) f) (hand_on (demand t' n s i) f')
unfolding demand hand_on
stop-both t t' n s i f f' e e' = rw (e, e') stop

-- a value that passes a test ends at k at most
let_through : {A : Type 0} (t : Bool) (n s j k : ℕ) (a : A) → (t ≡ true → j ≤ k)
    → Both k (hand_on (demand t n s j) (λ _. got a)) (hand_on (demand t n s j) (λ _. got a))
unfolding hand_on demand
let_through true n s j k a h = went (h refl)
let_through false n s j k a h = stop

-- a group that begins at p at most ends at p + 3 at most
near_both : {i p : ℕ} {x : Read ℕ} → i ≤ p → Near i x → Both (p + 3) x x
near_both {i} {p} h (near {v} {j} l s) = let w : j ≤ p + 3 = omega arith in went w
near_both h off = stop

-- ---- the law

-- two jobs with the same n bytes first
pub record Alike (n : ℕ) (job cut : List ℕ) : Type 0 where
  pub long : n ≤ length job
  pub long_too : n ≤ length cut
  pub same : (i : ℕ) → i < n → at cut i ≡ at job i

-- n bytes at most are read, and three more at most looked at
pub record Reach {A : Type 0} (part : Form A) (n : ℕ) : Type 0 where
  pub reach : {top : ℕ} {job cut : List ℕ} → Alike top job cut → {i p : ℕ} → i ≤ p → p + n + 3 ≤ top → Both (p + n) (part.read job i) (part.read cut i)

-- a group within the bytes that are the same
group_same : {top : ℕ} {job cut : List ℕ} → Alike top job cut → (i : ℕ) → i + 3 ≤ top → group job i ≡ group cut i
unfolding group group_if
group_same {top} {job} {cut} alike i h =
    let l = alike.long in
    let m = alike.long_too in
    rw (
      lt-leb (length job) i (omega arith),
      lt-leb (length job) (i + 1) (omega arith),
      lt-leb (length job) (i + 2) (omega arith),
      lt-leb (length cut) i (omega arith),
      lt-leb (length cut) (i + 1) (omega arith),
      lt-leb (length cut) (i + 2) (omega arith),
      alike.same i (omega arith),
      alike.same (i + 1) (omega arith),
      alike.same (i + 2) (omega arith),
    )

-- the same, and where it ends
pub group-both : {top : ℕ} {job cut : List ℕ} → Alike top job cut → {i p : ℕ} → i ≤ p → p + 3 ≤ top → Both (p + 3) (group job i) (group cut i)
group-both {job} alike {i} h room = rw (← group_same alike i (omega arith)) (near_both h (group_near job i))

-- ---- each form keeps it

pub value_reach : Reach value 3
unfolding value
value_reach = record { reach = λ alike h room. group-both alike h (omega arith) }

-- a value whose test holds below 128 only is one byte
pub small_reach : (test : ℕ → Bool) (refusal : ℕ) (spot : ℕ → ℕ) → ((v : ℕ) → test v ≡ true → v < 128) → Reach (checked value test refusal spot) 1
unfolding checked value hand_on
small_reach test refusal spot small = record {
  reach = λ {job} alike {i} {p} h room.
      rw (← group_same alike i (omega arith))
      (then_both (near_both h (group_near job i)) (λ v j e l.
      let_through (test v) refusal (spot i) j (p + 1) v (λ t. omega (arith, group_small job i e (small v t)))));
}

module _ {A : Type 0} where
  pub less : {part : Form A} {n m : ℕ} → n ≤ m → Reach part n → Reach part m
  less h r = record { reach = λ alike {i} {p} l room. farther (omega arith) (r.reach alike l (omega arith)) }

  known_reach : (a : A) → Reach (known a) 0
  unfolding known
  known_reach a = record { reach = λ alike {i} {p} h room. let w : i ≤ p + 0 = omega arith in went w }

  pub only_if_reach : (t : Bool) (a : A) {part : Form A} {n : ℕ} → Reach part n → Reach (only_if t a part) n
  unfolding only_if
  only_if_reach true a r = r
  only_if_reach false a r = less (omega arith) (known_reach a)

  pub checked_reach : {part : Form A} {n : ℕ} → Reach part n → (test : A → Bool) (refusal : ℕ) (spot : ℕ → ℕ) → Reach (checked part test refusal spot) n
  unfolding checked hand_on
  checked_reach r test refusal spot = record {
    reach = λ alike {i} h room.
        then_both (r.reach alike h room) (λ a j e l.
        then_both (demand-both (test a) refusal (spot i) j l) (λ _ k _ m. went m));
  }

  module _ {B : Type 0} where
    pub then_reach : {part : Form A} {next : A → Form B} {n k : ℕ} → Sound part → Reach part n → ((a : A) → part.Takes a → Reach (next a) k)
        → Reach (part then next) (n + k)
    unfolding ◌then◌
    then_reach f r g = record {
      reach = λ {job} alike {i} {p} h room.
          then_both (r.reach alike h (omega arith)) (λ a j e l.
          let w = says_now e (f.one_form job i) in
          then_both ((g a w.taken).reach alike l (omega arith)) (λ b k e m. let x = m in went (omega arith)));
    }

    pub seen_reach : (to : A → B) (from : B → A) {part : Form A} {n : ℕ} → Reach part n → Reach (seen to from part) n
    unfolding seen
    seen_reach to from r = record { reach = λ alike h room. then_both (r.reach alike h room) (λ a j e l. went l) }

module _ {A S : Type 0} {part : S → Form A} (move : S → A → S) {n : ℕ} (r : (s : S) → Reach (part s) n) where
  row_reach : (k : ℕ) (s : S) → Reach (row part move s k) (k * n)
  unfolding row row_read
  row_reach zero s = record { reach = λ alike {i} {p} h room. let w : i ≤ p + 0 * n = omega arith in went w }
  row_reach (suc k) s = record {
    reach = λ alike {i} {p} h room.
        let e : suc k * n ≡ k * n + n = suc-mul k n in
        then_both ((r s).reach alike h (omega arith)) (λ a j _ l.
        then_both ((row_reach k (move s a)).reach alike l (omega arith)) (λ b k _ m. went (omega arith)));
  }

pub many_reach : {A : Type 0} {part : Form A} {n : ℕ} → Reach part n → (k : ℕ) → Reach (many part k) (k * n)
unfolding many
many_reach r k = row_reach _ (λ s. r) k _

pub counted_reach : {A : Type 0} {count : Form ℕ} {parts : ℕ → Form (List A)} {n m : ℕ} → Sound count → Reach count n
    → ((k : ℕ) → count.Takes k → Reach (parts k) m) → Reach (counted count parts) (n + m)
unfolding counted
counted_reach c r f = seen_reach _ _ (then_reach c r f)

-- a count that is hi at most, and so many parts
pub counted-many_reach : {A : Type 0} {count : Form ℕ} {part : Form A} {c n : ℕ} (hi : ℕ) → Sound count → Reach count c → ((k : ℕ) → count.Takes k → k ≤ hi)
    → Reach part n
    → Reach (counted count (many part)) (c + hi * n)
counted-many_reach {n} hi s c few r = counted_reach s c (λ k t. less (mul-le-mul_right n (few k t)) (many_reach r k))

-- a bounded value below 128 is one byte
pub bounded_reach : (lo hi refusal spot : ℕ) → hi < 128 → Reach (bounded lo hi refusal spot) 1
unfolding bounded
bounded_reach lo hi refusal spot h = small_reach (within lo hi) refusal (λ i. spot) (λ v t. omega (arith, within_hi lo hi v t))

-- of a job of so many bytes and three more, those say all
pub long_whole : {A : Type 0} {part : Form A} {n : ℕ} → Reach part n → (top : ℕ) → n + 3 ≤ top → (job : List ℕ) → top ≤ length job
    → to_the_end part (take top job) ≡ to_the_end part job
unfolding to_the_end hand_on
long_whole {A} {part} {n} r top far job h =
    let l : length (take top job) ≡ top = length-take-le top job h in
    let alike : Alike top job (take top job) = record { long = h; long_too = omega arith; same = λ i k. get_or-take top job i 0 k } in
    sym (both_same (then_both (r.reach alike {i = 0} {p = 0} (omega arith) (omega arith)) (λ a j e k.
    stop-both {l = 0} _ _ 16 j j _ _ (ne_eqb j (length job) (λ z. omega arith)) (ne_eqb j (length (take top job)) (λ z. omega arith)))))
