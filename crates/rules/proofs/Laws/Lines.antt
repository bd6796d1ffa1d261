-- Text: numbers in decimal, lines, and how long they are at most; and that the working looks at the lent card's length alone.
use Rattle.rules.proofs.Base.{ℕ, zero, suc, ◌+◌, ◌*◌, ◌/◌, ◌%◌, ◌≤◌, ◌<◌, arith, add-zero, ◌≡◌, sym, ap, ◌∙◌, List, [], ◌∷◌, ◌++◌, append-nil}
use Rattle.rules.proofs.Base.{append_assoc, length, length-append, leb, lt-ltb, le-ltb, Vehicle}
use Rattle.rules.specs.Words.{at}
use Rattle.rules.specs.Refusals.{room_fault, work_fault}
use Rattle.rules.specs.Text.{digits, decimal, pedal, line, lines}
use Rattle.rules.proofs.Laws.Words.{by_test, by_order}

-- ---- numbers in decimal

-- the last digit of a number of more than one, and those before it
digits_more : (k n : ℕ) → 10 ≤ n → digits (suc k) n ≡ digits k (n / 10) ++ ((48 + n % 10) ∷ [])
unfolding digits
digits_more k n h = rw (le-ltb _ _ h)

-- a number of one digit
digits-one : (k n : ℕ) → n < 10 → digits (suc k) n ≡ (48 + n) ∷ []
unfolding digits
digits-one k n h = let m : n % 10 ≡ n = omega arith in rw (lt-ltb _ _ h, m)

-- where there are digits enough, more change nothing
same_digits : (j k n : ℕ) → n < j → n < k → digits j n ≡ digits k n
same_digits zero k n h l = absurd (omega arith)
same_digits (suc j) zero n h l = absurd (omega arith)
same_digits (suc j) (suc k) n h l =
    by_order n 10
    (λ s. digits-one j n s ∙ sym (digits-one k n s))
    (λ s. rw (digits_more j n s, digits_more k n s, same_digits j k (n / 10) (omega arith) (omega arith)))

-- below 10 the text is one digit
pub decimal-one : (n : ℕ) → n < 10 → decimal n ≡ (48 + n) ∷ []
unfolding decimal
decimal-one n h = digits-one n n h

-- from 10 on it is the text of a tenth, and the last digit
pub decimal-more : (n : ℕ) → 10 ≤ n → decimal n ≡ decimal (n / 10) ++ ((48 + n % 10) ∷ [])
unfolding decimal
decimal-more n h = rw (digits_more n n h, same_digits n (suc (n / 10)) (n / 10) (omega arith) (omega arith))

-- ten to the power k
unfoldable pub tens : ℕ → ℕ
tens zero = 1
tens (suc k) = 10 * tens k

-- below ten to the power k the text has at most k digits
pub decimal_short : (k n : ℕ) → n < tens (suc k) → length (decimal n) ≤ suc k
unfolding tens
decimal_short zero n h = rw (decimal-one n (omega arith)) (omega arith)
decimal_short (suc k) n h =
    by_order n 10
    (λ s. rw (decimal-one n s) (omega arith))
    (λ s. rw (decimal-more n s, length-append) (omega (arith, decimal_short k (n / 10) (omega arith))))

-- ---- a line

-- the clutch has at most 6 bytes
pub pedal_short : (byte : ℕ) → length (pedal byte) ≤ 6
unfolding pedal
pedal_short byte = by_test (leb 16 byte) (λ t. rw t (omega arith)) (λ t. rw t (omega arith))

-- how long a line is
pub line-length : (i v byte : ℕ)
    → length (line i v byte)
    ≡ length (decimal i) + suc (length (decimal (v / 10)) + suc (length (decimal (v % 10)) + suc (length (decimal (byte % 16)) + length (pedal byte))))
unfolding line
line-length i v byte = simp length-append

-- a line of a second below 10,000 and of a speed of 16 bits has at most 20 bytes
pub line_short : (i v byte : ℕ) → i < 10000 → v < 65536 → length (line i v byte) ≤ 20
unfolding tens
line_short i v byte h k =
    omega (
      arith,
      line-length i v byte,
      decimal_short 3 i (omega arith),
      decimal_short 3 (v / 10) (omega arith),
      decimal_short 0 (v % 10) (omega arith),
      decimal_short 1 (byte % 16) (omega arith),
      pedal_short byte,
    )

-- ---- lines

-- one second more
pub lines_more : (vs bytes : List ℕ) (i k : ℕ) → lines vs bytes i (suc k) ≡ lines vs bytes i k ++ line (i + k) (at vs (i + k)) (at bytes (i + k))
unfolding lines
lines_more vs bytes i zero = rw (append-nil, add-zero)
lines_more vs bytes i (suc k) =
    let e : i + suc k ≡ suc i + k = omega arith in
    rw (e, append_assoc) (ap (λ (x : List ℕ). line i (at vs i) (at bytes i) ++ x) (lines_more vs bytes (suc i) k))

-- ---- the working looks at the lent card's length alone

-- two cards of one length are refused alike
pub room_alone : (car : Vehicle) (vs hs old new : List ℕ) → length old ≡ length new → work_fault car vs hs old ≡ work_fault car vs hs new
unfolding work_fault room_fault
room_alone car vs hs old new e = rw e
