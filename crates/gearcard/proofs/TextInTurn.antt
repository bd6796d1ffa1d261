-- Text put piece by piece: the digits of a number, the pieces of a line, line after line, and what begins the memory is seen there.
use Rattle.rules.proofs.Offered.{ℕ, zero, suc, ◌+◌, ◌-◌, ◌*◌, ◌%◌, ◌/◌, ◌≤◌, ◌<◌, arith, add-zero, zero-add, add-one, ◌≡◌, refl, ◌∙◌, List, [], ◌∷◌, ◌++◌}
use Rattle.rules.proofs.Offered.{append-nil, append_assoc, length, drop, set, get_or, length-append, length-drop, length-set, drop_of_length-le, take_all}
use Rattle.rules.proofs.Offered.{sets-eq, length-sets, drop-cons, get_or-set_same, drop-set-lt, take-append_seam, drop-append_seam, le-leb, lt-leb}
use Rattle.rules.proofs.Offered.{part, decimal}
use Rattle.rules.proofs.Offered.{pedal, line, lines, tens, decimal-one, decimal-more, line_short, lines_more}
use Rattle.reading.specs.Lent.{Put}
use Rattle.reading.proofs.PutInTurn.{put_both}
use Rattle.gearcard.specs.Printing.{Begins, speed_text, gear_text}

-- ---- digit before digit

-- from a place that was set on, the list begins with what was set
drop-set : (l : List ℕ) (i x : ℕ) → i < length l → drop i (set l i x) ≡ x ∷ drop (suc i) l
drop-set l i x h =
    let k : i < length (set l i x) = rw length-set h in
    rw (drop-cons (set l i x) i 0 k, get_or-set_same l i x 0 h, drop-set-lt (suc i) l i x (omega arith))

-- the digits of the rest, and those that stand behind place i, make the number; there is room for the digits of the rest
pub record Spelt (n : ℕ) (digits : List ℕ) (i rest : ℕ) : Type 0 where
  pub place : i < 20
  pub size : length digits ≡ 20
  pub small : rest < tens (suc i)
  pub made : decimal rest ++ drop (suc i) digits ≡ decimal n

-- at first no digit stands, and 20 places are enough for 64 bits
pub spell_begins : (n : ℕ) (digits : List ℕ) → length digits ≡ 20 → n < 18446744073709551616 → Spelt n digits 19 n
unfolding tens
spell_begins n digits s h = record {
  place = omega arith;
  size = s;
  small = omega arith;
  made = let e : drop 20 digits ≡ [] = drop_of_length-le digits {i = 20} (omega arith) in rw e (append-nil (decimal n));
}

-- what has two digits has a place before this one
two_places : (i rest : ℕ) → rest < tens (suc i) → 10 ≤ rest → 0 < i
unfolding tens
two_places zero rest s h = absurd (omega arith)
two_places (suc i) rest s h = omega arith

-- without its last digit a number needs a place less
tenth : (i rest : ℕ) → rest < tens (suc i) → rest / 10 < tens i
unfolding tens
tenth i rest s = omega arith

module _ {n : ℕ} {digits : List ℕ} {i rest : ℕ} (s : Spelt n digits i rest) where
  -- there is a place for the digit before
  pub spell-place : 10 ≤ rest → 0 < i
  spell-place h = two_places i rest s.small h

  -- a digit is spelt, more are left
  pub spell-more : {x : ℕ} → x ≡ 48 + rest % 10 → 10 ≤ rest → Spelt n (set digits i x) (i - 1) (rest / 10)
  spell-more {x} d h =
      let z : 0 < i = spell-place h in
      let e : suc (i - 1) ≡ i = omega arith in
      let k : i < length digits = omega arith in
      record {
        place = omega arith;
        size = simp length-set s.size;
        small = rw e (tenth i rest s.small);
        made = rw (e, drop-set digits i x k, d) (rw (decimal-more rest h, append_assoc) at s.made);
      }

  -- the first digit is spelt
  pub spell_last : {x : ℕ} → x ≡ 48 + rest % 10 → rest < 10 → (i < 20) × (part (set digits i x) i 20 ≡ decimal n)
  spell_last {x} d h =
      let e : rest % 10 ≡ rest = omega arith in
      let k : i < length digits = omega arith in
      let m : length (drop i (set digits i x)) ≤ 20 - i = rw (length-drop, length-set) (omega arith) in
      (s.place, take_all (20 - i) (drop i (set digits i x)) m ∙ rw (drop-set digits i x k, d, e) (rw (decimal-one rest h) at s.made))

-- ---- a line

-- pedal pressed
pub pedal_down : (byte : ℕ) → 16 ≤ byte → pedal byte ≡ 32 ∷ 100 ∷ 111 ∷ 119 ∷ 110 ∷ 10 ∷ []
unfolding pedal
pedal_down byte h = rw (le-leb _ _ h)

-- pedal not pressed
pub pedal-up : (byte : ℕ) → byte < 16 → pedal byte ≡ 32 ∷ 117 ∷ 112 ∷ 10 ∷ []
unfolding pedal
pedal-up byte h = rw (lt-leb _ _ h)

-- how long the gear and the clutch are
pub gear_length : (byte : ℕ) → length (gear_text byte) ≡ suc (length (decimal (byte % 16)) + length (pedal byte))
gear_length byte = simp length-append

-- how long the speed is
pub speed_length : (v : ℕ) → length (speed_text v) ≡ length (decimal (v / 10)) + suc (length (decimal (v % 10)))
speed_length v = simp length-append

-- a line is its second, speed and gear
pub line_is : (i v byte : ℕ) → line i v byte ≡ decimal i ++ ((32 ∷ []) ++ (speed_text v ++ gear_text byte))
unfolding line
line_is i v byte = simp append_assoc

-- how long a line is
pub line_lengths : (i v byte : ℕ) → length (line i v byte) ≡ length (decimal i) + suc (length (speed_text v) + length (gear_text byte))
line_lengths i v byte = rw (line_is i v byte) (simp length-append)

-- ---- lines

-- i lines are put
pub record Lined (vs bytes out₀ : List ℕ) (at : ℕ) (out : List ℕ) (next i : ℕ) : Type 0 where
  pub within : i ≤ length vs
  pub put : Put (lines vs bytes 0 i) out₀ at next out
  pub room : next ≤ at + 20 * i
  pub same : length out ≡ length out₀

module _ (vs bytes out₀ : List ℕ) (at : ℕ) where
  -- at first no line is put
  pub lines_begin : at ≤ length out₀ → Lined vs bytes out₀ at out₀ at 0
  unfolding lines
  lines_begin h = record { within = omega arith; put = record { after = rw add-zero; inside = h; now_is = refl }; room = omega arith; same = refl }

  -- a line is put
  pub lines_again : {out out' : List ℕ} {next next' i : ℕ} → Lined vs bytes out₀ at out next i → i < length vs → i < 10000 → get_or vs i 0 < 65536
      → Put (line i (get_or vs i 0) (get_or bytes i 0)) out next next' out' → Lined vs bytes out₀ at out' next' (i + 1)
  lines_again {out} {out'} {next} {next'} {i} l h k v p = record {
    within = omega arith;
    put = rw (add-one, lines_more vs bytes 0 i, zero-add) (put_both l.put p);
    room = omega (arith, line_short i (get_or vs i 0) (get_or bytes i 0) k v, p.after, l.room);
    same = rw (p.now_is, length-sets) l.same;
  }

  -- all lines are put
  pub lines_end : {out : List ℕ} {next i : ℕ} → Lined vs bytes out₀ at out next i → length vs ≤ i → Put (lines vs bytes 0 (length vs)) out₀ at next out
  lines_end {out} {next} {i} l h = let e : i ≡ length vs = omega (arith, l.within) in rw e at l.put

-- ---- the whole

-- what is put at place 0 begins the memory
pub begins : {text out out' : List ℕ} {r : ℕ} → Put text out 0 r out' → Begins text out r out'
begins {text} {out} {out'} {r} p =
    let n : r ≡ length text = omega (arith, p.after) in
    let w : out' ≡ text ++ drop (length text) out = p.now_is ∙ rw zero-add at (sets-eq text out 0 (omega (arith, p.inside))) in
    record {
      count = rw n;
      inside = rw (p.now_is, length-sets) p.inside;
      shown = rw (w, n) (take-append_seam text _);
      beyond = rw (w, n) (drop-append_seam text _);
    }
