-- Bytes put one after another. The invariant says that the bytes that are left, put from here, make what was asked.
use Rattle.rules.proofs.Offered.{ℕ, suc, ◌+◌, ◌≤◌, ◌<◌, add-zero, arith, ◌≡◌, refl, sym, ap, ◌∙◌, List, [], ◌∷◌, ◌++◌, append-nil, length, set, length-append}
use Rattle.rules.proofs.Offered.{sets, length-sets}
use Rattle.reading.specs.Lent.{Put}

sets-append : (l : List ℕ) (i : ℕ) (a b : List ℕ) → sets l i (a ++ b) ≡ sets (sets l i a) (i + length a) b
sets-append l i [] b = rw add-zero
sets-append l i (x ∷ a) b = let e : i + suc (length a) ≡ suc i + length a = omega arith in rw e (sets-append (set l i x) (suc i) a b)

pub put_byte : (room : List ℕ) (i b : ℕ) → i < length room → Put (b ∷ []) room i (i + 1) (set room i b)
put_byte room i b h = record { after = omega arith; inside = omega arith; now_is = refl }

pub put_none : {room : List ℕ} {i : ℕ} → i ≤ length room → Put [] room i i room
put_none h = record { after = omega arith; inside = h; now_is = refl }

-- of all the bytes, which were to be put from `start` on, these are left, from here on
pub record LeftToPut (room₀ : List ℕ) (start : ℕ) (all room : List ℕ) (next : ℕ) (left : List ℕ) : Type 0 where
  pub long : length room ≡ length room₀
  pub fits : next + length left ≤ length room
  pub ends : next + length left ≡ start + length all
  pub rest : sets room next left ≡ sets room₀ start all

pub all_left : (room : List ℕ) (start : ℕ) (all : List ℕ) → start + length all ≤ length room → LeftToPut room start all room start all
all_left room start all h = record { long = refl; fits = h; ends = refl; rest = refl }

module _ {room₀ : List ℕ} {start : ℕ} {all room : List ℕ} {next : ℕ} where
  pub fewer_left : {piece left room' : List ℕ} {r : ℕ} → LeftToPut room₀ start all room next (piece ++ left) → Put piece room next r room'
      → LeftToPut room₀ start all room' r left
  fewer_left {piece} {left} {room'} {r} l p =
      let n : length (piece ++ left) ≡ length piece + length left = length-append piece left in
      let same : length room' ≡ length room = ap length p.now_is ∙ length-sets room next piece in
      record {
        long = same ∙ l.long;
        fits = omega (arith, l.fits, p.after);
        ends = omega (arith, l.ends, p.after);
        rest = rw (p.now_is, p.after, ← sets-append room next piece left) l.rest;
      }

  -- there is space for the next piece
  pub has_space : (piece left : List ℕ) → LeftToPut room₀ start all room next (piece ++ left) → next + length piece ≤ length room
  has_space piece left l = omega (arith, l.fits, length-append piece left)

  pub none_left : LeftToPut room₀ start all room next [] → Put all room₀ start next room
  none_left l = record { after = omega (arith, l.ends); inside = omega (arith, l.fits, l.long); now_is = l.rest }

  -- the bytes that are left may be said otherwise
  pub said_as : {left left' : List ℕ} → left ≡ left' → LeftToPut room₀ start all room next left → LeftToPut room₀ start all room next left'
  said_as e l = rw e at l

-- the last piece
pub last_left : {room₀ : List ℕ} {start : ℕ} {all room : List ℕ} {next : ℕ} {left room' : List ℕ} {r : ℕ} → LeftToPut room₀ start all room next left
    → Put left room next r room'
    → Put all room₀ start r room'
last_left {left} l p = none_left (fewer_left (said_as (sym (append-nil left)) l) p)

-- two pieces are one
pub put_both : {u v room room' room'' : List ℕ} {i j k : ℕ} → Put u room i j room' → Put v room' j k room'' → Put (u ++ v) room i k room''
put_both {u} {v} {room} {room'} {room''} {i} {j} {k} p q =
    let same : length room' ≡ length room = ap length p.now_is ∙ length-sets room i u in
    record {
      after = omega (arith, length-append u v, p.after, q.after);
      inside = omega (arith, q.inside);
      now_is = q.now_is ∙ rw (p.now_is, p.after) (sym (sets-append room i u v));
    }
