-- Lent memory: bytes put into it. The card program prints and the writer writes with these words, so they stand below both.
use Rattle.std.specs.Prelude.{ℕ, ◌+◌, ◌≤◌, ◌≡◌, List, length}
use Rattle.std.proofs.lemmas.List.Edits.{sets}

-- bytes are put at a place: r is the place after them, and no other byte has changed
pub record Put (bytes room : List ℕ) (at r : ℕ) (room' : List ℕ) : Type 0 where
  pub after : r ≡ at + length bytes
  pub inside : r ≤ length room
  pub now_is : room' ≡ sets room at bytes
