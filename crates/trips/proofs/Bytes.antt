-- A trip's bytes, worked from its parts, are those of the card.
use Rattle.rules.proofs.Offered.{ℕ, suc, ◌+◌, ◌-◌, ◌<◌, zero-add, arith, ◌≡◌, sym, ap, ◌∙◌, List, length, ext_get_or, lt-ltb, at, part, table, rise, gears}
use Rattle.rules.proofs.Offered.{trip_speeds, trip_holds, gear_at, clutch, byte, card_at, IsTrip, at_part, length_part, at_table, length-table, trip_start}
use Rattle.rules.proofs.Offered.{trip_stop}
use Rattle.rules.specs.declared.Vehicle.{Vehicle}
use Rattle.trips.specs.Trip.{trip_bytes}

module _ (car : Vehicle) (vs hs : List ℕ) {a b : ℕ} (T : IsTrip vs a b) (n : length hs ≡ length vs) (l : b < length vs) where
  -- D and the clutch of a second are the same seen from its trip
  byte-part : (j g : ℕ) → a + j < b → byte car (part vs a (suc b)) j g ≡ byte car vs (a + j) g
  unfolding byte clutch rise
  byte-part j g h =
      let x = T.some_second in
      let e : a + suc j ≡ suc (a + j) = omega arith in
      let k : length (part vs a (suc b)) ≡ suc b - a = length_part vs a (suc b) l in
      rw (
        at_part vs a (suc b) j (omega arith),
        at_part vs a (suc b) (suc j) (omega arith),
        k,
        lt-ltb (suc j) (suc b - a) (omega arith),
        lt-ltb (suc (a + j)) (length vs) (omega arith),
        e,
      )

  -- so is its gear
  pub gear_part : (j : ℕ) → a + j < b → at (gears car (part vs a (suc b)) (part hs a b)) j ≡ gear_at car vs hs (a + j)
  unfolding gear_at trip_speeds trip_holds
  gear_part j h =
      let z : a + j - a ≡ j = omega arith in
      sym (rw (trip_start vs T (a + j) (omega arith) (omega arith), trip_stop vs T (a + j) (omega arith) (omega arith), z))

  -- the bytes of a trip, worked from its parts, are those of the card
  pub trip_is : trip_bytes car (part vs a (suc b)) (part hs a b) ≡ table (card_at car vs hs) a (b - a)
  unfolding trip_bytes card_at gear_at trip_speeds trip_holds
  trip_is =
      let x = T.some_second in
      let k : length (part hs a b) ≡ b - a = length_part hs a b (omega arith) in
      let F : ℕ → ℕ = λ j. byte car (part vs a (suc b)) j (at (gears car (part vs a (suc b)) (part hs a b)) j) in
      ext_get_or 0 (table F 0 (length (part hs a b))) (table (card_at car vs hs) a (b - a))
      (length-table F 0 (length (part hs a b)) ∙ k ∙ sym (length-table (card_at car vs hs) a (b - a)))
      (λ j h.
      let i : j < b - a = omega (arith, length-table F 0 (length (part hs a b)), k) in
      let z : a + j - a ≡ j = omega arith in
      at_table F 0 (length (part hs a b)) j (omega (arith, k)) ∙ ap F (zero-add j)
      ∙ byte-part j (at (gears car (part vs a (suc b)) (part hs a b)) j) (omega arith)
      ∙ sym (at_table (card_at car vs hs) a (b - a) j i
      ∙ rw (
        T.inside (a + j) (omega arith) (omega arith),
        trip_start vs T (a + j) (omega arith) (omega arith),
        trip_stop vs T (a + j) (omega arith)
            (omega arith),
        z,
      )))
