-- The checks in a row, and the opening, 1 to 3: each way out of them.
use Rattle.rules.proofs.Offered.{ℕ, ◌≤◌, ◌<◌, arith, ◌≡◌, refl, sym, ap, ◌∙◌, Option, none, List, length, le-leb, lt-leb, eq-eqb, ne_eqb, ◌and◌, within}
use Rattle.rules.proofs.Offered.{longest, Fault, said, refuse_at, ◌orelse◌, when, trace_fault, room_fault, vehicle_fault, left, InBounds, orelse_none}
use Rattle.rules.proofs.Offered.{none_orelse, orelse_assoc, rooms_in, vehicle_in}
use Rattle.std.specs.Prelude.{Result, Ok, Err}
use Rattle.rules.specs.Refusals.{Answer}
use Rattle.rules.specs.declared.Vehicle.{Vehicle}
use Rattle.rules.specs.declared.Refusal.{Refusal}
use Rattle.rules.specs.declared.Refusal.TheVariants.{TraceLength, RoomLength}
use Rattle.checks.specs.Checks.{Spanned}

-- ---- a result and a row of checks

-- a refusal that was said ends the row, whatever the value that it stands for
pub said-first : {A B : Type 0} {x : Result A Refusal} {y : Result B Refusal} {r : Refusal} {a : Option Fault} (b : Option Fault) → said x ≡ a → x ≡ Err r
    → y ≡ Err r → said y ≡ (a orelse b)
unfolding said ◌orelse◌
said-first b e h g = rw (← e, h, g)

-- nothing was said
pub said_none : {A : Type 0} {x : Result A Refusal} {v : A} {a : Option Fault} → said x ≡ a → x ≡ Ok v → a ≡ none
unfolding said
said_none e h = sym e ∙ ap said h

-- a refusal leaves what was there
pub left_old : {A B : Type 0} {x : Result B Refusal} {r : Refusal} {f : Option Fault} (old new : A) → said x ≡ f → x ≡ Err r → old ≡ left f old new
unfolding said left
left_old old new e h = rw (← e, h)

pub left_new : {A : Type 0} {f : Option Fault} (old new : A) → f ≡ none → new ≡ left f old new
unfolding left
left_new old new e = rw e

-- the longest trace, as the code has it
pub longest_is : longest ≡ 16384
unfolding longest
longest_is = refl

-- ---- 1, 2 and 3

-- the first three checks
abbrev pub opening : Vehicle → List ℕ → List ℕ → List ℕ → Option Fault
opening car vs hs old = trace_fault vs orelse room_fault vs hs old orelse vehicle_fault car

-- the first two
abbrev lengths : List ℕ → List ℕ → List ℕ → Option Fault
lengths vs hs old = trace_fault vs orelse room_fault vs hs old

module _ (vs hs old : List ℕ) where
  pub no_seconds : length vs ≡ 0 → said {A = Unit {0}} (Err TraceLength) ≡ lengths vs hs old
  unfolding said trace_fault within when refuse_at ◌orelse◌ ◌and◌
  no_seconds e = rw e

  pub too_long : longest < length vs → said {A = Unit {0}} (Err TraceLength) ≡ lengths vs hs old
  unfolding said trace_fault within when refuse_at ◌orelse◌ ◌and◌
  too_long h = rw (le-leb 1 (length vs) (omega arith), lt-leb (length vs) longest h)

  module _ (a : 1 ≤ length vs) (b : length vs ≤ longest) where
    no_trace_fault : trace_fault vs ≡ none
    unfolding trace_fault within when refuse_at ◌and◌
    no_trace_fault = rw (le-leb 1 (length vs) a, le-leb (length vs) longest b)

    pub holds_short : (length hs ≡ length vs → ⊥) → said {A = Unit {0}} (Err RoomLength) ≡ lengths vs hs old
    unfolding said room_fault when refuse_at ◌and◌
    holds_short n = sym (none_orelse _ _ no_trace_fault ∙ rw (ne_eqb (length hs) (length vs) n))

    pub card_short : length hs ≡ length vs → (length old ≡ length vs → ⊥) → said {A = Unit {0}} (Err RoomLength) ≡ lengths vs hs old
    unfolding said room_fault when refuse_at ◌and◌
    card_short e n = sym (none_orelse _ _ no_trace_fault ∙ rw (eq-eqb (length hs) (length vs) e, ne_eqb (length old) (length vs) n))

    pub lengths_good : length hs ≡ length vs → length old ≡ length vs → said {A = Unit {0}} (Ok (tt {0})) ≡ lengths vs hs old
    unfolding said room_fault when refuse_at ◌and◌
    lengths_good e f = sym (none_orelse _ _ no_trace_fault ∙ rw (eq-eqb (length hs) (length vs) e, eq-eqb (length old) (length vs) f))

  pub opening_lengths : (car : Vehicle) {x y : Answer} {r : Refusal} → said x ≡ lengths vs hs old → x ≡ Err r → y ≡ Err r → said y ≡ opening car vs hs old
  opening_lengths car e h g = said-first (vehicle_fault car) e h g ∙ orelse_assoc _ _ _

  pub opening_vehicle : (car : Vehicle) {x : Answer} {v : Unit {0}} (y : Answer) → said x ≡ lengths vs hs old → x ≡ Ok v → said y ≡ vehicle_fault car
      → said y ≡ opening car vs hs old
  opening_vehicle car y e h f = f ∙ sym (sym (orelse_assoc _ _ _) ∙ none_orelse _ _ (said_none e h))

-- what the opening leaves
pub record Opened (car : Vehicle) (vs hs old : List ℕ) : Type 0 where
  pub trace : trace_fault vs ≡ none
  pub room : room_fault vs hs old ≡ none
  pub vehicle : vehicle_fault car ≡ none
  pub holds_long : length hs ≡ length vs
  pub card_long : length old ≡ length vs
  pub bounds : InBounds car

pub opened : {car : Vehicle} {vs hs old : List ℕ} {A : Type 0} {x : Result A Refusal} {v : A} → said x ≡ opening car vs hs old → x ≡ Ok v → Opened car vs hs old
opened {car} {vs} {hs} {old} e h =
    let n = said_none e h in
    let a = orelse_none (trace_fault vs) (room_fault vs hs old orelse vehicle_fault car) n in
    let b = orelse_none (room_fault vs hs old) (vehicle_fault car) a.1 in
    let l = rooms_in vs hs old b.0 in
    record { trace = a.0; room = b.0; vehicle = b.1; holds_long = l.0; card_long = l.1; bounds = vehicle_in car b.1 }

-- what the checks of a span ask of the vehicle
pub spanned : {car : Vehicle} {vs hs old : List ℕ} {lo hi : ℕ} → Opened car vs hs old → lo ≤ hi → hi ≤ length vs → Spanned car vs lo hi
spanned O a b = record { ng_to = O.bounds.ng_to; rated_from = omega (arith, O.bounds.rated_from); order = a; inside = b }

-- a row that begins with the opening
pub after_opening : {car : Vehicle} {vs hs old : List ℕ} (r : Option Fault) → Opened car vs hs old
    → (trace_fault vs orelse room_fault vs hs old orelse vehicle_fault car orelse r) ≡ r
after_opening r O = none_orelse _ _ O.trace ∙ none_orelse _ _ O.room ∙ none_orelse _ _ O.vehicle

module _ (car : Vehicle) (vs hs old : List ℕ) where
  pub opening_first : {A B : Type 0} {x : Result A Refusal} {y : Result B Refusal} {q : Refusal} (r : Option Fault) → said x ≡ opening car vs hs old
      → x ≡ Err q → y ≡ Err q → said y ≡ (trace_fault vs orelse room_fault vs hs old orelse vehicle_fault car orelse r)
  opening_first r e h g = said-first r e h g ∙ orelse_assoc _ _ _ ∙ ap (λ (o : Option Fault). trace_fault vs orelse o) (orelse_assoc _ _ _)
