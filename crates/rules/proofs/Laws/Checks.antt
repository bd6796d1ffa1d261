-- Checks in a row: what it says that none refuses, and when the checks of a window find what those of the whole find.
use Rattle.rules.proofs.Base.{ℕ, zero, suc, ◌-◌, ◌≤◌, ◌<◌, not-suc-le-zero, le_of_suc-le-suc, arith, ◌≡◌, refl, sym, ap, ◌∙◌, ◌≢◌, Bool, false, not}
use Rattle.rules.proofs.Base.{Option, none, some, List, [], ◌∷◌, ◌++◌, ltb, lit<, ltb-false, lt-ltb, le-ltb, ltb-true, eqb-true, not-false, length, get_or}
use Rattle.rules.proofs.Base.{Vehicle, Edit}
use Rattle.rules.specs.Inside.{InBounds, gear_fault}
use Rattle.rules.specs.Words.{◌and◌, first}
use Rattle.rules.specs.Refusals.{Fault, refuse_at, ◌orelse◌, when, trace_fault, room_fault, vehicle_fault, not_driven, Check, speed, step, ends, over-ng}
use Rattle.rules.specs.Refusals.{at_rest, over-rev, no-gear, check_number, checks, all_checks, bad, fault_of, seconds_fault, span_fault, work_fault, left}
use Rattle.rules.specs.Edit.{Screen, second, asked_fault, edit_fault}
use Rattle.rules.specs.Units.{bad_field, low, longest}
use Rattle.rules.proofs.Laws.Vehicle.{in_bounds, within_lo, within_hi}
use Rattle.rules.proofs.Laws.Words.{by_test, and_left, and_right, and-fails, or_left, or_right}
use Rattle.rules.proofs.Laws.Searches.{none_first, first_none, first_ext}

-- ---- a row of checks

-- where neither of two refuses
pub orelse_none : (a b : Option Fault) → a orelse b ≡ none → (a ≡ none) × (b ≡ none)
unfolding ◌orelse◌
orelse_none none b e = (refl, e)
orelse_none (some f) b e = let z : ◌≡◌ {A = ℕ} 0 1 = cc in absurd (omega arith)

pub none_orelse : (a b : Option Fault) → a ≡ none → a orelse b ≡ b
unfolding ◌orelse◌
none_orelse none b e = refl
none_orelse (some f) b e = let z : ◌≡◌ {A = ℕ} 0 1 = cc in absurd (omega arith)

pub refuse_none : (n : ℕ) (o : Option ℕ) → refuse_at n o ≡ none → o ≡ none
unfolding refuse_at
refuse_none n none e = refl
refuse_none n (some i) e = let z : ◌≡◌ {A = ℕ} 0 1 = cc in absurd (omega arith)

-- where a test does not refuse, it fails
pub when_none : (n : ℕ) (t : Bool) (i : ℕ) → refuse_at n (when t i) ≡ none → t ≡ false
unfolding when
when_none n t i e = by_test t (λ x. let y : when t i ≡ none = refuse_none n (when t i) e in let z : ◌≡◌ {A = Option ℕ} (some i) none = rw x at y in
    let w : ◌≡◌ {A = ℕ} 0 1 = cc in absurd (omega arith)) (λ x. x)

pub none_when : (n : ℕ) (t : Bool) (i : ℕ) → t ≡ false → refuse_at n (when t i) ≡ none
unfolding when refuse_at
none_when n t i e = rw e

pub orelse_nothing : (a : Option Fault) → a orelse none ≡ a
unfolding ◌orelse◌
orelse_nothing none = refl
orelse_nothing (some f) = refl

pub orelse_assoc : (a b c : Option Fault) → (a orelse b) orelse c ≡ a orelse (b orelse c)
unfolding ◌orelse◌
orelse_assoc none b c = refl
orelse_assoc (some f) b c = refl

-- where the trace and the rooms are not refused
pub trace_in : (vs : List ℕ) → trace_fault vs ≡ none → (1 ≤ length vs) × (length vs ≤ longest)
unfolding trace_fault
trace_in vs e = let t = not-false _ (when_none 1 _ 0 e) in (within_lo 1 longest (length vs) t, within_hi 1 longest (length vs) t)

pub rooms_in : (vs hs old : List ℕ) → room_fault vs hs old ≡ none → (length hs ≡ length vs) × (length old ≡ length vs)
unfolding room_fault
rooms_in vs hs old e = let t = not-false _ (when_none 2 _ 0 e) in (eqb-true _ _ (and_left _ _ t), eqb-true _ _ (and_right _ _ t))

-- where the vehicle is not refused, it is in bounds
pub vehicle_in : (car : Vehicle) → vehicle_fault car ≡ none → InBounds car
unfolding vehicle_fault
vehicle_in car e = in_bounds car (refuse_none 3 (bad_field car) e)

-- a hold that passes check 7 is a gear from the lowest to ng
pub driven : (car : Vehicle) (h : ℕ) → not_driven car h ≡ false → (h ≤ car.ng) × (h ≢ 0 → low car ≤ h)
unfolding not_driven
driven car h e = (
  ltb-false car.ng h (or_left _ _ e),
  λ n. ltb-false h (low car) (and-fails (ltb 0 h) _ (lt-ltb 0 h (omega arith)) (or_right _ _ e)),
)

-- ---- the row of checks of the working, and of an edit, taken apart

pub record Accepted (car : Vehicle) (vs hs old : List ℕ) : Type 0 where
  pub trace : trace_fault vs ≡ none
  pub room : room_fault vs hs old ≡ none
  pub vehicle : vehicle_fault car ≡ none
  pub span : span_fault car vs hs 0 (length vs) ≡ none

pub accepted : (car : Vehicle) (vs hs old : List ℕ) → work_fault car vs hs old ≡ none → Accepted car vs hs old
unfolding work_fault
accepted car vs hs old e =
    let a = orelse_none _ _ e in
    let b = orelse_none _ _ a.1 in
    let c = orelse_none _ _ b.1 in
    record { trace = a.0; room = b.0; vehicle = c.0; span = c.1 }

-- where the working accepted, an edit of a second of the trace is refused by its own checks alone
pub edit_is : (car : Vehicle) (e : Edit) (x : Screen) → Accepted car x.speeds x.holds x.card → second e < length x.speeds
    → edit_fault car e x ≡ asked_fault car e x.speeds x.holds
unfolding edit_fault
edit_is car e x A l =
    none_orelse _ _ A.trace ∙ none_orelse _ _ A.room ∙ none_orelse _ _ A.vehicle
    ∙ none_orelse _ _ (none_when 11 (not (ltb (second e) (length x.speeds))) (second e) (rw (lt-ltb (second e) (length x.speeds) l)))

-- the same record for an edit that is not refused, and its own checks
pub record Taken (car : Vehicle) (e : Edit) (x : Screen) : Type 0 where
  pub trace : trace_fault x.speeds ≡ none
  pub room : room_fault x.speeds x.holds x.card ≡ none
  pub vehicle : vehicle_fault car ≡ none
  pub in_trace : second e < length x.speeds
  pub own : asked_fault car e x.speeds x.holds ≡ none

pub taken : (car : Vehicle) (e : Edit) (x : Screen) → edit_fault car e x ≡ none → Taken car e x
unfolding edit_fault
taken car e x ok =
    let a = orelse_none _ _ ok in
    let b = orelse_none _ _ a.1 in
    let c = orelse_none _ _ b.1 in
    let d = orelse_none _ _ c.1 in
    record {
      trace = a.0;
      room = b.0;
      vehicle = c.0;
      in_trace = ltb-true (second e) (length x.speeds) (not-false _ (when_none 11 (not (ltb (second e) (length x.speeds))) (second e) d.0));
      own = d.1;
    }

-- refused or not
pub by_fault : {P : Type 0} (f : Option Fault) → (f ≡ none → P) → ((q : Fault) → f ≡ some q → P) → P
by_fault none x y = x refl
by_fault (some q) x y = y q refl

-- what is left by one answer
pub left_none : {A : Type 0} {f : Option Fault} (old new : A) → f ≡ none → left f old new ≡ new
unfolding left
left_none old new e = rw e

pub left_some : {A : Type 0} {f : Option Fault} {q : Fault} (old new : A) → f ≡ some q → left f old new ≡ old
unfolding left
left_some old new e = rw e

pub left_same : (f : Option Fault) (old : List ℕ) {a b : List ℕ} → (f ≡ none → a ≡ b) → left f old a ≡ left f old b
unfolding left
left_same none old e = e refl
left_same (some f) old e = refl

pub left_by : {A : Type 0} (P : A → Type 0) (f : Option Fault) (old new : A) → P old → (f ≡ none → P new) → P (left f old new)
unfolding left
left_by P none old new p q = q refl
left_by P (some f) old new p q = p

-- of a part of what is left
pub left-part : {A B : Type 0} (part : A → B) (f : Option Fault) (old new : A) → part (left f old new) ≡ left f (part old) (part new)
unfolding left
left-part part none old new = refl
left-part part (some f) old new = refl

-- ---- where a row of checks finds nothing, each passes at each second

module _ (fails : Check → ℕ → Bool) (lo hi : ℕ) where
  none_at : (cs : List Check) → fault_of fails lo hi cs ≡ none → (k : ℕ) → k < length cs → first (fails (get_or cs k speed)) lo (hi - lo) ≡ none
  unfolding fault_of
  none_at [] e k h = absurd (not-suc-le-zero h)
  none_at (c ∷ cs) e zero h = refuse_none _ _ (orelse_none _ _ e).0
  none_at (c ∷ cs) e (suc k) h = none_at cs (orelse_none _ _ e).1 k (le_of_suc-le-suc h)

  -- a check of a list whose checks found nothing passes
  pub listed : (cs : List Check) → fault_of fails lo hi cs ≡ none → (k : ℕ) → k < length cs → (i : ℕ) → lo ≤ i → i < hi → fails (get_or cs k speed) i ≡ false
  listed cs e k l i a b = none_first (fails (get_or cs k speed)) (hi - lo) lo (none_at cs e k l) i a (omega arith)

  pub all_pass : fault_of fails lo hi all_checks ≡ none → (c : Check) (i : ℕ) → lo ≤ i → i < hi → fails c i ≡ false
  unfolding all_checks checks
  all_pass e speed = listed all_checks e 0 (lit< tt)
  all_pass e step = listed all_checks e 1 (lit< tt)
  all_pass e ends = listed all_checks e 2 (lit< tt)
  all_pass e over-ng = listed all_checks e 3 (lit< tt)
  all_pass e at_rest = listed all_checks e 4 (lit< tt)
  all_pass e over-rev = listed all_checks e 5 (lit< tt)
  all_pass e no-gear = listed all_checks e 6 (lit< tt)

  -- where each passes, nothing is found
  pub pass_all : (cs : List Check) → ((c : Check) (i : ℕ) → lo ≤ i → i < hi → fails c i ≡ false) → fault_of fails lo hi cs ≡ none
  unfolding fault_of refuse_at ◌orelse◌
  pass_all [] h = refl
  pass_all (c ∷ cs) h = rw (first_none (fails c) (hi - lo) lo (λ i a b. h c i a (omega arith)), pass_all cs h)

module _ (car : Vehicle) (vs hs : List ℕ) (lo hi : ℕ) where
  pub passed : span_fault car vs hs lo hi ≡ none → (c : Check) (i : ℕ) → lo ≤ i → i < hi → bad c car vs hs lo i ≡ false
  unfolding span_fault
  passed e = all_pass (λ c. bad c car vs hs lo) lo hi e

  -- the step, of 4 to 9 alone
  pub step_passed : seconds_fault car vs hs lo hi ≡ none → (i : ℕ) → lo ≤ i → i < hi → bad step car vs hs lo i ≡ false
  unfolding seconds_fault checks
  step_passed e = listed (λ c. bad c car vs hs lo) lo hi checks e 1 (lit< tt)

-- the step into a span's first second is not checked
pub step_first : (car : Vehicle) (vs hs : List ℕ) (lo : ℕ) → bad step car vs hs lo lo ≡ false
unfolding bad ◌and◌
step_first car vs hs lo = rw (le-ltb lo lo (omega arith))

-- ---- two lists of checks, one after the other

pub fault-append : (fails : Check → ℕ → Bool) (lo hi : ℕ) (cs ds : List Check)
    → fault_of fails lo hi (cs ++ ds) ≡ fault_of fails lo hi cs orelse fault_of fails lo hi ds
unfolding fault_of ◌orelse◌
fault-append fails lo hi [] ds = refl
fault-append fails lo hi (c ∷ cs) ds =
    ap (λ (r : Option Fault). refuse_at (check_number c) (first (fails c) lo (hi - lo)) orelse r) (fault-append fails lo hi cs ds)
    ∙ sym (orelse_assoc (refuse_at (check_number c) (first (fails c) lo (hi - lo))) (fault_of fails lo hi cs) (fault_of fails lo hi ds))

-- 10, for want of a gear, comes after 4 to 9
pub gears_last : (car : Vehicle) (vs hs : List ℕ) (lo hi : ℕ) → span_fault car vs hs lo hi ≡ seconds_fault car vs hs lo hi orelse gear_fault car vs hs lo hi
unfolding span_fault seconds_fault all_checks gear_fault fault_of check_number
gears_last car vs hs lo hi =
    fault-append (λ c. bad c car vs hs lo) lo hi checks (no-gear ∷ [])
    ∙ ap (λ (r : Option Fault). fault_of (λ c. bad c car vs hs lo) lo hi checks orelse r)
    (orelse_nothing (refuse_at 10 (first (bad no-gear car vs hs lo) lo (hi - lo))))

-- ---- two rows of which each check says the same

pub fault_ext : (p q : Check → ℕ → Bool) (lo hi : ℕ) → ((c : Check) (i : ℕ) → lo ≤ i → i < hi → p c i ≡ q c i) → (cs : List Check)
    → fault_of p lo hi cs ≡ fault_of q lo hi cs
unfolding fault_of
fault_ext p q lo hi same [] = refl
fault_ext p q lo hi same (c ∷ cs) = rw (fault_ext p q lo hi same cs, first_ext (p c) (q c) (hi - lo) lo (λ i x y. same c i x (omega arith)))
