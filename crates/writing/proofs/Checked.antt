-- 14, and checks 1 to 9 of a job that is to be written: each way out of them, and what they leave. There is no card, and the holds stand for one.
use Rattle.std.specs.Prelude.{Ok, Err}
use Rattle.rules.proofs.Offered.{ℕ, arith, ◌≡◌, refl, sym, ◌∙◌, true, false, not, none, Option, List, length, longest, within, newest}
use Rattle.rules.proofs.Offered.{bounds, first_failed, bad_field, Fault, said, refuse_at, ◌orelse◌, when, trace_fault, room_fault, vehicle_fault}
use Rattle.rules.proofs.Offered.{seconds_fault, checks_fault, orelse_none, none_orelse, orelse_assoc, refuse_none, none_when, no_profile, no_margins}
use Rattle.rules.proofs.Offered.{same_bounds, writable}
use Rattle.rules.specs.declared.Vehicle.{Vehicle}
use Rattle.rules.specs.declared.Refusal.{Refusal}
use Rattle.rules.specs.declared.Refusal.TheVariants.{BadVersion}
use Rattle.checks.proofs.Rows.{Opened, opened, said-first}
use Rattle.writing.specs.Writing.{Light, Short, told_fault}

-- ---- 14, and 1 to 3

-- what is in bounds in a version is in bounds
vehicle_passes : (v : ℕ) (car : Vehicle) → first_failed 1 (bounds v car) ≡ none → vehicle_fault car ≡ none
unfolding vehicle_fault bad_field refuse_at
vehicle_passes v car e = rw (← same_bounds v car (no_profile v car e) (no_margins v car e), e)

module _ (v : ℕ) (car : Vehicle) (vs hs : List ℕ) where
  pub told-version : within 1 newest v ≡ false → said {A = Unit {0}} (Err BadVersion) ≡ told_fault v car vs hs
  unfolding told_fault said refuse_at when ◌orelse◌
  told-version e = rw e

  module _ (known : within 1 newest v ≡ true) where
    after-version : (r : Option Fault) → (refuse_at 14 (when (not (within 1 newest v)) 0) orelse r) ≡ r
    after-version r = none_orelse _ _ (none_when 14 _ 0 (rw known))

    pub told_lengths : (q : Refusal) → said {A = Unit {0}} (Err q) ≡ (trace_fault vs orelse room_fault vs hs hs)
        → said {A = Unit {0}} (Err q) ≡ told_fault v car vs hs
    unfolding told_fault
    told_lengths q e = said-first _ e refl refl ∙ orelse_assoc _ _ _ ∙ sym (after-version _)

    pub told-vehicle : {f : Option Fault} → (trace_fault vs orelse room_fault vs hs hs) ≡ none → f ≡ refuse_at 3 (first_failed 1 (bounds v car))
        → f ≡ told_fault v car vs hs
    unfolding told_fault
    told-vehicle e g = g ∙ sym (after-version _ ∙ sym (orelse_assoc _ _ _) ∙ none_orelse _ _ e)

  -- ---- and then 4 to 9

  row : checks_fault v car vs hs ≡ (told_fault v car vs hs orelse seconds_fault car vs hs 0 (length vs))
  unfolding checks_fault told_fault
  row = sym (orelse_assoc _ _ _ ∙ rw (orelse_assoc, orelse_assoc))

  -- 14, 1, 2 or 3 refuses
  pub job-told : (q : Refusal) → said {A = Unit {0}} (Err q) ≡ told_fault v car vs hs → said {A = Unit {0}} (Err q) ≡ checks_fault v car vs hs
  job-told q e = said-first (seconds_fault car vs hs 0 (length vs)) e refl refl ∙ sym row

  module _ (e : told_fault v car vs hs ≡ none) where
    -- they pass, so the vehicle's opening has
    pub told_opened : Opened car vs hs hs
    unfolding told_fault said
    told_opened =
        let a = orelse_none _ _ e in
        let b = orelse_none _ _ a.1 in
        let c = orelse_none _ _ b.1 in
        let f = vehicle_passes v car (refuse_none 3 _ c.1) in
        opened {x = Ok (tt {0})} (sym (none_orelse _ _ b.0 ∙ none_orelse _ _ c.0 ∙ f)) refl

    -- then 4 to 9 decide
    pub job-seconds : {f : Option Fault} → f ≡ seconds_fault car vs hs 0 (length vs) → f ≡ checks_fault v car vs hs
    job-seconds s = s ∙ sym (row ∙ none_orelse _ _ e)

  -- ---- what they leave

  module _ (e : checks_fault v car vs hs ≡ none) where
    -- the longest trace has 16384 seconds, the fastest speed is 2000, the highest gear 10
    pub short : Short vs
    short = record { each = λ i h. omega (arith, (writable v car vs hs e).speeds_in i h) }

    pub light : Light hs
    unfolding longest
    light =
        let w = writable v car vs hs e in
        record { seconds = omega (arith, w.not_long, w.even); gears = λ i h. omega (arith, w.bounds.ng_to, w.holds_in i (omega (arith, w.even, h))) }
