-- Why this gear: what is said of one second of a trace, over the definitions that the card itself is made of.
use Rattle.std.specs.Prelude.{ℕ, zero, suc, ◌+◌, ◌-◌, ◌*◌, Bool, false, not, List, [], ◌∷◌, length, drop, ltb, eqb, ℤ, pos}
use Rattle.rules.specs.Words.{Option, le_z}
use Rattle.std.specs.Prelude.{if◌then◌else◌}
use Rattle.rules.specs.Words.{◌and◌, within, at}
use Rattle.rules.specs.declared.Vehicle.{Vehicle}
use Rattle.rules.specs.declared.Role.{Role}
use Rattle.rules.specs.declared.Role.TheVariants.{First, Closing, AfterLow, Inner}
use Rattle.rules.specs.declared.GearFacts.{GearFacts}
use Rattle.rules.specs.declared.Reasons.{Reasons}
use Rattle.rules.specs.Units.{low, moving, rise, start, stop}
use Rattle.rules.specs.Gears.{Power, is_first, engine, minimum, is_under_nmax, is_over_minimum, allowed, fits, required, power, enough}
use Rattle.rules.specs.Corrections.{floor, closing, ceiling, free, after_A, after_B, trip_speeds, trip_holds, first_at, gear_at, pressed}
use Rattle.rules.specs.Refusals.{Fault, refuse_at, ◌orelse◌, when, trace_fault, room_fault, vehicle_fault, seconds_fault, span_fault, left}
use Rattle.rules.specs.Edit.{hold_span}
use Rattle.rules.specs.Vocabulary.Choosing.{role_at}

-- ---- what the second is

-- 0 standing; 1 standing, the second before a trip; 2 moving
unfoldable pub kind : List ℕ → ℕ → ℕ
kind vs s = if moving (at vs s) then 2 else if moving (at vs (suc s)) then 1 else 0

-- the second that is spoken of: before a trip the trip's first second, whose gear is shown there
unfoldable pub about : List ℕ → ℕ → ℕ
about vs s = if eqb (kind vs s) 1 then suc s else s

-- request Two: 1 the trip's first second; 2 in the closing run; 3 after a first choice of the lowest gear; 4 any other
unfoldable pub role_code : Role → ℕ
role_code First = 1
role_code Closing = 2
role_code AfterLow = 3
role_code Inner = 4

-- ---- each gear

-- request Two, for the minimum of the gear above the lowest: a second of the closing run counts as that, the trip's first second too
unfoldable pub minimum_role : Role → Bool → Role
minimum_role here closes = if closes then Closing else here

-- the rule of that minimum: 2 nine tenths of idle; 3 in the closing run idle itself; 4 after the lowest gear 1.15 times idle
unfoldable pub next_rule : Role → ℕ
next_rule First = 2
next_rule Closing = 3
next_rule AfterLow = 4
next_rule Inner = 2

-- 1 of the lowest gear, idle; of the next as above; 5 of those above, idle plus an eighth of (rated less idle)
unfoldable pub minimum_rule : Role → ℕ → ℕ
minimum_rule here zero = 1
minimum_rule here (suc zero) = next_rule here
minimum_rule here (suc (suc r)) = 5

-- power is read up to nmax; past it 0 and 0 stand for it
unfoldable pub listed_power : Vehicle → ℕ → ℕ → Power
listed_power car v g = if is_under_nmax car v g then power car v g else record { Q = pos 0; w = pos 0 }

-- what is said of a gear that is driven, at a second that is so here and lies in the closing run or not, at road speed v and step d
unfoldable pub driven_facts : Vehicle → Role → Bool → ℕ → ℤ → ℕ → GearFacts
driven_facts car here closes v d g =
    let by = minimum_role here closes in
    record {
      q = (listed_power car v g).Q;
      w = (listed_power car v g).w;
      engine = engine car g v;
      minimum = minimum car by g;
      rule = minimum_rule by (g - low car);
      allowed = allowed car here g;
      over_minimum = is_over_minimum car by v g;
      under_nmax = is_under_nmax car v g;
      fits = fits car here v g;
      enough = is_under_nmax car v g and enough car v d g;
    }

-- of one that is not
unfoldable pub no_facts : GearFacts
no_facts = record {
  q = pos 0;
  w = pos 0;
  engine = 0;
  minimum = 0;
  rule = 0;
  allowed = false;
  over_minimum = false;
  under_nmax = false;
  fits = false;
  enough = false;
}

-- of gear g: driven are those from the lowest to ng
unfoldable pub gear_facts : Vehicle → Role → Bool → ℕ → ℤ → ℕ → GearFacts
gear_facts car here closes v d g = if within (low car) car.ng g then driven_facts car here closes v d g else no_facts

-- of gears 1 to 10
unfoldable pub gear_list : Vehicle → Role → Bool → ℕ → ℤ → List GearFacts
gear_list car here closes v d =
    let f = gear_facts car here closes v d in
    f 1 ∷ f 2 ∷ f 3 ∷ f 4 ∷ f 5 ∷ f 6 ∷ f 7 ∷ f 8 ∷ f 9 ∷ f 10 ∷ []

-- ---- the first choice c, listed with enough power or not, and which sentence gave it

-- 1 the held gear; 5 none fits; 4 at the first second of a trip only the lowest gear may fit; 2 the highest gear that fits and has enough power; 3 if none has
-- enough, the fitting gear with most power
unfoldable pub sentence : Role → ℕ → ℕ → Bool → ℕ
sentence here hold c has-enough =
    if not (eqb hold 0) then 1
    else if eqb c 0 then 5
    else if is_first here then 4
    else if has-enough then 2
    else 3

-- ---- the corrections

-- the gear after A, and after B, at a moving second
unfoldable pub A_at : Vehicle → List ℕ → List ℕ → ℕ → ℕ
A_at car vs hs i = at (after_A car (trip_speeds vs i) (trip_holds vs hs i)) (i - start vs i)

unfoldable pub B_at : Vehicle → List ℕ → List ℕ → ℕ → ℕ
B_at car vs hs i = at (after_B car (trip_speeds vs i) (trip_holds vs hs i)) (i - start vs i)

-- B looks at second j of a trip: no hold, and the second before is in the trip and its V is lower
unfoldable pub B_looks : Vehicle → List ℕ → List ℕ → ℕ → Bool
B_looks car us hs j = free car us hs j and ltb (at us (j - 1)) (at us j)

-- then its ceiling there, from the gears before it, which B left; otherwise 0
unfoldable pub ceiling_of : Vehicle → List ℕ → List ℕ → ℕ → ℕ
ceiling_of car us hs j = if B_looks car us hs j then ceiling j (after_B car us hs) else 0

unfoldable pub ceiling_at : Vehicle → List ℕ → List ℕ → ℕ → ℕ
ceiling_at car vs hs i = ceiling_of car (trip_speeds vs i) (trip_holds vs hs i) (i - start vs i)

-- ---- the clutch at second s, where gear g is shown

-- 1 down, before a trip; 2 down, D is 0 or less and X of the final gear is below 1000 x idle; 3 up, D is above 0; 4 up, X is not below
unfoldable pub clutch_reason_at : Vehicle → List ℕ → ℕ → ℕ → ℕ
clutch_reason_at car vs s g =
    if not (moving (at vs s)) then 1
    else if not (le_z (rise vs s) (pos 0)) then 3
    else if ltb (engine car g (at vs s)) (1000 * car.idle) then 2
    else 4

-- down
unfoldable pub pedal_down : ℕ → Bool
pedal_down r = within 1 2 r

-- the byte: the gear, plus 16 with the clutch down
unfoldable pub byte_of : ℕ → ℕ → ℕ
byte_of r g = if pedal_down r then g + pressed else g

-- ---- the whole

-- what is looked at: that of a hold, at the second spoken of
unfoldable pub why_lo : List ℕ → ℕ → ℕ
why_lo vs s = (hold_span vs (about vs s)).lo

unfoldable pub why_end : List ℕ → ℕ → ℕ
why_end vs s = (hold_span vs (about vs s)).end

-- what is refused: 1, 2, 3; 11, second outside the trace; then a row of checks of the seconds looked at
unfoldable pub row_fault : Vehicle → List ℕ → List ℕ → ℕ → Option Fault → Option Fault
row_fault car vs hs s row =
    trace_fault vs orelse room_fault vs hs hs orelse vehicle_fault car orelse refuse_at 11 (when (not (ltb s (length vs))) s) orelse row

-- 4 to 10
unfoldable pub why_fault : Vehicle → List ℕ → List ℕ → ℕ → Option Fault
why_fault car vs hs s = row_fault car vs hs s (span_fault car vs hs (why_lo vs s) (why_end vs s))

-- 1 to 9, which leave nothing to be said
unfoldable pub early_fault : Vehicle → List ℕ → List ℕ → ℕ → Option Fault
early_fault car vs hs s = row_fault car vs hs s (seconds_fault car vs hs (why_lo vs s) (why_end vs s))

-- nothing: of a refusal, and of a standing second that no trip follows
unfoldable pub nothing : Reasons
nothing = record {
  about = 0;
  first = 0;
  last = 0;
  required = pos 0;
  gears = no_facts ∷ no_facts ∷ no_facts ∷ no_facts ∷ no_facts ∷ no_facts ∷ no_facts ∷ no_facts ∷ no_facts ∷ no_facts ∷ [];
  kind = 0;
  role = 0;
  held = 0;
  choice = 0;
  sentence = 0;
  after_a = 0;
  after_b = 0;
  after_c = 0;
  floor = 0;
  ceiling = 0;
  clutch = false;
  clutch_reason = 0;
  byte = 0;
}

-- what is said at second s of the moving second i. Where f, refusal 10, was given at a second of the trip, its first choices and no corrections
unfoldable pub said_of : Vehicle → List ℕ → List ℕ → ℕ → ℕ → Option Fault → Reasons
said_of car vs hs s i f =
    let here = role_at car vs hs i in
    let closes = closing (drop i vs) in
    let g = gear_at car vs hs i in
    record {
      about = i;
      first = start vs i;
      last = stop vs i - 1;
      required = required car (at vs i) (rise vs i);
      gears = gear_list car here closes (at vs i) (rise vs i);
      kind = kind vs s;
      role = role_code here;
      held = at hs i;
      choice = first_at car vs hs i;
      sentence = sentence here (at hs i) (first_at car vs hs i) (gear_facts car here closes (at vs i) (rise vs i) (first_at car vs hs i)).enough;
      after_a = left f 0 (A_at car vs hs i);
      after_b = left f 0 (B_at car vs hs i);
      after_c = left f 0 g;
      floor = floor car (at vs i);
      ceiling = left f 0 (ceiling_at car vs hs i);
      clutch = left f false (pedal_down (clutch_reason_at car vs s g));
      clutch_reason = left f 0 (clutch_reason_at car vs s g);
      byte = left f 0 (byte_of (clutch_reason_at car vs s g) g);
    }

-- why the byte of second s is what it is
unfoldable pub why : Vehicle → List ℕ → List ℕ → ℕ → Reasons
why car vs hs s =
    left (early_fault car vs hs s) nothing
    (if eqb (kind vs s) 0 then nothing else said_of car vs hs s (about vs s) (why_fault car vs hs s))
