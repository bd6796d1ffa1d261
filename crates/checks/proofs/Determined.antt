-- Each public function's contract allows one outcome. `Reads` is the contract's own reading, which the check makes of the clauses.
use Rattle.rules.proofs.Offered.{ℕ, List, ◌≡◌, refl, sym, ◌∙◌, length, replicate, length-replicate, said_once}
use Rattle.rules.specs.Determined.{Determined, DeterminedAs}
use Rattle.checks.proofs.opening.check_lengths.Kinds as check-lengths-kinds
use Rattle.checks.proofs.opening.check_lengths.Reads as check-lengths-reads
use Rattle.checks.proofs.opening.check_opening.Kinds as check-opening-kinds
use Rattle.checks.proofs.opening.check_opening.Reads as check-opening-reads
use Rattle.checks.proofs.trips_in.trip_start.Kinds as trip-start-kinds
use Rattle.checks.proofs.trips_in.trip_start.Reads as trip-start-reads
use Rattle.checks.proofs.trips_in.trip_stop.Kinds as trip-stop-kinds
use Rattle.checks.proofs.trips_in.trip_stop.Reads as trip-stop-reads
use Rattle.checks.proofs.seconds.check_seconds.Kinds as check-seconds-kinds
use Rattle.checks.proofs.seconds.check_seconds.Reads as check-seconds-reads
use Rattle.checks.proofs.row.check_span.Kinds as check-span-kinds
use Rattle.checks.proofs.row.check_span.Reads as check-span-reads
use Rattle.checks.proofs.want.check_gears.Kinds as check-gears-kinds
use Rattle.checks.proofs.want.check_gears.Reads as check-gears-reads
use Rattle.checks.proofs.trace.Trace.written.Kinds as written-kinds
use Rattle.checks.proofs.trace.Trace.written.Reads as written-reads
use Rattle.checks.proofs.trace.Trace.hold_at.Kinds as hold-at-kinds
use Rattle.checks.proofs.trace.Trace.hold_at.Reads as hold-at-reads
use Rattle.checks.proofs.trace.Trace.speed_at.Kinds as speed-at-kinds
use Rattle.checks.proofs.trace.Trace.speed_at.Reads as speed-at-reads

-- some list of a length
of : (n : ℕ) → length {A = ℕ} (replicate n 0) ≡ n
of n = length-replicate n 0

pub check_lengths : Determined check-lengths-kinds.ps check-lengths-kinds.r check-lengths-reads.Asked check-lengths-reads.Learnt
check_lengths κs a asked z z' ws ws' p q =
    let e = p (replicate a.0 0) (replicate a.1.0 0) (replicate a.1.1.0 0) (of _) (of _) (of _) in
    let f = q (replicate a.0 0) (replicate a.1.0 0) (replicate a.1.1.0 0) (of _) (of _) (of _) in
    (said_once z z' (e ∙ sym f), refl)

pub check_opening : Determined check-opening-kinds.ps check-opening-kinds.r check-opening-reads.Asked check-opening-reads.Learnt
check_opening κs a asked z z' ws ws' p q =
    let e = p (replicate a.1.0 0) (replicate a.1.1.0 0) (replicate a.1.1.1.0 0) (of _) (of _) (of _) in
    let f = q (replicate a.1.0 0) (replicate a.1.1.0 0) (replicate a.1.1.1.0 0) (of _) (of _) (of _) in
    (said_once z z' (e ∙ sym f), refl)

pub trip_start : Determined trip-start-kinds.ps trip-start-kinds.r trip-start-reads.Asked trip-start-reads.Learnt
trip_start κs a asked z z' ws ws' p q = (p ∙ sym q, refl)

pub trip_stop : Determined trip-stop-kinds.ps trip-stop-kinds.r trip-stop-reads.Asked trip-stop-reads.Learnt
trip_stop κs a asked z z' ws ws' p q = (p ∙ sym q, refl)

pub check_seconds : Determined check-seconds-kinds.ps check-seconds-kinds.r check-seconds-reads.Asked check-seconds-reads.Learnt
check_seconds κs a asked z z' ws ws' p q = (said_once z z' (p ∙ sym q), refl)

pub check_span : Determined check-span-kinds.ps check-span-kinds.r check-span-reads.Asked check-span-reads.Learnt
check_span κs a asked z z' ws ws' p q = (said_once z z' (p ∙ sym q), refl)

pub check_gears : Determined check-gears-kinds.ps check-gears-kinds.r check-gears-reads.Asked check-gears-reads.Learnt
check_gears κs a asked z z' ws ws' p q = (said_once z z' (p ∙ sym q), refl)

-- what is asked for past a trace is nothing, whatever it is
pub written : DeterminedAs written-kinds.ps written-kinds.r (List ℕ × List ℕ × ℕ) (λ κs z. (z.speeds.now, z.holds.now, z.asked.second))
    written-reads.Asked written-reads.Learnt
written κs a asked z z' ws ws' p q =
    let e : z.speeds.now ≡ z'.speeds.now = p.0 ∙ sym q.0 in
    let f : z.holds.now ≡ z'.holds.now = p.1.0 ∙ sym q.1.0 in
    let g : z.asked.second ≡ z'.asked.second = p.1.1.0 ∙ sym q.1.1.0 in
    (λ i. (e i, f i, g i), refl)

pub hold_at : Determined hold-at-kinds.ps hold-at-kinds.r hold-at-reads.Asked hold-at-reads.Learnt
hold_at κs a asked z z' ws ws' p q = (p ∙ sym q, refl)

pub speed_at : Determined speed-at-kinds.ps speed-at-kinds.r speed-at-reads.Asked speed-at-reads.Learnt
speed_at κs a asked z z' ws ws' p q = (p ∙ sym q, refl)
