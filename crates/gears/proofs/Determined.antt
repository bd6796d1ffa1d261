-- Each public function's contract allows one outcome. `Reads` is the contract's own reading, which the check makes of the clauses.
use Rattle.rules.proofs.Offered.{ℕ, ◌≡◌, refl, sym, ap, ◌∙◌, List, said_once}
use Rattle.rules.specs.Determined.{Determined, DeterminedAs}
use Rattle.rules.specs.declared.Vehicle.{Vehicle}
use Rattle.gears.specs.declared.Limits.{Limits}
use Rattle.gears.specs.declared.Road.{Road}
use Rattle.gears.specs.Limits.{limits_of, road_of}
use Rattle.gears.proofs.second.top.Kinds as top-kinds
use Rattle.gears.proofs.second.top.Reads as top-reads
use Rattle.gears.proofs.second.lowest.Kinds as lowest-kinds
use Rattle.gears.proofs.second.lowest.Reads as lowest-reads
use Rattle.gears.proofs.second.not_driven.Kinds as not-driven-kinds
use Rattle.gears.proofs.second.not_driven.Reads as not-driven-reads
use Rattle.gears.proofs.second.engine.Kinds as engine-kinds
use Rattle.gears.proofs.second.engine.Reads as engine-reads
use Rattle.gears.proofs.second.minimum.Kinds as minimum-kinds
use Rattle.gears.proofs.second.minimum.Reads as minimum-reads
use Rattle.gears.proofs.second.floor.Kinds as floor-kinds
use Rattle.gears.proofs.second.floor.Reads as floor-reads
use Rattle.gears.proofs.second.step_of.Kinds as step-of-kinds
use Rattle.gears.proofs.second.step_of.Reads as step-of-reads
use Rattle.gears.proofs.second.required.Kinds as required-kinds
use Rattle.gears.proofs.second.required.Reads as required-reads
use Rattle.gears.proofs.bounds.check_vehicle.Kinds as check-vehicle-kinds
use Rattle.gears.proofs.bounds.check_vehicle.Reads as check-vehicle-reads
use Rattle.gears.proofs.curve.derate.Kinds as derate-kinds
use Rattle.gears.proofs.curve.derate.Reads as derate-reads
use Rattle.gears.proofs.curve.segment_near.Kinds as segment-near-kinds
use Rattle.gears.proofs.curve.segment_near.Reads as segment-near-reads
use Rattle.gears.proofs.curve.segment_at.Kinds as segment-at-kinds
use Rattle.gears.proofs.curve.segment_at.Reads as segment-at-reads
use Rattle.gears.proofs.curve.power_at.Kinds as power-at-kinds
use Rattle.gears.proofs.curve.power_at.Reads as power-at-reads
use Rattle.gears.proofs.choice.enough.Kinds as enough-kinds
use Rattle.gears.proofs.choice.enough.Reads as enough-reads
use Rattle.gears.proofs.choice.more.Kinds as more-kinds
use Rattle.gears.proofs.choice.more.Reads as more-reads
use Rattle.gears.proofs.choice.search_of.Kinds as search-of-kinds
use Rattle.gears.proofs.choice.search_of.Reads as search-of-reads
use Rattle.gears.proofs.choice.choose.Kinds as choose-kinds
use Rattle.gears.proofs.choice.choose.Reads as choose-reads
use Rattle.gears.proofs.choice.choice_after.Kinds as choice-after-kinds
use Rattle.gears.proofs.choice.choice_after.Reads as choice-after-reads

pub top : Determined top-kinds.ps top-kinds.r top-reads.Asked top-reads.Learnt
top κs a asked z z' ws ws' p q = (p ∙ sym q, refl)

pub lowest : Determined lowest-kinds.ps lowest-kinds.r lowest-reads.Asked lowest-reads.Learnt
lowest κs a asked z z' ws ws' p q = (p ∙ sym q, refl)

pub not_driven : Determined not-driven-kinds.ps not-driven-kinds.r not-driven-reads.Asked not-driven-reads.Learnt
not_driven κs a asked z z' ws ws' p q = (p.1 ∙ sym q.1, refl)

pub engine : Determined engine-kinds.ps engine-kinds.r engine-reads.Asked engine-reads.Learnt
engine κs a asked z z' ws ws' p q = (p ∙ sym q, refl)

pub minimum : Determined minimum-kinds.ps minimum-kinds.r minimum-reads.Asked minimum-reads.Learnt
minimum κs a asked z z' ws ws' p q = (p.0 ∙ sym q.0, refl)

pub floor : Determined floor-kinds.ps floor-kinds.r floor-reads.Asked floor-reads.Learnt
floor κs a asked z z' ws ws' p q = (p ∙ sym q, refl)

pub step_of : Determined step-of-kinds.ps step-of-kinds.r step-of-reads.Asked step-of-reads.Learnt
step_of κs a asked z z' ws ws' p q = (p ∙ sym q, refl)

pub required : Determined required-kinds.ps required-kinds.r required-reads.Asked required-reads.Learnt
required κs a asked z z' ws ws' p q = (p ∙ sym q, refl)

pub check_vehicle : Determined check-vehicle-kinds.ps check-vehicle-kinds.r check-vehicle-reads.Asked check-vehicle-reads.Learnt
check_vehicle κs a asked z z' ws ws' p q = (said_once z z' (p ∙ sym q), refl)

pub derate : Determined derate-kinds.ps derate-kinds.r derate-reads.Asked derate-reads.Learnt
derate κs a asked z z' ws ws' p q = (refl, ap (λ (x : List ℕ). (tt, (x, tt))) (p ∙ sym q))

pub segment_near : Determined segment-near-kinds.ps segment-near-kinds.r segment-near-reads.Asked segment-near-reads.Learnt
segment_near κs a asked z z' ws ws' p q = (p ∙ sym q, refl)

pub segment_at : Determined segment-at-kinds.ps segment-at-kinds.r segment-at-reads.Asked segment-at-reads.Learnt
segment_at κs a asked z z' ws ws' p q = (p ∙ sym q, refl)

-- a power is known by its Q and w
pub power_at : Determined power-at-kinds.ps power-at-kinds.r power-at-reads.Asked power-at-reads.Learnt
power_at κs a asked z z' ws ws' p q = let e = p ∙ sym q in (λ i. record { q = (e i).Q; w = (e i).w }, refl)

pub enough : Determined enough-kinds.ps enough-kinds.r enough-reads.Asked enough-reads.Learnt
enough κs a asked z z' ws ws' p q = (p ∙ sym q, refl)

pub more : Determined more-kinds.ps more-kinds.r more-reads.Asked more-reads.Learnt
more κs a asked z z' ws ws' p q = (p ∙ sym q, refl)

-- its vehicle says what its limits and what E takes are
pub search_of : DeterminedAs search-of-kinds.ps search-of-kinds.r (Vehicle × List ℕ × Limits × Road)
    (λ κs z. (z.powered.car.now, z.powered.powers.now, z.limits, z.road)) search-of-reads.Asked search-of-reads.Learnt
search_of κs a asked z z' ws ws' p q =
    let e : z.powered.car.now ≡ z'.powered.car.now = p.0 ∙ sym q.0 in
    let f : z.powered.powers.now ≡ z'.powered.powers.now = p.1 ∙ sym q.1 in
    let g : z.limits ≡ z'.limits = z.limited ∙ ap limits_of e ∙ sym z'.limited in
    let h : z.road ≡ z'.road = z.loaded ∙ ap road_of e ∙ sym z'.loaded in
    (λ i. (e i, f i, g i, h i), refl)

-- the segment is only where a search starts, and may be any
pub choose : DeterminedAs choose-kinds.ps choose-kinds.r ℕ (λ κs z. z.gear) choose-reads.Asked choose-reads.Learnt
choose κs a asked z z' ws ws' p q = (p.0 ∙ sym q.0, refl)

pub choice_after : DeterminedAs choice-after-kinds.ps choice-after-kinds.r ℕ (λ κs z. z.gear) choice-after-reads.Asked choice-after-reads.Learnt
choice_after κs a asked z z' ws ws' p q = (p.0 ∙ sym q.0, refl)
