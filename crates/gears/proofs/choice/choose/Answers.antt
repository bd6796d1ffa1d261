-- `gears::choice::choose`: a gear that fits and has too little power is one more tried, and every power is within its bounds.
use Rattle.rules.proofs.Offered.{◌-◌, ◌+◌, ◌≤◌, ◌<◌, arith, low, ◌≡◌, sym, ap, ◌∙◌, Bool, true, to_z-of_z, rd, result, low_from, fits, required}
use Rattle.rules.proofs.Offered.{role_of, false, choose, required_size, choose_to}
use Rattle.gears.specs.declared.Limits.{Limits}
use Rattle.gears.specs.declared.Search.{Search}
use Rattle.gears.specs.Choosing.{InGear}
use Rattle.gears.proofs.Choices.{Tried, best_sized, tried_suits, tried_unfit, tried_weak, tried_all, suits-power, suits_none}
use Rattle.gears.proofs.Reach.{later, reach_above, fits_out}
use Rattle.gears.proofs.Powers.{turning_of, turning_more, turned-next, sized_of}
use Rattle.gears.proofs.choice.choose.Goals as goal
use Rattle.gears.proofs.choice.choose.Goals.{After-from-g, At-loop-search, Then-fits_in_reach, Joined-fits_in_reach, Joined-fits_in_reach-2}
use Rattle.gears.proofs.choice.choose.Goals.{Joined-not-out_of_reach}
use Rattle.gears.proofs.choice.choose.Goals.{then-fits_in_reach+else-e-le0+else-enough, else-fits_in_reach, then-not-out_of_reach+else-g-low}
use Rattle.gears.proofs.choice.choose.Goals.{else-not-out_of_reach}
use Rattle.gears.proofs.choice.choose.Goals.{then-fits_in_reach+then-e-le0, then-fits_in_reach+else-e-le0+then-enough, then-g-low}

-- the lowest gear of the limits is the vehicle's
lowest_is : (search : Search) → search.limits.low ≡ low search.powered.car.now
lowest_is search = ap (λ (l : Limits). l.low) search.limited

-- E is the required power
load : (c : After-from-g) → rd c.required_on-e.result ≡ required c.args.search.powered.car.now c.args.v (rd c.args.d)
load c = result c.required_on-e.type_inv ∙ c.required_on-e.ensures c.args.search.powered.car.now c.args.search.loaded

-- the gear is one
in_gear : (c : At-loop-search) → InGear c.args.search.powered.car.now c.loop-search.g
in_gear c = record { from = omega (arith, low_from c.args.search.powered.car.now, c.loop-search.invariant.from); to = c.loop-search.invariant.to }

-- what the two tests say of whether it fits
by_tests : {o out r fits t : Bool} → o ≡ out → o ≡ false → (out ≡ false → r ≡ fits) → r ≡ t → fits ≡ t
by_tests e f h t = sym (h (sym e ∙ f)) ∙ t

-- it fits
fit : (c : Then-fits_in_reach) → let a = c.args in let car = a.search.powered.car.now in
    fits car (role_of car false a.closes a.before) a.v c.loop-search.g ≡ true
fit c = by_tests c.out_of_reach.ensures c.if-not-out_of_reach.true c.fits_in_reach.ensures c.if-fits_in_reach.true

pub enough-requires : goal.enough-requires
enough-requires c =
    let b = c.args.search.powered.in_bounds in
    record {
      sized = sized_of b _ _ (turning_of _ _ _ _ (in_gear search) (fit search)) _ c.power_at-a.ensures;
      e_in = rw (load search, to_z-of_z c.ranges.d) (required_size _ b c.args.v c.requires.0.v_to c.args.d c.requires.0.d_in);
    }

pub stronger-best-requires : goal.stronger-best-requires
stronger-best-requires c =
    let e : goal.After-power_at-a = search in (best_sized c.loop-search.invariant.tried c.args.search.powered.in_bounds, (enough-requires e).sized)

-- a gear in reach has been looked at: the gears from it on have been tried
looked : (c : Joined-fits_in_reach) → let a = c.args in let car = a.search.powered.car.now in (c.if-fits_in_reach.segment + 1 < car.points)
    × Tried car (role_of car false a.closes a.before) a.v (rd a.d) (c.loop-search.g - 1) c.if-fits_in_reach.best
looked c =
    let b = c.args.search.powered.in_bounds in
    let i : InGear c.args.search.powered.car.now c.loop-search.g = in_gear search in
    let tried = c.loop-search.invariant.tried in
    elim c.if-fits_in_reach.branch [
      | then-fits_in_reach+else-e-le0+else-enough w ↦
          let t : Then-fits_in_reach = search in
          let turns = turning_of _ _ _ _ i (fit t) in
          let q = w.power_at-a.ensures in (
            rw w.segment-is (turned-next b _ _ turns w.segment_at-segment.ensures),
            rw w.best-is (tried_weak tried i.from b i.to w.power_at-a.result (fit t) q
                (suits-power _ _ _ _ _ w.power_at-a.result (load search) (fit t) q (sym w.enough.ensures ∙ w.if-enough.false))
                (turning_more b _ _ turns) w.stronger-best.ensures),
          )
      | else-fits_in_reach w ↦ (
        rw w.segment-is c.loop-search.invariant.segment,
        rw w.best-is (tried_unfit tried i.from
            (by_tests c.out_of_reach.ensures c.if-not-out_of_reach.true c.fits_in_reach.ensures w.if-fits_in_reach.false)),
      )
    ]

-- after a turn that goes on the next gear is one, and those from this one on have been tried
gone_on : (c : Joined-not-out_of_reach) → let a = c.args in let car = a.search.powered.car.now in (low car ≤ c.loop-search.g - 1)
    × (c.if-not-out_of_reach.segment + 1 < car.points)
    × Tried car (role_of car false a.closes a.before) a.v (rd a.d) (c.loop-search.g - 1) c.if-not-out_of_reach.best
gone_on c =
    let i : InGear c.args.search.powered.car.now c.loop-search.g = in_gear search in
    elim c.if-not-out_of_reach.branch [
      | then-not-out_of_reach+else-g-low w ↦
          let j : Joined-fits_in_reach = search in
          let l = looked j in
          (omega (arith, w.if-g-low.false, lowest_is c.args.search), rw w.segment-is l.0, rw w.best-is l.1)
      | else-not-out_of_reach w ↦
          let out = sym c.out_of_reach.ensures ∙ w.if-not-out_of_reach.false in (
            omega (arith, reach_above _ _ _ out),
            rw w.segment-is c.loop-search.invariant.segment,
            rw w.best-is (tried_unfit c.loop-search.invariant.tried i.from (fits_out _ _ (later _ c.args.closes c.args.before) _ _ out)),
          )
    ]

pub loop-search-preserved : goal.loop-search-preserved
loop-search-preserved c =
    let l = gone_on search in
    record { from = l.0; to = omega (arith, c.loop-search.invariant.to); segment = l.1; tried = l.2 }

-- what the loop yields is the rules' choice
chosen : (c : Joined-fits_in_reach-2) → let a = c.args in let car = a.search.powered.car.now in
    c.if-fits_in_reach.gear ≡ choose car (role_of car false a.closes a.before) a.v (rd a.d)
chosen c =
    let b = c.args.search.powered.in_bounds in
    let i : InGear c.args.search.powered.car.now c.loop-search.g = in_gear search in
    let tried = c.loop-search.invariant.tried in
    elim c.if-fits_in_reach.branch [
      | then-fits_in_reach+then-e-le0 w ↦
          let t : Then-fits_in_reach = search in
          w.gear-is ∙ tried_suits tried i.from (suits_none _ _ _ _ _ b i (fit t) (rw (load search) at w.if-e-le0.true))
      | then-fits_in_reach+else-e-le0+then-enough w ↦
          let t : Then-fits_in_reach = search in
          w.gear-is ∙ tried_suits tried i.from
          (suits-power _ _ _ _ _ w.power_at-a.result (load search) (fit t) w.power_at-a.ensures (sym w.enough.ensures ∙ w.if-enough.true))
      | then-g-low w ↦
          let j : Joined-fits_in_reach = search in
          w.gear-is ∙ tried_all (looked j).1 (omega (arith, w.if-g-low.true, lowest_is c.args.search, i.from))
    ]

pub overflow_cast-result : goal.overflow_cast-result
overflow_cast-result c =
    let a = c.args in
    let car = a.search.powered.car.now in
    omega (arith, chosen search, choose_to car (role_of car false a.closes a.before) a.v (rd a.d), a.search.powered.in_bounds.ng_to)

pub returns-clause-gear : goal.returns-clause-gear
returns-clause-gear c = rw (to_z-of_z c.ranges.d) at (chosen search)
