-- Field by field.
use Rattle.rules.proofs.Offered.{ℕ, ◌-◌, sym, ap, ◌∙◌, ◌≡◌, refl, arith, at, rd, result, required, rise, gear_at, clutch_reason_at, role_code, pedal_down}
use Rattle.rules.proofs.Offered.{trip_start, trip_stop}
use Rattle.trips.proofs.Passes.{floor_to}
use Rattle.trips.proofs.Clutch.{rise-here}
use Rattle.reasons.proofs.Places.{its_trip, code_is}
use Rattle.reasons.proofs.Saying.{said_is, link_role, link_closes, link_choice, link_A, link_B, link_C, link_ceiling}
use Rattle.reasons.proofs.explain.explain.Goals as goal

pub required_at-e-requires : goal.required_at-e-requires
required_at-e-requires c =
    let T = c.requires.0 in
    let i = c.args.view.about in (
      c.args.powered.in_bounds,
      record {
        v_to = T.trip.speed_to i T.since T.until;
        d_in = rw (← rise-here c.args.speeds.now i (omega (arith, T.until, T.trip.inside))) (T.trip.step_to i T.since T.until);
      },
    )

pub overflow_cast-result : goal.overflow_cast-result
overflow_cast-result c =
    let car = c.args.powered.car.now in
    omega (arith, c.floor.ensures, floor_to car (at c.args.speeds.now c.args.view.about), c.args.powered.in_bounds.ng_to)

pub returns : goal.returns
returns c =
    let car = c.args.powered.car.now in
    let T = c.requires.0 in
    let vs = c.args.speeds.now in
    let hs = c.args.holds.now in
    let i = c.args.view.about in
    let s = c.args.view.second in
    let m = T.trip.moves i T.since T.until in
    let q = c.trip_chain-links.ensures.chain in
    let r = link_role car vs hs i m q in
    let d = link_closes car vs hs i m q in
    let g = link_C car vs hs i m q in
    let e : rd c.required_at-e.result ≡ required car (at vs i) (rise vs i) =
    result c.required_at-e.type_inv ∙ c.required_at-e.ensures.power
    ∙ ap (required car (at vs i)) (sym (rise-here vs i (omega (arith, T.until, T.trip.inside)))) in
    let w : c.clutch_reason-reason.result ≡ clutch_reason_at car vs s (gear_at car vs hs i) =
    c.clutch_reason-reason.ensures ∙ ap (clutch_reason_at car vs s) g in
    said_is car vs hs s i
    (sym (trip_start vs (its_trip T) i T.since T.until))
    (ap (λ (b : ℕ). b - 1) (sym (trip_stop vs (its_trip T) i T.since T.until)))
    e
    (c.gear_list.ensures (rise vs i) e ∙ rw (r, d))
    (code_is c.args.view.kind ∙ c.requires.2)
    (c.role_code.ensures ∙ ap role_code r)
    refl
    (link_choice car vs hs i m q)
    (c.sentence_of.ensures ∙ rw (c.gear_facts-chosen.ensures (rise vs i) e, c.from.ensures, r, d, link_choice car vs hs i m q))
    (link_A car vs hs i m q)
    (link_B car vs hs i m q)
    g
    c.floor.ensures
    (link_ceiling car vs hs i m q)
    (c.pedal_down.ensures ∙ ap pedal_down w)
    w
    (c.byte_of.ensures ∙ rw (w, g))
