-- The room has a place for each second of the trip.
use Rattle.rules.proofs.Offered.{length-take-le, sym, ◌∙◌, arith}
use Rattle.checks.proofs.Rows.{longest_is}
use Rattle.reasons.proofs.Places.{trip_ready, trip_place, trip_lists, chain_small}
use Rattle.reasons.proofs.explain.trip_chain.Goals as goal

pub slice_bounds-room-end : goal.slice_bounds-room-end
slice_bounds-room-end c = omega (arith, c.requires.trip.inside, c.requires.short, longest_is)

pub slice_bounds-chain-length : goal.slice_bounds-chain-length
slice_bounds-chain-length c = sym (length-take-le _ _ (omega (arith, c.requires.trip.inside, c.requires.short, longest_is)))

pub chain-requires : goal.chain-requires
chain-requires c =
    (trip_ready c.requires (length-take-le _ _ (omega (arith, c.requires.trip.inside, c.requires.short, longest_is))), trip_place c.requires)

pub returns-clause-chain : goal.returns-clause-chain
returns-clause-chain c = c.chain.ensures ∙ trip_lists c.requires

pub returns-clause-small : goal.returns-clause-small
returns-clause-small c = chain_small c.requires c.args.powered.in_bounds c.chain.ensures
