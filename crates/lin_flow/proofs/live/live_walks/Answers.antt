use Rattle.lin_flow.proofs.Living.{walks_flow}
use Rattle.lin_flow.proofs.live.live_walks.Goals as goal

pub search_walks-requires : goal.search_walks-requires
search_walks-requires c =
    record { numbered = c.requires.numbered; table = c.in_ok-labels.ensures; countable = c.requires.countable }

pub live_in_any_order-requires : goal.live_in_any_order-requires
live_in_any_order-requires c =
    walks_flow c.args.lin.now c.in_ok-search.field-0.search c.in_ok-search.field-0.nodes.items
    (record { places = c.from_vec.result; bound = c.bound_of-bound.result }) c.in_ok-search.ensures c.from_vec.ensures c.bound_of-bound.ensures
