use Rattle.std.proofs.Common.{◌≡◌, ◌+◌, length, arith, refl}
use Rattle.frame_tables.proofs.Bounds.{slots_small, countable_by, frame_small}
use Rattle.frame_tables.proofs.Composing.{well_formed_by, exact_by, count_by, sizes_by, small_by}
use Rattle.lin_flow.specs.Search.{all_positions}
use Rattle.frame_tables.proofs.tables.describe_searched.Goals as goal

pub overflow_add-flow : goal.overflow_add-flow
overflow_add-flow c = omega (arith, slots_small c.args.lin.now c.requires.within)

pub add_points-requires-clause-countable : goal.add_points-requires-clause-countable
add_points-requires-clause-countable c = countable_by c.args.lin.now c.requires.within

pub live_in_any_order-requires : goal.live_in_any_order-requires
live_in_any_order-requires c =
    well_formed_by c.args.lin.now (all_positions c.args.search.now) c.add_points.new.nodes.items c.in_ok-points.points.items c.in_ok-points.ensures
    (record { places = c.from_vec.result; bound = c.args.lin.now.slots + 32 }) c.from_vec.ensures refl

pub frame_bytes-frame-requires : goal.frame_bytes-frame-requires
frame_bytes-frame-requires c = frame_small c.args.lin.now c.requires.within

pub describe_all-requires-clause-sizes : goal.describe_all-requires-clause-sizes
describe_all-requires-clause-sizes c =
    sizes_by c.args.lin.now (all_positions c.args.search.now) c.add_points.new.nodes.items c.in_ok-points.points.items c.in_ok-points.ensures
    (record { places = c.from_vec.result; bound = c.args.lin.now.slots + 32 }) c.from_vec.ensures refl c.requires.within
    c.in_ok-live.live.rows.items c.in_ok-live.ensures

pub describe_all-requires-clause-small : goal.describe_all-requires-clause-small
describe_all-requires-clause-small c =
    small_by c.args.lin.now (all_positions c.args.search.now) c.add_points.new.nodes.items c.in_ok-points.points.items c.deref.result.now _
    c.frame_bytes-frame.result c.requires.within c.in_ok-points.ensures c.deref.ensures.value c.frame_bytes-frame.ensures

pub returns-clause-exact : goal.returns-clause-exact
returns-clause-exact c =
    let at : c.len-first.result ≡ length (all_positions c.args.search.now) = omega (arith, c.len-first.ensures, c.requires.searched.len) in
    exact_by c.args.lin.now (all_positions c.args.search.now) c.add_points.new.nodes.items c.in_ok-points.points.items c.in_ok-points.ensures
    (record { places = c.from_vec.result; bound = c.args.lin.now.slots + 32 }) c.from_vec.ensures refl c.in_ok-live.live.rows.items
    c.in_ok-live.ensures c.len-first.result at c.deref.result.now c.deref.ensures.value c.requires.searched.numbered c.requires.depth
    c.frame_bytes-frame.result c.in_ok-descrs.descrs c.frame_bytes-frame.ensures c.in_ok-descrs.ensures

pub returns-clause-count : goal.returns-clause-count
returns-clause-count c =
    count_by c.args.lin.now (all_positions c.args.search.now) c.add_points.new.nodes.items c.in_ok-points.points.items c.deref.result.now
    c.frame_bytes-frame.result c.len-first.result c.in_ok-live.live.rows.items c.in_ok-descrs.descrs c.in_ok-points.ensures
    c.deref.ensures.value c.in_ok-descrs.ensures
