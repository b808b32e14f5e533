use Rattle.std.proofs.Common.{◌≡◌, length, arith}
use Rattle.frame_tables.proofs.Deriving.{rooted_ready, is_searched}
use Rattle.frame_tables.proofs.tables.search_points.Goals as goal

pub spread-requires-clause-ready : goal.spread-requires-clause-ready
spread-requires-clause-ready c =
    let w = c.in_ok-search.field-0 in
    let count : c.len-reached.result ≡ length w.nodes.items = omega (arith, c.len-reached.ensures) in
    rooted_ready c.args.lin.now w.search c.enter_points.new.search c.enter_points.new.search c.len-reached.result w.nodes.items
    w.nodes.items c.in_ok-search.ensures count c.in_ok-enter_points.ensures

pub returns : goal.returns
returns c =
    let w = c.in_ok-search.field-0 in
    let count : c.len-reached.result ≡ length w.nodes.items = omega (arith, c.len-reached.ensures) in
    is_searched c.args.lin.now w.search c.enter_points.new.search c.spread.new.search c.len-reached.result w.nodes.items
    c.spread.new.nodes.items c.in_ok-search.ensures count c.in_ok-enter_points.ensures c.in_ok-spread.ensures
