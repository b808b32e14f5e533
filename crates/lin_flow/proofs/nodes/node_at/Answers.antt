use Rattle.std.proofs.Common.{◌<◌, length, sym, subst, arith, List, ℕ}
use Rattle.std.proofs.lemmas.Option.{slice_get_within}
use Rattle.lin_flow.proofs.Visiting.{labels_within, args_small, results_small, visited_line, visited_end, place_past}
use Rattle.lin_flow.specs.Nodes.{IsNodeOfLine}
use Rattle.lin_flow.proofs.nodes.node_at.Goals as goal

pub node_of_line-requires : goal.node_of_line-requires
node_of_line-requires c =
    let m = c.args.lin.now in
    let place = c.args.position.now.place in
    let line = c.in-Some.line.now in
    let lt : c.args.position.now.place < length c.args.lin.now.code =
    slice_get_within c.args.lin.now.code c.args.position.now.place c.in-Some.line.now (sym c.in-Some.ensures) in
    record {
      labels = labels_within c.args.lin.now c.args.labels.now _ c.requires.text.table c.requires.groups;
      next = omega (arith, lt, c.requires.groups);
      small = omega (arith, c.requires.text.countable.lines, c.requires.groups);
      args = args_small m c.requires.text.numbered c.requires.text.countable place line (sym c.in-Some.ensures);
      results = results_small m c.requires.text.numbered c.requires.text.countable place line (sym c.in-Some.ensures);
    }

pub returns-in-None : goal.returns-in-None
returns-in-None c = λ number e.
    visited_end c.args.lin.now c.args.labels.now c.requires.text c.args.search.now number c.args.position.now _ e
    (place_past c.args.lin.now.code c.args.position.now.place (sym c.in-None.ensures)) c.new.ensures c.new-in-None.ensures
    c.new-in-None-2.ensures c.new-in-None-3.ensures

pub returns-in_ok-node-in-Some : goal.returns-in_ok-node-in-Some
returns-in_ok-node-in-Some c = λ number e.
    visited_line c.args.lin.now c.args.labels.now c.requires.text c.args.search.now c.node_of_line.new.search number c.args.position.now
    c.in-Some.line.now c.in_ok-node-in-Some.node e (sym c.in-Some.ensures)
    (subst
    (λ (ts : List ℕ). IsNodeOfLine c.args.labels.now c.args.search.now c.node_of_line.new.search c.in-Some.line.now
    c.args.position.now.place ts c.in_ok-node-in-Some.node) c.as_slice-tries.ensures c.in_ok-node-in-Some.ensures)
