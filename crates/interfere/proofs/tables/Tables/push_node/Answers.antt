use Rattle.interfere.proofs.Listed.{nodes_same, nodes_more, has_row}
use Rattle.interfere.proofs.tables.Tables.push_node.Goals as goal

pub node-requires : goal.node-requires
node-requires c =
    has_row c.args.self.now c.args.number c.index.result.now c.in-Some.reg c.requires.numbers c.requires.within c.index.ensures c.in-Some.is

pub returns-in-None : goal.returns-in-None
returns-in-None c =
    nodes_same c.args.self.now c.args.number c.index.result.now c.args.nodes.now.items c.requires.within c.index.ensures c.in-None.is
    c.requires.before

pub returns-in_ok-push-in-Some : goal.returns-in_ok-push-in-Some
returns-in_ok-push-in-Some c =
    nodes_more c.args.self.now c.args.number c.index.result.now c.in-Some.reg c.in_ok-node-in-Some.node c.args.nodes.now.items
    c.push.new.self.items c.requires.numbers c.requires.within c.index.ensures c.in-Some.is c.in_ok-node-in-Some.ensures
    c.in_ok-push-in-Some.ensures.items c.requires.before
