use Rattle.bs_words.specs.declared.types.Loc.TheVariants as loc
use Rattle.linscan.proofs.Keyed.{IsFilled, node_key, node_value}
use Rattle.linscan.proofs.places.fixed_places.Given as goal

abbrev pub invariant-loop-node : goal.invariant-loop-node
invariant-loop-node l = IsFilled node_key node_value loc.Unset l.graph.nodes l.node-index l.places.items
