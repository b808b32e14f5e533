use Rattle.mach_ir.specs.Graph.{coloured_location}
use Rattle.mach_laws.proofs.Colouring.{colouring_of}
use Rattle.pass_rules.specs.Measures.{other_operands}
use Rattle.reload_rules.proofs.Room.{room_counts}
use Rattle.reg_rounds.proofs.allocation.round.Goals as goal

pub live_flow-requires : goal.live_flow-requires
live_flow-requires c = record { countable = room_counts (other_operands c.args.mach.code) c.requires.room }

pub graph-requires-clause-countable : goal.graph-requires-clause-countable
graph-requires-clause-countable c = room_counts (other_operands c.args.mach.code) c.requires.room

pub chosen_places-requires-clause-countable : goal.chosen_places-requires-clause-countable
chosen_places-requires-clause-countable c = room_counts (other_operands c.args.mach.code) c.requires.room

pub reload-requires-clause-colouring : goal.reload-requires-clause-colouring
reload-requires-clause-colouring c =
    colouring_of c.args.mach c.in_ok-graph.graph c.in_ok-graph.ensures (coloured_location c.in_ok-colours.colours)
    c.in_ok-colours.ensures.safe
