use Rattle.mach_laws.proofs.Colouring.{colourable}
use Rattle.reg_rounds.proofs.choosing.chosen_places.Goals as goal

pub colour-requires : goal.colour-requires
colour-requires c = colourable c.args.mach.now c.args.graph.now c.requires.graph c.requires.placed
