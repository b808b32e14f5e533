use Rattle.code_bounds.proofs.Bounded.{bounded, frame_small, frame_fits}
use Rattle.chained_functions.proofs.Known.{placed_for}
use Rattle.code_bounds.proofs.made_functions_are_small.Goals as goal

pub returns-clause-bounded : goal.returns-clause-bounded
returns-clause-bounded c = λ choices defined tree m ds pieces accepted made shallow.
    bounded accepted (placed_for accepted made.is_prepared made.allocated) made.linear choices.order made.ordered ds pieces made shallow

pub returns-clause-frame : goal.returns-clause-frame
returns-clause-frame c = λ choices defined tree m ds pieces accepted made.
    frame_small accepted (placed_for accepted made.is_prepared made.allocated) made.linear choices.order made.ordered

pub returns-clause-fits : goal.returns-clause-fits
returns-clause-fits c = λ choices defined tree m ds pieces accepted made.
    frame_fits accepted (placed_for accepted made.is_prepared made.allocated) made.linear choices.order made.ordered
