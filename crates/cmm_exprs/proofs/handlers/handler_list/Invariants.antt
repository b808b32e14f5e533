use Rattle.std.proofs.Common.{true, length, map}
use Rattle.cmm_grammar.specs.Grammar.{next_handler}
use Rattle.cmm_grammar.specs.Reading.{reading, forms_below}
use Rattle.cmm_parts.specs.Results.{trees}
use Rattle.cmm_exprs.specs.Results.{handler_part, handler_goes_on}
use Rattle.cmm_exprs.proofs.Repeating.{Repeating}
use Rattle.cmm_exprs.proofs.handlers.handler_list.Given as goal

abbrev pub invariant-loop-handlers : goal.invariant-loop-handlers
invariant-loop-handlers g l =
    Repeating handler_goes_on (reading next_handler l.fn.depth (forms_below l.fn.depth)) (trees l.fn.source l.fn.tokens) (map (handler_part true) l.handlers.items) (trees l.fn.source l.rest)

abbrev pub decreases-loop-handlers : goal.decreases-loop-handlers
decreases-loop-handlers g l = length l.rest
