use Rattle.std.proofs.Common.{length, map}
use Rattle.cmm_grammar.specs.Words.{is_close}
use Rattle.cmm_grammar.specs.Reading.{reading, forms_below}
use Rattle.cmm_parts.specs.Results.{trees}
use Rattle.cmm_nodes.specs.Nodes.{binding_part}
use Rattle.cmm_exprs.specs.Results.{binding_rule}
use Rattle.cmm_parts.proofs.Lists.{Going}
use Rattle.cmm_exprs.proofs.bindings.binding_list.Given as goal

abbrev pub invariant-loop-first : goal.invariant-loop-first
invariant-loop-first g l =
    Going is_close (reading (binding_rule l.fn.mutable) l.fn.depth (forms_below l.fn.depth)) (trees l.fn.source l.fn.tokens) (map binding_part l.bindings.items) (trees l.fn.source l.rest)

abbrev pub decreases-loop-first : goal.decreases-loop-first
decreases-loop-first g l = length l.rest
