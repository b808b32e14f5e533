use Rattle.std.proofs.Common.{length, map}
use Rattle.cmm_tree.specs.View.{expr_view}
use Rattle.cmm_grammar.specs.Rule.{Expr}
use Rattle.cmm_grammar.specs.Reading.{reading, forms_below}
use Rattle.cmm_parts.specs.Results.{trees, test_of}
use Rattle.cmm_parts.proofs.Lists.{Going}
use Rattle.cmm_operations.proofs.lists.list.Given as goal

-- what was read so far, and what is left
abbrev pub invariant-loop-first : goal.invariant-loop-first
invariant-loop-first g l =
    Going (test_of l.fn.stop) (reading Expr l.fn.depth (forms_below l.fn.depth)) (trees l.fn.source l.fn.tokens) (map expr_view l.expressions.items) (trees l.fn.source l.rest)

abbrev pub decreases-loop-first : goal.decreases-loop-first
decreases-loop-first g l = length l.rest
