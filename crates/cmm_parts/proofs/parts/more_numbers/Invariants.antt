use Rattle.std.proofs.Common.{length, map}
use Rattle.cmm_tree.specs.View.{index_view}
use Rattle.cmm_grammar.specs.Words.{is_no_case}
use Rattle.cmm_grammar.specs.Grammar.{another_number}
use Rattle.cmm_grammar.specs.Reading.{reading, forms_below}
use Rattle.cmm_parts.specs.Results.{trees}
use Rattle.cmm_parts.proofs.Lists.{Going}
use Rattle.cmm_parts.proofs.parts.more_numbers.Given as goal

-- what was read so far, and what is left
abbrev pub invariant-loop-first : goal.invariant-loop-first
invariant-loop-first l =
    Going is_no_case (reading another_number l.fn.depth (forms_below l.fn.depth)) (trees l.fn.source l.fn.tokens) (map index_view l.indexes.items) (trees l.fn.source l.rest)

abbrev pub decreases-loop-first : goal.decreases-loop-first
decreases-loop-first l = length l.rest
