use Rattle.std.proofs.Common.{length, map}
use Rattle.cmm_tree.specs.View.{param_view}
use Rattle.cmm_grammar.specs.Words.{is_close}
use Rattle.cmm_grammar.specs.Grammar.{a_parameter}
use Rattle.cmm_grammar.specs.Reading.{reading, forms_below}
use Rattle.cmm_parts.specs.Results.{trees}
use Rattle.cmm_parts.proofs.Lists.{Going}
use Rattle.cmm_parts.proofs.parts.parameter_list.Given as goal

-- what was read so far, and what is left
abbrev pub invariant-loop-first : goal.invariant-loop-first
invariant-loop-first l =
    Going is_close (reading a_parameter l.fn.depth (forms_below l.fn.depth)) (trees l.fn.source l.fn.tokens) (map param_view l.params.items) (trees l.fn.source l.rest)

abbrev pub decreases-loop-first : goal.decreases-loop-first
decreases-loop-first l = length l.rest
