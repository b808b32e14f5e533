use Rattle.std.proofs.Common.{true, length, map}
use Rattle.cmm_grammar.specs.Grammar.{a_case}
use Rattle.cmm_grammar.specs.Reading.{reading, forms_below}
use Rattle.cmm_parts.specs.Results.{trees}
use Rattle.cmm_exprs.specs.Results.{case_part, case_goes_on}
use Rattle.cmm_exprs.proofs.Repeating.{Repeating}
use Rattle.cmm_exprs.proofs.cases.case_list.Given as goal

abbrev pub invariant-loop-cases : goal.invariant-loop-cases
invariant-loop-cases g l =
    Repeating case_goes_on (reading a_case l.fn.depth (forms_below l.fn.depth)) (trees l.fn.source l.fn.tokens) (map (case_part true) l.cases.items) (trees l.fn.source l.rest)

abbrev pub decreases-loop-cases : goal.decreases-loop-cases
decreases-loop-cases g l = length l.rest
