use Rattle.std.proofs.Common.{length, map}
use Rattle.cmm_tree.specs.View.{data_item_view}
use Rattle.cmm_grammar.specs.Words.{is_close}
use Rattle.cmm_grammar.specs.Grammar.{a_data_item}
use Rattle.cmm_grammar.specs.Reading.{reading, forms_below}
use Rattle.cmm_parts.specs.Results.{trees}
use Rattle.cmm_parts.proofs.Lists.{Going}
use Rattle.cmm_reader.proofs.data.data_item_list.Given as goal

-- the items so far are before those that the rest gives
abbrev pub invariant-loop-first : goal.invariant-loop-first
invariant-loop-first l =
    Going is_close (reading a_data_item l.depth (forms_below l.depth)) (trees l.source l.tokens) (map data_item_view l.items.items) (trees l.source l.rest)

abbrev pub decreases-loop-first : goal.decreases-loop-first
decreases-loop-first l = length l.rest
