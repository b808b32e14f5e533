use Rattle.std.proofs.Common.{◌≤◌, length, map}
use Rattle.cmm_tree.specs.View.{item_view}
use Rattle.cmm_grammar.specs.Grammar.{an_item}
use Rattle.cmm_grammar.specs.Reading.{reads}
use Rattle.cmm_parts.specs.Results.{trees}
use Rattle.cmm_reader.proofs.ItemLists.{ItemsGoing}
use Rattle.cmm_reader.proofs.items.items.Given as goal

-- the items so far are before those that the rest gives
abbrev pub invariant-loop-rest : goal.invariant-loop-rest
invariant-loop-rest l =
    record {
      going : ItemsGoing (reads an_item l.depth) (trees l.source l.tokens) (map item_view l.items.items) (trees l.source l.rest);
      within : length l.rest ≤ length l.tokens;
    }

abbrev pub decreases-loop-rest : goal.decreases-loop-rest
decreases-loop-rest l = length l.rest
