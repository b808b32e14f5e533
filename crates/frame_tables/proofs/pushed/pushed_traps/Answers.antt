use Rattle.std.proofs.Common.{length, sym, subst}
use Rattle.lin_flow.proofs.Begun.{are_numbered}
use Rattle.lin_flow.specs.Nodes.{AreWalkedTo}
use Rattle.lin_flow.specs.Search.{all_positions}
use Rattle.frame_tables.specs.Pushed.{AreTabled}
use Rattle.frame_tables.proofs.Bounds.{countable_by}
use Rattle.frame_tables.proofs.Pushing.{counted_by}
use Rattle.frame_tables.proofs.pushed.pushed_traps.Goals as goal

pub search_walks-requires : goal.search_walks-requires
search_walks-requires c =
    record {
      numbered = are_numbered c.args.lin.now c.requires.located;
      table = c.in_ok-labels.ensures;
      countable = countable_by c.args.lin.now c.requires.within;
    }

pub table_of-requires-clause-walked : goal.table_of-requires-clause-walked
table_of-requires-clause-walked c =
    subst (AreWalkedTo c.args.lin.now) (sym c.as_slice.ensures.value) (record { each = c.in_ok-search.ensures.reached.sound })

pub returns : goal.returns
returns c =
    counted_by c.args.lin.now (all_positions c.in_ok-search.field-0.search) c.in_ok-search.ensures.reached c.in_ok-traps.traps.items
    (subst (λ xs. AreTabled c.args.lin.now xs (length xs) c.in_ok-traps.traps.items) c.as_slice.ensures.value c.in_ok-traps.ensures)
