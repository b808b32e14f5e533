use Rattle.lin_flow.proofs.Begun.{are_numbered}
use Rattle.frame_tables.proofs.Bounds.{countable_by}
use Rattle.frame_tables.proofs.tables.descriptors.Goals as goal

pub search_points-requires : goal.search_points-requires
search_points-requires c =
    record {
      numbered = are_numbered c.args.lin.now c.requires.located;
      table = c.in_ok-labels.ensures;
      countable = countable_by c.args.lin.now c.requires.within;
    }
