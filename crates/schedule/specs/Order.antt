-- The lines of a run with their heights, from the last to the first.
use Rattle.std.specs.Prelude.{Bool, List, map, reverse}
use Rattle.std.specs.Ordering.{is_lt, nat_cmp}
use Rattle.lin_ir.specs.declared.lin.Line.{Line}
use Rattle.schedule_rules.specs.Straight.{Ranked}
use Rattle.schedule_rules.specs.Orders.{rank_line}
use Rattle.schedule.specs.declared.order.RankedLine.{RankedLine}

abbrev pub rank_of : RankedLine → Ranked
rank_of r = record { line = r.line; height = r.height }

abbrev pub ranks_back : List RankedLine → List Ranked
ranks_back rs = reverse (map rank_of rs)

abbrev pub lines_back : List RankedLine → List Line
lines_back rs = map rank_line (ranks_back rs)

-- the sort's own test
abbrev pub is_lower : RankedLine → RankedLine → Bool
is_lower x y = is_lt (nat_cmp x.height y.height)
