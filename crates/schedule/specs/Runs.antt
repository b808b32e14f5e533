-- Code of which the first lines are in their new order.
use Rattle.std.specs.Prelude.{List, ◌++◌}
use Rattle.lin_ir.specs.declared.lin.Line.{Line}
use Rattle.schedule_rules.specs.Orders.{scheduled_from}
use Rattle.schedule.specs.declared.runs.Runs.{Runs}

-- the whole in its new order, with the lines that are left
abbrev pub code_with : Runs → List Line → List Line
code_with r rest = r.made.items ++ scheduled_from r.run.items rest
