use Rattle.std.proofs.Common.{◌≡◌, ◌++◌, IfOk, List, subst}
use Rattle.lin_ir.specs.declared.lin.Line.{Line}
use Rattle.schedule.proofs.Sorting.{sorted_is_scheduled}
use Rattle.schedule.proofs.order.push_scheduled.Goals as goal

pub returns-clause-made : goal.returns-clause-made
returns-clause-made c =
    subst (λ (l : List Line). IfOk c.push_back.result (λ _. c.push_back.new.made.items ≡ c.args.made.now.items ++ l))
    (sorted_is_scheduled c.args.run.now.items c.in_ok-lines.lines.items c.sort_by_height.new.lines.items c.in_ok-lines.ensures.ranked
    c.in_ok-sort_by_height.ensures.sorted c.in_ok-sort_by_height.ensures.stable)
    c.push_back.ensures
