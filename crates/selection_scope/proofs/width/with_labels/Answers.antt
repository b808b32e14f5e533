use Rattle.std.proofs.Common.{ap, arith}
use Rattle.std.proofs.lemmas.List.{drop_all}
use Rattle.cmm_tree.specs.Rows.{handlers_of}
use Rattle.selection_rules.specs.Select.{width_labels}
use Rattle.selection_scope.proofs.width.with_labels.Goals as goal

pub returns : goal.returns
returns c =
    let all = ap (λ l. width_labels (handlers_of l)) (drop_all c.loop-handler.handler-index c.args.handlers.now c.loop-handler-test.false) in
    omega (arith, c.loop-handler.invariant.same, c.loop-handler.invariant.small, all)
