use Rattle.std.proofs.Common.{ap, ◌∙◌}
use Rattle.cmm_eval.proofs.Called.{function_found, data_passed}
use Rattle.cmm_eval.proofs.evaluation.functions_of.Goals as goal
use Rattle.cmm_eval.proofs.evaluation.functions_of.Goals.{in-Function+in_ok-push-in-Function, in-Data}

pub loop-item-preserved : goal.loop-item-preserved
loop-item-preserved c =
    let items = c.as_slice-item-items.result.now in
    elim c.match-item.branch [
      | in-Function+in_ok-push-in-Function w ↦
          function_found items c.loop-item.item-index c.item-item.result _ c.loop-item.functions.items c.match-item.functions.items
          c.loop-item-test.true c.item-item.is w.in-Function.is (ap (λ v. v.items) w.functions-is ∙ w.in_ok-push-in-Function.ensures.items) c.loop-item.invariant
      | in-Data w ↦
          data_passed items c.loop-item.item-index c.item-item.result w.in-Data.field-0 c.loop-item.functions.items c.match-item.functions.items
          c.loop-item-test.true c.item-item.is w.in-Data.is (ap (λ v. v.items) w.functions-is) c.loop-item.invariant
    ]
