use Rattle.std.proofs.Common.{ap, ◌∙◌}
use Rattle.file_compile.proofs.Listed.{function_listed, data_passed}
use Rattle.file_compile.proofs.files.functions_of.Goals as goal
use Rattle.file_compile.proofs.files.functions_of.Goals.{in-Function+in_ok-push-in-Function, in-Data}

pub loop-item-preserved : goal.loop-item-preserved
loop-item-preserved c = elim c.match-item.branch [
  | in-Function+in_ok-push-in-Function w ↦
      function_listed c.args.items.now c.loop-item.item-index c.item-item.result _ c.loop-item.functions.items c.match-item.functions.items
      c.loop-item-test.true c.item-item.is w.in-Function.is (ap (λ v. v.items) w.functions-is ∙ w.in_ok-push-in-Function.ensures.items) c.loop-item.invariant
  | in-Data w ↦
      data_passed c.args.items.now c.loop-item.item-index c.item-item.result w.in-Data.field-0 c.loop-item.functions.items c.match-item.functions.items
      c.loop-item-test.true c.item-item.is w.in-Data.is (ap (λ v. v.items) w.functions-is) c.loop-item.invariant
]
