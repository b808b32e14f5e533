use Rattle.cmm_tree.specs.Rows.{cases_of}
use Rattle.selection_control.proofs.Choosing.{next-label}
use Rattle.selection_control.proofs.choices.switch_labels.Goals as goal

pub loop-number-preserved : goal.loop-number-preserved
loop-number-preserved c =
    next-label c.args.first (cases_of c.args.cases.now) c.loop-number.number c.args.size _ _ _ _ c.loop-number-test.true c.last_label.ensures c.in_ok-push.ensures.items c.loop-number.invariant
