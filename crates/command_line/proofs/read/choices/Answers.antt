use Rattle.std.proofs.lemmas.Result.{err_from_is_err_and}
use Rattle.command_line.specs.View.{texts}
use Rattle.command_line.proofs.Unique.{no_choices, no_order}
use Rattle.command_line.proofs.read.choices.Goals as goal

pub returns-in_err-allocation-clause-bad : goal.returns-in_err-allocation-clause-bad
returns-in_err-allocation-clause-bad c =
    let p = err_from_is_err_and c.from_residual.result c.from_residual.ensures.1 in rw p.1 (no_choices (texts c.args.others.now) c.in_err-allocation.ensures.bad)

pub returns-in_err-order-clause-bad : goal.returns-in_err-order-clause-bad
returns-in_err-order-clause-bad c =
    let p = err_from_is_err_and c.from_residual-in_err-order.result c.from_residual-in_err-order.ensures.1 in rw p.1 (no_order (texts c.args.others.now) c.in_err-order.ensures.bad)
