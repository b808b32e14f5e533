use Rattle.std.proofs.Common.{ap}
use Rattle.cse_deadcode.proofs.Tables.{is_dropped}
use Rattle.cse_deadcode.proofs.dropping.drop_dead.Goals as goal

pub returns : goal.returns
returns c =
    is_dropped c.args.mach _ c.in_ok-rows.rows.rows.items c.in_ok-rows.ensures
    (ap (λ code. record c.args.mach { code = code }) c.in_ok-code.ensures)
