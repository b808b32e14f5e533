use Rattle.std.proofs.Common.{ap}
use Rattle.cse_deadcode.proofs.Copying.{is_propagated}
use Rattle.cse_deadcode.proofs.copies.propagate.Goals as goal

pub returns : goal.returns
returns c =
    is_propagated c.args.mach c.requires.formed _
    (ap (λ code. record c.args.mach { code = code }) c.in_ok-code.ensures)
