use Rattle.std.proofs.Common.{ap}
use Rattle.cse_deadcode.proofs.Repeating.{is_repeated}
use Rattle.cse_deadcode.proofs.repeats.cse.Goals as goal

pub returns : goal.returns
returns c =
    is_repeated c.args.mach c.requires.formed _
    (ap (λ code. record c.args.mach { code = code }) c.in_ok-code.ensures)
