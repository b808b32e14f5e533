use Rattle.std.proofs.Common.{◌∙◌, ap}
use Rattle.lin_tidy_rules.specs.Leaving.{with_code}
use Rattle.lin_unused.proofs.Flagged.{kept_without}
use Rattle.lin_unused.proofs.leaving.leave_out.Goals as goal

pub returns : goal.returns
returns c =
    ap (with_code c.args.lin)
    (c.in_ok-code.ensures ∙ kept_without c.args.flags.now c.args.lin.code c.requires)
