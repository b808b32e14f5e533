use Rattle.std.proofs.Common.{sym, subst, Option}
use Rattle.bs_fault.specs.declared.fault.Fault.{Fault}
use Rattle.cmm_tree.specs.View.{file_view}
use Rattle.bs_fault.specs.Reported.{IsReported}
use Rattle.cmm_limits.specs.Limits.{limit_faults}
use Rattle.bs_fault.proofs.Reported.{noted-is-reported}
use Rattle.cmm_limits.proofs.limits.limit_fault.Goals as goal

pub returns-clause-reported : goal.returns-clause-reported
returns-clause-reported c =
    let P : Option Fault → Type 0 = IsReported (limit_faults (file_view c.args.file.now)) in
    subst P (sym c.in_file.ensures) (noted-is-reported (limit_faults (file_view c.args.file.now)))
