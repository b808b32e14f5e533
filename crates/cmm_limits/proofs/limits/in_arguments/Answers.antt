use Rattle.std.proofs.Common.{sym, ap, ◌∙◌}
use Rattle.bs_fault.specs.Reported.{noted_all}
use Rattle.cmm_limits.specs.Limits.{too_many_at}
use Rattle.cmm_limits.proofs.Rows.{argument-some, argument-none}
use Rattle.cmm_limits.proofs.limits.in_arguments.Goals as goal

pub returns-in-Some : goal.returns-in-Some
returns-in-Some c =
    c.noted.ensures
    ∙ ap (λ o. noted_all (too_many_at o) c.args.found) (sym (argument-some c.args.arguments.now c.in-Some.argument.now (sym c.in-Some.ensures)))

pub returns-in-None : goal.returns-in-None
returns-in-None c = ap (λ o. noted_all (too_many_at o) c.args.found) (sym (argument-none c.args.arguments.now (sym c.in-None.ensures)))
