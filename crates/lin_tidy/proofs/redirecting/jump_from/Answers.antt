use Rattle.std.proofs.Common.{◌≡◌, None, drop, refl, ap, ◌∙◌, rules}
use Rattle.std.specs.Option.{option_copied}
use Rattle.lin_ir.specs.declared.lin.Flow.TheVariants as flow
use Rattle.lin_tidy_rules.specs.Redirecting.{jumps_to}
use Rattle.lin_tidy_rules.proofs.Following.{jump_is}
use Rattle.lin_tidy.proofs.Leading.{told_nowhere, told_there}
use Rattle.lin_tidy.proofs.redirecting.jump_from.Goals as goal

pub returns-in_err-first_line : goal.returns-in_err-first_line
returns-in_err-first_line c =
    let none : c.first_line.result ≡ None = search rules in
    let out : c.from_residual.result ≡ None = search rules in
    out ∙ told_nowhere jumps_to (drop c.args.place c.args.code.now) (option_copied c.first_line.result) c.first_line.ensures (ap option_copied none)

pub returns : goal.returns
returns c =
    told_there jumps_to flow.Jump jump_is (λ l. refl) (drop c.args.place c.args.code.now) (option_copied c.first_line.result)
    c.in_ok-first_line.field-0.now c.jump_of.result c.first_line.ensures (ap option_copied c.in_ok-first_line.was) c.jump_of.ensures
