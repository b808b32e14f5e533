use Rattle.std.proofs.Common.{◌∙◌, sym}
use Rattle.cmm_lex.proofs.Numbers.{number-over}
use Rattle.cmm_lex.proofs.integers.number.Goals as goal

pub returns-in_err-number : goal.returns-in_err-number
returns-in_err-number c =
    rw c.from_residual.ensures
    (number-over c.args.base c.loop-digit.number c.in-Some.digit.now c.loop-digit.rest.now c.in-Some.behind.now c.args.digits.now c.requires c.loop-digit.invariant.same c.in-Some.ensures.cases.0 (sym c.digit_onto.ensures ∙ c.in_err-number.was))
