use Rattle.std.proofs.Common.{◌∙◌, sym}
use Rattle.cmm_lex.proofs.Numbers.{decimal-over}
use Rattle.cmm_lex.proofs.integers.decimal.Goals as goal

pub returns-in_err-number : goal.returns-in_err-number
returns-in_err-number c =
    rw c.from_residual.ensures
    (decimal-over c.loop-digit.number c.in-Some.digit.now c.loop-digit.rest.now c.in-Some.behind.now c.args.text.now c.loop-digit.invariant.same c.in-Some.ensures.cases.0 (sym c.is_ascii_digit.ensures.value ∙ c.if-not-is_ascii_digit.false) (sym c.digit_onto.ensures ∙ c.in_err-number.was))
