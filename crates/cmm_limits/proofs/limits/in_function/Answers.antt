use Rattle.std.proofs.Common.{refl}
use Rattle.cmm_limits.proofs.limits.in_function.Goals as goal

pub returns : goal.returns
returns c = rw (c.in_expr.ensures, c.noted_if-reported.ensures, c.in_params-reported.ensures, c.as_slice.ensures) refl
