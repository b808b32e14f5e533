-- The Linear function of a Mach function is one.
use Rattle.std.proofs.Common.{◌≡◌}
use Rattle.mach_ir.specs.declared.mach.Mach.{Mach}
use Rattle.lin_ir.specs.declared.lin.Lin.{Lin}
use Rattle.lin_tidy.proofs.Known.{tidied_once}
use Rattle.lin_pass.specs.Linear.{IsLinearOf}

pub linear_once : {p : Mach} {q r : Lin} → IsLinearOf p q → IsLinearOf p r → q ≡ r
linear_once h k = tidied_once h.made k.made
