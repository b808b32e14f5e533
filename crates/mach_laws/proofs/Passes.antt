-- What passes owe is owed of one after another.
use Rattle.mach_ir.proofs.Keeping.{keeps_itself, keeps_then}
use Rattle.mach_ir.specs.Formed.{WellFormed}
use Rattle.mach_ir.specs.declared.mach.Mach.{Mach}
use Rattle.mach_laws.specs.Passes.{IsPassKept}

pub pass_itself : (m : Mach) → WellFormed m → IsPassKept m m
pass_itself m formed = record { keeps = keeps_itself m; formed = formed; placed = λ h. h; seated = λ h. h }

pub pass_then : {p q r : Mach} → IsPassKept p q → IsPassKept q r → IsPassKept p r
pass_then one two =
    record {
      keeps = keeps_then one.keeps two.keeps;
      formed = two.formed;
      placed = λ h. two.placed (one.placed h);
      seated = λ h. two.seated (one.seated h);
    }
