use Rattle.std.proofs.Common.{None, take}
use Rattle.mach_ir.specs.declared.reg.Reg.{Reg}
use Rattle.interfere.specs.Pairs.{AddsPairs, ForOne, MeetsSet}
use Rattle.interfere.proofs.joining.join_params.Given as goal

abbrev pub invariant-loop-reg : goal.invariant-loop-reg
invariant-loop-reg l =
    AddsPairs l.initial.joined l.joined (ForOne (λ (r : Reg). MeetsSet None l.set r.number) (take l.reg-index l.params))
