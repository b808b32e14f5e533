-- Exits of code with one more instruction, and that code put together ends as its second part does.
use Rattle.std.proofs.Common.{◌≡◌, ℕ, suc, ◌+◌, Bool, true, false, cond, arith, List, [], ◌∷◌, ◌++◌, sym, subst}
use Rattle.mach_ir.specs.declared.mach.Instr.{Instr}
use Rattle.pass_rules.specs.Carried.{EndsInReturn, further, at_return}
use Rattle.mach_ir.specs.declared.op.Leaving.TheVariants as leaving
use Rattle.mach_ir.specs.declared.op.Op.TheVariants as op
use Rattle.mach_ir.specs.declared.mach.MachOp.TheVariants as mach

pub exit_one : (b : Bool) (n : ℕ) → cond b (suc n) n ≡ cond b 1 0 + n
exit_one true n = omega arith
exit_one false n = omega arith

pub ends_second : (xs ys : List Instr) → EndsInReturn ys → EndsInReturn (xs ++ ys)
ends_second [] ys e = e
ends_second (x ∷ xs) ys e = further (ends_second xs ys e)

pub returns_alone : (i : Instr) → i.op ≡ mach.Op (op.Leaving leaving.Return) → EndsInReturn (i ∷ [])
returns_alone i e = subst (λ g. EndsInReturn (record { op = g; args = i.args; results = i.results } ∷ [])) (sym e) at_return
