use Rattle.std.proofs.Common.{◌≡◌, ◌+◌, drop, map}
use Rattle.std.specs.Prelude.{find, ◌==◌}
use Rattle.image_form.specs.Tables.{Func, func}
use Rattle.rv_machine.specs.Memory.{code_start}
use Rattle.mover_runtime.proofs.run.entry_result.Given as goal

abbrev pub invariant-loop-row : goal.invariant-loop-row
invariant-loop-row l =
    find (λ (f : Func). code_start + f.offset == l.machine.pc) l.machine.image.funcs
    ≡ find (λ (f : Func). code_start + f.offset == l.machine.pc) (map func (drop l.row-index l.row-items))
