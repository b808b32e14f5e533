use Rattle.std.proofs.Common.{◌≡◌, ◌+◌, ◌++◌, drop, map}
use Rattle.image_form.specs.declared.image.FuncRow.{FuncRow}
use Rattle.rv_machine.specs.Memory.{code_start}
use Rattle.file_compile.proofs.rows.layout.Given as goal

abbrev pub invariant-loop-row : goal.invariant-loop-row
invariant-loop-row l =
    (map (λ (r : FuncRow). r.frame) l.row-items ≡ l.frames.items ++ map (λ (r : FuncRow). r.frame) (drop l.row-index l.row-items))
    × (map (λ (r : FuncRow). code_start + r.offset) l.row-items ≡ l.addresses.items ++ map (λ (r : FuncRow). code_start + r.offset) (drop l.row-index l.row-items))
