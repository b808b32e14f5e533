-- Code that is made instruction by instruction, of what was made before each and of when events happened
-- last there.
use Rattle.std.specs.Prelude.{List, [], ◌∷◌, ◌++◌}
use Rattle.mach_ir.specs.declared.mach.Instr.{Instr}
use Rattle.cse_deadcode.specs.Times.{Clock, last_time}

-- what comes of an instruction
abbrev pub Making : Type 0
Making = Clock → List Instr → Instr → Instr

-- the same after this code
abbrev pub remade : Making → List Instr → Instr → Instr
remade make made i = make (last_time made) made i

-- the first list is what came of the code before the second
abbrev pub made_by : Making → List Instr → List Instr → List Instr
made_by make made [] = made
made_by make made (i ∷ next) = made_by make (made ++ remade make made i ∷ []) next
