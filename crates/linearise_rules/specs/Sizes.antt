-- How many lines a Mach function becomes, and that there are numbers for them.
use Rattle.std.specs.Prelude.{ℕ, ◌+◌, ◌*◌, ◌<◌, List, [], ◌∷◌, length}
use Rattle.mach_ir.specs.Sizes.{number_limit}
use Rattle.mach_ir.specs.declared.mach.Mark.TheVariants as mark
use Rattle.mach_ir.specs.declared.mach.MachOp.{MachOp}
use Rattle.mach_ir.specs.declared.mach.MachOp.TheVariants as mach
use Rattle.mach_ir.specs.declared.mach.Instr.{Instr}
use Rattle.mach_ir.specs.declared.mach.Mach.{Mach}
use Rattle.linearise_rules.specs.Lowered.{slots_of_function, limit_above}

abbrev pub tries_ended_by : MachOp → ℕ
tries_ended_by (mach.Op f) = 0
tries_ended_by (mach.Mark (mark.Exit l n)) = n
tries_ended_by (mach.Mark _) = 0

-- the tries that the exits of a code end: each is a line of its own
abbrev pub tries_ended : List Instr → ℕ
tries_ended [] = 0
tries_ended (i ∷ is) = tries_ended_by i.op + tries_ended is

-- There are numbers for all that the function becomes as it is lowered and made tidy.
pub record HasLineRoom (p : Mach) : Type 0 where
  -- for its slots, after those of the registers
  pub slots : limit_above (slots_of_function p) + 32 < number_limit
  -- for its lines, and for its labels with two new ones for each line: once loops are turned round, an
  -- instruction has become at most five lines, and an exit one more for each try that it ends
  pub labels : p.labels + 2 * (5 * length p.code + tries_ended p.code) + 2 < number_limit
