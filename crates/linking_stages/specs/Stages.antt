-- Mach and Linear are each a program.
use Rattle.std.specs.Prelude.{ℕ}
use Rattle.bs_words.specs.Memory.{heap_need}
use Rattle.mach_ir.specs.Runs.{stack_in_use}
use Rattle.mach_ir.specs.Meaning as mach
use Rattle.mach_ir.specs.declared.mach.Mach.{Mach}
use Rattle.lin_ir.specs.Meaning.{NamedAt}
use Rattle.lin_ir.specs.Meaning as lin
use Rattle.lin_ir.specs.declared.lin.Lin.{Lin}
use Rattle.linking.specs.Program.{Program}

-- the functions of Mach, by their numbers
abbrev pub mach_program : (ℕ → Mach) → Program mach.State
mach_program functions =
    record {
      start = λ f c arguments memory. mach.mach_start c (functions f) arguments memory;
      step = λ f c s. mach.step c (functions f) s;
      stack = λ c s. stack_in_use c s.around;
      heap = λ s. heap_need s.around.memory;
    }

-- those of Linear, with what their frame points name
abbrev pub linear_program : (ℕ → Lin) → (ℕ → NamedAt) → Program lin.State
linear_program functions named =
    record {
      start = λ f c arguments memory. lin.linear_start c (functions f) arguments memory;
      step = λ f c s. lin.step c (named f) (functions f) s;
      stack = λ c s. stack_in_use c s.around;
      heap = λ s. heap_need s.around.memory;
    }
