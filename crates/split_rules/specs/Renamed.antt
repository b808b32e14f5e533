-- Mach functions whose registers have other numbers, by the place where they are.
use Rattle.std.specs.Prelude.{ℕ, List, [], ◌∷◌, length, map}
use Rattle.mach_ir.specs.declared.reg.Reg.{Reg}
use Rattle.mach_ir.specs.declared.mach.Instr.{Instr}
use Rattle.mach_ir.specs.declared.mach.Mach.{Mach}

-- The numbers that registers get, as operands and as results of an instruction: by how many
-- instructions come after it, and by the number that they had.
pub record Naming : Type 0 where
  pub read : ℕ → ℕ → ℕ
  pub write : ℕ → ℕ → ℕ

abbrev pub register_renumbered : (ℕ → ℕ) → Reg → Reg
register_renumbered f r = record r { number = f r.number }

abbrev pub all_numbered : (ℕ → ℕ) → List Reg → List Reg
all_numbered f rs = map (register_renumbered f) rs

abbrev pub renamed_instr : Naming → ℕ → Instr → Instr
renamed_instr names k i =
    record i {
      args = all_numbered (names.read k) i.args;
      results = all_numbered (names.write k) i.results;
    }

abbrev pub renamed_code : Naming → List Instr → List Instr
renamed_code names [] = []
renamed_code names (i ∷ is) = renamed_instr names (length is) i ∷ renamed_code names is

-- The registers of the code have other numbers. All else is as it was.
abbrev pub renamed : Naming → Mach → Mach
renamed names m = record m { code = renamed_code names m.code }
