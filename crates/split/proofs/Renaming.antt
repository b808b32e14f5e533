-- The code of a function, renamed from its end.
use Rattle.std.proofs.Common.{◌≡◌, ℕ, ◌+◌, List, ◌++◌, length}
use Rattle.mach_ir.specs.declared.mach.Instr.{Instr}
use Rattle.split_rules.specs.Renamed.{Naming, renamed_code}

-- what is left of the code, and what has been renamed of it
pub record Renaming (names : Naming) (code items renamed : List Instr) (left : ℕ) : Type 0 where
  pub done : List Instr
  pub whole : items ++ done ≡ code
  pub renamed_so : renamed ≡ renamed_code names done
  pub count : left ≡ length done
