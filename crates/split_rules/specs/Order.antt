-- The writes of open registers in the order of the text, and the numbers of webs by their first ones.
use Rattle.std.specs.Prelude.{◌≡◌, ℕ, ◌+◌, ◌≤◌, cond, List, [], ◌∷◌, ◌++◌, Some, length, slice_get}
use Rattle.mach_ir.specs.declared.reg.Reg.{Reg}
use Rattle.mach_ir.specs.declared.mach.Instr.{Instr}
use Rattle.mach_ir.specs.declared.mach.Mach.{Mach}
use Rattle.split_rules.specs.Writes.{Chained}
use Rattle.split_rules.specs.declared.writes.Write.{Write}
use Rattle.mach_ir.specs.Places.{is_unset_location}

abbrev pub write_of : ℕ → Reg → Write
write_of k r = record { left = k; number = r.number }

-- those among these registers, before so many instructions
abbrev pub open_writes : ℕ → List Reg → List Write
open_writes k [] = []
open_writes k (r ∷ rs) = cond (is_unset_location r.loc) (write_of k r ∷ open_writes k rs) (open_writes k rs)

abbrev pub code_writes : List Instr → List Write
code_writes [] = []
code_writes (i ∷ is) = open_writes (length is) i.results ++ code_writes is

-- of the parameters, and of the results in the order of the text
abbrev pub writes_of : Mach → List Write
writes_of m = open_writes (length m.code) m.params ++ code_writes m.code

-- The register is written before so many instructions, and that is the write of this index.
abbrev pub HasIndex : Mach → ℕ → ℕ → ℕ → Type 0
HasIndex m n k w = slice_get (writes_of m) w ≡ Some (record { left = k; number = n })

-- the first write, by its index, of the web of this one
pub record IsFirstOfWeb (m : Mach) (n : ℕ) (from : List Instr) (w : ℕ) : Type 0 where
  pub first : List Instr
  pub index : HasIndex m n (length first) w
  pub joined : Chained m n from first
  pub least : (to : List Instr) (v : ℕ) → Chained m n from to → HasIndex m n (length to) v → w ≤ v

-- No write of the register comes before the one of this index.
pub record IsFirstOfAll (m : Mach) (n w : ℕ) : Type 0 where
  pub least : (k v : ℕ) → HasIndex m n k v → w ≤ v

-- The number of a web whose first write has this index: the register's own, or one from `free` on.
pub data IsByFirst (m : Mach) (free n w : ℕ) : ℕ → Type 0 where
  kept : IsFirstOfAll m n w → IsByFirst m free n w n
  given : (IsFirstOfAll m n w → ⊥) → IsByFirst m free n w (free + w)

-- the number of the web of this write
pub record IsNumberOfWeb (m : Mach) (free n : ℕ) (from : List Instr) (number : ℕ) : Type 0 where
  pub first : ℕ
  pub is : IsFirstOfWeb m n from first
  pub by_first : IsByFirst m free n first number
