-- Which instructions move, by flags of their places.
use Rattle.std.specs.Prelude.{◌≡◌, ℕ, suc, ◌-◌, Bool, true, not, cond, ◌&&◌, List, [], ◌∷◌, Some, slice_get}
use Rattle.std.specs.List.{list_all}
use Rattle.mach_ir.specs.declared.mach.Instr.{Instr}
use Rattle.hoist.specs.Loops.{flag_at}
use Rattle.hoist.specs.Written.{is_once}

abbrev pub none_moves : List Bool → Bool
none_moves flags = list_all not flags

-- whether a flag stays
abbrev pub flag_stays : Bool → (ℕ → ℕ) → Instr → Bool
flag_stays flag writes i = flag && is_once writes i

-- the flag of a place stays
pub record StaysAt (flags : List Bool) (code : List Instr) (writes : ℕ → ℕ) (p : ℕ) : Type 0 where
  pub flagged : flag_at flags p ≡ true
  pub instr : Instr
  pub at : slice_get code p ≡ Some instr
  pub once : is_once writes instr ≡ true

-- whether the instruction moves, of so many, after which so many come
abbrev pub moves_by : List Bool → ℕ → ℕ → Bool
moves_by flags count k = flag_at flags (count - suc k)

-- an instruction, after which so many come, or none where it moves
abbrev pub left : (ℕ → Bool) → ℕ → Instr → List Instr
left moves k i = cond (moves k) [] (i ∷ [])
