-- Loops by places of the text, counted from 0.
use Rattle.std.specs.Prelude.{◌≡◌, ◌↔◌, ◌<◌, ◌≤◌, ◌⊎◌, ℕ, suc, Bool, true, false, cond, ◌&&◌, nat_eq, nat_lt, nat_le, List, Option, Some, None, length, slice_get, slice_index_or}
use Rattle.mach_ir.specs.Meaning.{Everything, destroyed_by}
use Rattle.mach_ir.specs.Labels.{label_of}
use Rattle.mach_ir.specs.declared.mach.Mark.TheVariants as mark
use Rattle.mach_ir.specs.declared.mach.MachOp.{MachOp}
use Rattle.mach_ir.specs.declared.mach.MachOp.TheVariants as mach
use Rattle.mach_ir.specs.declared.mach.Instr.{Instr}
use Rattle.hoist.specs.Constants.{makes_wide}

-- the label of an exit
abbrev pub exit_of : MachOp → Option ℕ
exit_of (mach.Op f) = None
exit_of (mach.Mark (mark.Exit l n)) = Some l
exit_of (mach.Mark (mark.If t l)) = None
exit_of (mach.Mark (mark.Else l end)) = None
exit_of (mach.Mark (mark.Switch labels)) = None
exit_of (mach.Mark (mark.Case indexes l end)) = None
exit_of (mach.Mark mark.Catch) = None
exit_of (mach.Mark (mark.With l end)) = None
exit_of (mach.Mark (mark.Try l)) = None
exit_of (mach.Mark (mark.Leave l end)) = None
exit_of (mach.Mark (mark.Handler l)) = None
exit_of (mach.Mark (mark.End l)) = None

-- one more than the greatest number of which this holds, or 0
pub record IsAbove (P : ℕ → Type 0) (n : ℕ) : Type 0 where
  pub above : (k : ℕ) → P k → k < n
  pub least : (n ≡ 0) ⊎ ((k : ℕ) × (n ≡ suc k) × P k)

-- an exit to a label is at a place
pub record IsExitTo (code : List Instr) (l e : ℕ) : Type 0 where
  pub instr : Instr
  pub at : slice_get code e ≡ Some instr
  pub exit : exit_of instr.op ≡ Some l

-- for each label the place after the last exit to it
pub record AreEnds (code : List Instr) (ends : ℕ → ℕ) : Type 0 where
  pub each : (l : ℕ) → IsAbove (IsExitTo code l) (ends l)

-- one more instruction, before this place, whose exit this is
abbrev pub end_noted : Option ℕ → ℕ → (ℕ → ℕ) → ℕ → ℕ
end_noted None after ends n = ends n
end_noted (Some l) after ends n = cond (nat_eq l n) after (ends n)

abbrev pub end_by : (ℕ → ℕ) → Option ℕ → ℕ
end_by ends None = 0
end_by ends (Some l) = ends l

-- the place after the last exit to the label that is here
abbrev pub loop_end : (ℕ → ℕ) → MachOp → ℕ
loop_end ends f = end_by ends (label_of f)

-- at a place ends what begins with a label before another place
pub record EndsFrom (code : List Instr) (from end : ℕ) : Type 0 where
  pub label : ℕ
  pub head : ℕ
  pub before : head < from
  pub instr : Instr
  pub at : slice_get code head ≡ Some instr
  pub labelled : label_of instr.op ≡ Some label
  pub back : IsExitTo code label end

-- the first place of a call or of the entry of a handler, or the end
pub record IsFirstCall (code : List Instr) (calls : ℕ) : Type 0 where
  pub within : calls ≤ length code
  pub none : (p : ℕ) (i : Instr) → p < calls → slice_get code p ≡ Some i →
      destroyed_by i.op ≡ Everything → ⊥
  pub call : (calls ≡ length code) ⊎
      ((i : Instr) × (slice_get code calls ≡ Some i) × (destroyed_by i.op ≡ Everything))

-- A wide constant is made at a place, in a loop, and what begins with a label there or before ends
-- before the calls.
pub record IsCalmWide (code : List Instr) (calls p : ℕ) : Type 0 where
  pub instr : Instr
  pub at : slice_get code p ≡ Some instr
  pub wide : makes_wide instr ≡ true
  pub end : ℕ
  pub round : EndsFrom code (suc p) end
  pub inside : p ≤ end
  pub calm : (e : ℕ) → EndsFrom code (suc p) e → e < calls

-- the same by the reach
abbrev pub is_calm_wide : Instr → ℕ → ℕ → ℕ → Bool
is_calm_wide i p reach calls = nat_lt p reach && (nat_le reach calls && makes_wide i)

-- what is said of a place, nothing beyond the end
abbrev pub flag_at : List Bool → ℕ → Bool
flag_at flags p = slice_index_or flags p false

-- so many flags, each of which says whether this holds of its place
pub record AreFlags (P : ℕ → Type 0) (count : ℕ) (flags : List Bool) : Type 0 where
  pub len : length flags ≡ count
  pub each : (p : ℕ) → p < count → (flag_at flags p ≡ true) ↔ P p
