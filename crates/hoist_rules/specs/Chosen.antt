-- Which constants are made at the entry: wide ones in loops before the first call.
use Rattle.std.specs.Prelude.{◌≡◌, ◌↔◌, ◌<◌, ◌≤◌, ◌+◌, ◌^◌, ℕ, Bool, true, List, ◌∷◌, length}
use Rattle.mach_ir.specs.Formed.{TargetsLabel, is_exit}
use Rattle.mach_ir.specs.Meaning.{Everything, destroyed_by, has_label}
use Rattle.mach_ir.specs.Walks.{StandsAsInstr}
use Rattle.mach_ir.specs.declared.mach.Instr.{Instr}
use Rattle.mach_ir.specs.declared.mach.Mach.{Mach}
use Rattle.hoist_rules.specs.Hoisted.{MayMove, hoisted}

-- A loop round the code `from`, by the text: its label is there or before, and an exit to it there
-- or after. The code from that exit on is `end`.
pub record IsLoopRound (m : Mach) (from end : List Instr) : Type 0 where
  pub label : ℕ
  pub head : Instr
  pub body : List Instr
  pub head_stands : StandsAsInstr head body m.code
  pub labelled : has_label label head.op ≡ true
  pub before : length from ≤ length (head ∷ body)
  pub back : Instr
  pub rest : List Instr
  pub back_stands : StandsAsInstr back rest m.code
  pub is_end : end ≡ back ∷ rest
  pub is_back : is_exit back.op ≡ true
  pub leads : TargetsLabel back.op label
  pub after : length end ≤ length from

-- a constant that does not fit the twelve bits of an immediate
abbrev pub IsWide : ℕ → Type 0
IsWide w = (2048 ≤ w) × (w + 2048 < 2 ^ 64)

-- An instruction moves to the entry where it may, where it makes a wide constant, and where it is
-- in a loop, and each loop round it ends before the first call or entry of a handler: so it lives over
-- none that it did not live over before. A tail call counts, an external call does not.
pub record IsMoved (m : Mach) (i : Instr) (next : List Instr) : Type 0 where
  pub may : MayMove m i next
  pub wide : IsWide may.word
  pub end : List Instr
  pub round : IsLoopRound m (i ∷ next) end
  pub calm : (loop : List Instr) → IsLoopRound m (i ∷ next) loop →
      (c : Instr) (others : List Instr) → StandsAsInstr c others m.code →
      destroyed_by c.op ≡ Everything → length (c ∷ others) < length loop

-- exactly those move
abbrev pub AreChosen : Mach → (ℕ → Bool) → Type 0
AreChosen m moves =
    (i : Instr) (next : List Instr) → StandsAsInstr i next m.code →
    (moves (length next) ≡ true) ↔ IsMoved m i next

-- The second is the first with these constants made at the entry.
-- The entry is one place for all loops; that each walk passes the place before a loop would have to be
-- proved. Constants that fit an immediate stay, so that few registers are taken. Symbols stay too: a
-- setting that does not know the name would be stuck at once.
pub record HasConstantsFirst (m q : Mach) : Type 0 where
  pub moves : ℕ → Bool
  pub chosen : AreChosen m moves
  pub is : q ≡ hoisted moves m
