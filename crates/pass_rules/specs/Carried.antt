-- What passes over Mach carry besides what a function does: how large its code is, and how it ends.
use Rattle.std.specs.Prelude.{ℕ, ◌+◌, ◌^◌, ◌<◌, ◌≤◌, List, [], ◌∷◌, length, All}
use Rattle.mach_ir.specs.Meaning.{tries_at}
use Rattle.mach_ir.specs.Walks.{StandsAsInstr}
use Rattle.mach_ir.specs.declared.mach.Instr.{Instr}
use Rattle.mach_ir.specs.declared.mach.Mach.{Mach}
use Rattle.mach_ir.specs.declared.mach.MachOp.{MachOp}
use Rattle.mach_ir.specs.declared.mach.MachOp.TheVariants as mach
use Rattle.mach_ir.specs.declared.op.Access.TheVariants as access
use Rattle.mach_ir.specs.declared.op.Leaving.TheVariants as leaving
use Rattle.mach_ir.specs.declared.op.Op.TheVariants as op
use Rattle.mach_ir.specs.declared.reg.Reg.{Reg}
use Rattle.pass_rules.specs.Measures.{code_words, code_points, exit_count, other_operands}
use Rattle.colouring_rules.specs.Places.{ColoursLow}

-- no more than so many tries are round each place of the code
abbrev pub TriesAtMost : Mach → ℕ → Type 0
TriesAtMost m most =
    (i : Instr) (next : List Instr) → StandsAsInstr i next m.code → length (tries_at (i ∷ next)) ≤ most

-- the offset of a load or of a store is a word
abbrev pub OffsetFits : MachOp → Type 0
OffsetFits (mach.Op (op.Access (access.Load chunk offset))) = offset < 2 ^ 64
OffsetFits (mach.Op (op.Access (access.Store chunk offset))) = offset < 2 ^ 64
OffsetFits _ = Unit {0}

-- the last instruction is a return
pub data EndsInReturn : List Instr → Type 0 where
  at_return : {args results : List Reg} →
      EndsInReturn (record { op = mach.Op (op.Leaving leaving.Return); args = args; results = results } ∷ [])
  further : {i : Instr} {is : List Instr} → EndsInReturn is → EndsInReturn (i ∷ is)

-- The code of the second has at most so many words more than that of the first, and no more frame
-- points, exits and tries. Offsets stay words, and the last instruction a return.
pub record IsCarried (more : ℕ) (p q : Mach) : Type 0 where
  pub words : code_words q.code ≤ code_words p.code + more
  pub points : code_points q.code ≤ code_points p.code
  -- operands and results of other instructions than copies
  pub operands : other_operands q.code ≤ other_operands p.code
  pub exits : exit_count q.code ≤ exit_count p.code
  pub tries : (most : ℕ) → TriesAtMost p most → TriesAtMost q most
  pub offsets : All (λ (i : Instr). OffsetFits i.op) p.code →
      All (λ (i : Instr). OffsetFits i.op) q.code
  pub ends : EndsInReturn p.code → EndsInReturn q.code
  -- the registers of the colours stay those of the least numbers
  pub colours_low : ColoursLow p → ColoursLow q
