-- How large the code of a Mach function is, by its instructions.
use Rattle.std.specs.Prelude.{ℕ, suc, ◌+◌, ◌*◌, Bool, true, false, cond, List, [], ◌∷◌, length}
use Rattle.linearise_rules.specs.Lowered.{same_spot}
use Rattle.mach_ir.specs.Formed.{is_exit}
use Rattle.mach_ir.specs.Meaning.{passes_frame}
use Rattle.mach_ir.specs.declared.mach.Instr.{Instr}
use Rattle.mach_ir.specs.declared.mach.Mark.{Mark}
use Rattle.mach_ir.specs.declared.mach.Mark.TheVariants as mark
use Rattle.mach_ir.specs.declared.mach.MachOp.{MachOp}
use Rattle.mach_ir.specs.declared.mach.MachOp.TheVariants as mach
use Rattle.mach_ir.specs.declared.op.Op.TheVariants as op
use Rattle.mach_ir.specs.declared.op.Pure.TheVariants as pure
use Rattle.mach_ir.specs.declared.reg.Reg.{Reg}

-- ---- words

-- The words of the lines of a mark, each branch in its longest form. An exit has two for each try
-- that it ends, and two to jump.
abbrev pub mark_words : Mark → ℕ
mark_words (mark.Exit l n) = 2 + 2 * n
mark_words (mark.Switch labels) = 34 + 4 * length labels
mark_words _ = 34

-- the most words of a copy: a load and a store, each with an offset that takes two words more
abbrev pub copy_words : ℕ
copy_words = 6

-- A copy from a place to itself has no line.
abbrev pub words_for_instr : MachOp → List Reg → List Reg → ℕ
words_for_instr (mach.Op (op.Pure (pure.Copy kind))) args results =
    cond (same_spot args results) 0 copy_words
words_for_instr (mach.Op f) args results = 32 + 16 * length results
words_for_instr (mach.Mark f) args results = mark_words f + 16 * length results

-- the words of an instruction
abbrev pub instr_words : Instr → ℕ
instr_words i = words_for_instr i.op i.args i.results

-- The words of code, before it has places: a copy has six, a load and a store with far offsets. Any other
-- operation has 32, and 16 for each result. So copies, of which passes make many, do not use up the words
-- that an image may have.
abbrev pub code_words : List Instr → ℕ
code_words [] = 0
code_words (i ∷ is) = instr_words i + code_words is

-- ---- frame points and exits

abbrev pub one_if_true : Bool → ℕ
one_if_true true = 1
one_if_true false = 0

-- how many instructions are frame points that are no tail calls
abbrev pub code_points : List Instr → ℕ
code_points [] = 0
code_points (i ∷ is) = one_if_true (passes_frame i.op) + code_points is

-- how many instructions are exits: an exit ends up to all tries round it
abbrev pub exit_count : List Instr → ℕ
exit_count [] = 0
exit_count (i ∷ is) = cond (is_exit i.op) (suc (exit_count is)) (exit_count is)

-- ---- operands

-- The operands and results of an instruction other than a copy: reloading makes at most a copy for
-- each.
abbrev pub operands_with : MachOp → List Reg → List Reg → ℕ
operands_with (mach.Op (op.Pure (pure.Copy kind))) args results = 0
operands_with (mach.Op f) args results = length args + length results
operands_with (mach.Mark f) args results = length args + length results

-- The operands and results of what is no copy: neither spilling nor a round makes more of them, so that
-- words do not depend on how many rounds there are.
abbrev pub other_operands : List Instr → ℕ
other_operands [] = 0
other_operands (i ∷ is) = operands_with i.op i.args i.results + other_operands is
