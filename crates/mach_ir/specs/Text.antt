-- The text of a Mach function: its name, and a line for each instruction.
use Rattle.std.specs.Prelude.{ℕ, ◌-◌, Bool, true, false, List, [], ◌∷◌, ◌++◌, codes, length, take}
use Rattle.std.specs.Fmt.{decimal}
use Rattle.mach_ir.specs.Places.{are_none}
use Rattle.mach_ir.specs.Words.{comp_letter, location_text, label_text, separator, op_word, op_text, test_word, test_right, right_text}
use Rattle.mach_ir.specs.declared.lines.Turn.{Turn}
use Rattle.mach_ir.specs.declared.lines.Turn.TheVariants as turn
use Rattle.mach_ir.specs.declared.reg.Reg.{Reg}
use Rattle.mach_ir.specs.declared.mach.Mark.{Mark}
use Rattle.mach_ir.specs.declared.mach.Mark.TheVariants as marks
use Rattle.mach_ir.specs.declared.mach.MachOp.{MachOp}
use Rattle.mach_ir.specs.declared.mach.MachOp.TheVariants as mach
use Rattle.mach_ir.specs.declared.mach.Instr.{Instr}
use Rattle.mach_ir.specs.declared.mach.Mach.{Mach}

-- as `r5:i` while the register has no place, then as `a0:i` or `[3]:i`
abbrev pub reg_text : Reg → List ℕ
reg_text r = location_text (codes "r" ++ decimal r.number) r.loc ++ codes ":" ++ comp_letter r.comp

-- each register after its mark, the first of all operands or not
abbrev pub regs_text : Bool → List Reg → List ℕ
regs_text first [] = []
regs_text first (r ∷ rs) = separator first ++ reg_text r ++ regs_text false rs

-- results, and that they are results
abbrev pub results_text : List Reg → List ℕ
results_text [] = []
results_text (r ∷ rs) = reg_text r ++ regs_text false rs ++ codes " = "

abbrev pub numbers_text : Bool → List ℕ → List ℕ
numbers_text first [] = []
numbers_text first (n ∷ ns) = separator first ++ decimal n ++ numbers_text false ns

-- ---- marks

abbrev pub mark_word : Mark → List ℕ
mark_word (marks.Exit l n) = codes "exit"
mark_word (marks.If t l) = codes "if" ++ test_word t
mark_word (marks.Else l end) = codes "else"
mark_word (marks.Switch labels) = codes "switch"
mark_word (marks.Case indexes l end) = codes "case"
mark_word marks.Catch = codes "catch"
mark_word (marks.With l end) = codes "with"
mark_word (marks.Try l) = codes "try"
mark_word (marks.Leave l end) = []
mark_word (marks.Handler l) = codes "with"
mark_word (marks.End l) = codes "end"

abbrev pub mark_text : Bool → Mark → List ℕ
mark_text first (marks.Exit l n) = separator first ++ label_text l
mark_text first (marks.If t l) = right_text first (test_right t)
mark_text first (marks.Case indexes l end) = numbers_text first indexes
mark_text first (marks.With l end) = separator first ++ label_text l
mark_text first (marks.Else l end) = []
mark_text first (marks.Switch labels) = []
mark_text first marks.Catch = []
mark_text first (marks.Try l) = []
mark_text first (marks.Leave l end) = []
mark_text first (marks.Handler l) = []
mark_text first (marks.End l) = []

abbrev pub instr_word : MachOp → List ℕ
instr_word (mach.Op f) = op_word f
instr_word (mach.Mark f) = mark_word f

abbrev pub instr_text : Bool → MachOp → List ℕ
instr_text first (mach.Op f) = op_text first f
instr_text first (mach.Mark f) = mark_text first f

-- ---- lines

-- how the levels go at a line
abbrev pub mark_turn : Mark → Turn
mark_turn (marks.Exit l n) = turn.Stays
mark_turn (marks.If t l) = turn.Opens
mark_turn (marks.Else l end) = turn.Parts
mark_turn (marks.Switch labels) = turn.Opens
mark_turn (marks.Case indexes l end) = turn.Parts
mark_turn marks.Catch = turn.Opens
mark_turn (marks.With l end) = turn.Parts
mark_turn (marks.Try l) = turn.Opens
mark_turn (marks.Leave l end) = turn.Hides
mark_turn (marks.Handler l) = turn.Parts
mark_turn (marks.End l) = turn.Closes

abbrev pub turn_of : MachOp → Turn
turn_of (mach.Op f) = turn.Stays
turn_of (mach.Mark f) = mark_turn f

-- the indentation one level deeper, and one level less deep: two spaces
abbrev pub indented_deeper : List ℕ → List ℕ
indented_deeper indent = indent ++ codes "  "

abbrev pub shallower : List ℕ → List ℕ
shallower indent = take (length indent - 2) indent

-- the indentation of a line, where this much was before it
abbrev pub indent_at : Turn → List ℕ → List ℕ
indent_at turn.Stays indent = indent
indent_at turn.Opens indent = indent
indent_at turn.Parts indent = shallower indent
indent_at turn.Closes indent = shallower indent
indent_at turn.Hides indent = indent

-- the indentation after a line that has this one
abbrev pub indent_on : Turn → List ℕ → List ℕ
indent_on turn.Stays indent = indent
indent_on turn.Opens indent = indented_deeper indent
indent_on turn.Parts indent = indented_deeper indent
indent_on turn.Closes indent = indent
indent_on turn.Hides indent = indent

-- results, the word, operands
abbrev pub line_text : List ℕ → Instr → List ℕ
line_text indent i =
    indent ++ results_text i.results ++ instr_word i.op ++ regs_text true i.args
    ++ instr_text (are_none i.args) i.op ++ codes "\n"

-- the end of a try's body is seen by its `with` alone
abbrev pub shown_line : Turn → List ℕ → List ℕ
shown_line turn.Hides line = []
shown_line turn.Stays line = line
shown_line turn.Opens line = line
shown_line turn.Parts line = line
shown_line turn.Closes line = line

abbrev pub lines_text : List ℕ → List Instr → List ℕ
lines_text indent [] = []
lines_text indent (i ∷ is) =
    let own : List ℕ = indent_at (turn_of i.op) indent in
    shown_line (turn_of i.op) (line_text own i) ++ lines_text (indent_on (turn_of i.op) own) is

abbrev pub mach_text : Mach → List ℕ
mach_text m = codes "function " ++ m.name ++ codes "\n" ++ lines_text (codes "  ") m.code
