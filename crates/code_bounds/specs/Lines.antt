-- How many words a line has at most, by what it is.
use Rattle.std.specs.Prelude.{ℕ, ◌+◌, ◌*◌, List, [], ◌∷◌, length}
use Rattle.lin_ir.specs.declared.lin.Flow.{Flow}
use Rattle.lin_ir.specs.declared.lin.Flow.TheVariants as flow
use Rattle.lin_ir.specs.declared.lin.LinOp.{LinOp}
use Rattle.lin_ir.specs.declared.lin.LinOp.TheVariants as lin
use Rattle.lin_ir.specs.declared.lin.Line.{Line}
use Rattle.mach_ir.specs.declared.op.Op.TheVariants as op
use Rattle.mach_ir.specs.declared.op.Pure.TheVariants as pure
use Rattle.pass_rules.specs.Measures.{copy_words}

abbrev pub flow_words : Flow → ℕ
flow_words (flow.Label l) = 0
flow_words (flow.Jump l) = 2
flow_words (flow.Exit l) = 2
flow_words (flow.Branch t l) = 15
flow_words flow.PopTrap = 2
flow_words (flow.Switch labels) = 32 + 4 * length labels
flow_words _ = 32

-- A copy has no more than one on Mach. Others may have 16 for each result.
abbrev pub words_for_line : LinOp → (results : ℕ) → ℕ
words_for_line (lin.Op (op.Pure (pure.Copy kind))) results = copy_words
words_for_line (lin.Op f) results = 32 + 16 * results
words_for_line (lin.Flow f) results = flow_words f + 16 * results

abbrev pub line_words : Line → ℕ
line_words i = words_for_line i.op (length i.results)

abbrev pub lines_words : List Line → ℕ
lines_words [] = 0
lines_words (i ∷ is) = line_words i + lines_words is

-- ---- loops turned round

-- What a line may have besides once loops are turned round: an exit, and a jump, which may become
-- one, have room for a branch and a jump after them.
abbrev pub turning_words : LinOp → ℕ
turning_words (lin.Flow (flow.Jump l)) = 17
turning_words (lin.Flow (flow.Exit l)) = 17
turning_words _ = 0

-- lines with that room
abbrev pub turned_words : List Line → ℕ
turned_words [] = 0
turned_words (i ∷ is) = line_words i + turning_words i.op + turned_words is
