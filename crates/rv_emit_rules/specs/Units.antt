-- Exits that have no words.
--
-- An exit counts a unit. Where its label comes right after it, with other labels alone between, and a
-- branch is right after that label, control comes there without an instruction. The branch takes
-- one whichever way it goes, and that one stands for the unit.
--
-- What shows that the machine goes on is a debt by the code that is left, and not by the run: a plain
-- number, of at most one unit, owed before a branch alone. A credit of lines before the exit would ask of
-- each operator that it has words.
use Rattle.std.specs.Prelude.{ℕ, Bool, true, false, cond, ◌&&◌, List, [], ◌∷◌}
use Rattle.lin_ir.specs.Formed.{is_label}
use Rattle.lin_ir.specs.Meaning.{has_label}
use Rattle.lin_ir.specs.declared.lin.Flow.TheVariants as flow
use Rattle.lin_ir.specs.declared.lin.LinOp.{LinOp}
use Rattle.lin_ir.specs.declared.lin.LinOp.TheVariants as lin
use Rattle.lin_ir.specs.declared.lin.Line.{Line}

abbrev pub is_branch : LinOp → Bool
is_branch (lin.Flow (flow.Branch t l)) = true
is_branch _ = false

-- a branch comes first
abbrev pub tests_first : List Line → Bool
tests_first [] = false
tests_first (i ∷ next) = is_branch i.op

-- the label comes next, but for other labels, and right after it a branch
abbrev pub falls_to : ℕ → List Line → Bool
falls_to l [] = false
falls_to l (i ∷ next) =
    cond (has_label l i.op) (tests_first next) (is_label i.op && falls_to l next)

-- before this code the operation is such an exit: a label occurs once, so it goes where it falls
abbrev pub is_free_exit : LinOp → List Line → Bool
is_free_exit (lin.Flow (flow.Exit l)) next = falls_to l next
is_free_exit _ next = false

-- The units that may have been counted before this code, at the most, without an instruction of
-- their own.
abbrev pub owed_before : List Line → ℕ
owed_before code = cond (tests_first code) 1 0
