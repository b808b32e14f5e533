-- Expressions that have no outline of their own are no comparisons.
use Rattle.std.proofs.Common.{◌≡◌, ℕ, List, refl}
use Rattle.cmm_tree.specs.Tree.{Expression, Integer, Symbol, Name, Operator}
use Rattle.mach_ir.specs.declared.mach.Instr.{Instr}
use Rattle.selection_rules.specs.Select.{NamedRegister, Label, select_test}
use Rattle.selection_scope.specs.Outlines.{IsOther}

pub other_test : (env : List NamedRegister) (labels : List Label) (l b : ℕ) (after next : List Instr) (e : Expression) → IsOther e → select_test env labels l b e after next ≡ after
other_test env labels l b after next (Integer at w) o = absurd o
other_test env labels l b after next (Symbol at name) o = absurd o
other_test env labels l b after next (Name at name) o = absurd o
other_test env labels l b after next (Operator at op left right) o = absurd o
other_test env labels l b after next e o = refl
