-- Expressions that have no outline of their own are no integers and no symbols.
use Rattle.std.proofs.Common.{◌≡◌, None, refl}
use Rattle.cmm_tree.specs.Tree.{Expression, Integer, Symbol, Name, Operator}
use Rattle.selection_rules.specs.Select.{called_symbol}
use Rattle.selection_code.specs.Shapes.{integer_of}
use Rattle.selection_scope.specs.Outlines.{IsOther}

pub other_integer : (e : Expression) → IsOther e → integer_of e ≡ None
other_integer (Integer at w) o = absurd o
other_integer (Symbol at name) o = absurd o
other_integer (Name at name) o = absurd o
other_integer (Operator at op left right) o = absurd o
other_integer e o = refl

pub other_symbol : (e : Expression) → IsOther e → called_symbol e ≡ None
other_symbol (Integer at w) o = absurd o
other_symbol (Symbol at name) o = absurd o
other_symbol (Name at name) o = absurd o
other_symbol (Operator at op left right) o = absurd o
other_symbol e o = refl
