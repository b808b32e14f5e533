-- Expressions that have no outline of their own are no sums.
use Rattle.std.proofs.Common.{◌≡◌, refl}
use Rattle.cmm_tree.specs.Tree.{Expression, Integer, Symbol, Name, Operator}
use Rattle.selection_rules.specs.Select.{base_of, offset_of}
use Rattle.selection_scope.specs.Outlines.{IsOther}

pub other_base : (e : Expression) → IsOther e → base_of e ≡ e
other_base (Integer at w) o = absurd o
other_base (Symbol at name) o = absurd o
other_base (Name at name) o = absurd o
other_base (Operator at op left right) o = absurd o
other_base e o = refl

pub other_offset : (e : Expression) → IsOther e → offset_of e ≡ 0
other_offset (Integer at w) o = absurd o
other_offset (Symbol at name) o = absurd o
other_offset (Name at name) o = absurd o
other_offset (Operator at op left right) o = absurd o
other_offset e o = refl
