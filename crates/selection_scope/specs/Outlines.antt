-- What the outline of an expression says.
use Rattle.std.specs.Prelude.{◌≡◌, ⊤, List}
use Rattle.cmm_tree.specs.Tree.{Expression, Integer, Symbol, Name, Operator}
use Rattle.cmm_tree.specs.View.{expr_view}
use Rattle.cmm_tree.specs.declared.expr.Expr.{Expr}
use Rattle.cmm_types.specs.Annotated.{IsAnnotated}
use Rattle.cmm_types.specs.Types.{Scoped}
use Rattle.selection_scope.specs.declared.outline.Outline.{Outline}
use Rattle.selection_scope.specs.declared.outline.Outline.TheVariants as outline

-- none of those that have an outline of their own
abbrev pub IsOther : Expression → Type 0
IsOther (Integer at w) = ⊥
IsOther (Symbol at name) = ⊥
IsOther (Name at name) = ⊥
IsOther (Operator at op left right) = ⊥
IsOther _ = ⊤

abbrev pub IsOutline : Outline → Expr → Type 0
IsOutline (outline.Integer w) e = expr_view e ≡ Integer e.at w
IsOutline (outline.Symbol name) e = expr_view e ≡ Symbol e.at name.now
IsOutline (outline.Name name) e = expr_view e ≡ Name e.at name.now
IsOutline (outline.Operator op left right) e =
    expr_view e ≡ Operator e.at op (expr_view left.now) (expr_view right.now)
IsOutline outline.Other e = IsOther (expr_view e)

-- the parts of the outline hold their types
abbrev pub ArePartsAnnotated : List Scoped → Outline → Type 0
ArePartsAnnotated names (outline.Operator op left right) =
    IsAnnotated names left.now × IsAnnotated names right.now
ArePartsAnnotated names _ = ⊤
