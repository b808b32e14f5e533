-- A node and the form that it holds.
use Rattle.std.proofs.Common.{◌≡◌, ℕ, List, sym, ap, ◌∙◌, subst}
use Rattle.cmm_tree.specs.Tree.{Expression}
use Rattle.cmm_tree.specs.View.{expr_view, form_view}
use Rattle.cmm_tree.specs.declared.expr.Expr.{Expr}
use Rattle.cmm_tree.specs.declared.expr.Form.{Form}
use Rattle.cmm_types.specs.Annotated.{IsAnnotated, PartsTyped}
use Rattle.cmm_types.specs.Types.{Scoped, type_of}
use Rattle.walk_tables.proofs.Shapes.{Shape}
use Rattle.mach_ir.specs.declared.mach.Instr.{Instr}
use Rattle.selection_operands.specs.Below.{selected_code, node_code}
use Rattle.selection_scope.specs.Room.{HasExpressionRoom}
use Rattle.selection_scope.specs.Scoping.{LexicalScope}
use Rattle.selection_scope.specs.declared.place.Place.{Place}

-- the tree of a node is that of its form
pub tree-is : (ns : List Scoped) (e : Expr) (f : Form) (t : Expression) (Parts : Type 0) → e.form ≡ f → Shape ns e.at f t Parts → expr_view e ≡ t
tree-is ns e f t Parts is shape = ap (λ (x : Form). form_view e.at x) is ∙ shape.view

pub parts-of : (ns : List Scoped) (e : Expr) (f : Form) (t : Expression) (Parts : Type 0) → e.form ≡ f → Shape ns e.at f t Parts → IsAnnotated ns e → Parts
parts-of ns e f t Parts is shape typed =
    let P : Form → Type 0 = λ x. PartsTyped ns x in
    shape.parts (subst P is typed.below)

pub type-of : (ns : List Scoped) (e : Expr) (f : Form) (t : Expression) (Parts : Type 0) → e.form ≡ f → Shape ns e.at f t Parts → IsAnnotated ns e → e.ty ≡ type_of ns t
type-of ns e f t Parts is shape typed = typed.type ∙ ap (type_of ns) (tree-is ns e f t Parts is shape)

pub code-of : (ns : List Scoped) (scope : LexicalScope) (place : Place) (e : Expr) (f : Form) (t : Expression) (Parts : Type 0) (next made : List Instr)
    → e.form ≡ f → Shape ns e.at f t Parts → made ≡ node_code scope place t next → made ≡ selected_code scope place e next
code-of ns scope place e f t Parts next made is shape m = m ∙ ap (λ x. node_code scope place x next) (sym (tree-is ns e f t Parts is shape))

pub room-of : (ns : List Scoped) (e : Expr) (f : Form) (t : Expression) (Parts : Type 0) → e.form ≡ f → Shape ns e.at f t Parts → (base : ℕ) → HasExpressionRoom base (expr_view e) → HasExpressionRoom base t
room-of ns e f t Parts is shape base room = subst (HasExpressionRoom base) (tree-is ns e f t Parts is shape) room
