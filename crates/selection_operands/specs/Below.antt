-- What a form needs of the function that selects an expression one level deeper.
use Rattle.std.specs.Prelude.{◌≡◌, ℕ, ◌≤◌, List, OnOk, Result}
use Rattle.std.specs.Borrow.{Bor, MutBor}
use Rattle.std.specs.declared.alloc.AllocError.{AllocError}
use Rattle.cmm_tree.specs.Tree.{Expression}
use Rattle.cmm_tree.specs.View.{expr_view}
use Rattle.cmm_tree.specs.declared.expr.Expr.{Expr}
use Rattle.cmm_types.specs.Annotated.{IsAnnotated}
use Rattle.mach_ir.specs.declared.mach.Instr.{Instr}
use Rattle.selection_rules.specs.Select.{Code, select}
use Rattle.selection_scope.specs.Room.{HasExpressionRoom, most_tries}
use Rattle.selection_scope.specs.Scoping.{LexicalScope, scoped_names}
use Rattle.selection_scope.specs.declared.place.Place.{Place}

-- the code of an expression at a place
abbrev pub selected_code : LexicalScope → Place → Expr → Code
selected_code scope place e =
    select scope.names scope.labels place.valued place.tail place.dest place.base (expr_view e)

-- it may be called of an expression that holds its types, and that has room after the numbers before
-- `first`, which are no fewer than the tries round it
abbrev pub MayCall : (MutBor LexicalScope → MutBor (List Instr) → Place → Bor Expr → Type 0) → ℕ → Type 0
MayCall may_call first =
    (scope : MutBor LexicalScope) (code : MutBor (List Instr)) (place : Place) (expr : Bor Expr)
    → most_tries scope.now.labels ≤ first
    → first ≤ place.base
    → HasExpressionRoom place.base (expr_view expr.now)
    → IsAnnotated (scoped_names scope.now) expr.now
    → may_call scope code place expr

-- it then puts the code of the expression before what there is, and leaves the scope as it was
abbrev pub SelectsExpression : (MutBor LexicalScope → MutBor (List Instr) → Place → Bor Expr
    → Result Unit AllocError → MutBor LexicalScope → MutBor (List Instr) → Type 0) → ℕ → Type 0
SelectsExpression returns first =
    (scope : MutBor LexicalScope) (code : MutBor (List Instr)) (place : Place) (expr : Bor Expr)
    (result : Result Unit AllocError) (left : MutBor LexicalScope) (made : MutBor (List Instr))
    → most_tries scope.now.labels ≤ first
    → first ≤ place.base
    → HasExpressionRoom place.base (expr_view expr.now)
    → IsAnnotated (scoped_names scope.now) expr.now
    → returns scope code place expr result left made
    → OnOk result
    ((made.now ≡ selected_code scope.now place expr.now code.now) × (left.now ≡ scope.now))

-- the code of a tree at a place
abbrev pub node_code : LexicalScope → Place → Expression → Code
node_code scope place e =
    select scope.names scope.labels place.valued place.tail place.dest place.base e
