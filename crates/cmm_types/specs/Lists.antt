-- Lists of nodes that hold their types, as contracts of loops see them.
use Rattle.std.specs.Prelude.{List, [], ◌∷◌, option_map}
use Rattle.cmm_tree.specs.Tree.{NoBinding, Bind}
use Rattle.cmm_tree.specs.View.{expr_view, declared_view, params_view}
use Rattle.cmm_tree.specs.declared.expr.Expr.{Expr}
use Rattle.cmm_tree.specs.declared.expr.Binding.{Binding}
use Rattle.cmm_tree.specs.declared.expr.Case.{Case}
use Rattle.cmm_tree.specs.declared.expr.Handler.{Handler}
use Rattle.cmm_types.specs.Types.{Scoped, with_parameters, with_bindings}
use Rattle.cmm_types.specs.Annotated.{IsAnnotated}

abbrev pub AreAnnotated : List Scoped → List Expr → Type 0
AreAnnotated names [] = Unit {0}
AreAnnotated names (e ∷ rest) = IsAnnotated names e × AreAnnotated names rest

-- the names in scope after a binding
abbrev pub with_binding : List Scoped → Binding → List Scoped
with_binding names b =
    with_bindings names (Bind b.at b.name (option_map declared_view b.declared)
    (expr_view b.value) NoBinding)

abbrev pub AreBindingsAnnotated : List Scoped → List Binding → Type 0
AreBindingsAnnotated names [] = Unit {0}
AreBindingsAnnotated names (b ∷ rest) =
    IsAnnotated names b.value × AreBindingsAnnotated (with_binding names b) rest

abbrev pub AreCasesAnnotated : List Scoped → List Case → Type 0
AreCasesAnnotated names [] = Unit {0}
AreCasesAnnotated names (c ∷ rest) = IsAnnotated names c.body × AreCasesAnnotated names rest

abbrev pub AreHandlersAnnotated : List Scoped → List Handler → Type 0
AreHandlersAnnotated names [] = Unit {0}
AreHandlersAnnotated names (h ∷ rest) =
    IsAnnotated (with_parameters (params_view h.params.items) names) h.body
    × AreHandlersAnnotated names rest
