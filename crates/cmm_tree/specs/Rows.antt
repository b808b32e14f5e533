-- The rows of a tree that lists of the code stand for.
use Rattle.std.specs.Prelude.{List, [], ◌∷◌, map, option_map}
use Rattle.cmm_tree.specs.Tree.{Expressions, NoMore, More, Bindings, NoBinding, Bind, Cases, NoCase, Choose, Handlers, NoHandler, Handle}
use Rattle.cmm_tree.specs.View.{expr_view, declared_view, index_view, label_view, params_view}
use Rattle.cmm_tree.specs.declared.expr.Expr.{Expr}
use Rattle.cmm_tree.specs.declared.expr.Binding.{Binding}
use Rattle.cmm_tree.specs.declared.expr.Case.{Case}
use Rattle.cmm_tree.specs.declared.expr.Handler.{Handler}

abbrev pub expressions_of : List Expr → Expressions
expressions_of [] = NoMore
expressions_of (e ∷ rest) = More (expr_view e) (expressions_of rest)

abbrev pub bindings_of : List Binding → Bindings
bindings_of [] = NoBinding
bindings_of (b ∷ rest) = Bind b.at b.name (option_map declared_view b.declared) (expr_view b.value) (bindings_of rest)

abbrev pub cases_of : List Case → Cases
cases_of [] = NoCase
cases_of (c ∷ rest) = Choose (map index_view c.indexes.items) (expr_view c.body) (cases_of rest)

abbrev pub handlers_of : List Handler → Handlers
handlers_of [] = NoHandler
handlers_of (h ∷ rest) = Handle h.at (label_view h.label) (params_view h.params.items) (expr_view h.body) (handlers_of rest)
