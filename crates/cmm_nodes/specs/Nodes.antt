-- The parts of forms that hold expressions, and the expressions that the tree holds.
use Rattle.std.specs.Prelude.{ℕ, option_map, Option, Some, None}
use Rattle.cmm_tree.specs.Tree.{Expression}
use Rattle.cmm_tree.specs.Tree as tree
use Rattle.cmm_tree.specs.View.{expr_view, declared_view}
use Rattle.cmm_tree.specs.declared.expr.Binding.{Binding}
use Rattle.cmm_grammar.specs.Parts.{BindingPart}

-- a binding
abbrev pub binding_part : Binding → BindingPart
binding_part b =
    record {
      at = b.at;
      name = b.name;
      declared = option_map declared_view b.declared;
      value = expr_view b.value;
    }

-- the word of an expression that is an integer
abbrev pub integer_in : Expression → Option ℕ
integer_in (tree.Integer at n) = Some n
integer_in _ = None
