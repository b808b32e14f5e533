-- What is in scope where a node is, as the code holds it.
use Rattle.std.specs.Prelude.{◌-◌, List, [], ◌∷◌}
use Rattle.cmm_tree.specs.View.{label_view}
use Rattle.cmm_types.specs.Types.{Scoped}
use Rattle.selection_rules.specs.Select.{NamedRegister, Label, scopes}
use Rattle.selection_scope.specs.declared.scope.Bound.{Bound}
use Rattle.selection_scope.specs.declared.scope.Target.{Target}

-- the names and the labels in scope, the innermost first
pub record LexicalScope : Type 0 where
  pub names : List NamedRegister
  pub labels : List Label

abbrev pub named_view : Bound → NamedRegister
named_view b =
    let scoped : Scoped = record { name = b.name; type = b.ty; mutable = b.mutable } in
    record { scoped = scoped; reg = b.reg }

abbrev pub target_view : Target → Label
target_view t =
    record {
      label = label_view t.label;
      params = t.params;
      number = t.number;
      tries = t.tries;
    }

-- the names alone, as types are known by
abbrev pub scoped_names : LexicalScope → List Scoped
scoped_names scope = scopes scope.names

-- the same handlers, from within one try less
abbrev pub labels_outside_try : List Label → List Label
labels_outside_try [] = []
labels_outside_try (t ∷ labels) =
    record { label = t.label; params = t.params; number = t.number; tries = t.tries - 1 }
    ∷ labels_outside_try labels
