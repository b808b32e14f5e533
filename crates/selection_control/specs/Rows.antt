-- Expressions whose values are dropped.
use Rattle.std.specs.Prelude.{ℕ, suc, ◌+◌, false, List}
use Rattle.cmm_tree.specs.Tree.{Expressions, NoMore, More}
use Rattle.cmm_types.specs.Types.{type_of}
use Rattle.selection_rules.specs.Select.{NamedRegister, Label, Code, scopes, fresh_register, select, width}

-- as those of a sequence before the last one
abbrev pub select_dropped : List NamedRegister → List Label → ℕ → Expressions → Code
select_dropped env labels b NoMore next = next
select_dropped env labels b (More e rest) next =
    select env labels false false (fresh_register b (type_of (scopes env) e)) (suc b) e
    (select_dropped env labels (suc (b + width e)) rest next)
