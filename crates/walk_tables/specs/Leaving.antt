-- Where an exit and a raise lead, cell by cell.
use Rattle.std.specs.Prelude.{ℕ, ◌+◌, ◌<◌, ◌^◌, suc, length, true, List, Option, Some, None}
use Rattle.cmm_tree.specs.Tree.{LabelTree}
use Rattle.cmm_tree.specs.Rows.{handlers_of}
use Rattle.cmm_tree.specs.declared.expr.Handler.{Handler}
use Rattle.walk_tables.specs.Walks.{Slotted, Task, handler_for, behind_exit, behind_raise}
use Rattle.walk_tables.specs.declared.items.Item.{Item}
use Rattle.walk_tables.specs.declared.items.Item.TheVariants as item

-- handlers in a row of cells from this one on have numbers, and so has what is after them
abbrev pub IsRow : ℕ → List Handler → Type 0
IsRow first handlers = (k : ℕ) → k < length handlers → suc (first + k) < 2 ^ 64

-- so have the handlers of a catch
abbrev pub HasRow : Item → Type 0
HasRow (item.Catches scope slot in_handler handlers first rest) = IsRow first handlers.now
HasRow (item.Handler scope slot handlers own first rest) = IsRow first handlers.now
HasRow _ = Unit {0}

-- the cell after a task
abbrev pub rest_in : Item → Option ℕ
rest_in item.Empty = None
rest_in (item.Named name type mutable slot outer) = None
rest_in (item.Does action rest) = Some rest
rest_in (item.Evaluates scope slot expr rest) = Some rest
rest_in (item.Enters scope slot bindings body rest) = Some rest
rest_in (item.Either scope slot on_true on_false rest) = Some rest
rest_in (item.OneOf scope slot cases rest) = Some rest
rest_in (item.MayRaise rest) = Some rest
rest_in (item.Raises rest) = Some rest
rest_in (item.Exits label rest) = Some rest
rest_in (item.Catches scope slot in_handler handlers first rest) = Some rest
rest_in (item.Handler scope slot handlers own first rest) = Some rest
rest_in (item.Handles scope slot name_at name handler entry rest) = Some rest

-- what its own catch has for the label
abbrev pub own_handler : LabelTree
    → (ℕ → List Slotted)
    → (ℕ → List Task)
    → Item
    → Option (List Task)
own_handler label scopes tasks (item.Catches scope slot in_handler handlers first rest) =
    handler_for label (scopes scope) slot in_handler (handlers_of handlers.now) (tasks rest)
    (handlers_of handlers.now)
own_handler label scopes tasks (item.Handler scope slot handlers own first rest) =
    handler_for label (scopes scope) slot true (handlers_of handlers.now) (tasks rest)
    (handlers_of handlers.now)
own_handler label scopes tasks _ = None

abbrev pub exit_tasks : LabelTree → (ℕ → List Task) → Option ℕ → Option (List Task)
exit_tasks label tasks None = None
exit_tasks label tasks (Some rest) = behind_exit label (tasks rest)

abbrev pub raise_rest : (ℕ → List Task) → Option ℕ → Option (List Task)
raise_rest tasks None = None
raise_rest tasks (Some rest) = behind_raise (tasks rest)
