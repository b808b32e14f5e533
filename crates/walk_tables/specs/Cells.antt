-- What cells stand for.
use Rattle.std.specs.Prelude.{ℕ, ◌+◌, ◌==◌, cond, true, List, [], ◌∷◌, ◌++◌, length, reverse, Option, Some, None}
use Rattle.cmm_tree.specs.View.{expr_view, label_view, params_view}
use Rattle.cmm_tree.specs.declared.expr.Handler.{Handler}
use Rattle.cmm_tree.specs.Rows.{bindings_of, cases_of, handlers_of}
use Rattle.walk_tables.specs.Walks.{Event, Slotted, Task, bodies, with_slots, parameters_bound}
use Rattle.walk_tables.specs.Walks as walk
use Rattle.walk_tables.specs.declared.items.Action.{Action}
use Rattle.walk_tables.specs.declared.items.Action.TheVariants as action
use Rattle.walk_tables.specs.declared.items.Item.{Item}
use Rattle.walk_tables.specs.declared.items.Item.TheVariants as item
use Rattle.walk_tables.specs.declared.items.Cells.{Cells}

-- the cells, the latest first
abbrev pub cells : Cells → List Item
cells c = reverse c.items.items

-- the cell of this number, counted from 0 at the first, which is the last of the list
unfoldable pub item_at : List Item → ℕ → Option Item
item_at [] c = None
item_at (x ∷ older) c = cond (c == length older) (Some x) (item_at older c)

abbrev pub event_of : Action → Event
event_of (action.Binds slot address at) = walk.Binds slot address at
event_of (action.Uses slot at) = walk.Uses slot at
event_of (action.Passes at) = walk.Passes at

-- the names of a cell, where these are those of the cells that it names
abbrev pub scope_in : (ℕ → List Slotted) → Item → List Slotted
scope_in scopes (item.Named name type mutable slot outer) =
    record { scoped = record { name = name.now; type = type; mutable = mutable }; slot = slot }
    ∷ scopes outer
scope_in scopes _ = []

-- what a handler does, and then what is after its catch
abbrev pub handler_tasks : List Slotted → ℕ → List Handler → List Task → Handler → List Task
handler_tasks scope slot all behind h =
    parameters_bound slot (params_view h.params.items)
    ++ (walk.Evaluates (with_slots slot (params_view h.params.items) scope)
    (slot + length (params_view h.params.items)) (expr_view h.body)
    ∷ walk.Catches scope slot true (handlers_of all)
    ∷ behind)

-- the tasks of a cell
abbrev pub tasks_in : (ℕ → List Slotted) → (ℕ → List Task) → Item → List Task
tasks_in scopes tasks item.Empty = []
tasks_in scopes tasks (item.Named name type mutable slot outer) = []
tasks_in scopes tasks (item.Does action rest) = walk.Does (event_of action) ∷ tasks rest
tasks_in scopes tasks (item.Evaluates scope slot expr rest) =
    walk.Evaluates (scopes scope) slot (expr_view expr.now) ∷ tasks rest
tasks_in scopes tasks (item.Enters scope slot bindings body rest) =
    walk.Enters (scopes scope) slot (bindings_of bindings.now) (expr_view body.now) ∷ tasks rest
tasks_in scopes tasks (item.Either scope slot on_true on_false rest) =
    walk.OneOf (scopes scope) slot (expr_view on_true.now ∷ expr_view on_false.now ∷ [])
    ∷ tasks rest
tasks_in scopes tasks (item.OneOf scope slot cases rest) =
    walk.OneOf (scopes scope) slot (bodies (cases_of cases.now)) ∷ tasks rest
tasks_in scopes tasks (item.MayRaise rest) = walk.MayRaise ∷ tasks rest
tasks_in scopes tasks (item.Raises rest) = walk.Raises ∷ tasks rest
tasks_in scopes tasks (item.Exits label rest) = walk.Exits (label_view label.now) ∷ tasks rest
tasks_in scopes tasks (item.Catches scope slot in_handler handlers first rest) =
    walk.Catches (scopes scope) slot in_handler (handlers_of handlers.now) ∷ tasks rest
tasks_in scopes tasks (item.Handler scope slot handlers own first rest) =
    handler_tasks (scopes scope) slot handlers.now (tasks rest) own.now
tasks_in scopes tasks (item.Handles scope slot name_at name handler entry rest) =
    walk.Handles (scopes scope) slot name_at name.now (expr_view handler.now) ∷ tasks rest

-- the names, and the tasks, that a cell stands for: each cell names earlier ones
unfoldable pub scope_at : List Item → ℕ → List Slotted
scope_at [] c = []
scope_at (x ∷ older) c = cond (c == length older) (scope_in (scope_at older) x) (scope_at older c)

unfoldable pub tasks_at : List Item → ℕ → List Task
tasks_at [] c = []
tasks_at (x ∷ older) c =
    cond (c == length older) (tasks_in (scope_at older) (tasks_at older) x) (tasks_at older c)
