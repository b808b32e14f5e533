-- Cells that agree with what they stand for.
use Rattle.std.specs.Prelude.{◌≡◌, ℕ, suc, ◌<◌, ◌≤◌, List, [], ◌∷◌, ◌++◌, length, Option, Some, None, Contains}
use Rattle.std.specs.List.{All}
use Rattle.cmm_tree.specs.Tree.{Expression}
use Rattle.cmm_tree.specs.View.{expr_view, params_view}
use Rattle.cmm_tree.specs.declared.expr.Handler.{Handler}
use Rattle.cmm_types.specs.Annotated.{IsAnnotated}
use Rattle.cmm_types.specs.Lists.{AreBindingsAnnotated, AreCasesAnnotated, AreHandlersAnnotated}
use Rattle.cmm_tree.specs.Rows.{bindings_of}
use Rattle.cmm_types.specs.Types.{with_bindings, with_parameters}
use Rattle.walk_tables.specs.Cells.{item_at, scope_at, tasks_at, handler_tasks}
use Rattle.walk_tables.specs.Walks.{Event, Slotted, Task, Does, Evaluates, names, handling, NextTasks}
use Rattle.walk_tables.specs.Table.{shown, next_cells}
use Rattle.walk_tables.specs.declared.items.Item.{Item}
use Rattle.walk_tables.specs.declared.items.Item.TheVariants as item
use Rattle.walk_tables.specs.declared.node.Node as node
use Rattle.walk_tables.specs.declared.node.Step.{Step}

-- the cells that it names as its scope, and as what is after it, come before this number
abbrev pub IsBelow : ℕ → Item → Type 0
IsBelow c item.Empty = Unit {0}
IsBelow c (item.Named name type mutable slot outer) = outer < c
IsBelow c (item.Does action rest) = rest < c
IsBelow c (item.Evaluates scope slot expr rest) = (scope < c) × (rest < c)
IsBelow c (item.Enters scope slot bindings body rest) = (scope < c) × (rest < c)
IsBelow c (item.Either scope slot on_true on_false rest) = (scope < c) × (rest < c)
IsBelow c (item.OneOf scope slot cases rest) = (scope < c) × (rest < c)
IsBelow c (item.MayRaise rest) = rest < c
IsBelow c (item.Raises rest) = rest < c
IsBelow c (item.Exits label rest) = rest < c
IsBelow c (item.Catches scope slot in_handler handlers first rest) = (scope < c) × (rest < c)
IsBelow c (item.Handler scope slot handlers own first rest) = (scope < c) × (rest < c)
IsBelow c (item.Handles scope slot name_at name handler entry rest) = (scope < c) × (rest < c)

-- these handlers of a catch are in a row of cells, from this one on
abbrev pub HandlersAt : ℕ
    → (ℕ → List Task)
    → ℕ
    → List Slotted
    → ℕ
    → List Handler
    → List Task
    → List Handler
    → Type 0
HandlersAt count tasks cell scope slot all behind [] = Unit {0}
HandlersAt count tasks cell scope slot all behind (h ∷ rest) =
    (cell < count) × (tasks cell ≡ handler_tasks scope slot all behind h) × HandlersAt count tasks
    (suc cell) scope slot all behind rest

-- of so many cells: what is evaluated holds its types, and the handlers are there
abbrev pub IsItemHeld : ℕ → (ℕ → List Slotted) → (ℕ → List Task) → Item → Type 0
IsItemHeld count scopes tasks (item.Evaluates scope slot expr rest) =
    IsAnnotated (names (scopes scope)) expr.now
IsItemHeld count scopes tasks (item.Enters scope slot bindings body rest) =
    AreBindingsAnnotated (names (scopes scope)) bindings.now
    × IsAnnotated (with_bindings (names (scopes scope)) (bindings_of bindings.now)) body.now
IsItemHeld count scopes tasks (item.Either scope slot on_true on_false rest) =
    IsAnnotated (names (scopes scope)) on_true.now × IsAnnotated (names (scopes scope)) on_false.now
IsItemHeld count scopes tasks (item.OneOf scope slot cases rest) =
    AreCasesAnnotated (names (scopes scope)) cases.now
IsItemHeld count scopes tasks (item.Catches scope slot in_handler handlers first rest) =
    AreHandlersAnnotated (names (scopes scope)) handlers.now
    × HandlersAt count tasks first (scopes scope) slot handlers.now (tasks rest) handlers.now
IsItemHeld count scopes tasks (item.Handler scope slot handlers own first rest) =
    AreHandlersAnnotated (names (scopes scope)) handlers.now
    × HandlersAt count tasks first (scopes scope) slot handlers.now (tasks rest) handlers.now
    × IsAnnotated (with_parameters (params_view own.now.params.items)
    (names (scopes scope))) own.now.body
IsItemHeld count scopes tasks (item.Handles scope slot name_at name handler entry rest) =
    (entry < count) × (tasks entry ≡ handling (scopes scope) slot name_at name.now
    (expr_view handler.now) ++ tasks rest)
IsItemHeld count scopes tasks _ = Unit {0}

-- the slot from which on slots are free for what it evaluates, or 0
abbrev pub free_in : Item → ℕ
free_in (item.Evaluates scope slot expr rest) = slot
free_in (item.Enters scope slot bindings body rest) = slot
free_in (item.Either scope slot on_true on_false rest) = slot
free_in (item.OneOf scope slot cases rest) = slot
free_in (item.Handler scope slot handlers own first rest) = slot
free_in _ = 0

-- Each slot in use has a cell before: that which binds it or takes it.
-- What is left to do is made from its end, so the cells in which operands are used are before those that
-- evaluate them. Cells and slots are indices of vectors, so no sum passes the machine's width and nothing
-- is asked of the text's size.
pub record AreItemsSound (items : List Item) : Type 0 where
  pub below : (c : ℕ) (x : Item) → item_at items c ≡ Some x → IsBelow c x
  pub held : (c : ℕ) (x : Item)
      → item_at items c ≡ Some x
      → IsItemHeld (length items) (scope_at items) (tasks_at items) x
  pub placed : (c : ℕ) (x : Item) → item_at items c ≡ Some x → free_in x ≤ c

-- further cells
pub record ExtendsItems (old new : List Item) : Type 0 where
  pub more : List Item
  pub is : new ≡ more ++ old

-- this cell may be after a further one
pub record IsCellReady (items : List Item) (rest : ℕ) : Type 0 where
  pub sound : AreItemsSound items
  pub within : rest < length items

-- the names of this cell
pub record IsScope (items : List Item) (cell : ℕ) (scope : List Slotted) : Type 0 where
  pub within : cell < length items
  pub is : scope_at items cell ≡ scope

-- further cells, of which this one stands for these tasks, and then for those of a former one
pub record AddsCells (old new : List Item) (cell : ℕ) (tasks : List Task) (rest : ℕ) : Type 0 where
  pub extends : ExtendsItems old new
  pub sound : AreItemsSound new
  pub within : cell < length new
  pub is : tasks_at new cell ≡ tasks ++ tasks_at old rest

-- further cells, of which this one stands for these names
pub record Opens (old new : List Item) (cell : ℕ) (scope : List Slotted) : Type 0 where
  pub extends : ExtendsItems old new
  pub sound : AreItemsSound new
  pub opened : IsScope new cell scope

-- a handler of this catch
abbrev pub IsHandlerOf : ℕ → ℕ → List Handler → ℕ → ℕ → List Slotted → Item → Type 0
IsHandlerOf scope slot all first rest s (item.Handler scope' slot' handlers own first' rest') =
    (scope' ≡ scope)
    × (slot' ≡ slot)
    × (handlers.now ≡ all)
    × (first' ≡ first)
    × (rest' ≡ rest)
    × IsAnnotated (with_parameters (params_view own.now.params.items) (names s)) own.now.body
IsHandlerOf scope slot all first rest s _ = ⊥

abbrev pub Each : (Item → Type 0) → List Item → Type 0
Each P [] = Unit {0}
Each P (x ∷ xs) = P x × Each P xs

-- further cells, which are these handlers of a catch
pub record AddsHandlers (old new : List Item) (scope slot : ℕ) (all : List Handler) (first rest : ℕ)
    (s : List Slotted) (left : List Handler) : Type 0 where
  pub more : List Item
  pub is : new ≡ more ++ old
  pub each : Each (IsHandlerOf scope slot all first rest s) more
  pub row : HandlersAt (length new) (tasks_at new) (length old) s slot all (tasks_at old rest) left

-- the cell that is found, if there are such tasks
abbrev pub LeadsTo : ℕ → (ℕ → List Task) → Option ℕ → Option (List Task) → Type 0
LeadsTo count tasks None answer = answer ≡ None
LeadsTo count tasks (Some cell) answer = (cell < count) × (answer ≡ Some (tasks cell))

-- a next node that stands for these tasks
pub record GoesTo (items : List Item) (next : List ℕ) (tasks : List Task) : Type 0 where
  pub to : ℕ
  pub among : Contains next to
  pub is : tasks_at items to ≡ tasks

-- a node with this step and these next nodes goes on as tasks do
pub record GoesAs (items : List Item) (tasks : List Task) (step : Step)
    (next : List ℕ) : Type 0 where
  pub shows : (es : List Event) (left : List Task) → NextTasks tasks es left → es ≡ shown step
  pub forth : (es : List Event) (left : List Task) → NextTasks tasks es left → GoesTo items next left
  pub linked : All (λ q. q < length items) next
  pub back : (q : ℕ) → Contains next q → NextTasks tasks (shown step) (tasks_at items q)
  pub doing : (event : Event)
      → shown step ≡ event ∷ []
      → (left : List Task) × (tasks ≡ Does event ∷ left)

-- further cells, and a node for these tasks
pub record Steps (old new : List Item) (tasks : List Task) (n : node.Node) : Type 0 where
  pub extends : ExtendsItems old new
  pub sound : AreItemsSound new
  pub goes : GoesAs new tasks n.step (next_cells n.next)

-- cells for the evaluation of each of these, and then for these tasks
abbrev pub BodiesAt : List Item → List Slotted → ℕ → List Task → List ℕ → List Expression → Type 0
BodiesAt items s slot behind [] [] = Unit {0}
BodiesAt items s slot behind (q ∷ qs) (e ∷ es) =
    (q < length items)
    × (tasks_at items q ≡ Evaluates s slot e ∷ behind)
    × BodiesAt items s slot behind qs es
BodiesAt items s slot behind _ _ = ⊥

-- further cells, which are such cells, and their numbers after former ones
pub record AddsBodies (old new : List Item) (s : List Slotted) (slot : ℕ) (behind : List Task)
    (former next : List ℕ) (es : List Expression) : Type 0 where
  pub extends : ExtendsItems old new
  pub sound : AreItemsSound new
  pub more : List ℕ
  pub is : next ≡ former ++ more
  pub row : BodiesAt new s slot behind more es
