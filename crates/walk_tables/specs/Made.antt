-- The table that is made of cells.
use Rattle.std.specs.Prelude.{◌≡◌, ℕ, ◌<◌, ◌≤◌, List, length, Some, slice_get}
use Rattle.walk_tables.specs.Cells.{tasks_at}
use Rattle.walk_tables.specs.Sound.{AreItemsSound, ExtendsItems, GoesAs}
use Rattle.walk_tables.specs.Table.{next_cells}
use Rattle.walk_tables.specs.Walks.{Task}
use Rattle.walk_tables.specs.declared.items.Item.{Item}
use Rattle.walk_tables.specs.declared.node.Node as node

-- this cell stands for these tasks
pub record StandsForTasks (items : List Item) (cell : ℕ) (tasks : List Task) : Type 0 where
  pub sound : AreItemsSound items
  pub within : cell < length items
  pub is : tasks_at items cell ≡ tasks

-- of so many cells each has its node
pub record Filled (old items : List Item) (nodes : List node.Node) (done : ℕ) : Type 0 where
  pub extends : ExtendsItems old items
  pub sound : AreItemsSound items
  pub count : length nodes ≡ done
  pub within : done ≤ length items
  pub goes : (c : ℕ) (n : node.Node)
      → slice_get nodes c ≡ Some n
      → GoesAs items (tasks_at items c) n.step (next_cells n.next)
