-- Static data that lies so many bytes further on, and what makes a unit's data begin where that can
-- be.
use Rattle.std.specs.Prelude.{ℕ, ◌+◌, List, [], ◌∷◌, Some}
use Rattle.cmm_data.specs.Placement.{PlacedItem, PlacedList}
use Rattle.cmm_tree.specs.Tree.{DataListTree, Align}

abbrev pub item_further_on : ℕ → PlacedItem → PlacedItem
item_further_on d i = record { at = i.at; address = i.address + d; datum = i.datum }

abbrev pub items_further_on : ℕ → List PlacedItem → List PlacedItem
items_further_on d [] = []
items_further_on d (i ∷ is) = item_further_on d i ∷ items_further_on d is

abbrev pub list_further_on : ℕ → PlacedList → PlacedList
list_further_on d l =
    record { start = l.start + d; end = l.end + d; items = items_further_on d l.items }

abbrev pub lists_further_on : ℕ → List PlacedList → List PlacedList
lists_further_on d [] = []
lists_further_on d (l ∷ ls) = list_further_on d l ∷ lists_further_on d ls

-- the list `(align 4096)`, which stands before the lists of a unit: it and its one item are written
-- at these places of a text
abbrev pub align_list : (at item_at : ℕ) → DataListTree
align_list at item_at =
    record { at = at; items = record { at = item_at; datum = Align (Some 4096) } ∷ [] }
