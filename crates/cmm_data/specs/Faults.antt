-- What is wrong with static data: it is too large, or an item breaks its rule.
--
-- A float item has no bytes and no fault here. Its own fault is reported in a later group, so this shows
-- nowhere else.
use Rattle.std.specs.Prelude.{◌≡◌, ℕ, ◌+◌, ◌%◌, Bool, true, cond, ◌&&◌, not, ◌==◌, nat_lt, nat_le, List, [], ◌∷◌, Option, Some, None, pos, negsuc, int_le, ℤ}
use Rattle.bs_words.specs.Fits.{data_start, data_limit}
use Rattle.bs_words.specs.Word.{signed_of}
use Rattle.bs_fault.specs.declared.fault.Fault.{Fault}
use Rattle.bs_fault.specs.declared.fault.Fault.TheVariants.{DataTooLarge, DataItem}
use Rattle.bs_fault.specs.Order.{fault_place}
use Rattle.cmm_tree.specs.Tree.{DatumTree, Byte, Half, Val, Address, Skip, Align, FileTree}
use Rattle.cmm_data.specs.Placement.{PlacedItem, placed_items, size_at, is_unit, is_negative}

-- whether the data passes its limit with this item: it does not pass it before the item, and does after it
abbrev pub passes_limit : PlacedItem → Bool
passes_limit i =
    nat_le i.address (data_start + data_limit) && nat_lt (data_start + data_limit) (i.address + size_at i.address i.datum)

-- whether a word, read as signed, lies in these bounds
abbrev pub is_within_bounds : ℤ → ℤ → ℕ → Bool
is_within_bounds low high word = int_le low (signed_of word) && int_le (signed_of word) high

-- the rule of an item at its address. An integer out of range has no word, and breaks no rule.
abbrev pub keeps_rule : ℕ → DatumTree → Bool
keeps_rule address (Byte (Some word)) = is_within_bounds (negsuc 127) (pos 255) word
keeps_rule address (Half (Some word)) = is_within_bounds (negsuc 32767) (pos 65535) word
keeps_rule address (Val (Some word)) = (address % 8 == 0) && (word % 2 == 1)
keeps_rule address (Address root name_at name) = address % 8 == 0
keeps_rule address (Skip (Some count)) = not (is_negative count)
keeps_rule address (Align (Some unit)) = is_unit unit
keeps_rule address _ = true

-- the fault that is on an item, if one is: where both are, the data is reported as too large
abbrev pub fault_on : PlacedItem → Option Fault
fault_on i =
    cond (passes_limit i) (Some (DataTooLarge i.at)) (cond (keeps_rule i.address i.datum) None (Some (DataItem i.at)))

abbrev pub or_later : Option Fault → Option Fault → Option Fault
or_later None later = later
or_later (Some fault) later = Some fault

abbrev pub first_fault : List PlacedItem → Option Fault
first_fault [] = None
first_fault (i ∷ items) = or_later (fault_on i) (first_fault items)

-- the fault on the first item that has one, in the order of the text
abbrev pub data_fault_of : FileTree → Option Fault
data_fault_of file = first_fault (placed_items file)

-- the leftmost fault of the data of a file, and its place in the text
pub record DataFault (file : FileTree) (at : ℕ) (fault : Fault) : Type 0 where
  pub told : data_fault_of file ≡ Some fault
  pub place : fault_place fault ≡ at
