-- Where static data lies: the place of every item, the symbols, and the end.
--
-- An address is a number of bytes. Static data begins at 0x10000000 with a built-in list of 8 zero bytes, and
-- the lists of the file follow in order, each at the next multiple of 8.
use Rattle.std.specs.Prelude.{ℕ, suc, ◌+◌, ◌-◌, ◌%◌, Bool, cond, ◌&&◌, ◌==◌, nat_lt, List, [], ◌∷◌, ◌++◌, Option, Some, None, map, length, find, pos, int_lt}
use Rattle.std.specs.Option.{option_map}
use Rattle.std.specs.List.{flat_map, filter_map}
use Rattle.std.specs.Str.{bytes_eq}
use Rattle.bs_words.specs.Symbol.{caml_bound_error}
use Rattle.bs_words.specs.Fits.{data_start}
use Rattle.bs_words.specs.Word.{signed_of}
use Rattle.bs_words.specs.declared.values.Value.{Value}
use Rattle.bs_words.specs.declared.values.Value.TheVariants as value
use Rattle.cmm_tree.specs.Tree.{DatumTree, Define, Byte, Half, Int, Val, Address, Skip, Align, Text, Global, AFloat, DataItemTree, DataListTree, ItemTree, AFunction, AData, FileTree, data_lists}

-- ---- how many bytes an item has

-- from an address to the next multiple of a unit
abbrev pub to_multiple : ℕ → ℕ → ℕ
to_multiple address unit = (unit - address % unit) % unit

-- the units of an align: the powers of two from 1 to 4,096, which are the divisors of 4,096
abbrev pub is_unit : ℕ → Bool
is_unit unit = nat_lt 0 unit && (4096 % unit == 0)

abbrev pub is_negative : ℕ → Bool
is_negative word = int_lt (signed_of word) (pos 0)

-- a negative count skips nothing
abbrev pub skipped : ℕ → ℕ
skipped count = cond (is_negative count) 0 count

-- a bad unit aligns nothing
abbrev pub aligned : ℕ → ℕ → ℕ
aligned address unit = cond (is_unit unit) (to_multiple address unit) 0

-- the bytes of an item that is at an address. An integer out of range has no word: its item keeps the
-- size that it has at every word, and skips and aligns nothing. A float has no bytes: it is refused.
abbrev pub size_at : ℕ → DatumTree → ℕ
size_at address (Define name) = 0
size_at address (Byte word) = 1
size_at address (Half word) = 2
size_at address (Int word) = 8
size_at address (Val word) = 8
size_at address (Address root name_at name) = 8
size_at address (Skip (Some count)) = skipped count
size_at address (Skip None) = 0
size_at address (Align (Some unit)) = aligned address unit
size_at address (Align None) = 0
size_at address (Text bytes) = length bytes
size_at address (Global name_at name) = 0
size_at address AFloat = 0

-- ---- the place of every item

-- An item, and the address of its first byte.
pub record PlacedItem : Type 0 where
  -- the place of its first token in the text
  pub at : ℕ
  pub address : ℕ
  pub datum : DatumTree

-- items one after the other, from an address on
abbrev pub items_from : ℕ → List DataItemTree → List PlacedItem
items_from address [] = []
items_from address (i ∷ items) =
    record { at = i.at; address = address; datum = i.datum } ∷ items_from (address + size_at address i.datum) items

-- the first address past them
abbrev pub end_of_items : ℕ → List DataItemTree → ℕ
end_of_items address [] = address
end_of_items address (i ∷ items) = end_of_items (address + size_at address i.datum) items

-- A list, the address of its first byte, and the first address past its last one.
pub record PlacedList : Type 0 where
  pub start : ℕ
  pub end : ℕ
  pub items : List PlacedItem

-- a list begins at the next multiple of 8 after the end of the data before it
abbrev pub start_behind : ℕ → ℕ
start_behind end = end + to_multiple end 8

abbrev pub end_behind : ℕ → DataListTree → ℕ
end_behind end d = end_of_items (start_behind end) d.items

-- lists in order, after the end of the data before them
abbrev pub lists_behind : ℕ → List DataListTree → List PlacedList
lists_behind end [] = []
lists_behind end (d ∷ lists) =
    record { start = start_behind end; end = end_behind end d; items = items_from (start_behind end) d.items }
    ∷ lists_behind (end_behind end d) lists

-- the end of the last list: it is not rounded, and an empty list at the end moves it to a multiple of 8
abbrev pub end_of_lists : ℕ → List DataListTree → ℕ
end_of_lists end [] = end
end_of_lists end (d ∷ lists) = end_of_lists (end_behind end d) lists

-- the built-in list: 8 zero bytes and their symbol
abbrev pub built_in_list : DataListTree
built_in_list = record { at = 0; items = record { at = 0; datum = Define caml_bound_error } ∷ record { at = 0; datum = Int (Some 0) } ∷ [] }

-- all lists, the built-in one first
abbrev pub lists_of : FileTree → List DataListTree
lists_of file = built_in_list ∷ data_lists file

-- all lists at their places
abbrev pub placed_lists : FileTree → List PlacedList
placed_lists file = lists_behind data_start (lists_of file)

-- the first address past the data
abbrev pub data_end : FileTree → ℕ
data_end file = end_of_lists data_start (lists_of file)

-- the bytes of the data, from its start to its end
abbrev pub data_bytes : FileTree → ℕ
data_bytes file = data_end file - data_start

abbrev pub items_of_lists : List PlacedList → List PlacedItem
items_of_lists lists = flat_map (λ (l : PlacedList). l.items) lists

-- all items at their places, in order
abbrev pub placed_items : FileTree → List PlacedItem
placed_items file = items_of_lists (placed_lists file)

-- ---- symbols

-- A symbol of static data.
pub record DataSymbolTree : Type 0 where
  pub name : List ℕ
  pub address : ℕ

abbrev pub symbol_at : ℕ → DatumTree → Option DataSymbolTree
symbol_at address (Define name) = Some (record { name = name; address = address })
symbol_at address _ = None

abbrev pub placed_symbols : List PlacedItem → List DataSymbolTree
placed_symbols items = filter_map (λ (i : PlacedItem). symbol_at i.address i.datum) items

-- the symbols of static data in the order of their places, that of the built-in list first
abbrev pub symbols_of : FileTree → List DataSymbolTree
symbols_of file = placed_symbols (placed_items file)

-- What a name defines: a function, by its number among the file's functions, or an address of static data.
pub record DefinedValue : Type 0 where
  pub name : List ℕ
  pub value : Value

abbrev pub definition_of_data : DataSymbolTree → DefinedValue
definition_of_data s = record { name = s.name; value = value.Word s.address }

-- what items define that are from an address on
abbrev pub defined_at : ℕ → List DataItemTree → List DefinedValue
defined_at address items = map definition_of_data (placed_symbols (items_from address items))

-- what a list after this end of the data defines
abbrev pub defined_by_list : ℕ → DataListTree → List DefinedValue
defined_by_list end d = defined_at (start_behind end) d.items

-- what items of a file define, after so many functions and after the end of the data before them
abbrev pub defined_from : ℕ → ℕ → List ItemTree → List DefinedValue
defined_from functions end [] = []
defined_from functions end (AFunction f ∷ items) =
    record { name = f.name; value = value.Function functions } ∷ defined_from (suc functions) end items
defined_from functions end (AData d ∷ items) =
    defined_by_list end d ++ defined_from functions (end_behind end d) items

-- what a file defines, in the order of its text, the built-in list first
abbrev pub definitions : FileTree → List DefinedValue
definitions file = defined_by_list data_start built_in_list ++ defined_from 0 (end_behind data_start built_in_list) file.items

-- the value of the first definition of a name
abbrev pub value_among : List DefinedValue → List ℕ → Option Value
value_among ds name = option_map (λ (d : DefinedValue). d.value) (find (λ (d : DefinedValue). bytes_eq d.name name) ds)

-- what a symbol stands for: a function or an address of static data. Of a symbol that is defined twice the
-- first definition in the text counts.
abbrev pub value_of_symbol : FileTree → List ℕ → Option Value
value_of_symbol file name = value_among (definitions file) name
