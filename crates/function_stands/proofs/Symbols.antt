-- What symbols stand for: functions of the file, and addresses of its static data.
use Rattle.std.proofs.Common.{◌≡◌, ℕ, suc, ◌+◌, ◌<◌, ◌≤◌, List, [], ◌∷◌, ◌++◌, length, map, Some, None, sym, subst, arith}
use Rattle.std.specs.Option.{option_to_list}
use Rattle.std.specs.List.{AllByRecursion}
use Rattle.bs_words.specs.Fits.{data_limit, data_start}
use Rattle.bs_words.specs.declared.values.Value.{Value}
use Rattle.bs_words.specs.declared.values.Value.TheVariants.{Word, Function}
use Rattle.cmm_data.specs.Faults.{data_fault_of, first_fault}
use Rattle.cmm_data.specs.Placement.{DefinedValue, built_in_list, defined_at, defined_by_list, defined_from, definition_of_data, definitions, end_behind, items_from, items_of_lists, lists_behind, size_at, start_behind, symbol_at, value_of_symbol}
use Rattle.cmm_data.proofs.Steps.{end-within}
use Rattle.cmm_data.proofs.Table.{defined_at-next, value_among-from}
use Rattle.cmm_data.proofs.Walk.{sound-first, sound-list, start-within}
use Rattle.cmm_tree.specs.Tree.{AData, AFunction, Address, AFloat, Align, Byte, DataItemTree, DataListTree, DatumTree, Define, FileTree, Global, Half, Int, ItemTree, Skip, Text, Val, data_among, functions, functions_among}

-- a function below this number, or an address of the data
pub data IsInFile (count : ℕ) : Value → Type 0 where
  of_function : {f : ℕ} → f < count → IsInFile count (Function f)
  of_data : {a : ℕ} → a ≤ data_start + data_limit → IsInFile count (Word a)

abbrev AllPlaced : ℕ → List DefinedValue → Type 0
AllPlaced count ds = AllByRecursion (λ (d : DefinedValue). IsInFile count d.value) ds

both_placed : (count : ℕ) (ds es : List DefinedValue) → AllPlaced count ds → AllPlaced count es → AllPlaced count (ds ++ es)
both_placed count [] es all more = more
both_placed count (d ∷ ds) es all more = (all.0, both_placed count ds es all.1 more)

-- ---- of the data

item_placed : (count address : ℕ) (datum : DatumTree) → address ≤ data_start + data_limit →
    AllPlaced count (map definition_of_data (option_to_list (symbol_at address datum)))
item_placed count address (Define name) h = (of_data h, tt)
item_placed count address (Byte word) h = tt
item_placed count address (Half word) h = tt
item_placed count address (Int word) h = tt
item_placed count address (Val word) h = tt
item_placed count address (Address root at name) h = tt
item_placed count address (Skip n) h = tt
item_placed count address (Align n) h = tt
item_placed count address (Text bytes) h = tt
item_placed count address (Global at name) h = tt
item_placed count address AFloat h = tt

items_placed : (count address : ℕ) (items : List DataItemTree) → address ≤ data_start + data_limit → first_fault (items_from address items) ≡ None →
    AllPlaced count (defined_at address items)
items_placed count address [] h none = tt
items_placed count address (i ∷ items) h none =
    let sound = sound-first address i items h none in
    let next : ℕ = address + size_at address i.datum in
    subst (AllPlaced count) (sym (defined_at-next address i items))
    (both_placed count (map definition_of_data (option_to_list (symbol_at address i.datum))) (defined_at next items)
    (item_placed count address i.datum h) (items_placed count next items sound.within sound.behind))

list_placed : (count end : ℕ) (d : DataListTree) → end ≤ data_start + data_limit → first_fault (items_from (start_behind end) d.items) ≡ None →
    AllPlaced count (defined_by_list end d)
list_placed count end d h none = items_placed count (start_behind end) d.items (start-within end h) none

list_within : (end : ℕ) (d : DataListTree) → end ≤ data_start + data_limit → first_fault (items_from (start_behind end) d.items) ≡ None →
    end_behind end d ≤ data_start + data_limit
list_within end d h none = (end-within (start_behind end) d.items (start-within end h) none).1

-- ---- of the file

from_placed : (count before end : ℕ) (items : List ItemTree) → end ≤ data_start + data_limit → before + length (functions_among items) ≤ count →
    first_fault (items_of_lists (lists_behind end (data_among items))) ≡ None → AllPlaced count (defined_from before end items)
from_placed count before end [] h few none = tt
from_placed count before end (AFunction f ∷ items) h few none =
    (of_function (omega (arith, few)), from_placed count (suc before) end items h (omega (arith, few)) none)
from_placed count before end (AData d ∷ items) h few none =
    let sound = sound-list end d (data_among items) none in
    both_placed count (defined_by_list end d) (defined_from before (end_behind end d) items) (list_placed count end d h sound.0)
    (from_placed count before (end_behind end d) items (list_within end d h sound.0) few sound.1)

file_placed : (file : FileTree) → data_fault_of file ≡ None → AllPlaced (length (functions file)) (definitions file)
file_placed file none =
    let sound = sound-list data_start built_in_list (data_among file.items) none in
    let within : data_start ≤ data_start + data_limit = omega arith in
    both_placed (length (functions file)) (defined_by_list data_start built_in_list) (defined_from 0 (end_behind data_start built_in_list) file.items)
    (list_placed (length (functions file)) data_start built_in_list within sound.0)
    (from_placed (length (functions file)) 0 (end_behind data_start built_in_list) file.items (list_within data_start built_in_list within sound.0) (omega arith) sound.1)

-- what a symbol of the file stands for
pub symbol_placed : (file : FileTree) (name : List ℕ) (v : Value) → data_fault_of file ≡ None → value_of_symbol file name ≡ Some v →
    IsInFile (length (functions file)) v
symbol_placed file name v none e =
    value_among-from (IsInFile (length (functions file))) (definitions file) name v (file_placed file none) e
