-- The symbols of a file without a fault in its static data are words and functions: data lies below a limit.
use Rattle.std.proofs.Common.{◌≡◌, ℕ, suc, ◌+◌, ◌≤◌, ◌<◌, ◌^◌, List, [], ◌∷◌, ◌++◌, map, Option, Some, None, subst, arith}
use Rattle.std.specs.List.{AllByRecursion}
use Rattle.bs_words.specs.Fits.{data_limit, data_start}
use Rattle.bs_words.specs.declared.values.Value.{Value}
use Rattle.cmm_tree.specs.Tree.{DatumTree, Define, DataItemTree, ItemTree, AFunction, AData, FileTree, data_among, data_lists}
use Rattle.cmm_data.specs.Placement.{PlacedItem, DefinedValue, definition_of_data, placed_symbols, size_at, items_from, start_behind, end_behind, lists_behind, items_of_lists, built_in_list, defined_at, defined_by_list, defined_from, definitions, value_of_symbol}
use Rattle.cmm_data.specs.Faults.{first_fault, data_fault_of}
use Rattle.cmm_data.proofs.Walk.{sound-first, sound-list, start-within}
use Rattle.cmm_data.proofs.Steps.{end-within}
use Rattle.cmm_data.proofs.Table.{value_among-from}
use Rattle.cmm_meaning.specs.Setting.{Setting}
use Rattle.cmm_front.specs.FileOf.{IsFileOf}
use Rattle.cmm_front.proofs.Readings.{is_placed}
use Rattle.selection_rules.specs.Bounded.{Bounded, BoundedSymbols}

abbrev AllDefined : List DefinedValue → Type 0
AllDefined ds = AllByRecursion (λ (d : DefinedValue). Bounded d.value) ds

both_defined : (xs ys : List DefinedValue) → AllDefined xs → AllDefined ys → AllDefined (xs ++ ys)
both_defined [] ys p q = q
both_defined (x ∷ xs) ys p q = (p.0, both_defined xs ys p.1 q)

one_defined : (at address : ℕ) (d : DatumTree) (more : List PlacedItem) → address < 2 ^ 64 → AllDefined (map definition_of_data (placed_symbols more)) →
    AllDefined (map definition_of_data (placed_symbols (record { at = at; address = address; datum = d } ∷ more)))
one_defined at address (Define name) more less p = (less, p)
one_defined at address d more less p = p

items_defined : (address : ℕ) (items : List DataItemTree) → address ≤ data_start + data_limit → first_fault (items_from address items) ≡ None → AllDefined (defined_at address items)
items_defined address [] within none = tt
items_defined address (i ∷ items) within none =
    let sound = sound-first address i items within none in
    one_defined i.at address i.datum (items_from (address + size_at address i.datum) items) (omega (arith, within)) (items_defined (address + size_at address i.datum) items sound.within sound.behind)

file_defined : (n end : ℕ) (items : List ItemTree) → end ≤ data_start + data_limit → first_fault (items_of_lists (lists_behind end (data_among items))) ≡ None → AllDefined (defined_from n end items)
file_defined n end [] within none = tt
file_defined n end (AFunction f ∷ items) within none = (tt, file_defined (suc n) end items within none)
file_defined n end (AData d ∷ items) within none =
    let sound = sound-list end d (data_among items) none in
    let start = start-within end within in
    let behind = end-within (start_behind end) d.items start sound.0 in
    both_defined (defined_by_list end d) (defined_from n (end_behind end d) items) (items_defined (start_behind end) d.items start sound.0) (file_defined n (end_behind end d) items behind.1 sound.1)

all_defined : (file : FileTree) → data_fault_of file ≡ None → AllDefined (definitions file)
all_defined file none =
    let sound = sound-list data_start built_in_list (data_lists file) none in
    let first : data_start ≤ data_start + data_limit = omega arith in
    let start = start-within data_start first in
    let behind = end-within (start_behind data_start) built_in_list.items start sound.0 in
    both_defined (defined_by_list data_start built_in_list) (defined_from 0 (end_behind data_start built_in_list) file.items)
    (items_defined (start_behind data_start) built_in_list.items start sound.0) (file_defined 0 (end_behind data_start built_in_list) file.items behind.1 sound.1)

-- What each symbol of a file stands for is a word or a function, where its static data has a place.
pub symbols_bounded : (file : FileTree) → data_fault_of file ≡ None → (c : Setting) → c.symbol ≡ value_of_symbol file → BoundedSymbols c
symbols_bounded file none c same =
    record { each = λ name v e. value_among-from Bounded (definitions file) name v (all_defined file none) (subst (λ (f : List ℕ → Option Value). f name ≡ Some v) same e) }

-- ---- a file that the front accepts

pub front_symbols : (text : List ℕ) (file : FileTree) → IsFileOf text file → (c : Setting) → c.symbol ≡ value_of_symbol file → BoundedSymbols c
front_symbols text file is c same = symbols_bounded file (is_placed text file is.read) c same
