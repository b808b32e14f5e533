-- What the symbols of a file stand for: its functions, and addresses of its data.
use Rattle.std.proofs.Common.{◌≡◌, ℕ, suc, ◌+◌, ◌<◌, ◌≤◌, List, [], ◌∷◌, length, map, Some, refl, arith}
use Rattle.std.specs.List.{AllByRecursion}
use Rattle.bs_words.specs.Fits.{data_start}
use Rattle.bs_words.specs.declared.values.Value.{Value}
use Rattle.bs_words.specs.declared.values.Value.TheVariants.{Word, Block, Function}
use Rattle.cmm_data.specs.Placement.{PlacedItem, DefinedValue, definition_of_data, placed_symbols, size_at, items_from, end_of_items, start_behind, end_behind, end_of_lists, built_in_list, defined_at, defined_by_list, defined_from, definitions, value_of_symbol, data_end}
use Rattle.cmm_data.proofs.Laws.{end_of_items-above}
use Rattle.cmm_data.proofs.Table.{value_among-from}
use Rattle.cmm_tree.specs.Tree.{DatumTree, Define, DataItemTree, ItemTree, AFunction, AData, FileTree, functions, functions_among, data_among, data_lists}
use Rattle.assemble_rules.proofs.Placed.{end_of_lists-above}
use Rattle.rv_layout_rules.proofs.Rules.{all_append}

-- a function of so many, or an address of data that ends here
abbrev pub IsOfFile : ℕ → ℕ → Value → Type 0
IsOfFile count end (Word address) = (data_start ≤ address) × (address ≤ end)
IsOfFile count end (Function f) = f < count
IsOfFile count end (Block serial offset) = ⊥

abbrev AreOfFile : ℕ → ℕ → List DefinedValue → Type 0
AreOfFile count end ds = AllByRecursion (λ (d : DefinedValue). IsOfFile count end d.value) ds

one_of_file : (count high at address : ℕ) (d : DatumTree) (more : List PlacedItem) → data_start ≤ address → address ≤ high →
    AreOfFile count high (map definition_of_data (placed_symbols more)) →
    AreOfFile count high (map definition_of_data (placed_symbols (record { at = at; address = address; datum = d } ∷ more)))
one_of_file count high at address (Define name) more low less p = ((low, less), p)
one_of_file count high at address d more low less p = p

items_of_file : (count high address : ℕ) (items : List DataItemTree) → data_start ≤ address → end_of_items address items ≤ high →
    AreOfFile count high (defined_at address items)
items_of_file count high address [] low less = tt
items_of_file count high address (i ∷ items) low less =
    let next = address + size_at address i.datum in
    one_of_file count high i.at address i.datum (items_from next items) low (omega (arith, less, end_of_items-above next items))
    (items_of_file count high next items (omega (arith, low)) less)

all_of_file : (count high n end : ℕ) (items : List ItemTree) → n + length (functions_among items) ≤ count → data_start ≤ end → end_of_lists end (data_among items) ≤ high →
    AreOfFile count high (defined_from n end items)
all_of_file count high n end [] few low less = tt
all_of_file count high n end (AFunction f ∷ items) few low less = (omega (arith, few), all_of_file count high (suc n) end items (omega (arith, few)) low less)
all_of_file count high n end (AData d ∷ items) few low less =
    let next = end_behind end d in
    let start : data_start ≤ start_behind end = omega (arith, low) in
    let rises = end_of_items-above (start_behind end) d.items in
    all_append (λ (d : DefinedValue). IsOfFile count high d.value) (defined_by_list end d) (defined_from n next items)
    (items_of_file count high (start_behind end) d.items start (omega (arith, less, end_of_lists-above next (data_among items))))
    (all_of_file count high n next items few (omega (arith, start, rises)) less)

pub symbol_of_file : (file : FileTree) (name : List ℕ) (v : Value) → value_of_symbol file name ≡ Some v → IsOfFile (length (functions file)) (data_end file) v
symbol_of_file file name v e =
    let count = length (functions file) in
    let high = data_end file in
    let next = end_behind data_start built_in_list in
    let first : next ≡ data_start + 8 = refl in
    let above = end_of_lists-above next (data_lists file) in
    value_among-from (IsOfFile count high) (definitions file) name v
    (all_append (λ (d : DefinedValue). IsOfFile count high d.value) (defined_by_list data_start built_in_list) (defined_from 0 next file.items)
    (items_of_file count high data_start built_in_list.items (omega arith) (omega (arith, above)))
    (all_of_file count high 0 next file.items (omega arith) (omega (arith, first)) (omega arith)))
    e
