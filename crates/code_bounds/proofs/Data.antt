-- The data of a file, its symbols and its root cells fit their sections.
use Rattle.std.proofs.Common.{◌≡◌, ℕ, ◌+◌, ◌-◌, ◌*◌, ◌≤◌, Bool, true, false, cond, ◌&&◌, nat_lt, nat_le, List, [], ◌∷◌, ◌++◌, length, map, flat_map, Option, Some, None, refl, sym, ap, ◌∙◌, length-append, le-leb, arith}
use Rattle.std.specs.List.{AllByRecursion, cons_option}
use Rattle.std.proofs.lemmas.Bool.{ltb-false}
use Rattle.std.proofs.lemmas.List.{length-map}
use Rattle.std.proofs.lemmas.List.Elements.{filter_map-append}
use Rattle.bs_fault.specs.declared.fault.Fault.{Fault}
use Rattle.bs_fault.specs.declared.fault.Fault.TheVariants.{DataTooLarge, DataItem}
use Rattle.bs_words.specs.Fits.{data_limit, data_start}
use Rattle.bs_words.specs.Symbol.{IsSymbol}
use Rattle.cmm_data.specs.Contents.{root_cells}
use Rattle.cmm_data.specs.Faults.{passes_limit, keeps_rule, fault_on, or_later, first_fault, data_fault_of}
use Rattle.cmm_data.specs.Placement.{DataSymbolTree, PlacedItem, size_at, items_from, end_of_items, start_behind, end_behind, end_of_lists, lists_behind, lists_of, built_in_list, items_of_lists, symbol_at, placed_symbols, symbols_of, data_end, data_bytes}
use Rattle.cmm_tree.specs.Tree.{DatumTree, Define, Byte, Half, Int, Val, Address, Skip, Align, Text, Global, AFloat, DataItemTree, DataListTree, FileTree, ItemTree, AFunction, AData, data_among}
use Rattle.image_form.specs.Image.{le32, sym_bytes, table_bytes, table_limit}
use Rattle.image_form.proofs.Lengths.{length-words}
use Rattle.assemble_rules.proofs.Placed.{roots_in_data, cells_few}
use Rattle.rv_layout_rules.specs.Laid.{sym_of}
use Rattle.text_sizes.specs.Measures.{datum_bytes, list_bytes, items_bytes}
use Rattle.code_bounds.proofs.Bodies.{sym_length, table_length}

-- ---- the end of the data

-- no fault of two is none of each
first_none : (o later : Option Fault) → or_later o later ≡ None → o ≡ None
first_none None later e = refl
first_none (Some f) later e = cc

later_none : (o later : Option Fault) → or_later o later ≡ None → later ≡ None
later_none None later e = e
later_none (Some f) later e = cc

none_first : (xs ys : List PlacedItem) → first_fault (xs ++ ys) ≡ None → first_fault xs ≡ None
none_first [] ys e = refl
none_first (x ∷ xs) ys e =
    let own = first_none (fault_on x) (first_fault (xs ++ ys)) e in
    let others = none_first xs ys (later_none (fault_on x) (first_fault (xs ++ ys)) e) in
    both own others
  where
    both : {o later : Option Fault} → o ≡ None → later ≡ None → or_later o later ≡ None
    both e f = cc

none_second : (xs ys : List PlacedItem) → first_fault (xs ++ ys) ≡ None → first_fault ys ≡ None
none_second [] ys e = e
none_second (x ∷ xs) ys e = none_second xs ys (later_none (fault_on x) (first_fault (xs ++ ys)) e)

-- the first address past the most data
abbrev limit : ℕ
limit = data_start + data_limit

ends_low : (i : PlacedItem) → i.address ≤ limit → fault_on i ≡ None → i.address + size_at i.address i.datum ≤ limit
ends_low i low none = within (nat_lt limit (i.address + size_at i.address i.datum)) refl (passes (passes_limit i) refl none)
  where
    passes : (b : Bool) → passes_limit i ≡ b → cond b (Some (DataTooLarge i.at)) (cond (keeps_rule i.address i.datum) None (Some (DataItem i.at))) ≡ None →
        passes_limit i ≡ false
    passes true e f = cc
    passes false e f = e

    within : (b : Bool) → nat_lt limit (i.address + size_at i.address i.datum) ≡ b → passes_limit i ≡ false → i.address + size_at i.address i.datum ≤ limit
    within true e f =
        let here : nat_le i.address limit ≡ true = le-leb i.address limit low in
        let both : passes_limit i ≡ true = ap (λ a. a && nat_lt limit (i.address + size_at i.address i.datum)) here ∙ e in
        let clash : true ≡ false = sym both ∙ f in
        cc
    within false e f = ltb-false limit (i.address + size_at i.address i.datum) e

items_low : (address : ℕ) (items : List DataItemTree) → address ≤ limit → first_fault (items_from address items) ≡ None → end_of_items address items ≤ limit
items_low address [] low none = low
items_low address (i ∷ items) low none =
    let placed : PlacedItem = record { at = i.at; address = address; datum = i.datum } in
    let next = address + size_at address i.datum in
    let own = first_none (fault_on placed) (first_fault (items_from next items)) none in
    let others = later_none (fault_on placed) (first_fault (items_from next items)) none in
    items_low next items (ends_low placed low own) others

lists_low : (end : ℕ) (lists : List DataListTree) → end ≤ limit → first_fault (items_of_lists (lists_behind end lists)) ≡ None → end_of_lists end lists ≤ limit
lists_low end [] low none = low
lists_low end (d ∷ lists) low none =
    let own = items_from (start_behind end) d.items in
    let rest = items_of_lists (lists_behind (end_behind end d) lists) in
    let start : start_behind end ≤ limit = omega (arith, low) in
    lists_low (end_behind end d) lists (items_low (start_behind end) d.items start (none_first own rest none)) (none_second own rest none)

pub data_short : (file : FileTree) → data_fault_of file ≡ None → data_bytes file ≤ 16777216
data_short file none =
    let low = lists_low data_start (lists_of file) (omega arith) none in
    omega (arith, low)

-- ---- symbols

abbrev names_bytes : List DataSymbolTree → ℕ
names_bytes [] = 0
names_bytes (s ∷ ss) = 1 + length s.name + names_bytes ss

names_append : (xs ys : List DataSymbolTree) → names_bytes (xs ++ ys) ≡ names_bytes xs + names_bytes ys
names_append [] ys = omega arith
names_append (x ∷ xs) ys = let others = names_append xs ys in omega (arith, others)

symbol_same : (address : ℕ) (d : DatumTree) (rest : List DataSymbolTree) → names_bytes (cons_option (symbol_at address d) rest) ≡ datum_bytes d + names_bytes rest
symbol_same address (Define name) rest = omega arith
symbol_same address (Byte word) rest = omega arith
symbol_same address (Half word) rest = omega arith
symbol_same address (Int word) rest = omega arith
symbol_same address (Val word) rest = omega arith
symbol_same address (Address root name_at name) rest = omega arith
symbol_same address (Skip count) rest = omega arith
symbol_same address (Align unit) rest = omega arith
symbol_same address (Text bytes) rest = omega arith
symbol_same address (Global name_at name) rest = omega arith
symbol_same address AFloat rest = omega arith

list_same : (address : ℕ) (items : List DataItemTree) → names_bytes (placed_symbols (items_from address items)) ≡ list_bytes items
list_same address [] = refl
list_same address (i ∷ items) =
    let next = address + size_at address i.datum in
    let here = symbol_same address i.datum (placed_symbols (items_from next items)) in
    let others = list_same next items in
    omega (arith, here, others)

abbrev lists_bytes : List DataListTree → ℕ
lists_bytes [] = 0
lists_bytes (d ∷ lists) = list_bytes d.items + lists_bytes lists

lists_same : (end : ℕ) (lists : List DataListTree) → names_bytes (placed_symbols (items_of_lists (lists_behind end lists))) ≡ lists_bytes lists
lists_same end [] = refl
lists_same end (d ∷ lists) =
    let own = items_from (start_behind end) d.items in
    let rest = items_of_lists (lists_behind (end_behind end d) lists) in
    let split = ap names_bytes (filter_map-append (λ (i : PlacedItem). symbol_at i.address i.datum) own rest) in
    let both = names_append (placed_symbols own) (placed_symbols rest) in
    let here = list_same (start_behind end) d.items in
    let others = lists_same (end_behind end d) lists in
    omega (arith, split, both, here, others)

lists_few : (items : List ItemTree) → lists_bytes (data_among items) ≤ items_bytes items
lists_few [] = omega arith
lists_few (AFunction f ∷ items) = let others = lists_few items in omega (arith, others)
lists_few (AData d ∷ items) = let others = lists_few items in omega (arith, others)

syms_few : (ss : List DataSymbolTree) → AllByRecursion (λ (s : DataSymbolTree). IsSymbol s.name) ss →
    2 * length (flat_map sym_bytes (map sym_of ss)) ≤ 7 * names_bytes ss
syms_few [] named = omega arith
syms_few (s ∷ ss) named =
    let some : 1 ≤ length s.name = named.0.0 in
    let others = syms_few ss named.1 in
    let own = sym_length (sym_of s) in
    omega (arith, some, others, own, length-append (sym_bytes (sym_of s)) (flat_map sym_bytes (map sym_of ss)))

pub syms_short : (file : FileTree) → AllByRecursion (λ (s : DataSymbolTree). IsSymbol s.name) (symbols_of file) → items_bytes file.items ≤ 16777216 →
    length (table_bytes sym_bytes (map sym_of (symbols_of file))) ≤ table_limit
syms_short file named short =
    let table = table_length sym_bytes (map sym_of (symbols_of file)) in
    let rows = syms_few (symbols_of file) named in
    let names = lists_same data_start (lists_of file) in
    let lists = lists_few file.items in
    let first : list_bytes built_in_list.items ≡ 17 = refl in
    omega (arith, table, rows, names, lists, first, short)

-- ---- root cells

pub roots_short : (file : FileTree) → data_bytes file ≤ 16777216 → length (table_bytes le32 (map (λ address. address - data_start) (root_cells file))) ≤ table_limit
roots_short file short =
    let table = table_length le32 (map (λ address. address - data_start) (root_cells file)) in
    let words = length-words (map (λ address. address - data_start) (root_cells file)) in
    let same = length-map (root_cells file) (λ address. address - data_start) in
    let few = cells_few data_start (data_end file) (root_cells file) (roots_in_data file) in
    omega (arith, table, words, same, few, short)
