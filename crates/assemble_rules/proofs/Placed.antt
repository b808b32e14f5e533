-- Where static data lies: its cells hold all its bytes, its symbols and its root cells lie in it and in
-- their order.
use Rattle.std.proofs.Common.{◌≡◌, ℕ, ◌+◌, ◌*◌, ◌<◌, ◌≤◌, true, false, List, [], ◌∷◌, ◌++◌, length, map, refl, sym, subst, length-append, arith}
use Rattle.std.specs.Prelude.{Option}
use Rattle.std.specs.List.{flat_map, cons_option}
use Rattle.std.proofs.lemmas.Grind.{flat_map-append}
use Rattle.std.proofs.lemmas.List.Elements.{filter_map-append}
use Rattle.bs_words.specs.Fits.{data_start}
use Rattle.bs_words.specs.Memory.{StaticList}
use Rattle.bs_words.specs.declared.values.Value.{Value}
use Rattle.cmm_tree.specs.Tree.{DatumTree, Define, Byte, Half, Int, Val, Address, Skip, Align, Text, Global, AFloat, DataItemTree, DataListTree, FileTree, data_lists}
use Rattle.cmm_data.specs.Contents.{DataByte, bytes_at, bytes_of_items, cells_of, root_of_item, roots_among, root_cells, static_list, statics}
use Rattle.cmm_data.specs.Placement.{DataSymbolTree, PlacedItem, size_at, items_from, end_of_items, start_behind, end_behind, end_of_lists, lists_behind, lists_of, built_in_list, items_of_lists, symbol_at, placed_symbols, symbols_of, value_of_symbol, data_end, data_bytes}
use Rattle.cmm_data.proofs.Laws.{end_of_items-above}
use Rattle.cmm_data.proofs.Steps.{length-bytes_at}

pub end_of_lists-above : (end : ℕ) (lists : List DataListTree) → end ≤ end_of_lists end lists
end_of_lists-above end [] = omega arith
end_of_lists-above end (d ∷ lists) =
    omega (arith, end_of_items-above (start_behind end) d.items, end_of_lists-above (end_behind end d) lists)

-- ---- the bytes of cells

-- The cells of bytes, eight each, hold them all, and no cell more.
pub record AreEnough (bytes cells : ℕ) : Type 0 where
  pub all : bytes ≤ 8 * cells
  pub no_more : 8 * cells < bytes + 8

pub cells_enough : (bs : List DataByte) → AreEnough (length bs) (length (cells_of bs))
cells_enough [] = record { all = omega arith; no_more = omega arith }
cells_enough (a ∷ []) = record { all = omega arith; no_more = omega arith }
cells_enough (a ∷ b ∷ []) = record { all = omega arith; no_more = omega arith }
cells_enough (a ∷ b ∷ c ∷ []) = record { all = omega arith; no_more = omega arith }
cells_enough (a ∷ b ∷ c ∷ d ∷ []) = record { all = omega arith; no_more = omega arith }
cells_enough (a ∷ b ∷ c ∷ d ∷ e ∷ []) = record { all = omega arith; no_more = omega arith }
cells_enough (a ∷ b ∷ c ∷ d ∷ e ∷ f ∷ []) = record { all = omega arith; no_more = omega arith }
cells_enough (a ∷ b ∷ c ∷ d ∷ e ∷ f ∷ g ∷ []) = record { all = omega arith; no_more = omega arith }
cells_enough (a ∷ b ∷ c ∷ d ∷ e ∷ f ∷ g ∷ h ∷ rest) =
    let more = cells_enough rest in
    record { all = omega (arith, more.all); no_more = omega (arith, more.no_more) }

pub items_length : (symbols : List ℕ → Option Value) (address : ℕ) (items : List DataItemTree) →
    address + length (bytes_of_items symbols (items_from address items)) ≡ end_of_items address items
items_length symbols address [] = omega arith
items_length symbols address (i ∷ items) =
    let own = bytes_at symbols address i.datum in
    let next = address + size_at address i.datum in
    omega (arith, length-append own (bytes_of_items symbols (items_from next items)), length-bytes_at symbols address i.datum, items_length symbols next items)

-- the bytes of all cells, where each gives eight
cells_length : {A : Type 0} (g : A → List ℕ) (vs : List A) → ((v : A) → length (g v) ≡ 8) → length (flat_map g vs) ≡ 8 * length vs
cells_length g [] eight = refl
cells_length g (v ∷ vs) eight = omega (arith, length-append (g v) (flat_map g vs), eight v, cells_length g vs eight)

lists_length : (symbols : List ℕ → Option Value) (g : Value → List ℕ) → ((v : Value) → length (g v) ≡ 8) → (end : ℕ) (lists : List DataListTree) →
    end_of_lists end lists ≤ start_behind end + length (flat_map (λ (l : StaticList). flat_map g l.cells) (map (static_list symbols) (lists_behind end lists)))
lists_length symbols g eight end [] = omega arith
lists_length symbols g eight end (d ∷ lists) =
    let start = start_behind end in
    let next = end_behind end d in
    let bs = bytes_of_items symbols (items_from start d.items) in
    let cells = cells_of bs in
    let rest = flat_map (λ (l : StaticList). flat_map g l.cells) (map (static_list symbols) (lists_behind next lists)) in
    let enough = cells_enough bs in
    let filled : start_behind next ≤ start + 8 * length cells = omega (arith, items_length symbols start d.items, enough.all) in
    omega (arith, lists_length symbols g eight next lists, length-append (flat_map g cells) rest, cells_length g cells eight, filled)

-- The bytes of static data are as many as the file has.
pub data_length : (file : FileTree) (g : Value → List ℕ) → ((v : Value) → length (g v) ≡ 8) →
    data_bytes file ≤ length (flat_map (λ (l : StaticList). flat_map g l.cells) (statics file))
data_length file g eight =
    let all = lists_length (value_of_symbol file) g eight data_start (lists_of file) in
    let start : start_behind data_start ≡ data_start = refl in
    omega (arith, all, start)

pub data_nonempty : (file : FileTree) → 8 ≤ data_bytes file
data_nonempty file =
    let first : end_behind data_start built_in_list ≡ data_start + 8 = refl in
    omega (arith, end_of_lists-above (end_behind data_start built_in_list) (data_lists file), first)

-- ---- symbols

-- symbols lie between two addresses, one not before the other
abbrev pub Lie : ℕ → ℕ → List DataSymbolTree → Type 0
Lie low high [] = low ≤ high
Lie low high (s ∷ ss) = (low ≤ s.address) × Lie s.address high ss

lie_less : (low low' high : ℕ) (ss : List DataSymbolTree) → low ≤ low' → Lie low' high ss → Lie low high ss
lie_less low low' high [] h lie = omega (arith, h, lie)
lie_less low low' high (s ∷ ss) h lie = (omega (arith, h, lie.0), lie.1)

lie_append : (a b c : ℕ) (xs ys : List DataSymbolTree) → Lie a b xs → Lie b c ys → Lie a c (xs ++ ys)
lie_append a b c [] ys h k = lie_less a b c ys h k
lie_append a b c (x ∷ xs) ys h k = (h.0, lie_append x.address b c xs ys h.1 k)

symbol_lies : (address size high : ℕ) (datum : DatumTree) (rest : List DataSymbolTree) → Lie (address + size) high rest →
    Lie address high (cons_option (symbol_at address datum) rest)
symbol_lies address size high (Define name) rest lie = (omega arith, lie_less address (address + size) high rest (omega arith) lie)
symbol_lies address size high (Byte word) rest lie = lie_less address (address + size) high rest (omega arith) lie
symbol_lies address size high (Half word) rest lie = lie_less address (address + size) high rest (omega arith) lie
symbol_lies address size high (Int word) rest lie = lie_less address (address + size) high rest (omega arith) lie
symbol_lies address size high (Val word) rest lie = lie_less address (address + size) high rest (omega arith) lie
symbol_lies address size high (Address root name_at name) rest lie = lie_less address (address + size) high rest (omega arith) lie
symbol_lies address size high (Skip count) rest lie = lie_less address (address + size) high rest (omega arith) lie
symbol_lies address size high (Align unit) rest lie = lie_less address (address + size) high rest (omega arith) lie
symbol_lies address size high (Text bytes) rest lie = lie_less address (address + size) high rest (omega arith) lie
symbol_lies address size high (Global name_at name) rest lie = lie_less address (address + size) high rest (omega arith) lie
symbol_lies address size high AFloat rest lie = lie_less address (address + size) high rest (omega arith) lie

pub items_lie : (address : ℕ) (items : List DataItemTree) → Lie address (end_of_items address items) (placed_symbols (items_from address items))
items_lie address [] = omega arith
items_lie address (i ∷ items) =
    let size = size_at address i.datum in
    symbol_lies address size (end_of_items (address + size) items) i.datum (placed_symbols (items_from (address + size) items)) (items_lie (address + size) items)

lists_lie : (end : ℕ) (lists : List DataListTree) → Lie end (end_of_lists end lists) (placed_symbols (items_of_lists (lists_behind end lists)))
lists_lie end [] = omega arith
lists_lie end (d ∷ lists) =
    let start = start_behind end in
    let next = end_behind end d in
    let own = items_from start d.items in
    let rest = items_of_lists (lists_behind next lists) in
    let high = end_of_lists next lists in
    let both = lie_append start next high (placed_symbols own) (placed_symbols rest) (items_lie start d.items) (lists_lie next lists) in
    let from = lie_less end start high (placed_symbols own ++ placed_symbols rest) (omega arith) both in
    subst (Lie end high) (sym (filter_map-append (λ (i : PlacedItem). symbol_at i.address i.datum) own rest)) from

-- The symbols of a file lie in its data, in the order of their places.
pub symbols_in_data : (file : FileTree) → Lie data_start (data_end file) (symbols_of file)
symbols_in_data file = lists_lie data_start (lists_of file)

-- ---- root cells

-- cells of eight bytes lie between two addresses, one after the other
abbrev pub CellsLie : ℕ → ℕ → List ℕ → Type 0
CellsLie low high [] = low ≤ high
CellsLie low high (r ∷ rs) = (low ≤ r) × CellsLie (r + 8) high rs

cells_less : (low low' high : ℕ) (rs : List ℕ) → low ≤ low' → CellsLie low' high rs → CellsLie low high rs
cells_less low low' high [] h lie = omega (arith, h, lie)
cells_less low low' high (r ∷ rs) h lie = (omega (arith, h, lie.0), lie.1)

cells_append : (a b c : ℕ) (xs ys : List ℕ) → CellsLie a b xs → CellsLie b c ys → CellsLie a c (xs ++ ys)
cells_append a b c [] ys h k = cells_less a b c ys h k
cells_append a b c (x ∷ xs) ys h k = (h.0, cells_append (x + 8) b c xs ys h.1 k)

root_lies : (address : ℕ) (datum : DatumTree) → CellsLie address (address + size_at address datum) (root_of_item address datum)
root_lies address (Define name) = omega arith
root_lies address (Byte word) = omega arith
root_lies address (Half word) = omega arith
root_lies address (Int word) = omega arith
root_lies address (Val word) = (omega arith, omega arith)
root_lies address (Address true name_at name) = (omega arith, omega arith)
root_lies address (Address false name_at name) = omega arith
root_lies address (Skip count) = omega arith
root_lies address (Align unit) = omega arith
root_lies address (Text bytes) = omega arith
root_lies address (Global name_at name) = omega arith
root_lies address AFloat = omega arith

item_roots_lie : (address : ℕ) (items : List DataItemTree) → CellsLie address (end_of_items address items) (roots_among (items_from address items))
item_roots_lie address [] = omega arith
item_roots_lie address (i ∷ items) =
    let next = address + size_at address i.datum in
    cells_append address next (end_of_items next items) (root_of_item address i.datum) (roots_among (items_from next items)) (root_lies address i.datum) (item_roots_lie next items)

list_roots_lie : (end : ℕ) (lists : List DataListTree) → CellsLie end (end_of_lists end lists) (roots_among (items_of_lists (lists_behind end lists)))
list_roots_lie end [] = omega arith
list_roots_lie end (d ∷ lists) =
    let start = start_behind end in
    let next = end_behind end d in
    let own = items_from start d.items in
    let rest = items_of_lists (lists_behind next lists) in
    let high = end_of_lists next lists in
    let both = cells_append start next high (roots_among own) (roots_among rest) (item_roots_lie start d.items) (list_roots_lie next lists) in
    let from = cells_less end start high (roots_among own ++ roots_among rest) (omega arith) both in
    subst (CellsLie end high) (sym (flat_map-append (λ (i : PlacedItem). root_of_item i.address i.datum) own rest)) from

-- The root cells of a file lie in its data, one after the other.
pub roots_in_data : (file : FileTree) → CellsLie data_start (data_end file) (root_cells file)
roots_in_data file = list_roots_lie data_start (lists_of file)

pub cells_few : (low high : ℕ) (rs : List ℕ) → CellsLie low high rs → low + 8 * length rs ≤ high
cells_few low high [] lie = omega (arith, lie)
cells_few low high (r ∷ rs) lie =
    let here : low ≤ r = lie.0 in
    let others = cells_few (r + 8) high rs lie.1 in
    omega (arith, here, others)
