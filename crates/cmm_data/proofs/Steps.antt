-- Symbols, root cells and cells, one item after the other.
use Rattle.std.proofs.Common.{◌≡◌, ◌∙◌, ℕ, suc, zero, ◌+◌, ◌-◌, ◌≤◌, List, [], ◌∷◌, ◌++◌, Option, Some, None, map, length, append_assoc, refl, ap, sym, arith}
use Rattle.std.specs.List.{cons_option}
use Rattle.std.specs.Option.{option_to_list}
use Rattle.std.proofs.lemmas.List.Elements.{filter_map-append}
use Rattle.std.proofs.lemmas.Grind.{flat_map-append}
use Rattle.bs_words.specs.Fits.{data_limit, data_start}
use Rattle.bs_words.specs.declared.values.Value.{Value}
use Rattle.bs_words.specs.declared.values.Value.TheVariants as value
use Rattle.bs_words.specs.Memory.{StaticList}
use Rattle.cmm_tree.specs.Tree.{DatumTree, Define, Byte, Half, Int, Val, Address, Skip, Align, Text, Global, AFloat, DataItemTree, DataListTree}
use Rattle.cmm_data.specs.Placement.{PlacedItem, PlacedList, DataSymbolTree, symbol_at, placed_symbols, size_at, items_from, end_of_items, start_behind, end_behind, lists_behind, items_of_lists}
use Rattle.cmm_data.specs.Faults.{first_fault}
use Rattle.cmm_data.specs.Contents.{DataByte, Plain, bytes_of_integer, zeros, symbol_bytes, bytes_at, bytes_of_items, root_of_item, roots_among, static_list, cells_of}
use Rattle.cmm_data.proofs.Walk.{sound-first}

consed : (s : Option DataSymbolTree) (more : List DataSymbolTree) → cons_option s more ≡ option_to_list s ++ more
consed None more = refl
consed (Some s) more = refl

pub symbols-step : (before after : List DataSymbolTree) (address : ℕ) (i : DataItemTree) (rest : List DataItemTree) →
    after ≡ before ++ option_to_list (symbol_at address i.datum) →
    before ++ placed_symbols (items_from address (i ∷ rest)) ≡ after ++ placed_symbols (items_from (address + size_at address i.datum) rest)
symbols-step before after address i rest h =
    let more = placed_symbols (items_from (address + size_at address i.datum) rest) in
    ap (λ (v : List DataSymbolTree). before ++ v) (consed (symbol_at address i.datum) more)
    ∙ sym (append_assoc before (option_to_list (symbol_at address i.datum)) more)
    ∙ ap (λ (v : List DataSymbolTree). v ++ more) (sym h)

pub roots-step : (before after : List ℕ) (address : ℕ) (i : DataItemTree) (rest : List DataItemTree) →
    after ≡ before ++ root_of_item address i.datum →
    before ++ roots_among (items_from address (i ∷ rest)) ≡ after ++ roots_among (items_from (address + size_at address i.datum) rest)
roots-step before after address i rest h =
    let more = roots_among (items_from (address + size_at address i.datum) rest) in
    sym (append_assoc before (root_of_item address i.datum) more)
    ∙ ap (λ (v : List ℕ). v ++ more) (sym h)

-- ---- the bytes of an item are as many as its size

length-zeros : (count : ℕ) → length (zeros count) ≡ count
length-zeros zero = refl
length-zeros (suc count) = ap suc (length-zeros count)

length-plain : (bytes : List ℕ) → length (map Plain bytes) ≡ length bytes
length-plain [] = refl
length-plain (b ∷ bytes) = ap suc (length-plain bytes)

length-1 : (word : Option ℕ) → length (bytes_of_integer 1 word) ≡ 1
length-1 None = refl
length-1 (Some word) = refl

length-2 : (word : Option ℕ) → length (bytes_of_integer 2 word) ≡ 2
length-2 None = refl
length-2 (Some word) = refl

length-8 : (word : Option ℕ) → length (bytes_of_integer 8 word) ≡ 8
length-8 None = refl
length-8 (Some word) = refl

length-symbol : (v : Option Value) → length (symbol_bytes v) ≡ 8
length-symbol None = refl
length-symbol (Some (value.Word address)) = refl
length-symbol (Some (value.Function f)) = refl
length-symbol (Some (value.Block serial offset)) = refl

pub length-bytes_at : (symbols : List ℕ → Option Value) (address : ℕ) (datum : DatumTree) →
    length (bytes_at symbols address datum) ≡ size_at address datum
length-bytes_at symbols address (Define name) = refl
length-bytes_at symbols address (Byte word) = length-1 word
length-bytes_at symbols address (Half word) = length-2 word
length-bytes_at symbols address (Int word) = length-8 word
length-bytes_at symbols address (Val word) = length-8 word
length-bytes_at symbols address (Address root name_at name) = length-symbol (symbols name)
length-bytes_at symbols address (Skip count) = length-zeros (size_at address (Skip count))
length-bytes_at symbols address (Align unit) = length-zeros (size_at address (Align unit))
length-bytes_at symbols address (Text bytes) = length-plain bytes
length-bytes_at symbols address (Global name_at name) = refl
length-bytes_at symbols address AFloat = refl

-- ---- values of symbols that agree give the same bytes

bytes_at-same : (f g : List ℕ → Option Value) → ((name : List ℕ) → f name ≡ g name) →
    (address : ℕ) (datum : DatumTree) → bytes_at f address datum ≡ bytes_at g address datum
bytes_at-same f g same address (Define name) = refl
bytes_at-same f g same address (Byte word) = refl
bytes_at-same f g same address (Half word) = refl
bytes_at-same f g same address (Int word) = refl
bytes_at-same f g same address (Val word) = refl
bytes_at-same f g same address (Address root name_at name) = ap symbol_bytes (same name)
bytes_at-same f g same address (Skip count) = refl
bytes_at-same f g same address (Align unit) = refl
bytes_at-same f g same address (Text bytes) = refl
bytes_at-same f g same address (Global name_at name) = refl
bytes_at-same f g same address AFloat = refl

bytes_of_items-same : (f g : List ℕ → Option Value) → ((name : List ℕ) → f name ≡ g name) →
    (items : List PlacedItem) → bytes_of_items f items ≡ bytes_of_items g items
bytes_of_items-same f g same [] = refl
bytes_of_items-same f g same (i ∷ items) =
    ap (λ (v : List DataByte). v ++ bytes_of_items f items) (bytes_at-same f g same i.address i.datum)
    ∙ ap (λ (v : List DataByte). bytes_at g i.address i.datum ++ v) (bytes_of_items-same f g same items)

pub static_list-same : (f g : List ℕ → Option Value) → ((name : List ℕ) → f name ≡ g name) →
    (l : PlacedList) → static_list f l ≡ static_list g l
static_list-same f g same l =
    ap (λ (v : List DataByte). (record { start = l.start; size = l.end - l.start; cells = cells_of v })) (bytes_of_items-same f g same l.items)

-- ---- a list that has no fault ends within the limit

pub end-within : (address : ℕ) (items : List DataItemTree) → address ≤ data_start + data_limit →
    first_fault (items_from address items) ≡ None → (address ≤ end_of_items address items) × (end_of_items address items ≤ data_start + data_limit)
end-within address [] within none = (omega arith, within)
end-within address (i ∷ items) within none =
    let sound = sound-first address i items within none in
    let later = end-within (address + size_at address i.datum) items sound.within sound.behind in
    (omega (arith, later.0), later.1)

-- ---- one list after the other

pub symbols-list : (before after : List DataSymbolTree) (end : ℕ) (d : DataListTree) (lists : List DataListTree) →
    after ≡ before ++ placed_symbols (items_from (start_behind end) d.items) →
    before ++ placed_symbols (items_of_lists (lists_behind end (d ∷ lists)))
    ≡ after ++ placed_symbols (items_of_lists (lists_behind (end_behind end d) lists))
symbols-list before after end d lists h =
    let items = items_from (start_behind end) d.items in
    let more = items_of_lists (lists_behind (end_behind end d) lists) in
    ap (λ (v : List DataSymbolTree). before ++ v) (filter_map-append (λ (i : PlacedItem). symbol_at i.address i.datum) items more)
    ∙ sym (append_assoc before (placed_symbols items) (placed_symbols more))
    ∙ ap (λ (v : List DataSymbolTree). v ++ placed_symbols more) (sym h)

pub roots-list : (before after : List ℕ) (end : ℕ) (d : DataListTree) (lists : List DataListTree) →
    after ≡ before ++ roots_among (items_from (start_behind end) d.items) →
    before ++ roots_among (items_of_lists (lists_behind end (d ∷ lists)))
    ≡ after ++ roots_among (items_of_lists (lists_behind (end_behind end d) lists))
roots-list before after end d lists h =
    let items = items_from (start_behind end) d.items in
    let more = items_of_lists (lists_behind (end_behind end d) lists) in
    ap (λ (v : List ℕ). before ++ v) (flat_map-append (λ (i : PlacedItem). root_of_item i.address i.datum) items more)
    ∙ sym (append_assoc before (roots_among items) (roots_among more))
    ∙ ap (λ (v : List ℕ). v ++ roots_among more) (sym h)

abbrev pub placed_list : ℕ → DataListTree → PlacedList
placed_list end d = record { start = start_behind end; end = end_behind end d; items = items_from (start_behind end) d.items }

pub lists-list : (before after : List StaticList) (l : StaticList) (f g : List ℕ → Option Value) (end : ℕ) (d : DataListTree) (lists : List DataListTree) →
    after ≡ before ++ l ∷ [] → l ≡ static_list g (placed_list end d) → ((name : List ℕ) → g name ≡ f name) →
    before ++ map (static_list f) (lists_behind end (d ∷ lists))
    ≡ after ++ map (static_list f) (lists_behind (end_behind end d) lists)
lists-list before after l f g end d lists h is same =
    let more = map (static_list f) (lists_behind (end_behind end d) lists) in
    let here : static_list f (placed_list end d) ≡ l = sym (is ∙ static_list-same g f same (placed_list end d)) in
    ap (λ (s : StaticList). before ++ s ∷ more) here
    ∙ sym (append_assoc before (l ∷ []) more)
    ∙ ap (λ (v : List StaticList). v ++ more) (sym h)
