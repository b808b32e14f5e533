-- How large places and addresses are.
use Rattle.std.proofs.Common.{◌≡◌, ℕ, zero, suc, ◌+◌, ◌*◌, ◌^◌, ◌<◌, ◌≤◌, Bool, true, false, cond, List, [], ◌∷◌, ◌++◌, Option, Some, None, length, map, get_or, refl, sym, ap, ◌∙◌, length-append, arith}
use Rattle.std.specs.Prelude.{sum_by}
use Rattle.std.specs.List.{AllByRecursion}
use Rattle.std.specs.Option.{IfSome}
use Rattle.std.proofs.lemmas.List.Sums.{sum_by-cons, prefix_len-le-length}
use Rattle.function_places.specs.Places.{forms_in, size_of}
use Rattle.assemble.specs.Source.{IsSource, tree_of, source_entries, laid_of}
use Rattle.assemble.specs.declared.source.Source.{Source}
use Rattle.function_places.proofs.Bounds.{all_most}
use Rattle.bs_words.specs.External.{External}
use Rattle.bs_words.specs.declared.values.Value.{Value}
use Rattle.bs_words.specs.declared.values.Value.TheVariants.{Word, Block, Function}
use Rattle.cmm_data.specs.Placement.{DataSymbolTree, DefinedValue, placed_symbols, items_from, definition_of_data, defined_by_list, defined_from, definitions, value_of_symbol, start_behind, end_behind, end_of_lists, built_in_list, data_end}
use Rattle.bs_words.specs.Fits.{data_start}
use Rattle.cmm_data.proofs.Table.{value_among-all}
use Rattle.cmm_tree.specs.Tree.{FileTree, ItemTree, AFunction, AData, data_among}
use Rattle.image_form.specs.Image.{stub, stub_words, code_limit}
use Rattle.assemble_rules.proofs.Limits.{are_short}
use Rattle.assemble_rules.proofs.Placed.{Lie, items_lie, end_of_lists-above}
use Rattle.assemble_rules.proofs.Whole.{all_length, length_of_data}
use Rattle.rv_layout_rules.specs.declared.form.Form.{Form}
use Rattle.rv_layout_rules.specs.Externals.{external_number}
use Rattle.rv_layout_rules.specs.Forms.{piece_words, total_words, is_label_piece, label_from, place_or_entry, label_word_offset, all_words}
use Rattle.rv_layout_rules.specs.Laid.{function_entries_from, code_from, address_of_value, AreAllForms}
use Rattle.rv_layout_rules.specs.TooLarge.{first_too_large}
use Rattle.rv_layout_rules.proofs.Functions.{forms_length}
use Rattle.rv_pieces.specs.declared.piece.Piece.{Piece}
use Rattle.rv_pieces.specs.declared.piece.Pieces.{Pieces}

-- ---- weights

pub each_most : (ps : List Pieces) (i : ℕ) (p : Pieces) → i < length ps → p ≡ get_or ps i p → size_of p ≤ sum_by size_of ps
each_most [] i p h is = absurd (omega (arith, h))
each_most (q ∷ ps) zero p h is = omega (arith, sum_by-cons size_of q ps, ap size_of is)
each_most (q ∷ ps) (suc i) p h is = omega (arith, sum_by-cons size_of q ps, each_most ps i p (omega (arith, h)) is)

-- ---- entries

pub entry_most : (at : ℕ) (ps : List Pieces) (forms : List (List Form)) (i : ℕ) → get_or (function_entries_from at ps forms) i 0 ≤ at + all_words ps forms
entry_most at [] forms i = omega arith
entry_most at (p ∷ ps) [] i = omega arith
entry_most at (p ∷ ps) (f ∷ forms) zero = omega arith
entry_most at (p ∷ ps) (f ∷ forms) (suc i) = let later = entry_most (at + total_words p.code f) ps forms i in omega (arith, later)

pub zip_length : (ps : List Pieces) (forms : List (List Form)) → AreAllForms ps forms → length forms ≡ length ps
zip_length [] [] are = refl
zip_length [] (f ∷ forms) are = absurd are
zip_length (p ∷ ps) [] are = absurd are
zip_length (p ∷ ps) (f ∷ forms) are = ap suc (zip_length ps forms are.1)

pub zip_same : (ps : List Pieces) (forms : List (List Form)) (i : ℕ) (p : Pieces) (f : List Form) → AreAllForms ps forms → i < length ps → p ≡ get_or ps i p → f ≡ get_or forms i f →
    length f ≡ length p.code
zip_same [] forms i p f are h is of = absurd (omega (arith, h))
zip_same (q ∷ ps) [] i p f are h is of = absurd are
zip_same (q ∷ ps) (g ∷ forms) zero p f are h is of =
    ap length of ∙ (forms_length (label_word_offset q.code g) 0 q.code g are.0.suffice ∙ ap (λ (x : Pieces). length x.code) (sym is))
zip_same (q ∷ ps) (g ∷ forms) (suc i) p f are h is of = zip_same ps forms i p f are.1 (omega (arith, h)) is of

-- ---- what is known of a source

pub end_is : (s : Source) → IsSource s → s.places.now.end ≡ stub_words + all_words s.pieces.now (forms_in s.places.now)
end_is s source = source.places.end

pub end_most : (s : Source) → IsSource s → s.places.now.end < 2 ^ 51
end_most s source =
    omega (arith, end_is s source, all_most s.pieces.now (forms_in s.places.now), source.can.few)

pub entry_within : (s : Source) → IsSource s → (i : ℕ) → get_or s.places.now.entries.items i 0 ≤ s.places.now.end
entry_within s source i =
    let same = ap (λ (l : List ℕ). get_or l i 0) source.places.entries in
    omega (arith, same, entry_most stub_words s.pieces.now (forms_in s.places.now) i, end_is s source)

pub end_short : (s : Source) → IsSource s → first_too_large (laid_of s) ≡ None → 4 * s.places.now.end ≤ code_limit
end_short s source fits =
    let code = code_from (tree_of s) (source_entries s) stub_words s.pieces.now (forms_in s.places.now) in
    let short = (are_short (laid_of s) fits).code in
    omega (arith, short, length-append stub code, all_length (tree_of s) (source_entries s) stub_words s.pieces.now (forms_in s.places.now), end_is s source)

-- ---- symbols

-- the value is no block, and an address below the end of the data where it is one
abbrev pub IsLow : ℕ → Value → Type 0
IsLow end (Word address) = address ≤ end
IsLow end (Function f) = Unit {0}
IsLow end (Block serial offset) = Unit {0}

abbrev AreLow : ℕ → List DefinedValue → Type 0
AreLow end ds = AllByRecursion (λ (d : DefinedValue). IsLow end d.value) ds

low_append : (end : ℕ) (xs ys : List DefinedValue) → AreLow end xs → AreLow end ys → AreLow end (xs ++ ys)
low_append end [] ys a b = b
low_append end (x ∷ xs) ys a b = (a.0, low_append end xs ys a.1 b)

low_symbols : (low high end : ℕ) (ss : List DataSymbolTree) → Lie low high ss → high ≤ end → AreLow end (map definition_of_data ss)
low_symbols low high end [] lie h = tt
low_symbols low high end (s ∷ ss) lie h = (omega (arith, h, up s.address high ss lie.1), low_symbols s.address high end ss lie.1 h)
  where
    up : (low high : ℕ) (ss : List DataSymbolTree) → Lie low high ss → low ≤ high
    up low high [] lie = lie
    up low high (s ∷ ss) lie = omega (arith, lie.0, up s.address high ss lie.1)

low_list : (from end : ℕ) (d : _) → end_behind from d ≤ end → AreLow end (defined_by_list from d)
low_list from end d h = low_symbols (start_behind from) (end_behind from d) end (placed_symbols (items_from (start_behind from) d.items)) (items_lie (start_behind from) d.items) h

low_items : (number from end : ℕ) (items : List ItemTree) → end_of_lists from (data_among items) ≤ end → AreLow end (defined_from number from items)
low_items number from end [] h = tt
low_items number from end (AFunction f ∷ items) h = (tt, low_items (suc number) from end items h)
low_items number from end (AData d ∷ items) h =
    low_append end (defined_by_list from d) (defined_from number (end_behind from d) items)
    (low_list from end d (omega (arith, h, end_of_lists-above (end_behind from d) (data_among items))))
    (low_items number (end_behind from d) end items h)

abbrev IfLow : ℕ → Option Value → Type 0
IfLow end o = IfSome o (IsLow end)

symbol_low : (file : FileTree) (name : List ℕ) → IfLow (data_end file) (value_of_symbol file name)
symbol_low file name =
    let first = end_behind data_start built_in_list in
    value_among-all (IsLow (data_end file)) (definitions file) name
    (low_append (data_end file) (defined_by_list data_start built_in_list) (defined_from 0 first file.items)
    (low_list data_start (data_end file) built_in_list (end_of_lists-above first (data_among file.items)))
    (low_items 0 first (data_end file) file.items (omega arith)))

address_below : (end : ℕ) (entries : List ℕ) (limit : ℕ) (o : Option Value) → IfLow end o → ((i : ℕ) → get_or entries i 0 ≤ limit) → end < 2 ^ 32 → 4 * limit ≤ code_limit →
    address_of_value entries o < 2 ^ 32
address_below end entries limit None low each h k = omega arith
address_below end entries limit (Some (Word a)) low each h k = omega (arith, low, h)
address_below end entries limit (Some (Function f)) low each h k = omega (arith, each f, k)
address_below end entries limit (Some (Block serial offset)) low each h k = omega arith

pub symbol_below : (s : Source) → IsSource s → first_too_large (laid_of s) ≡ None → (name : List ℕ) →
    address_of_value (source_entries s) (value_of_symbol (tree_of s) name) < 2 ^ 32
symbol_below s source fits name =
    let file = tree_of s in
    let short = (are_short (laid_of s) fits).bytes in
    let start = end_of_lists-above (end_behind data_start built_in_list) (data_among file.items) in
    let first : end_behind data_start built_in_list ≡ data_start + 8 = refl in
    let high : data_end file < 2 ^ 32 = omega (arith, short, length_of_data file (source_entries s), start, first) in
    let code = code_from file (source_entries s) stub_words s.pieces.now (forms_in s.places.now) in
    let each : (i : ℕ) → get_or (source_entries s) i 0 ≤ s.places.now.end = λ i. omega (arith, entry_most stub_words s.pieces.now (forms_in s.places.now) i, end_is s source) in
    address_below (data_end file) (source_entries s) s.places.now.end (value_of_symbol file name) (symbol_low file name) each high (end_short s source fits)

-- ---- external calls

pub number_below : (rows : List External) (e : External) → external_number rows e ≤ length rows
number_below rows e = prefix_len-le-length _ rows

-- ---- labels

label_within : (l at : ℕ) (ps : List Piece) (fs : List Form) → place_or_entry (label_from l at ps fs) ≤ at + total_words ps fs
label_within l at [] fs = omega arith
label_within l at (p ∷ ps) [] = omega arith
label_within l at (p ∷ ps) (f ∷ fs) = by (is_label_piece l p) (label_within l (at + piece_words p f) ps fs)
  where
    by : (here : Bool) → place_or_entry (label_from l (at + piece_words p f) ps fs) ≤ at + piece_words p f + total_words ps fs →
        place_or_entry (cond here (Some at) (label_from l (at + piece_words p f) ps fs)) ≤ at + (piece_words p f + total_words ps fs)
    by true later = omega arith
    by false later = omega (arith, later)

pub place_within : (ps : List Piece) (fs : List Form) (l : ℕ) → label_word_offset ps fs l ≤ total_words ps fs
place_within ps fs l = let h = label_within l 0 ps fs in omega (arith, h)
