-- The bytes of tables, by the sizes of their rows.
use Rattle.std.proofs.Common.{◌≡◌, ℕ, ◌+◌, ◌*◌, ◌≤◌, List, [], ◌∷◌, ◌++◌, length, map, refl, ap, length-append, arith}
use Rattle.std.specs.Prelude.{sum_by}
use Rattle.std.specs.List.{flat_map, AllByRecursion}
use Rattle.std.proofs.lemmas.List.{length-map}
use Rattle.std.proofs.lemmas.List.Sums.{sum_by-cons, sum_by-append}
use Rattle.function_places.specs.Places.{size_of}
use Rattle.assemble.specs.Sizes.{item_size, symbol_size, call_size}
use Rattle.function_places.specs.Sizes.{piece_size, pieces_size}
use Rattle.function_places.proofs.Bounds.{code_most}
use Rattle.bs_words.specs.Contents.{contents}
use Rattle.bs_words.specs.External.{External}
use Rattle.bs_words.specs.Symbol.{IsSymbol}
use Rattle.cmm_data.specs.Map.{symbol_view}
use Rattle.cmm_data.specs.Placement.{DataSymbolTree}
use Rattle.cmm_data.specs.declared.data_map.DataSymbol.{DataSymbol}
use Rattle.cmm_tree.specs.Tree.{FunctionTree, Parameter, functions_among}
use Rattle.cmm_tree.specs.View.{param_view, function_view, item_view}
use Rattle.cmm_tree.specs.declared.file.Item.{Item}
use Rattle.cmm_tree.specs.declared.file.Item.TheVariants as item
use Rattle.image_form.specs.Image.{IsExt, le32, le_entry, name_bytes, params_bytes, func_bytes, sym_bytes, ext_bytes, desc_bytes, table_bytes, ret_byte}
use Rattle.image_form.specs.Tables.{Func, Sym, Desc, ext}
use Rattle.image_form.specs.declared.image.ExtRow.{ExtRow}
use Rattle.image_form.proofs.Lengths.{length-le32, name_length, params_length}
use Rattle.rv_layout_rules.specs.declared.form.Form.{Form}
use Rattle.rv_layout_rules.specs.Conditions.{IsRowLaid}
use Rattle.rv_layout_rules.specs.Forms.{piece_words, total_words, label_word_offset}
use Rattle.rv_layout_rules.specs.Laid.{row_at, rows_from, sym_of, descriptor_laid_at, descs_in, descs_from, AreAllForms}
use Rattle.rv_layout_rules.proofs.Functions.{forms_length}
use Rattle.rv_layout.specs.Descs.{desc_in}
use Rattle.rv_layout.proofs.Steps.{descs_step}
use Rattle.rv_pieces.specs.declared.piece.Piece.{Piece}
use Rattle.rv_pieces.specs.declared.piece.Piece.TheVariants.{Known, Label, Branch, Jump, Row, LabelAddress, Call, TailCall, SymbolAddress, ExternalNumber, Descriptor}
use Rattle.rv_pieces.specs.declared.piece.Pieces.{Pieces}

-- ---- a table

flat_length : {A : Type 0} (row : A → List ℕ) (size : A → ℕ) → ((x : A) → length (row x) ≡ size x) → (xs : List A) → length (flat_map row xs) ≡ sum_by size xs
flat_length row size each [] = refl
flat_length row size each (x ∷ xs) = omega (arith, length-append (row x) (flat_map row xs), each x, sum_by-cons size x xs, flat_length row size each xs)

pub table_length : {A : Type 0} (row : A → List ℕ) (size : A → ℕ) → ((x : A) → length (row x) ≡ size x) → (xs : List A) → length (table_bytes row xs) ≡ 4 + sum_by size xs
unfolding table_bytes
table_length row size each xs = omega (arith, length-append (le32 (length xs)) (flat_map row xs), length-le32 (length xs), flat_length row size each xs)

-- ---- functions

abbrev pub row_size : Func → ℕ
row_size r = 16 + length r.name + length r.params

pub row_length : (r : Func) → length (func_bytes r) ≡ row_size r
unfolding func_bytes
row_length r =
    let last = params_bytes r.params ++ ret_byte r.result ∷ [] in
    let third = le32 r.frame ++ last in
    let second = le32 r.words ++ third in
    let first = le32 r.offset ++ second in
    omega (
      arith,
      length-append (name_bytes r.name) first,
      length-append (le32 r.offset) second,
      length-append (le32 r.words) third,
      length-append (le32 r.frame) last,
      length-append (params_bytes r.params) (ret_byte r.result ∷ []),
      name_length r.name,
      params_length r.params,
      length-le32 r.offset,
      length-le32 r.words,
      length-le32 r.frame,
    )

abbrev pub function_size : FunctionTree → ℕ
function_size f = 16 + length f.name + length f.params

pub rows_size : (at : ℕ) (fs : List FunctionTree) (ps : List Pieces) (forms : List (List Form)) → length ps ≡ length fs → AreAllForms ps forms →
    sum_by row_size (rows_from at fs ps forms) ≡ sum_by function_size fs
rows_size at [] ps forms same are = refl
rows_size at (f ∷ fs) [] forms same are = absurd (omega (arith, same))
rows_size at (f ∷ fs) (p ∷ ps) [] same are = absurd are
rows_size at (f ∷ fs) (p ∷ ps) (k ∷ forms) same are =
    let next = at + total_words p.code k in
    omega (
      arith,
      sum_by-cons row_size (row_at at f p k) (rows_from next fs ps forms),
      sum_by-cons function_size f fs,
      length-map f.params (λ (q : Parameter). q.comp),
      rows_size next fs ps forms (omega (arith, same)) are.1,
    )

pub items_are : (items : List Item) → sum_by item_size items ≡ sum_by function_size (functions_among (map item_view items))
items_are [] = refl
items_are (item.Function f ∷ items) =
    omega (arith, sum_by-cons item_size (item.Function f) items, sum_by-cons function_size (function_view f) (functions_among (map item_view items)), length-map (contents f.params) param_view, items_are items)
items_are (item.Data d ∷ items) = omega (arith, sum_by-cons item_size (item.Data d) items, items_are items)

pub functions_most : (fs : List FunctionTree) → AllByRecursion IsRowLaid fs → sum_by function_size fs ≤ 287 * length fs
functions_most [] laid = omega arith
functions_most (f ∷ fs) laid = omega (arith, sum_by-cons function_size f fs, laid.0.name.1, laid.0.few, functions_most fs laid.1)

-- ---- symbols

abbrev pub sym_size : Sym → ℕ
sym_size s = 6 + length s.name

pub sym_length : (s : Sym) → length (sym_bytes s) ≡ sym_size s
unfolding sym_bytes
sym_length s = omega (arith, length-append (name_bytes s.name) (le32 s.offset), name_length s.name, length-le32 s.offset)

pub symbols_are : (ss : List DataSymbol) → sum_by sym_size (map sym_of (map symbol_view ss)) ≡ sum_by symbol_size ss
symbols_are [] = refl
symbols_are (s ∷ ss) = omega (arith, sum_by-cons sym_size (sym_of (symbol_view s)) (map sym_of (map symbol_view ss)), sum_by-cons symbol_size s ss, symbols_are ss)

pub symbols_most : (ss : List DataSymbol) → AllByRecursion (λ (s : DataSymbolTree). IsSymbol s.name) (map symbol_view ss) → sum_by symbol_size ss ≤ 261 * length ss
symbols_most [] symbols = omega arith
symbols_most (s ∷ ss) symbols = omega (arith, sum_by-cons symbol_size s ss, symbols.0.1, symbols_most ss symbols.1)

-- ---- external calls

abbrev pub ext_size : External → ℕ
ext_size e = 4 + length e.name + length e.params

pub ext_length : (e : External) → length (ext_bytes e) ≡ ext_size e
unfolding ext_bytes
ext_length e =
    let last = params_bytes e.params ++ ret_byte e.result ∷ [] in
    omega (arith, length-append (name_bytes e.name) last, length-append (params_bytes e.params) (ret_byte e.result ∷ []), name_length e.name, params_length e.params)

pub calls_are : (rows : List ExtRow) → sum_by ext_size (map ext rows) ≡ sum_by call_size rows
calls_are [] = refl
calls_are (e ∷ rows) = omega (arith, sum_by-cons ext_size (ext e) (map ext rows), sum_by-cons call_size e rows, calls_are rows)

pub exts_most : (es : List External) → AllByRecursion IsExt es → sum_by ext_size es ≤ 275 * length es
exts_most [] all = omega arith
exts_most (e ∷ es) all = omega (arith, sum_by-cons ext_size e es, all.0.name.1, all.0.few, exts_most es all.1)

-- ---- descriptors

abbrev pub desc_size : Desc → ℕ
desc_size d = 12 + 4 * length d.entries

wide_length : (n : ℕ) → length (le_entry 2 n) ≡ 4
unfolding le_entry
wide_length n = refl

entries_length : (es : List ℕ) → length (flat_map (le_entry 2) es) ≡ 4 * length es
entries_length [] = refl
entries_length (e ∷ es) = omega (arith, length-append (le_entry 2 e) (flat_map (le_entry 2) es), wide_length e, entries_length es)

pub desc_length : (d : Desc) → length (desc_bytes 2 d) ≡ desc_size d
unfolding desc_bytes
desc_length d =
    let last = flat_map (le_entry 2) d.entries in
    let second = le_entry 2 (length d.entries) ++ last in
    omega (
      arith,
      length-append (le32 d.after) (le_entry 2 d.size ++ second),
      length-append (le_entry 2 d.size) second,
      length-append (le_entry 2 (length d.entries)) last,
      length-le32 d.after,
      wide_length d.size,
      wide_length (length d.entries),
      entries_length d.entries,
    )

one_desc : (at : ℕ) (p : Piece) → sum_by desc_size (desc_in at p) ≡ piece_size p
one_desc at (Known i) = refl
one_desc at (Label l) = refl
one_desc at (Branch c a b l) = refl
one_desc at (Jump l) = refl
one_desc at (Row l) = refl
one_desc at (LabelAddress r l) = refl
one_desc at (Call name) = refl
one_desc at (TailCall name) = refl
one_desc at (SymbolAddress r name) = refl
one_desc at (ExternalNumber r row) = refl
one_desc at (Descriptor d) = omega (arith, sum_by-cons desc_size (descriptor_laid_at at d) [])

descs_size : (at : ℕ) (ps : List Piece) (fs : List Form) → length fs ≡ length ps → sum_by desc_size (descs_in at ps fs) ≡ sum_by piece_size ps
descs_size at [] fs same = refl
descs_size at (p ∷ ps) [] same = absurd (omega (arith, same))
descs_size at (p ∷ ps) (f ∷ fs) same =
    let next = at + piece_words p f in
    omega (
      arith,
      ap (sum_by desc_size) (descs_step at p f ps fs),
      sum_by-append desc_size (desc_in at p) (descs_in next ps fs),
      one_desc at p,
      sum_by-cons piece_size p ps,
      descs_size next ps fs (omega (arith, same)),
    )

pub descs_are : (at : ℕ) (ps : List Pieces) (forms : List (List Form)) → AreAllForms ps forms → sum_by desc_size (descs_from at ps forms) ≡ sum_by pieces_size ps
descs_are at [] forms are = refl
descs_are at (p ∷ ps) [] are = absurd are
descs_are at (p ∷ ps) (f ∷ forms) are =
    let next = at + total_words p.code f in
    omega (
      arith,
      sum_by-append desc_size (descs_in at p.code f) (descs_from next ps forms),
      descs_size at p.code f (forms_length (label_word_offset p.code f) 0 p.code f are.0.suffice),
      sum_by-cons pieces_size p ps,
      descs_are next ps forms are.1,
    )

pub pieces_most : (ps : List Pieces) → sum_by pieces_size ps ≤ 12 * sum_by size_of ps
pieces_most [] = omega arith
pieces_most (p ∷ ps) = omega (arith, sum_by-cons pieces_size p ps, sum_by-cons size_of p ps, code_most p.code, pieces_most ps)

-- ---- root cells
