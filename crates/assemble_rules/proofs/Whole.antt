-- What is laid out is an image.
use Rattle.std.proofs.Common.{◌≡◌, ◌≢◌, ℕ, ◌+◌, ◌-◌, ◌*◌, ◌%◌, ◌^◌, ◌<◌, ◌≤◌, Bool, true, false, cond, List, [], ◌∷◌, ◌++◌, length, map, flat_map, None, refl, sym, ap, ap₂, ◌∙◌, subst, inr, length-append, lit<, arith}
use Rattle.std.specs.List.{AllByRecursion, AllPairs}
use Rattle.std.specs.Prelude.{count_by}
use Rattle.std.proofs.lemmas.List.{length-take-le}
use Rattle.std.proofs.lemmas.List.Sums.{sum_by-cons}
use Rattle.bs_words.specs.Fits.{data_start}
use Rattle.bs_words.specs.Memory.{StaticList}
use Rattle.bs_words.specs.Symbol.{IsSymbol}
use Rattle.bs_words.specs.declared.values.Value.{Value}
use Rattle.cmm_data.specs.Contents.{statics, root_cells}
use Rattle.cmm_data.specs.Placement.{DataSymbolTree, symbols_of, data_end, data_bytes}
use Rattle.cmm_tree.specs.Tree.{FunctionTree, FileTree, functions}
use Rattle.image_form.proofs.Differ.{apart}
use Rattle.image_form.specs.Image.{First, EachNext, IsBehind, IsSym, IsRoot, AreTables, function_end, stub, stub_words}
use Rattle.image_form.specs.Tables.{Sym, func_names, sym_names}
use Rattle.assemble_rules.proofs.Externals.{rows_differ}
use Rattle.assemble_rules.proofs.Limits.{are_short}
use Rattle.assemble_rules.proofs.Placed.{Lie, CellsLie, data_length, data_nonempty, symbols_in_data, roots_in_data}
use Rattle.rv_layout_rules.specs.declared.form.Form.{Form}
use Rattle.rv_layout_rules.specs.declared.form.Form.TheVariants.{Near, Middle, Far}
use Rattle.rv_layout_rules.specs.Conditions.{HasAlignedTarget, IsFunctionLaid, CanBeLaid}
use Rattle.rv_layout_rules.specs.Externals.{externals}
use Rattle.rv_layout_rules.specs.Forms.{piece_words, total_words, label_word_offset, all_words}
use Rattle.rv_layout_rules.specs.Laid.{address_of_place, function_entries_from, addresses_named_at, function_words, code_from, row_at, rows_from, cell_bytes, data_of, sym_of, laid_out, AllReach}
use Rattle.rv_pieces.specs.Named.{PieceFits, has_words}
use Rattle.rv_layout_rules.specs.TooLarge.{first_too_large}
use Rattle.rv_layout_rules.specs.Words.{NameAddresses, target_of, words_from, instructions_of_piece}
use Rattle.rv_layout_rules.proofs.Functions.{forms_length, names_lead, function_length}
use Rattle.rv_layout_rules.proofs.Rules.{each_func, each_desc, descs_in_order, all_append}
use Rattle.rv_layout_rules.proofs.Standing.{code_fits}
use Rattle.rv_isa.specs.Encoding.{InstrFits, encoded}
use Rattle.rv_isa.specs.declared.instr.Instr.{Instr}
use Rattle.rv_isa.proofs.RoundTrip.{encoded-below}
use Rattle.rv_pieces.specs.declared.piece.Piece.{Piece}
use Rattle.rv_pieces.specs.declared.piece.Piece.TheVariants.{Known, Label, Branch, Jump, Row, LabelAddress, Call, TailCall, SymbolAddress, ExternalNumber, Descriptor}
use Rattle.rv_pieces.specs.declared.piece.Pieces.{Pieces}

-- ---- the code

stub_below : AllByRecursion (λ w. w < 2 ^ 32) stub
stub_below = (lit< tt, (lit< tt, (lit< tt, (lit< tt, tt))))

encoded_below : (is : List Instr) → AllByRecursion InstrFits is → AllByRecursion (λ w. w < 2 ^ 32) (map encoded is)
encoded_below [] fit = tt
encoded_below (i ∷ is) fit = (encoded-below i fit.0, encoded_below is fit.1)

words_below : (file : FileTree) (n : NameAddresses) (at : ℕ) (ps : List Piece) (fs : List Form) → at % 4 ≡ 0 → at + 4 * total_words ps fs + 4 < 2 ^ 32 → AllByRecursion PieceFits ps →
    ((p : Piece) → HasAlignedTarget (target_of n p) p) → AllByRecursion (λ w. w < 2 ^ 32) (words_from n at ps fs)
words_below file n at [] fs aligned low fits leads = tt
words_below file n at (p ∷ ps) [] aligned low fits leads = tt
words_below file n at (p ∷ ps) (f ∷ fs) aligned low fits leads =
    let next = at + 4 * piece_words p f in
    all_append (λ w. w < 2 ^ 32) (map encoded (instructions_of_piece n at p f)) (words_from n next ps fs)
    (encoded_below (instructions_of_piece n at p f) (code_fits at (target_of n p) p f fits.0 aligned (omega (arith, low)) (leads p)))
    (words_below file n next ps fs (omega (arith, aligned)) (omega (arith, low)) fits.1 leads)

pub all_length : (file : FileTree) (entries : List ℕ) (at : ℕ) (ps : List Pieces) (forms : List (List Form)) → length (code_from file entries at ps forms) ≡ all_words ps forms
all_length file entries at [] forms = refl
all_length file entries at (p ∷ ps) [] = refl
all_length file entries at (p ∷ ps) (f ∷ forms) =
    let next = at + total_words p.code f in
    omega (arith, length-append (function_words file entries at p.code f) (code_from file entries next ps forms), function_length file entries at p f, all_length file entries next ps forms)

code_below : (file : FileTree) (entries : List ℕ) (at : ℕ) (ps : List Pieces) (forms : List (List Form)) → AllByRecursion (IsFunctionLaid file) ps →
    address_of_place (at + all_words ps forms) + 4 < 2 ^ 32 → AllByRecursion (λ w. w < 2 ^ 32) (code_from file entries at ps forms)
code_below file entries at [] forms laid low = tt
code_below file entries at (p ∷ ps) [] laid low = tt
code_below file entries at (p ∷ ps) (f ∷ forms) laid low =
    let next = at + total_words p.code f in
    all_append (λ w. w < 2 ^ 32) (function_words file entries at p.code f) (code_from file entries next ps forms)
    (words_below file (addresses_named_at file entries at p.code f) (address_of_place at) p.code f (omega arith) (omega (arith, low)) laid.0.fits (names_lead file entries at p.code f))
    (code_below file entries next ps forms laid.1 (omega (arith, low)))

-- ---- functions

pub some_words : (p : Piece) (f : Form) → has_words p ≡ true → 1 ≤ piece_words p f
some_words (Known i) f some = omega arith
some_words (Label l) f some = cc
some_words (Branch c a b l) Near some = omega arith
some_words (Branch c a b l) Middle some = omega arith
some_words (Branch c a b l) Far some = omega arith
some_words (Jump l) Near some = omega arith
some_words (Jump l) Middle some = omega arith
some_words (Jump l) Far some = omega arith
some_words (Row l) f some = omega arith
some_words (LabelAddress r l) f some = omega arith
some_words (Call name) Near some = omega arith
some_words (Call name) Middle some = omega arith
some_words (Call name) Far some = omega arith
some_words (TailCall name) Near some = omega arith
some_words (TailCall name) Middle some = omega arith
some_words (TailCall name) Far some = omega arith
some_words (SymbolAddress r name) f some = omega arith
some_words (ExternalNumber r row) f some = omega arith
some_words (Descriptor d) f some = cc

abbrev one_if : Bool → ℕ
one_if b = cond b 1 0

count_step : (p : Piece) (ps : List Piece) (f : Form) (words : ℕ) → count_by has_words ps ≤ words → count_by has_words (p ∷ ps) ≤ piece_words p f + words
count_step p ps f words h = by (has_words p) refl
  where
    one : count_by has_words (p ∷ ps) ≡ one_if (has_words p) + count_by has_words ps
    one = sum_by-cons (λ (q : Piece). cond (has_words q) 1 0) p ps

    by : (some : Bool) → has_words p ≡ some → count_by has_words (p ∷ ps) ≤ piece_words p f + words
    by true e = let own = some_words p f e in let is = ap one_if e in omega (arith, one, is, own, h)
    by false e = let is = ap one_if e in omega (arith, one, is, h)

pub total_some : (ps : List Piece) (fs : List Form) → length fs ≡ length ps → count_by has_words ps ≤ total_words ps fs
total_some [] fs e = omega arith
total_some (p ∷ ps) [] e = absurd (omega (arith, e))
total_some (p ∷ ps) (f ∷ fs) e = count_step p ps f (total_words ps fs) (total_some ps fs (omega (arith, e)))

first_behind : (at : ℕ) (f : FunctionTree) (p : Pieces) (k : List Form) (fs : List FunctionTree) (ps : List Pieces) (forms : List (List Form)) → 0 < total_words p.code k →
    First (IsBehind (row_at at f p k)) (rows_from (at + total_words p.code k) fs ps forms)
first_behind at f p k [] ps forms some = tt
first_behind at f p k (g ∷ fs) [] forms some = tt
first_behind at f p k (g ∷ fs) (q ∷ ps) [] some = tt
first_behind at f p k (g ∷ fs) (q ∷ ps) (l ∷ forms) some = record { rises = omega (arith, some); apart = omega arith }

funcs_in_order : (file : FileTree) (at : ℕ) (fs : List FunctionTree) (ps : List Pieces) (forms : List (List Form)) → AllReach ps forms → AllByRecursion (IsFunctionLaid file) ps →
    EachNext IsBehind (rows_from at fs ps forms)
funcs_in_order file at [] ps forms are laid = tt
funcs_in_order file at (f ∷ fs) [] forms are laid = tt
funcs_in_order file at (f ∷ fs) (p ∷ ps) [] are laid = tt
funcs_in_order file at (f ∷ fs) (p ∷ ps) (k ∷ forms) are laid =
    let long = forms_length (label_word_offset p.code k) 0 p.code k are.0 in
    let some = total_some p.code k long in
    (first_behind at f p k fs ps forms (omega (arith, some, laid.0.nonempty)), funcs_in_order file (at + total_words p.code k) fs ps forms are.1 laid.1)

funcs_in_code : (len at : ℕ) (fs : List FunctionTree) (ps : List Pieces) (forms : List (List Form)) → 4 * (at + all_words ps forms) ≤ len →
    AllByRecursion (λ row. function_end row ≤ len) (rows_from at fs ps forms)
funcs_in_code len at [] ps forms fits = tt
funcs_in_code len at (f ∷ fs) [] forms fits = tt
funcs_in_code len at (f ∷ fs) (p ∷ ps) [] fits = tt
funcs_in_code len at (f ∷ fs) (p ∷ ps) (k ∷ forms) fits =
    (omega (arith, fits), funcs_in_code len (at + total_words p.code k) fs ps forms (omega (arith, fits)))

names_of_rows : (at : ℕ) (fs : List FunctionTree) (ps : List Pieces) (forms : List (List Form)) → length ps ≡ length fs → AllReach ps forms →
    func_names (rows_from at fs ps forms) ≡ map (λ (f : FunctionTree). f.name) fs
names_of_rows at [] ps forms same are = refl
names_of_rows at (f ∷ fs) [] forms same are = absurd (omega (arith, same))
names_of_rows at (f ∷ fs) (p ∷ ps) [] same are = absurd are
names_of_rows at (f ∷ fs) (p ∷ ps) (k ∷ forms) same are =
    ap (λ names. f.name ∷ names) (names_of_rows (at + total_words p.code k) fs ps forms (omega (arith, same)) are.1)

-- ---- static data

names_of_syms : (ss : List DataSymbolTree) → sym_names (map sym_of ss) ≡ map (λ (s : DataSymbolTree). s.name) ss
names_of_syms [] = refl
names_of_syms (s ∷ ss) = ap (λ names. s.name ∷ names) (names_of_syms ss)

lie_up : (low high : ℕ) (ss : List DataSymbolTree) → Lie low high ss → low ≤ high
lie_up low high [] lie = lie
lie_up low high (s ∷ ss) lie = omega (arith, lie.0, lie_up s.address high ss lie.1)

each_sym : (low high : ℕ) (ss : List DataSymbolTree) → AllByRecursion (λ (s : DataSymbolTree). IsSymbol s.name) ss → Lie low high ss →
    AllByRecursion (IsSym (high - data_start)) (map sym_of ss)
each_sym low high [] symbols lie = tt
each_sym low high (s ∷ ss) symbols lie =
    (record { name = symbols.0; in_data = omega (arith, lie_up s.address high ss lie.1) }, each_sym s.address high ss symbols.1 lie.1)

first_sym : (low high : ℕ) (s : DataSymbolTree) (ss : List DataSymbolTree) → Lie s.address high ss → First (λ (b : Sym). (sym_of s).offset ≤ b.offset) (map sym_of ss)
first_sym low high s [] lie = tt
first_sym low high s (z ∷ ss) lie = omega (arith, lie.0)

syms_in_order : (low high : ℕ) (ss : List DataSymbolTree) → Lie low high ss → EachNext (λ (a b : Sym). a.offset ≤ b.offset) (map sym_of ss)
syms_in_order low high [] lie = tt
syms_in_order low high (s ∷ ss) lie = (first_sym low high s ss lie.1, syms_in_order s.address high ss lie.1)

abbrev in_data : ℕ → ℕ
in_data address = address - data_start

cells_up : (low high : ℕ) (rs : List ℕ) → CellsLie low high rs → low ≤ high
cells_up low high [] lie = lie
cells_up low high (r ∷ rs) lie = omega (arith, lie.0, cells_up (r + 8) high rs lie.1)

each_root : (low high : ℕ) (rs : List ℕ) → data_start ≤ low → AllByRecursion (λ r. r % 8 ≡ 0) rs → CellsLie low high rs → AllByRecursion (IsRoot (high - data_start)) (map in_data rs)
each_root low high [] above aligned lie = tt
each_root low high (r ∷ rs) above aligned lie =
    let up = cells_up (r + 8) high rs lie.1 in
    (record { aligned = omega (arith, aligned.0, above, lie.0); in_data = omega (arith, up, above, lie.0) }, each_root (r + 8) high rs (omega (arith, above, lie.0)) aligned.1 lie.1)

first_root : (r high : ℕ) (rs : List ℕ) → data_start ≤ r → CellsLie (r + 8) high rs → First (λ b. in_data r < b) (map in_data rs)
first_root r high [] above lie = tt
first_root r high (q ∷ rs) above lie = omega (arith, above, lie.0)

roots_rise : (low high : ℕ) (rs : List ℕ) → data_start ≤ low → CellsLie low high rs → EachNext (λ a b. a < b) (map in_data rs)
roots_rise low high [] above lie = tt
roots_rise low high (r ∷ rs) above lie =
    (first_root r high rs (omega (arith, above, lie.0)) lie.1, roots_rise (r + 8) high rs (omega (arith, above, lie.0)) lie.1)

cell_length : (entries : List ℕ) (v : Value) → length (cell_bytes entries v) ≡ 8
cell_length entries v = refl

pub length_of_data : (file : FileTree) (entries : List ℕ) → length (data_of file entries) ≡ data_bytes file
length_of_data file entries =
    length-take-le (data_bytes file) (flat_map (λ (l : StaticList). flat_map (cell_bytes entries) l.cells) (statics file)) (data_length file (cell_bytes entries) (cell_length entries))

-- ---- the whole

-- What is laid out keeps the rules of images, where its sections keep their limits.
pub is_image : (file : FileTree) (ps : List Pieces) (forms : List (List Form)) → CanBeLaid file ps → AllReach ps forms → first_too_large (laid_out file ps forms) ≡ None →
    AreTables (laid_out file ps forms)
is_image file ps forms can are none =
    let entries = function_entries_from stub_words ps forms in
    let code = code_from file entries stub_words ps forms in
    let bytes = data_of file entries in
    let short = are_short (laid_out file ps forms) none in
    let long : length (stub ++ code) ≡ 4 + all_words ps forms = length-append stub code ∙ ap (λ n. 4 + n) (all_length file entries stub_words ps forms) in
    let low : address_of_place (stub_words + all_words ps forms) + 4 < 2 ^ 32 = omega (arith, long, short.code) in
    let len : data_end file - data_start ≡ length bytes = sym (length_of_data file entries) in
    record {
      version = inr refl;
      funcs = record {
        each = each_func file stub_words (functions file) ps forms can.of_file.rows can.each;
        in_order = funcs_in_order file stub_words (functions file) ps forms are can.each;
        in_code = funcs_in_code (4 * length (stub ++ code)) stub_words (functions file) ps forms (omega (arith, long));
        short = short.funcs;
      };
      code = record {
        words = all_append (λ w. w < 2 ^ 32) stub code stub_below (code_below file entries stub_words ps forms can.each low);
        stub = omega (arith, long);
        short = short.code;
      };
      bytes = record { begins = omega (arith, len, data_nonempty file); short = short.bytes };
      syms = record {
        each = subst (λ n. AllByRecursion (IsSym n) (map sym_of (symbols_of file))) len (each_sym data_start (data_end file) (symbols_of file) can.of_file.symbols (symbols_in_data file));
        in_order = syms_in_order data_start (data_end file) (symbols_of file) (symbols_in_data file);
        short = short.syms;
      };
      names_differ =
          subst (AllPairs (λ (x y : List ℕ). x ≢ y)) (sym (ap₂ (λ (a b : List (List ℕ)). a ++ b) (names_of_rows stub_words (functions file) ps forms can.each_one are) (names_of_syms (symbols_of file))))
          can.of_file.differ;
      roots = record {
        each = subst (λ n. AllByRecursion (IsRoot n) (map in_data (root_cells file))) len (each_root data_start (data_end file) (root_cells file) (omega arith) can.of_file.roots (roots_in_data file));
        rising = roots_rise data_start (data_end file) (root_cells file) (omega arith) (roots_in_data file);
        short = short.roots;
      };
      extcs = record { each = can.of_file.calls; differ = apart _ (rows_differ file); short = short.extcs };
      descs = record {
        each = each_desc file (4 * length (stub ++ code)) stub_words ps forms (omega arith) can.each (omega (arith, long));
        rising = descs_in_order file stub_words ps forms can.each;
        short = short.descs;
      };
    }
