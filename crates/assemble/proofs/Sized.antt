-- The sizes of sections, by what is known before any of it is made.
use Rattle.std.proofs.Common.{◌≡◌, ℕ, ◌+◌, ◌-◌, ◌*◌, ◌^◌, ◌<◌, ◌≤◌, List, length, map, sym, ap, ◌∙◌, subst, length-append, arith}
use Rattle.std.specs.Prelude.{sum_by}
use Rattle.std.specs.List.{flat_map, AllByRecursion}
use Rattle.std.proofs.lemmas.List.{length-map}
use Rattle.function_places.specs.Places.{forms_in}
use Rattle.assemble.specs.Sizes.{item_size, symbol_size, call_size}
use Rattle.function_places.specs.Sizes.{pieces_size}
use Rattle.assemble.specs.Source.{IsSource, tree_of, source_entries, laid_of}
use Rattle.assemble.specs.declared.source.Source.{Source}
use Rattle.assemble.proofs.Bounds.{end_is}
use Rattle.assemble.proofs.Totals.{table_length, row_size, row_length, rows_size, items_are, functions_most, sym_size, sym_length, symbols_are, symbols_most, ext_size, ext_length, calls_are, exts_most, desc_size, desc_length, descs_are, pieces_most}
use Rattle.bs_fault.specs.declared.large.Section.TheVariants as section
use Rattle.bs_words.specs.Contents.{contents}
use Rattle.bs_words.specs.Fits.{data_start}
use Rattle.bs_words.specs.Symbol.{IsSymbol}
use Rattle.cmm_data.specs.Contents.{root_cells}
use Rattle.cmm_data.specs.Map.{symbol_view}
use Rattle.cmm_data.specs.Placement.{DataSymbolTree, symbols_of, data_end}
use Rattle.cmm_tree.specs.Tree.{functions}
use Rattle.image_form.specs.Image.{le32, func_bytes, sym_bytes, ext_bytes, desc_bytes, table_bytes, stub, stub_words}
use Rattle.image_form.specs.Tables.{ext}
use Rattle.image_form.specs.declared.image.ExtRow.{ExtRow}
use Rattle.image_form.proofs.Lengths.{length-le32, length-words}
use Rattle.assemble_rules.proofs.Placed.{roots_in_data, cells_few}
use Rattle.assemble_rules.proofs.Whole.{all_length, length_of_data}
use Rattle.rv_layout_rules.specs.Externals.{externals}
use Rattle.rv_layout_rules.specs.Laid.{code_from, rows_from, descs_from, sym_of}
use Rattle.rv_layout_rules.specs.TooLarge.{section_bytes_of}

-- The bytes of each section, and that they are few enough to be counted.
pub record Sized (s : Source) (calls : List ExtRow) : Type 0 where
  pub funcs_few : sum_by item_size (contents s.file.now.items) < 2 ^ 59
  pub funcs : 4 + sum_by item_size (contents s.file.now.items) ≡ section_bytes_of (laid_of s) section.Func
  pub code : 4 * s.places.now.end ≡ section_bytes_of (laid_of s) section.Code
  pub bytes : s.data.now.bytes ≡ section_bytes_of (laid_of s) section.Data
  pub syms_few : sum_by symbol_size (contents s.data.now.symbols) < 2 ^ 59
  pub syms : 4 + sum_by symbol_size (contents s.data.now.symbols) ≡ section_bytes_of (laid_of s) section.Syms
  pub roots_few : 8 * length (contents s.data.now.roots) ≤ s.data.now.bytes
  pub roots : 4 + 4 * length (contents s.data.now.roots) ≡ section_bytes_of (laid_of s) section.Root
  pub calls_few : sum_by call_size calls < 2 ^ 59
  pub extcs : 4 + sum_by call_size calls ≡ section_bytes_of (laid_of s) section.Extc
  pub descs_few : sum_by pieces_size s.pieces.now < 2 ^ 59
  pub descs : 4 + sum_by pieces_size s.pieces.now ≡ section_bytes_of (laid_of s) section.Desc

roots_length : (rs : List ℕ) → length (table_bytes le32 rs) ≡ 4 + 4 * length rs
unfolding table_bytes
roots_length rs = omega (arith, length-append (le32 (length rs)) (flat_map le32 rs), length-le32 (length rs), length-words rs)

abbrev in_data : ℕ → ℕ
in_data address = address - data_start

pub sized : (s : Source) → IsSource s → (calls : List ExtRow) → map ext calls ≡ externals (tree_of s) → Sized s calls
sized s source calls same =
    let file = tree_of s in
    let forms = forms_in s.places.now in
    let ps = s.pieces.now in
    let items = contents s.file.now.items in
    let symbols = contents s.data.now.symbols in
    let rows = rows_from stub_words (functions file) ps forms in
    let items_same = items_are items in
    let rows_same = rows_size stub_words (functions file) ps forms source.can.each_one source.places.forms in
    let code = code_from file (source_entries s) stub_words ps forms in
    let syms_same = ap (λ (ss : List DataSymbolTree). sum_by sym_size (map sym_of ss)) source.placed.symbols in
    let symbols_few : length symbols < 2 ^ 32 = omega (arith, length-map symbols symbol_view, ap length source.placed.symbols, source.can.of_file.few_symbols) in
    let named = subst (λ (ss : List DataSymbolTree). AllByRecursion (λ (x : DataSymbolTree). IsSymbol x.name) ss) (sym source.placed.symbols) source.can.of_file.symbols in
    let exts = externals file in
    let exts_same = ap (sum_by ext_size) same in
    let few_exts = exts_most exts source.can.of_file.calls in
    let descs = descs_from stub_words ps forms in
    let root_count = ap length source.placed.roots in
    record {
      funcs_few = omega (arith, items_same, functions_most (functions file) source.can.of_file.rows, source.can.of_file.few_functions);
      funcs = omega (arith, items_same, rows_same, table_length func_bytes row_size row_length rows);
      code = omega (arith, length-append stub code, all_length file (source_entries s) stub_words ps forms, end_is s source);
      bytes = source.placed.bytes ∙ sym (length_of_data file (source_entries s));
      syms_few = omega (arith, symbols_most symbols named, symbols_few);
      syms = omega (arith, symbols_are symbols, syms_same, table_length sym_bytes sym_size sym_length (map sym_of (symbols_of file)));
      roots_few = omega (arith, cells_few data_start (data_end file) (root_cells file) (roots_in_data file), root_count, source.placed.bytes);
      roots = omega (arith, roots_length (map in_data (root_cells file)), length-map (root_cells file) in_data, root_count);
      calls_few = omega (arith, calls_are calls, exts_same, few_exts, source.can.of_file.few_externals);
      extcs = omega (arith, calls_are calls, exts_same, table_length ext_bytes ext_size ext_length exts);
      descs_few = omega (arith, pieces_most ps, source.can.few);
      descs = omega (arith, descs_are stub_words ps forms source.places.forms, table_length (desc_bytes 2) desc_size desc_length descs);
    }
