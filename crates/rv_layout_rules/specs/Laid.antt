-- The image of a file whose functions are pieces.
use Rattle.std.specs.Prelude.{◌≡◌, ℕ, ◌+◌, ◌-◌, ◌*◌, List, [], ◌∷◌, ◌++◌, map, take, Option, Some, None, slice_index}
use Rattle.std.specs.List.{flat_map, AllZip}
use Rattle.std.specs.Int.{w64, to_le_bytes}
use Rattle.bs_words.specs.Fits.{data_start}
use Rattle.bs_words.specs.Memory.{StaticList}
use Rattle.bs_words.specs.declared.values.Value.{Value}
use Rattle.bs_words.specs.declared.values.Value.TheVariants.{Word, Block, Function}
use Rattle.cmm_data.specs.Contents.{statics, root_cells}
use Rattle.cmm_data.specs.Placement.{DataSymbolTree, symbols_of, data_bytes, value_of_symbol}
use Rattle.cmm_tree.specs.Tree.{FunctionTree, FileTree, functions, comps_of}
use Rattle.cmm_types.specs.Types.{body_type, result_of}
use Rattle.image_form.specs.Image.{stub, stub_words}
use Rattle.image_form.specs.Tables.{Tables, Func, Sym, Desc}
use Rattle.rv_layout_rules.specs.declared.form.Form.{Form}
use Rattle.rv_layout_rules.specs.Externals.{externals, external_number}
use Rattle.rv_layout_rules.specs.Forms.{piece_words, total_words, label_word_offset, none_far, AreForms, Reach}
use Rattle.rv_layout_rules.specs.Words.{NameAddresses, words_from}
use Rattle.rv_emit_rules.specs.Known.{Descr}
use Rattle.rv_machine.specs.Memory.{code_start}
use Rattle.rv_pieces.specs.declared.piece.Piece.{Piece}
use Rattle.rv_pieces.specs.declared.piece.Piece.TheVariants.{Descriptor}
use Rattle.rv_pieces.specs.declared.piece.Pieces.{Pieces}

-- ---- places, in words from the start of the code

-- the entries of functions that lie one after the other
abbrev pub function_entries_from : ℕ → List Pieces → List (List Form) → List ℕ
function_entries_from at [] forms = []
function_entries_from at (p ∷ ps) [] = []
function_entries_from at (p ∷ ps) (f ∷ forms) = at ∷ function_entries_from (at + total_words p.code f) ps forms

abbrev pub address_of_place : ℕ → ℕ
address_of_place place = code_start + 4 * place

-- ---- names

-- the address of what a symbol stands for, where the functions have these entries
abbrev pub address_of_value : (entries : List ℕ) → Option Value → ℕ
address_of_value entries (Some (Word address)) = address
address_of_value entries (Some (Function f)) = address_of_place (slice_index entries f)
address_of_value entries (Some (Block serial offset)) = 0
address_of_value entries None = 0

-- what the pieces of a function name, whose entry is at this word
abbrev pub addresses_named_at : FileTree → (entries : List ℕ) → (at : ℕ) → List Piece → List Form → NameAddresses
addresses_named_at file entries at ps forms = record {
  label = λ l. address_of_place (at + label_word_offset ps forms l);
  symbol = λ name. address_of_value entries (value_of_symbol file name);
  external = external_number (externals file);
}

-- ---- code

-- the words of a function whose entry is at this word
abbrev pub function_words : FileTree → (entries : List ℕ) → (at : ℕ) → List Piece → List Form → List ℕ
function_words file entries at ps forms =
    words_from (addresses_named_at file entries at ps forms) (address_of_place at) ps forms

abbrev pub code_from : FileTree → (entries : List ℕ) → (at : ℕ) → List Pieces → List (List Form) →
    List ℕ
code_from file entries at [] forms = []
code_from file entries at (p ∷ ps) [] = []
code_from file entries at (p ∷ ps) (f ∷ forms) =
    function_words file entries at p.code f
    ++ code_from file entries (at + total_words p.code f) ps forms

-- ---- the table of functions

abbrev pub row_at : (at : ℕ) → FunctionTree → Pieces → List Form → Func
row_at at f p forms = record {
  name = f.name;
  offset = 4 * at;
  words = total_words p.code forms;
  frame = p.frame;
  params = comps_of f;
  result = result_of (body_type f);
}

abbrev pub rows_from : (at : ℕ) → List FunctionTree → List Pieces → List (List Form) → List Func
rows_from at (f ∷ fs) (p ∷ ps) (k ∷ forms) =
    row_at at f p k ∷ rows_from (at + total_words p.code k) fs ps forms
rows_from at _ _ _ = []

-- ---- descriptors

abbrev pub descriptor_laid_at : (at : ℕ) → Descr → Desc
descriptor_laid_at at d = record { after = 4 * at; size = d.size; entries = d.entries }

-- A descriptor's return address is that of the word after it.
abbrev pub descs_in : (at : ℕ) → List Piece → List Form → List Desc
descs_in at [] forms = []
descs_in at (p ∷ ps) [] = []
descs_in at (Descriptor d ∷ ps) (f ∷ forms) = descriptor_laid_at at d ∷ descs_in at ps forms
descs_in at (p ∷ ps) (f ∷ forms) = descs_in (at + piece_words p f) ps forms

abbrev pub descs_from : (at : ℕ) → List Pieces → List (List Form) → List Desc
descs_from at [] forms = []
descs_from at (p ∷ ps) [] = []
descs_from at (p ∷ ps) (f ∷ forms) =
    descs_in at p.code f ++ descs_from (at + total_words p.code f) ps forms

-- ---- data

-- the eight bytes of a cell
abbrev pub cell_bytes : (entries : List ℕ) → Value → List ℕ
cell_bytes entries v = to_le_bytes w64 (address_of_value entries (Some v))

-- the bytes of all cells, of which those past the end of the data are cut off: a list begins at the
-- next multiple of 8, and zeros fill up its last cell
abbrev pub data_of : FileTree → (entries : List ℕ) → List ℕ
data_of file entries =
    take (data_bytes file)
    (flat_map (λ (l : StaticList). flat_map (cell_bytes entries) l.cells) (statics file))

abbrev pub sym_of : DataSymbolTree → Sym
sym_of s = record { name = s.name; offset = s.address - data_start }

-- ---- the whole

-- The image, of version 2: the stub and the functions in the order of the text, the data, its symbols
-- with the built-in one first, its root cells, the external calls in the order of their first use, and
-- the descriptors.
abbrev pub laid_out : FileTree → List Pieces → List (List Form) → Tables
laid_out file ps forms =
    let entries : List ℕ = function_entries_from stub_words ps forms in
    record {
      version = 2;
      funcs = rows_from stub_words (functions file) ps forms;
      code = stub ++ code_from file entries stub_words ps forms;
      bytes = data_of file entries;
      syms = map sym_of (symbols_of file);
      roots = map (λ address. address - data_start) (root_cells file);
      extcs = externals file;
      descs = descs_from stub_words ps forms;
    }

-- the forms of each function of an image: nothing is far
abbrev pub AreAllForms : List Pieces → List (List Form) → Type 0
AreAllForms ps forms = AllZip (λ (p : Pieces) k. AreForms none_far p.code k) ps forms

-- in which each branch and jump reaches its label
abbrev pub AllReach : List Pieces → List (List Form) → Type 0
AllReach ps forms = AllZip (λ (p : Pieces) k. Reach p.code k) ps forms

-- The tables are those of the file, whose functions are these pieces, in forms that reach: what a
-- run of the image needs to know. The forms may be longer than the least ones.
pub record IsLaid (file : FileTree) (ps : List Pieces) (t : Tables) : Type 0 where
  pub forms : List (List Form)
  pub reach : AllReach ps forms
  pub is : t ≡ laid_out file ps forms

-- The tables are those of the file, whose functions are these pieces, each in its least forms.
pub record IsLaidOut (file : FileTree) (ps : List Pieces) (t : Tables) : Type 0 where
  pub forms : List (List Form)
  pub are : AreAllForms ps forms
  pub is : t ≡ laid_out file ps forms
