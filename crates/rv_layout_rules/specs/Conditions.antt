-- What laying out asks of a file and of the pieces of its functions.
use Rattle.std.specs.Prelude.{◌≡◌, ◌≢◌, ℕ, ◌+◌, ◌%◌, ◌^◌, ◌<◌, ◌≤◌, Bool, true, false, List, [], ◌∷◌, ◌++◌, length, map, Some, None, IsSome, Contains, count_by, sum_by, ⊤}
use Rattle.std.specs.List.{AllByRecursion, AllPairs}
use Rattle.bs_words.specs.Symbol.{IsSymbol}
use Rattle.cmm_data.specs.Contents.{root_cells}
use Rattle.cmm_data.specs.Faults.{data_fault_of}
use Rattle.cmm_data.specs.Placement.{DataSymbolTree, symbols_of, value_of_symbol}
use Rattle.cmm_tree.specs.Tree.{FunctionTree, FileTree, functions, comps_of}
use Rattle.cmm_types.specs.Types.{body_type, result_of}
use Rattle.image_form.specs.Image.{EachNext, IsEntry, IsNextEntry, IsParam, IsResult, IsExt}
use Rattle.rv_layout_rules.specs.Externals.{externals}
use Rattle.rv_layout_rules.specs.Forms.{is_label_piece}
use Rattle.rv_emit_rules.specs.Known.{Descr}
use Rattle.mach_ir.specs.Acts.{external_row}
use Rattle.mach_ir.specs.declared.op.External as declared
use Rattle.rv_pieces.specs.Named.{PieceFits, label_named, symbol_named, external_named, has_words}
use Rattle.rv_pieces.specs.declared.piece.Piece.{Piece}
use Rattle.rv_pieces.specs.declared.piece.Piece.TheVariants as piece
use Rattle.rv_pieces.specs.declared.piece.Pieces.{Pieces}

-- ---- pieces

-- a branch and a jump lead to where an instruction may be
abbrev pub HasAlignedTarget : ℕ → Piece → Type 0
HasAlignedTarget to (piece.Branch c a b l) = to % 4 ≡ 0
HasAlignedTarget to (piece.Jump l) = to % 4 ≡ 0
HasAlignedTarget to _ = ⊤

abbrev pub AllLead : List ℕ → List Piece → Type 0
AllLead targets [] = ⊤
AllLead [] (p ∷ ps) = ⊥
AllLead (to ∷ targets) (p ∷ ps) = HasAlignedTarget to p × AllLead targets ps

-- what a piece names is there: its label once among the pieces, its symbol and its external call in the
-- file
pub record AreNamesPresent (file : FileTree) (ps : List Piece) (p : Piece) : Type 0 where
  pub label : (l : ℕ) → label_named p ≡ Some l → count_by (is_label_piece l) ps ≡ 1
  pub symbol : (name : List ℕ) → symbol_named p ≡ Some name → IsSome (value_of_symbol file name)
  pub external : (row : declared.External) → external_named p ≡ Some row →
      Contains (externals file) (external_row row)

-- a descriptor that keeps the rules of images
pub record IsDescriptor (d : Descr) : Type 0 where
  pub size_aligned : d.size % 16 ≡ 0
  pub nonempty : 16 ≤ d.size
  pub size_fits : d.size < 2 ^ 32
  pub few : length d.entries < 2 ^ 32
  pub entries : AllByRecursion (IsEntry d.size) d.entries
  pub in_order : EachNext IsNextEntry d.entries

-- each descriptor keeps the rules, and after the entry and between two of them there is a word
abbrev pub AreDescriptors : (behind_word : Bool) → List Piece → Type 0
AreDescriptors behind [] = ⊤
AreDescriptors behind (piece.Descriptor d ∷ ps) =
    (behind ≡ true) × IsDescriptor d × AreDescriptors false ps
AreDescriptors behind (piece.Label l ∷ ps) = AreDescriptors behind ps
AreDescriptors behind (_ ∷ ps) = AreDescriptors true ps

-- The pieces of a function: at least one instruction, whose numbers fit; all that is named is there; its
-- frame and its descriptors keep the rules of images.
pub record IsFunctionLaid (file : FileTree) (p : Pieces) : Type 0 where
  pub nonempty : 0 < count_by has_words p.code
  pub fits : AllByRecursion PieceFits p.code
  pub named : AllByRecursion (AreNamesPresent file p.code) p.code
  pub frame : p.frame % 16 ≡ 0
  pub frame_fits : p.frame < 2 ^ 32
  pub descriptors : AreDescriptors false p.code

-- a piece counts as one, and one more for each entry of a descriptor
abbrev pub piece_weight : Piece → ℕ
piece_weight (piece.Descriptor d) = 1 + length d.entries
piece_weight _ = 1

abbrev pub weight_of : List Piece → ℕ
weight_of ps = sum_by piece_weight ps

-- ---- the file

-- a function's row keeps the rules of images
pub record IsRowLaid (f : FunctionTree) : Type 0 where
  pub name : IsSymbol f.name
  pub few : length f.params ≤ 16
  pub params : AllByRecursion IsParam (comps_of f)
  pub result : IsResult (result_of (body_type f))

-- What each file keeps that was accepted: its names and types may be in an image, no symbol is
-- defined twice, its data has no fault, and it is no longer than a text. A root cell lies at a multiple
-- of 8: that is a rule of data, but for integers out of range, which no file has that was accepted.
pub record IsFileLaid (file : FileTree) : Type 0 where
  pub rows : AllByRecursion IsRowLaid (functions file)
  pub symbols : AllByRecursion (λ (s : DataSymbolTree). IsSymbol s.name) (symbols_of file)
  pub differ : AllPairs (λ (x y : List ℕ). x ≢ y)
      (map (λ (f : FunctionTree). f.name) (functions file)
      ++ map (λ (s : DataSymbolTree). s.name) (symbols_of file))
  pub calls : AllByRecursion IsExt (externals file)
  pub no_fault : data_fault_of file ≡ None
  pub roots : AllByRecursion (λ address. address % 8 ≡ 0) (root_cells file)
  pub few_functions : length (functions file) < 2 ^ 32
  pub few_symbols : length (symbols_of file) < 2 ^ 32
  pub few_externals : length (externals file) < 2 ^ 32

-- ---- both

-- A file and the pieces of its functions, in order.
-- All pieces have to weigh less than 2^48, so that places, sizes and sums of them are numbers of 64 bits. A
-- text of at most 16 MiB has no more (`images_are_bounded`).
pub record CanBeLaid (file : FileTree) (ps : List Pieces) : Type 0 where
  pub of_file : IsFileLaid file
  pub each_one : length ps ≡ length (functions file)
  pub each : AllByRecursion (IsFunctionLaid file) ps
  pub few : sum_by (λ (p : Pieces). weight_of p.code) ps < 2 ^ 48
