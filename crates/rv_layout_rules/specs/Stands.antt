-- How the pieces of a function lie in the code of an image.
use Rattle.std.specs.Prelude.{◌≡◌, ℕ, ◌+◌, ◌*◌, ◌≤◌, List, [], ◌∷◌, length, Some, slice_get, ⊤}
use Rattle.cmm_tree.specs.Tree.{FileTree}
use Rattle.image_form.specs.Image.{stub_words}
use Rattle.image_form.specs.Tables.{Tables, Func}
use Rattle.rv_layout_rules.specs.declared.form.Form.{Form}
use Rattle.rv_layout_rules.specs.Forms.{piece_words, total_words, Reach}
use Rattle.rv_layout_rules.specs.Laid.{address_of_place, addresses_named_at}
use Rattle.rv_layout_rules.specs.Words.{NameAddresses, instructions_of_piece}
use Rattle.rv_isa.specs.Encoding.{InstrFits, encoded}
use Rattle.rv_isa.specs.declared.instr.Instr.{Instr}
use Rattle.rv_pieces.specs.declared.piece.Piece.{Piece}
use Rattle.rv_pieces.specs.declared.piece.Pieces.{Pieces}

-- instructions are in the code from this word on, and their numbers fit their fields
abbrev pub HasEncodings : List ℕ → (at : ℕ) → List Instr → Type 0
HasEncodings code at [] = ⊤
HasEncodings code at (i ∷ is) =
    (slice_get code at ≡ Some (encoded i)) × InstrFits i × HasEncodings code (at + 1) is

-- pieces are in the code from this word on, each in its form
abbrev pub HasPieces : List ℕ → NameAddresses → (at : ℕ) → List Piece → List Form → Type 0
HasPieces code n at [] [] = ⊤
HasPieces code n at [] (f ∷ forms) = ⊥
HasPieces code n at (p ∷ ps) [] = ⊥
HasPieces code n at (p ∷ ps) (f ∷ forms) =
    HasEncodings code at (instructions_of_piece n (address_of_place at) p f)
    × HasPieces code n (at + piece_words p f) ps forms

-- A function is in the code from this word on, and this is its row, where the functions of the file
-- have these entries.
pub record FunctionStandsAt (file : FileTree) (entries code : List ℕ) (place : ℕ) (p : Pieces) (forms : List Form)
    (row : Func) : Type 0 where
  pub offset : row.offset ≡ 4 * place
  pub words : row.words ≡ total_words p.code forms
  pub frame : row.frame ≡ p.frame
  pub behind : stub_words ≤ place
  pub within : place + total_words p.code forms ≤ length code
  pub has : HasPieces code (addresses_named_at file entries place p.code forms) place p.code forms

-- Function k of the file is in the image: what a run of its pieces needs to know of the code.
pub record IsFunctionInImage (file : FileTree) (entries : List ℕ) (all : List (List Form)) (t : Tables) (k : ℕ)
    (p : Pieces) : Type 0 where
  pub forms : List Form
  pub chosen : slice_get all k ≡ Some forms
  pub reach : Reach p.code forms
  pub place : ℕ
  pub entry : slice_get entries k ≡ Some place
  pub row : Func
  pub row_is : slice_get t.funcs k ≡ Some row
  pub stands : FunctionStandsAt file entries t.code place p forms row
