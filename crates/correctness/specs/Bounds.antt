-- How large an image is at most, by the text of its file.
use Rattle.std.specs.Prelude.{◌≡◌, ℕ, ◌+◌, ◌*◌, ◌≤◌, Bool, ◌&&◌, nat_lt, nat_le, List, [], ◌∷◌, length, take, sum_by, count_by}
use Rattle.std.specs.List.{AllZip}
use Rattle.cmm_tree.specs.Tree.{FunctionTree, FileTree, functions}
use Rattle.correctness.specs.Measures.{frame_points, switch_indexes, tries}
use Rattle.image_form.specs.Image.{function_end, stub, stub_words, table_limit, code_limit}
use Rattle.image_form.specs.Tables.{Tables, Func, Desc}

-- the most words of a function's code
abbrev pub most_words : FunctionTree → ℕ
most_words f = 2048 * f.tokens + 8 * switch_indexes f

-- the most bytes of a function's descriptors: one for each frame point, of at most 8 bytes for each token and 156 more
abbrev pub most_desc_bytes : FunctionTree → ℕ
most_desc_bytes f = frame_points f * (8 * f.tokens + 156)

-- ---- an image and its file

-- the word before a return address, which called, is one of the function's
abbrev pub is_called_in : Func → Desc → Bool
is_called_in row d = nat_lt row.offset d.after && nat_le d.after (function_end row)

-- A function's row, and the descriptors of its calls, keep to the text.
pub record IsWithinText (described : List Desc) (f : FunctionTree) (row : Func) : Type 0 where
  -- bytes of the frame, and 16 for each try that may be on top
  pub frame : row.frame + 16 * tries f ≤ 16 * f.tokens + 32
  pub words : row.words ≤ most_words f
  pub descs : count_by (is_called_in row) described ≤ frame_points f

-- the functions' words lie one after the other, and fill the code from one byte to another
abbrev pub FillCode : ℕ → ℕ → List Func → Type 0
FillCode from to [] = from ≡ to
FillCode from to (row ∷ rows) = (row.offset ≡ from) × FillCode (function_end row) to rows

-- An image is as small as the text of its file asks: each function keeps to its own text, and the code
-- is the stub and the functions' words, with no other words.
-- It is always cited beside `IsCorrect`: an image that claims a frame larger than any stack would be
-- correct with any code after it.
pub record IsBounded (file : FileTree) (image : Tables) : Type 0 where
  pub each : AllZip (IsWithinText image.descs) (functions file) image.funcs
  pub stub_first : take stub_words image.code ≡ stub
  pub filled : FillCode (4 * stub_words) (4 * length image.code) image.funcs

-- A file whose image fits, whatever its code is within the bounds above.
pub record IsRoomy (file : FileTree) : Type 0 where
  -- bytes of code, with those of the stub
  pub code : 4 * (stub_words + sum_by most_words (functions file)) ≤ code_limit
  -- bytes of descriptors, with those of their number
  pub descs : 4 + sum_by most_desc_bytes (functions file) ≤ table_limit
