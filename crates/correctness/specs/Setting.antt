-- The setting of two runs: a function of the file, and what both runs are given.
use Rattle.std.specs.Prelude.{◌≡◌, ⊤, ℕ, ◌+◌, ◌^◌, ◌<◌, true, List, [], ◌∷◌, Some, slice_get, map}
use Rattle.std.specs.List.{AllByRecursion}
use Rattle.bs_words.specs.declared.values.Value.TheVariants.{Word}
use Rattle.cmm_meaning.specs.Evaluation.{fit_parameters}
use Rattle.cmm_meaning.specs.Layout.{Layout}
use Rattle.cmm_data.specs.Placement.{data_end}
use Rattle.cmm_types.specs.Types.{body_type, result_of}
use Rattle.cmm_tree.specs.Tree.{FunctionTree, FileTree, functions, comps_of}
use Rattle.image_form.specs.Tables.{Tables, Func}
use Rattle.rv_machine.specs.Memory.{code_start}

-- what a run of the text takes from an image: frame bytes and addresses, function by function
abbrev pub layout_of : Tables → Layout
layout_of image = record {
  frames = map (λ (row : Func). row.frame) image.funcs;
  addresses = map (λ (row : Func). code_start + row.offset) image.funcs;
}

-- A row of the image is that of a function of the file: the same name and types.
pub record IsRowOf (f : FunctionTree) (row : Func) : Type 0 where
  pub name : row.name ≡ f.name
  pub params : row.params ≡ comps_of f
  pub result : row.result ≡ result_of (body_type f)

-- the rows are those of the functions, one by one and in order
abbrev pub AreRowsOf : List FunctionTree → List Func → Type 0
AreRowsOf [] [] = ⊤
AreRowsOf (f ∷ fs) (row ∷ rows) = IsRowOf f row × AreRowsOf fs rows
AreRowsOf [] (row ∷ rows) = ⊥
AreRowsOf (f ∷ fs) [] = ⊥

abbrev pub IsWord : ℕ → Type 0
IsWord w = w < 2 ^ 64

abbrev pub AreWords : List ℕ → Type 0
AreWords words = AllByRecursion IsWord words

-- Function `entry` of the file, its row in the image, and the words that are handed to it: its arguments, which
-- fit its parameters in number and type, and the answers of external calls.
pub record Entered (file : FileTree) (image : Tables) (entry : ℕ) (f : FunctionTree) (row : Func) (args answers : List ℕ)
    : Type 0 where
  pub of_file : slice_get (functions file) entry ≡ Some f
  pub of_image : slice_get image.funcs entry ≡ Some row
  pub args_are_words : AreWords args
  pub args_fit : fit_parameters (data_end file) (comps_of f) (map Word args) ≡ true
  pub answers_are_words : AreWords answers
