-- The functions of a file hold their types.
use Rattle.std.specs.Prelude.{◌≡◌, ℕ, true, List, Option, Some, None, slice_get, map}
use Rattle.bs_words.specs.Contents.{contents}
use Rattle.cmm_tree.specs.declared.file.File.{File}
use Rattle.bs_words.specs.declared.values.Value.TheVariants.{Word}
use Rattle.cmm_data.specs.Placement.{data_end}
use Rattle.cmm_meaning.specs.Evaluation.{fit_parameters}
use Rattle.cmm_tree.specs.Tree.{FunctionTree, FileTree, functions, comps_of}
use Rattle.cmm_types.specs.Typing.{AreItemsAnnotated}

-- each node of each function holds its type
abbrev pub IsTyped : File → Type 0
IsTyped file = AreItemsAnnotated (contents file.items)

abbrev pub FitsFunction : ℕ → Option FunctionTree → List ℕ → Type 0
FitsFunction end None arguments = ⊥
FitsFunction end (Some f) arguments = fit_parameters end (comps_of f) (map Word arguments) ≡ true

-- the entry is a function of the file, with as many parameters as arguments, which fit them
abbrev pub FitsEntry : FileTree → ℕ → List ℕ → Type 0
FitsEntry file entry arguments =
    FitsFunction (data_end file) (slice_get (functions file) entry) arguments
