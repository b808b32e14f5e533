-- A file has no more functions than items.
use Rattle.std.proofs.Common.{ℕ, ◌≤◌, ◌<◌, List, [], ◌∷◌, length, map, arith}
use Rattle.std.proofs.lemmas.List.{length-map}
use Rattle.bs_words.specs.Contents.{contents}
use Rattle.cmm_tree.specs.Tree.{ItemTree, AFunction, AData, functions, functions_among}
use Rattle.cmm_tree.specs.View.{item_view, file_view}
use Rattle.cmm_tree.specs.declared.file.File.{File}

few_among : (items : List ItemTree) → length (functions_among items) ≤ length items
few_among [] = omega arith
few_among (AFunction f ∷ items) = omega (arith, few_among items)
few_among (AData d ∷ items) = omega (arith, few_among items)

pub few_functions : (file : File) (most : ℕ) → length (contents file.items) < most → length (functions (file_view file)) < most
few_functions file most few =
    omega (arith, few, few_among (map item_view (contents file.items)), length-map (contents file.items) item_view)
