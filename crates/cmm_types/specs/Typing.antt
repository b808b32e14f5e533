-- What a file that is typed holds.
use Rattle.std.specs.Prelude.{◌≡◌, List, [], ◌∷◌}
use Rattle.bs_words.specs.Contents.{contents}
use Rattle.bs_fault.specs.declared.fault.FrontError.{FrontError}
use Rattle.bs_fault.specs.declared.fault.FrontError.TheVariants as error
use Rattle.cmm_tree.specs.Symbols.{DefinedSymbol, symbols}
use Rattle.cmm_tree.specs.Tree.{FileTree}
use Rattle.cmm_tree.specs.View.{file_view, params_view}
use Rattle.cmm_tree.specs.declared.file.File.{File}
use Rattle.cmm_tree.specs.declared.file.Function.{Function}
use Rattle.cmm_tree.specs.declared.file.Item.{Item}
use Rattle.cmm_tree.specs.declared.file.Item.TheVariants as item
use Rattle.cmm_types.specs.Types.{with_parameters}
use Rattle.bs_fault.specs.Order.{IsLeftmost}
use Rattle.cmm_types.specs.Annotated.{IsAnnotated}
use Rattle.cmm_types.specs.Faults.{TypeFault}

-- the body of a function and all below it hold their types, in the scope of the parameters
abbrev pub IsFunctionAnnotated : Function → Type 0
IsFunctionAnnotated f = IsAnnotated (with_parameters (params_view (contents f.params)) []) f.body

abbrev pub IsItemAnnotated : Item → Type 0
IsItemAnnotated (item.Function f) = IsFunctionAnnotated f
IsItemAnnotated (item.Data d) = Unit {0}

abbrev pub AreItemsAnnotated : List Item → Type 0
AreItemsAnnotated [] = Unit {0}
AreItemsAnnotated (i ∷ items) = IsItemAnnotated i × AreItemsAnnotated items

-- What is true of each typed file: each node of its functions holds its type, and its symbols are those of its text, in the
-- order of their definitions.
pub record IsTypedFile (file : File) (known : List DefinedSymbol) : Type 0 where
  pub annotated : AreItemsAnnotated (contents file.items)
  pub in_order : known ≡ symbols (file_view file)

-- the fault of the error is the one that is reported; want of memory says nothing of the file
abbrev pub IsFaultTold : FileTree → FrontError → Type 0
IsFaultTold file (error.Fault told) = IsLeftmost (TypeFault file) told
IsFaultTold file error.OutOfMemory = Unit {0}
