-- The text of a stage of the compiler: of one function, of all, and of the file.
use Rattle.std.specs.Prelude.{◌≡◌, ℕ, List, [], Option, Some, None, MatchOption}
use Rattle.std.specs.List.{AllZip, concat}
use Rattle.cmm_tree.specs.Tree.{FunctionTree, FileTree, functions}
use Rattle.comballoc_rules.specs.Combined.{combined}
use Rattle.image_form.specs.Image.{AreTables}
use Rattle.image_form.specs.Tables.{Tables}
use Rattle.image_listings.specs.Texts.{frames_text, code_text}
use Rattle.rv_layout_rules.specs.TooLarge.{first_too_large}
use Rattle.lin_ir.specs.Text.{lin_text}
use Rattle.lin_ir.specs.declared.lin.Lin.{Lin}
use Rattle.lin_pass.specs.Linear.{IsLinearOf}
use Rattle.mach_ir.specs.Text.{mach_text}
use Rattle.mach_ir.specs.declared.mach.Mach.{Mach}
use Rattle.prepare.specs.Known.{IsPreparedMach, IsPassedTo}
use Rattle.file_promise.specs.Known.{IsFunctionMade, AreTablesMadeFor, in_order}
use Rattle.choices.specs.declared.choices.Choices.{Choices}
use Rattle.reg_rounds.specs.Known.{IsRegisterAllocated}
use Rattle.rv_pieces.specs.declared.piece.Pieces.{Pieces}
use Rattle.selection_rules.specs.Select.{selected}
use Rattle.stages.specs.declared.stage.Stage.{Stage}
use Rattle.stages.specs.declared.stage.Stage.TheVariants.{Select, CombAlloc, Cse, Dead, Spill, Split, Alloc, Linear, Frames, Code}

-- ---- functions

-- It is what is selected of the function, prepared and with a place for each register.
pub record IsAllocatedFor (choices : Choices) (tree : FunctionTree) (m : Mach) : Type 0 where
  pub prepared : Mach
  pub is_prepared : IsPreparedMach (selected tree) prepared
  pub allocated : IsRegisterAllocated choices.alloc prepared m

-- It is that as lines, in their order.
pub record IsLinearFor (choices : Choices) (tree : FunctionTree) (l : Lin) : Type 0 where
  pub mach : Mach
  pub is_allocated : IsAllocatedFor choices tree mach
  pub lines : Lin
  pub linear : IsLinearOf mach lines
  pub ordered : l ≡ in_order choices.order lines

-- It is the text of one of these.
pub record IsTextOf {X : Type 0} (text_of : X → List ℕ) (Is : X → Type 0) (text : List ℕ) : Type 0 where
  pub made : X
  pub is : Is made
  pub spelled : text ≡ text_of made

-- the text of what the passes up to a stage make of a function; a stage of the image has none
abbrev pub IsPassText : Choices → Stage → FunctionTree → List ℕ → Type 0
IsPassText choices Alloc tree text = IsTextOf mach_text (IsAllocatedFor choices tree) text
IsPassText choices Linear tree text = IsTextOf lin_text (IsLinearFor choices tree) text
IsPassText choices Frames tree text = text ≡ []
IsPassText choices Code tree text = text ≡ []
IsPassText choices stage tree text =
    IsTextOf mach_text (IsPassedTo (selected tree) stage) text

-- the text of a function at a stage, by what its code is made of
abbrev pub stage_text : (choices : Choices) → Stage → (tree : FunctionTree) {pieces : Pieces} →
    IsFunctionMade choices tree pieces → List ℕ
stage_text choices Select tree of = mach_text (selected tree)
stage_text choices CombAlloc tree of = mach_text (combined (selected tree))
stage_text choices Cse tree of = mach_text of.made.is_prepared.common_again
stage_text choices Dead tree of = mach_text of.made.is_prepared.dropped
stage_text choices Spill tree of = mach_text of.made.is_prepared.spilled
stage_text choices Split tree of = mach_text of.made.prepared
stage_text choices Alloc tree of = mach_text of.made.mach
stage_text choices Linear tree of = lin_text of.lin
stage_text choices Frames tree of = []
stage_text choices Code tree of = []

-- This is the function's text at the stage: the passes up to it make it, and whatever code is made of the
-- function is made of what this is the text of.
-- `list` makes no pass past the stage, so this does not say that code is made at all: where the image is
-- too large there is none.
pub record IsFunctionText (choices : Choices) (stage : Stage) (tree : FunctionTree) (text : List ℕ)
    : Type 0 where
  pub passed : IsPassText choices stage tree text
  pub of_code : (pieces : Pieces) (of : IsFunctionMade choices tree pieces) →
      text ≡ stage_text choices stage tree of

-- the texts of all, one after the other
pub record AreFunctionTexts (choices : Choices) (stage : Stage) (trees : List FunctionTree)
    (text : List ℕ) : Type 0 where
  pub texts : List (List ℕ)
  pub each : AllZip (IsFunctionText choices stage) trees texts
  pub whole : text ≡ concat texts

-- ---- files

-- This is such a text of the image that is made for the file, no section of which passes its limit.
pub record IsImageText (choices : Choices) (text_of : Tables → List ℕ) (file : FileTree)
    (text : List ℕ) : Type 0 where
  pub image : Tables
  pub is_image : AreTables image
  pub made : AreTablesMadeFor choices file image
  pub fits : first_too_large image ≡ None
  pub is : text ≡ text_of image

-- which text of the image a stage is, if it is one; the other stages are texts of functions
abbrev pub image_text : Stage → Option (Tables → List ℕ)
image_text Frames = Some frames_text
image_text Code = Some code_text
image_text Select = None
image_text CombAlloc = None
image_text Cse = None
image_text Dead = None
image_text Spill = None
image_text Split = None
image_text Alloc = None
image_text Linear = None

-- the text of a stage of a file
abbrev pub IsStageText : Choices → FileTree → Stage → List ℕ → Type 0
IsStageText choices file stage text =
    MatchOption (image_text stage) (AreFunctionTexts choices stage (functions file) text)
    (λ text_of. IsImageText choices text_of file text)
