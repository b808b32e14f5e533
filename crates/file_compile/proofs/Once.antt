-- A stage of a file has one text.
use Rattle.std.proofs.Common.{◌≡◌, ℕ, List, [], ◌∷◌, Option, Some, None, refl, sym, ap, ◌∙◌, subst}
use Rattle.std.specs.Prelude.{MatchOption}
use Rattle.std.specs.List.{AllZip, concat}
use Rattle.cmm_tree.specs.Tree.{FunctionTree, FileTree, functions}
use Rattle.file_promise.proofs.Once.{made_for_once}
use Rattle.image_form.specs.Tables.{Tables}
use Rattle.lin_ir.specs.declared.lin.Lin.{Lin}
use Rattle.lin_pass.specs.Linear.{IsLinearOf}
use Rattle.lin_pass.proofs.Once.{linear_once}
use Rattle.mach_ir.specs.declared.mach.Mach.{Mach}
use Rattle.prepare.proofs.Known.{one_passed, one_prepared, repeated_passed, dropped_passed, spilled_passed, passed}
use Rattle.prepare.specs.Known.{selects, combines}
use Rattle.comballoc_rules.specs.Combined.{combined}
use Rattle.file_promise.specs.Known.{IsFunctionMade, in_order}
use Rattle.choices.specs.declared.choices.Choices.{Choices}
use Rattle.reg_rounds.specs.Known.{IsRegisterAllocated}
use Rattle.reg_rounds.proofs.Known.{allocated_once}
use Rattle.rv_pieces.specs.declared.piece.Pieces.{Pieces}
use Rattle.selection_rules.specs.Select.{selected}
use Rattle.stages.specs.declared.stage.Stage.{Stage}
use Rattle.stages.specs.declared.stage.Stage.TheVariants.{Select, CombAlloc, Cse, Dead, Spill, Split, Alloc, Linear, Frames, Code}
use Rattle.file_compile.specs.Listed.{IsAllocatedFor, IsLinearFor, IsTextOf, IsPassText, stage_text, IsFunctionText, AreFunctionTexts, IsImageText, image_text, IsStageText}

-- where one is made, one text is
one_text : {X : Type 0} {text_of : X → List ℕ} {Is : X → Type 0} (a b : List ℕ) → ((x y : X) → Is x → Is y → x ≡ y) →
    IsTextOf text_of Is a → IsTextOf text_of Is b → a ≡ b
one_text {text_of = text_of} a b one of it = of.spelled ∙ ap text_of (one of.made it.made of.is it.is) ∙ sym it.spelled

module _ (choices : Choices) (tree : FunctionTree) where
  one_allocated : (m n : Mach) → IsAllocatedFor choices tree m → IsAllocatedFor choices tree n → m ≡ n
  one_allocated m n a b =
      let prepared = one_prepared (selected tree) a.prepared b.prepared a.is_prepared b.is_prepared in
      allocated_once a.allocated (subst (λ (p : Mach). IsRegisterAllocated choices.alloc p n) (sym prepared) b.allocated)

  one_linear : (l k : Lin) → IsLinearFor choices tree l → IsLinearFor choices tree k → l ≡ k
  one_linear l k a b =
      let same = one_allocated a.mach b.mach a.is_allocated b.is_allocated in
      a.ordered
      ∙ ap (in_order choices.order) (linear_once a.linear (subst (λ (p : Mach). IsLinearOf p b.lines) (sym same) b.linear))
      ∙ sym b.ordered

  pass_once : (stage : Stage) (a b : List ℕ) → IsPassText choices stage tree a → IsPassText choices stage tree b → a ≡ b
  pass_once Alloc a b of it = one_text a b one_allocated of it
  pass_once Linear a b of it = one_text a b one_linear of it
  pass_once Frames a b of it = of ∙ sym it
  pass_once Code a b of it = of ∙ sym it
  pass_once stage a b of it = one_text a b (λ m n x y. one_passed x y) of it

  module _ {pieces : Pieces} (of : IsFunctionMade choices tree pieces) where
    is_allocated : IsAllocatedFor choices tree of.made.mach
    is_allocated = record { prepared = of.made.prepared; is_prepared = of.made.is_prepared; allocated = of.made.allocated }

    -- what the code is made of is what the passes make
    code_passed : (stage : Stage) → IsPassText choices stage tree (stage_text choices stage tree of)
    code_passed Select = record { made = selected tree; is = selects refl; spelled = refl }
    code_passed CombAlloc = record { made = combined (selected tree); is = combines refl; spelled = refl }
    code_passed Cse = record { made = of.made.is_prepared.common_again; is = repeated_passed of.made.is_prepared; spelled = refl }
    code_passed Dead = record { made = of.made.is_prepared.dropped; is = dropped_passed of.made.is_prepared; spelled = refl }
    code_passed Spill = record { made = of.made.is_prepared.spilled; is = spilled_passed of.made.is_prepared; spelled = refl }
    code_passed Split = record { made = of.made.prepared; is = passed of.made.is_prepared; spelled = refl }
    code_passed Alloc = record { made = of.made.mach; is = is_allocated; spelled = refl }
    code_passed Linear = record {
      made = of.lin;
      is = record { mach = of.made.mach; is_allocated = is_allocated; lines = of.made.lines; linear = of.made.linear; ordered = of.made.ordered };
      spelled = refl;
    }
    code_passed Frames = refl
    code_passed Code = refl

  -- the text that the passes make is the function's at the stage
  pub passed_text : (stage : Stage) (text : List ℕ) → IsPassText choices stage tree text → IsFunctionText choices stage tree text
  passed_text stage text is =
      record { passed = is; of_code = λ pieces of. pass_once stage text (stage_text choices stage tree of) is (code_passed of stage) }

module _ (choices : Choices) (stage : Stage) where
  texts_once : (trees : List FunctionTree) (xs ys : List (List ℕ)) → AllZip (IsFunctionText choices stage) trees xs → AllZip (IsFunctionText choices stage) trees ys → xs ≡ ys
  texts_once [] [] [] a b = refl
  texts_once [] [] (y ∷ ys) a b = absurd b
  texts_once [] (x ∷ xs) ys a b = absurd a
  texts_once (t ∷ trees) [] ys a b = absurd a
  texts_once (t ∷ trees) (x ∷ xs) [] a b = absurd b
  texts_once (t ∷ trees) (x ∷ xs) (y ∷ ys) a b =
      ap (λ (z : List ℕ). z ∷ xs) (pass_once choices t stage x y (a.0).passed (b.0).passed)
      ∙ ap (λ (zs : List (List ℕ)). y ∷ zs) (texts_once trees xs ys a.1 b.1)

  functions_once : (trees : List FunctionTree) (a b : List ℕ) → AreFunctionTexts choices stage trees a → AreFunctionTexts choices stage trees b → a ≡ b
  functions_once trees a b of it = of.whole ∙ ap concat (texts_once trees of.texts it.texts of.each it.each) ∙ sym it.whole

image_once : (choices : Choices) (text_of : Tables → List ℕ) (file : FileTree) (a b : List ℕ) → IsImageText choices text_of file a → IsImageText choices text_of file b → a ≡ b
image_once choices text_of file a b of it = of.is ∙ ap text_of (made_for_once file of.image it.image of.made it.made) ∙ sym it.is

text_once : (choices : Choices) (file : FileTree) (stage : Stage) (a b : List ℕ) (o : Option (Tables → List ℕ))
    → MatchOption o (AreFunctionTexts choices stage (functions file) a) (λ text_of. IsImageText choices text_of file a)
    → MatchOption o (AreFunctionTexts choices stage (functions file) b) (λ text_of. IsImageText choices text_of file b)
    → a ≡ b
text_once choices file stage a b None of it = functions_once choices stage (functions file) a b of it
text_once choices file stage a b (Some text_of) of it = image_once choices text_of file a b of it

-- The text of a stage of a file is one.
pub stage_text_once : (choices : Choices) (file : FileTree) (stage : Stage) (a b : List ℕ) → IsStageText choices file stage a → IsStageText choices file stage b → a ≡ b
stage_text_once choices file stage a b of it = text_once choices file stage a b (image_text stage) of it
