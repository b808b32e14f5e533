-- One image is made for a file.
use Rattle.std.proofs.Common.{◌≡◌, List, [], ◌∷◌, ap, subst, sym, ◌∙◌, refl}
use Rattle.std.specs.List.{AllZip}
use Rattle.choices.specs.declared.choices.Choices.{Choices}
use Rattle.cmm_tree.specs.Tree.{FunctionTree, FileTree, functions}
use Rattle.image_form.specs.Tables.{Tables}
use Rattle.rv_layout_rules.specs.declared.form.Form.{Form}
use Rattle.rv_layout_rules.specs.Forms.{none_far}
use Rattle.rv_layout_rules.specs.Laid.{AreAllForms, laid_out}
use Rattle.rv_layout_rules.proofs.Relaxing.{forms_once}
use Rattle.made_once.specs.Known.{IsFunctionMade, AreTablesMadeFor}
use Rattle.made_once.proofs.Made.{made_once}
use Rattle.rv_pieces.specs.declared.piece.Pieces.{Pieces}

pieces_once : (choices : Choices) (fs : List FunctionTree) (ps qs : List Pieces) → AllZip (IsFunctionMade choices) fs ps → AllZip (IsFunctionMade choices) fs qs → ps ≡ qs
pieces_once choices [] [] [] a b = refl
pieces_once choices [] [] (q ∷ qs) a b = absurd b
pieces_once choices [] (p ∷ ps) qs a b = absurd a
pieces_once choices (f ∷ fs) [] qs a b = absurd a
pieces_once choices (f ∷ fs) (p ∷ ps) [] a b = absurd b
pieces_once choices (f ∷ fs) (p ∷ ps) (q ∷ qs) a b =
    ap (λ (x : Pieces). x ∷ ps) (made_once a.0.made b.0.made) ∙ ap (λ (xs : List Pieces). q ∷ xs) (pieces_once choices fs ps qs a.1 b.1)

all_forms_once : (ps : List Pieces) (fs gs : List (List Form)) → AreAllForms ps fs → AreAllForms ps gs → fs ≡ gs
all_forms_once [] [] [] a b = refl
all_forms_once [] [] (g ∷ gs) a b = absurd b
all_forms_once [] (f ∷ fs) gs a b = absurd a
all_forms_once (p ∷ ps) [] gs a b = absurd a
all_forms_once (p ∷ ps) (f ∷ fs) [] a b = absurd b
all_forms_once (p ∷ ps) (f ∷ fs) (g ∷ gs) a b =
    ap (λ (x : List Form). x ∷ fs) (forms_once none_far p.code f g a.0 b.0) ∙ ap (λ (xs : List (List Form)). g ∷ xs) (all_forms_once ps fs gs a.1 b.1)

pub made_for_once : {choices : Choices} (file : FileTree) (t u : Tables) → AreTablesMadeFor choices file t → AreTablesMadeFor choices file u → t ≡ u
made_for_once {choices} file t u a b =
    let same : a.pieces ≡ b.pieces = pieces_once choices (functions file) a.pieces b.pieces a.each b.each in
    let are : AreAllForms b.pieces a.laid.forms = subst (λ (ps : List Pieces). AreAllForms ps a.laid.forms) same a.laid.are in
    a.laid.is
    ∙ ap (λ (ps : List Pieces). laid_out file ps a.laid.forms) same
    ∙ ap (laid_out file b.pieces) (all_forms_once b.pieces a.laid.forms b.laid.forms are b.laid.are)
    ∙ sym b.laid.is
