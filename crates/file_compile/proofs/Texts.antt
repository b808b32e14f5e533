-- The texts of the functions of a file, one after the other.
use Rattle.std.proofs.Common.{◌≡◌, ◌<◌, ◌+◌, ◌++◌, ℕ, List, [], ◌∷◌, Bor, length, map, take, get_or, refl, sym, ap, subst, ◌∙◌, append-nil}
use Rattle.std.proofs.lemmas.Grind.{take_at_read}
use Rattle.std.proofs.lemmas.List.Folds.{concat-append}
use Rattle.std.specs.List.{AllZip, concat}
use Rattle.choices.specs.declared.choices.Choices.{Choices}
use Rattle.cmm_tree.specs.Tree.{FunctionTree}
use Rattle.cmm_tree.specs.View.{function_view}
use Rattle.cmm_tree.specs.declared.file.Function.{Function}
use Rattle.stages.specs.declared.stage.Stage.{Stage}
use Rattle.file_compile.specs.Listed.{IsFunctionText, AreFunctionTexts}

zip_push : {A B : Type 0} (R : A → B → Type 0) (xs : List A) (ys : List B) (x : A) (y : B) → AllZip R xs ys → R x y → AllZip R (xs ++ (x ∷ [])) (ys ++ (y ∷ []))
zip_push R [] [] x y each more = (more, tt)
zip_push R [] (z ∷ ys) x y each more = absurd each
zip_push R (w ∷ xs) [] x y each more = absurd each
zip_push R (w ∷ xs) (z ∷ ys) x y each more = (each.0, zip_push R xs ys x y each.1 more)

map_push : {A B : Type 0} (f : A → B) (xs : List A) (x : A) → map f (xs ++ (x ∷ [])) ≡ map f xs ++ (f x ∷ [])
map_push f [] x = refl
map_push f (y ∷ xs) x = ap (λ l. f y ∷ l) (map_push f xs x)

abbrev tree : Bor Function → FunctionTree
tree f = function_view f.now

-- the trees of one function more
next_trees : (fs : List (Bor Function)) (k : ℕ) (f : Bor Function) → k < length fs → f ≡ get_or fs k f → map tree (take (k + 1) fs) ≡ map tree (take k fs) ++ (tree f ∷ [])
next_trees fs k f less at =
    let taken : take (k + 1) fs ≡ take k fs ++ (f ∷ []) = (take_at_read fs k f less).1 ∙ ap (λ (g : Bor Function). take k fs ++ (g ∷ [])) (sym at) in
    ap (λ (l : List (Bor Function)). map tree l) taken ∙ map_push tree (take k fs) f

module _ (choices : Choices) (stage : Stage) where
  one_more : (trees : List FunctionTree) (t : FunctionTree) (text own : List ℕ) → AreFunctionTexts choices stage trees text → IsFunctionText choices stage t own →
      AreFunctionTexts choices stage (trees ++ (t ∷ [])) (text ++ own)
  one_more trees t text own are is = record {
    texts = are.texts ++ (own ∷ []);
    each = zip_push (IsFunctionText choices stage) trees are.texts t own are.each is;
    whole =
        ap (λ (l : List ℕ). l ++ own) are.whole
        ∙ sym (concat-append are.texts (own ∷ []) ∙ ap (λ (l : List ℕ). concat are.texts ++ l) (append-nil own));
  }

  pub texts_more : (fs : List (Bor Function)) (k : ℕ) (f : Bor Function) (text own new : List ℕ) → k < length fs → f ≡ get_or fs k f → new ≡ text ++ own →
      IsFunctionText choices stage (tree f) own → AreFunctionTexts choices stage (map tree (take k fs)) text → AreFunctionTexts choices stage (map tree (take (k + 1) fs)) new
  texts_more fs k f text own new less at more is are =
      subst (λ (l : List FunctionTree). AreFunctionTexts choices stage l new) (sym (next_trees fs k f less at))
      (subst (AreFunctionTexts choices stage (map tree (take k fs) ++ (tree f ∷ []))) (sym more) (one_more (map tree (take k fs)) (tree f) text own are is))
