-- The functions of a file, made one after the other.
use Rattle.std.proofs.Common.{◌≡◌, ◌<◌, ℕ, List, [], ◌∷◌, All, Bor, length, map, sym, ap, subst, arith, ◌∙◌}
use Rattle.std.proofs.lemmas.List.Elements.{All-nil, All-cons}
use Rattle.std.proofs.lemmas.List.{length-map}
use Rattle.std.specs.Prelude.{Contains}
use Rattle.std.specs.List.{AllZip}
use Rattle.choices.specs.declared.choices.Choices.{Choices}
use Rattle.cmm_tree.specs.Tree.{FunctionTree, FileTree, functions, functions_among}
use Rattle.cmm_tree.specs.View.{file_view, function_view, item_view}
use Rattle.bs_words.specs.Contents.{contents}
use Rattle.cmm_tree.specs.declared.file.File.{File}
use Rattle.cmm_tree.specs.declared.file.Function.{Function}
use Rattle.cmm_tree.specs.declared.file.Item.{Item}
use Rattle.cmm_types.proofs.Containing.{contains_head, contains_tail}
use Rattle.rv_pieces.specs.declared.piece.Pieces.{Pieces}
use Rattle.file_compile.specs.Accepted.{IsAcceptedFile, IsAcceptedFunction}
use Rattle.file_promise.specs.Known.{IsFunctionMade}

-- of the functions, as of their trees
pub made_trees : (choices : Choices) (fs : List (Bor Function)) (ps : List Pieces) → AllZip (λ (f : Bor Function) p. IsFunctionMade choices (function_view f.now) p) fs ps →
    AllZip (IsFunctionMade choices) (map (λ (f : Bor Function). function_view f.now) fs) ps
made_trees choices [] [] made = tt
made_trees choices [] (p ∷ ps) made = absurd made
made_trees choices (f ∷ fs) [] made = absurd made
made_trees choices (f ∷ fs) (p ∷ ps) made = (made.0, made_trees choices fs ps made.1)

-- what is listed of the items of a file are its functions
pub all_listed : (file : File) (items : List Item) (fs gs : List (Bor Function)) → items ≡ contents file.items → gs ≡ fs →
    map (λ (f : Bor Function). function_view f.now) fs ≡ functions_among (map item_view items) → map (λ (f : Bor Function). function_view f.now) gs ≡ functions (file_view file)
all_listed file items fs gs whole same trees =
    ap (λ (l : List (Bor Function)). map (λ (f : Bor Function). function_view f.now) l) same
    ∙ trees
    ∙ ap (λ (l : List Item). functions_among (map item_view l)) whole

-- so there are as many
pub few_listed : (most : ℕ) (file : File) (items : List Item) (fs gs : List (Bor Function)) → items ≡ contents file.items → gs ≡ fs →
    map (λ (f : Bor Function). function_view f.now) fs ≡ functions_among (map item_view items) → length (functions (file_view file)) < most → length gs < most
few_listed most file items fs gs whole same trees few =
    omega (arith, few, length-map gs (λ (f : Bor Function). function_view f.now), ap (λ (l : List FunctionTree). length l) (all_listed file items fs gs whole same trees))

-- what is made of what is listed is made of the functions
pub all_made : (choices : Choices) (file : File) (items : List Item) (fs gs : List (Bor Function)) (ps qs : List Pieces) → items ≡ contents file.items → gs ≡ fs →
    map (λ (f : Bor Function). function_view f.now) fs ≡ functions_among (map item_view items) → AllZip (IsFunctionMade choices) (map (λ (f : Bor Function). function_view f.now) gs) ps →
    qs ≡ ps → AllZip (IsFunctionMade choices) (functions (file_view file)) qs
all_made choices file items fs gs ps qs whole same trees made kept =
    subst (AllZip (IsFunctionMade choices) (functions (file_view file))) (sym kept)
    (subst (λ (l : List FunctionTree). AllZip (IsFunctionMade choices) l ps) (all_listed file items fs gs whole same trees) made)

module _ (file : FileTree) (accepted : IsAcceptedFile file) where
  each_accepted : (fs : List (Bor Function)) → ((tree : FunctionTree) → Contains (map (λ (f : Bor Function). function_view f.now) fs) tree → Contains (functions file) tree) →
      All (λ (f : Bor Function). IsAcceptedFunction (function_view f.now)) fs
  each_accepted [] among = All-nil (λ (f : Bor Function). IsAcceptedFunction (function_view f.now))
  each_accepted (f ∷ fs) among =
      let trees : List FunctionTree = map (λ (g : Bor Function). function_view g.now) fs in
      All-cons (λ (g : Bor Function). IsAcceptedFunction (function_view g.now)) f fs
      (record { file = file; of_file = accepted; among = among (function_view f.now) (contains_head (function_view f.now) trees) })
      (each_accepted fs (λ tree c. among tree (contains_tail (function_view f.now) trees tree c)))

  -- each function of an accepted file is one of it
  pub all_accepted : (fs : List (Bor Function)) → map (λ (f : Bor Function). function_view f.now) fs ≡ functions file →
      All (λ (f : Bor Function). IsAcceptedFunction (function_view f.now)) fs
  all_accepted fs same = each_accepted fs (λ tree c. subst (λ (l : List FunctionTree). Contains l tree) same c)
