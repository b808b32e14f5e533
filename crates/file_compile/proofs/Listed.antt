-- The functions among the items of a file, one after the other.
use Rattle.std.proofs.Common.{◌≡◌, ◌<◌, ◌+◌, ◌++◌, ℕ, List, [], ◌∷◌, All, Bor, length, map, drop, get_or, refl, sym, ap, subst, ◌∙◌}
use Rattle.std.proofs.lemmas.List.Elements.{All-push}
use Rattle.cmm_tree.specs.Tree.{FunctionTree, functions_among}
use Rattle.cmm_tree.specs.View.{function_view, item_view}
use Rattle.cmm_tree.specs.declared.file.DataList.{DataList}
use Rattle.cmm_tree.specs.declared.file.Function.{Function}
use Rattle.cmm_tree.specs.declared.file.Item.{Item}
use Rattle.cmm_tree.specs.declared.file.Item.TheVariants as item
use Rattle.cmm_types.specs.Typing.{AreItemsAnnotated, IsFunctionAnnotated}
use Rattle.bs_words.proofs.Lists.{drop_step}

abbrev tree : Bor Function → FunctionTree
tree f = function_view f.now

-- These are the functions among the first so many items.
pub record AreListed (items : List Item) (k : ℕ) (fs : List (Bor Function)) : Type 0 where
  pub trees : map (λ (f : Bor Function). function_view f.now) fs ++ functions_among (map item_view (drop k items)) ≡ functions_among (map item_view items)
  pub typed : All (λ (f : Bor Function). IsFunctionAnnotated f.now) fs
  pub rest : AreItemsAnnotated (drop k items)

moved : (fs : List (Bor Function)) (f : Bor Function) (rest : List FunctionTree) → map tree (fs ++ (f ∷ [])) ++ rest ≡ map tree fs ++ (tree f ∷ rest)
moved [] f rest = refl
moved (g ∷ fs) f rest = ap (λ (l : List FunctionTree). tree g ∷ l) (moved fs f rest)

pub function_listed : (items : List Item) (k : ℕ) (i : Item) (f : Bor Function) (fs gs : List (Bor Function)) →
    k < length items → i ≡ get_or items k i → i ≡ item.Function f.now → gs ≡ fs ++ (f ∷ []) → AreListed items k fs → AreListed items (k + 1) gs
function_listed items k i f fs gs less at is more so =
    let here : drop k items ≡ item.Function f.now ∷ drop (k + 1) items = drop_step items k i less at ∙ ap (λ (j : Item). j ∷ drop (k + 1) items) is in
    let both : IsFunctionAnnotated f.now × AreItemsAnnotated (drop (k + 1) items) = subst AreItemsAnnotated here so.rest in
    record {
      trees =
          ap (λ (l : List (Bor Function)). map tree l ++ functions_among (map item_view (drop (k + 1) items))) more
          ∙ moved fs f (functions_among (map item_view (drop (k + 1) items)))
          ∙ sym (ap (λ (l : List Item). map tree fs ++ functions_among (map item_view l)) here)
          ∙ so.trees;
      typed = subst (All (λ (g : Bor Function). IsFunctionAnnotated g.now)) (sym more) (All-push (λ (g : Bor Function). IsFunctionAnnotated g.now) fs f so.typed both.0);
      rest = both.1;
    }

pub data_passed : (items : List Item) (k : ℕ) (i : Item) (d : DataList) (fs gs : List (Bor Function)) →
    k < length items → i ≡ get_or items k i → i ≡ item.Data d → gs ≡ fs → AreListed items k fs → AreListed items (k + 1) gs
data_passed items k i d fs gs less at is same so =
    let here : drop k items ≡ item.Data d ∷ drop (k + 1) items = drop_step items k i less at ∙ ap (λ (j : Item). j ∷ drop (k + 1) items) is in
    let both : Unit {0} × AreItemsAnnotated (drop (k + 1) items) = subst AreItemsAnnotated here so.rest in
    subst (AreListed items (k + 1)) (sym same) (record {
      trees = sym (ap (λ (l : List Item). map tree fs ++ functions_among (map item_view l)) here) ∙ so.trees;
      typed = so.typed;
      rest = both.1;
    })
