-- How rows grow while nodes are walked.
use Rattle.std.proofs.Common.{◌≡◌, ℕ, ◌+◌, ◌<◌, ◌≤◌, List, [], ◌∷◌, ◌++◌, length, get_or, drop, refl, sym, ap, ap₂, ◌∙◌, subst, OnOk, Ok, Err, Result}
use Rattle.std.proofs.lemmas.List.{drop_all, append-nil}
use Rattle.bs_words.specs.External.{External}
use Rattle.cmm_tree.specs.declared.expr.Expr.{Expr}
use Rattle.cmm_tree.specs.declared.file.Item.{Item}
use Rattle.cmm_tree.specs.declared.file.Item.TheVariants as item
use Rattle.assemble_rules.specs.Held.{calls_held, calls_among_items}
use Rattle.assemble_rules.proofs.Externals.{firsts_append}
use Rattle.rv_layout_rules.specs.Externals.{firsts_behind}
use Rattle.bs_words.proofs.Lists.{drop_step}

-- the calls of one item after the other
pub one_more : {A : Type 0} (calls : List A → List External) (own : A → List External) → ((x : A) (xs : List A) → calls (x ∷ xs) ≡ own x ++ calls xs) →
    (xs : List A) (i : ℕ) (x : A) (rows new all : List External) → i < length xs → x ≡ get_or xs i x →
    new ≡ firsts_behind rows (own x) → firsts_behind rows (calls (drop i xs)) ≡ all → firsts_behind new (calls (drop (i + 1) xs)) ≡ all
one_more calls own step xs i x rows new all h e is so_far =
    let rest = drop (i + 1) xs in
    ap (λ r. firsts_behind r (calls rest)) is
    ∙ (sym (firsts_append rows (own x) (calls rest))
    ∙ (ap (firsts_behind rows) (sym (step x rest)) ∙ (ap (λ ys. firsts_behind rows (calls ys)) (sym (drop_step xs i x h e)) ∙ so_far)))

pub no_more : {A : Type 0} (calls : List A → List External) → calls [] ≡ [] → (xs : List A) (i : ℕ) (rows all : List External) → length xs ≤ i →
    firsts_behind rows (calls (drop i xs)) ≡ all → rows ≡ all
no_more calls none xs i rows all h so_far =
    ap (firsts_behind rows) (sym none) ∙ (ap (λ ys. firsts_behind rows (calls ys)) (sym (drop_all i xs h)) ∙ so_far)

-- what one call notes, and what two do
pub one : {A E : Type 0} (r : Result A E) (rows last xs all : List External) → all ≡ xs → OnOk r (last ≡ firsts_behind rows xs) → OnOk r (last ≡ firsts_behind rows all)
one r rows last xs all e h = subst (λ es. OnOk r (last ≡ firsts_behind rows es)) (sym e) h

pub two : {A E : Type 0} (r : Result A E) (rows middle last xs ys all : List External) → all ≡ xs ++ ys → middle ≡ firsts_behind rows xs →
    OnOk r (last ≡ firsts_behind middle ys) → OnOk r (last ≡ firsts_behind rows all)
two (Ok a) rows middle last xs ys all e f h = h ∙ (ap (λ r. firsts_behind r ys) f ∙ (sym (firsts_append rows xs ys) ∙ ap (firsts_behind rows) (sym e)))
two (Err a) rows middle last xs ys all e f h = tt

pub both : (xs xs' ys ys' : List External) → xs' ≡ xs → ys' ≡ ys → xs ++ ys ≡ xs' ++ ys'
both xs xs' ys ys' e f = ap₂ (λ (a b : List External). a ++ b) (sym e) (sym f)

abbrev pub calls : Expr → List External
calls e = calls_held e.form

-- ---- items of a file

pub item_step : (i : Item) (items : List Item) → calls_among_items (i ∷ items) ≡ calls_among_items (i ∷ []) ++ calls_among_items items
item_step (item.Function f) items = ap (λ es. es ++ calls_among_items items) (sym (append-nil (calls f.body)))
item_step (item.Data d) items = refl
