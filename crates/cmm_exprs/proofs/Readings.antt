-- Lists whose parts say whether another follows.
use Rattle.std.proofs.Common.{◌≡◌, List, [], ◌∷◌, ◌++◌, Bool, true, false, map, refl, ap}
use Rattle.cmm_tree.specs.View.{index_view, expr_view, label_view, params_view}
use Rattle.cmm_tree.specs.Tree.{Choose, Handle}
use Rattle.cmm_tree.specs.declared.expr.Case.{Case}
use Rattle.cmm_tree.specs.declared.expr.Handler.{Handler}
use Rattle.cmm_grammar.specs.Parts.{cases, handlers}
use Rattle.cmm_tree.specs.Rows.{cases_of, handlers_of}
use Rattle.cmm_exprs.specs.Results.{marked_parts, case_part, handler_part}

pub marked-push : {X A : Type 0} (part : Bool → X → A) (xs : List X) (x : X) → marked_parts part (xs ++ x ∷ []) ≡ map (part true) xs ++ part false x ∷ []
marked-push part [] x = refl
marked-push part (y ∷ []) x = refl
marked-push part (y ∷ z ∷ xs) x = ap (λ v. part true y ∷ v) (marked-push part (z ∷ xs) x)

pub cases-marked : (cs : List Case) → cases (marked_parts case_part cs) ≡ cases_of cs
cases-marked [] = refl
cases-marked (c ∷ []) = refl
cases-marked (c ∷ e ∷ cs) = ap (λ v. Choose (map index_view c.indexes.items) (expr_view c.body) v) (cases-marked (e ∷ cs))

pub handlers-marked : (hs : List Handler) → handlers (marked_parts handler_part hs) ≡ handlers_of hs
handlers-marked [] = refl
handlers-marked (h ∷ []) = refl
handlers-marked (h ∷ i ∷ hs) = ap (λ v. Handle h.at (label_view h.label) (params_view h.params.items) (expr_view h.body) v) (handlers-marked (i ∷ hs))
