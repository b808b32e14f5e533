-- Handlers that are taken off one stack and put on another, where the bare one is left out.
use Rattle.std.proofs.Common.{◌≡◌, true, false, List, [], ◌∷◌, ◌++◌, map, reverse, ap, sym, ◌∙◌}
use Rattle.std.proofs.lemmas.List.{map-append}
use Rattle.cmm_tree.specs.Tree.{is_bare}
use Rattle.cmm_tree.specs.View.{label_view}
use Rattle.selection_rules.specs.Select.{in_handlers}
use Rattle.selection_scope.proofs.Scopes.{top, below-bare, below-named}
use Rattle.selection_scope.specs.Scoping.{target_view}
use Rattle.selection_scope.specs.declared.scope.Target.{Target}

pub put-named : (left rest labels pushed : List Target) (t : Target) → left ≡ rest ++ t ∷ [] → pushed ≡ labels ++ t ∷ [] → is_bare (label_view t.label) ≡ false
    → in_handlers (map target_view rest) ++ map target_view (reverse pushed) ≡ in_handlers (map target_view left) ++ map target_view (reverse labels)
put-named left rest labels pushed t is put named =
    ap (λ l. in_handlers (map target_view rest) ++ map target_view (reverse l)) put
    ∙ ap (λ l. in_handlers (map target_view rest) ++ l) (top target_view labels t)
    ∙ sym (below-named (map target_view rest) (target_view t) (map target_view (reverse labels)) named)
    ∙ ap (λ l. in_handlers l ++ map target_view (reverse labels)) (sym (ap (map target_view) is ∙ map-append target_view rest (t ∷ [])))

pub put-bare : (left rest labels : List Target) (t : Target) → left ≡ rest ++ t ∷ [] → is_bare (label_view t.label) ≡ true
    → in_handlers (map target_view rest) ++ map target_view (reverse labels) ≡ in_handlers (map target_view left) ++ map target_view (reverse labels)
put-bare left rest labels t is bare =
    sym (below-bare (map target_view rest) (target_view t) (map target_view (reverse labels)) bare)
    ∙ ap (λ l. in_handlers l ++ map target_view (reverse labels)) (sym (ap (map target_view) is ∙ map-append target_view rest (t ∷ [])))
