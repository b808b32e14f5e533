-- Places of labels, as far as a row of labels is read.
use Rattle.std.proofs.Common.{◌≡◌, ℕ, ◌+◌, ◌<◌, List, ◌∷◌, ◌++◌, [], length, map, take, get_or, sym, ap, ◌∙◌}
use Rattle.std.proofs.lemmas.List.{map-append, take_more}
use Rattle.mach_ir.specs.Acts.{At}
use Rattle.mach_ir.specs.Labels.{place_to}

-- the places of labels, so far
pub switch_more : (places : ℕ → ℕ) (p : ℕ) (ls items new : List ℕ) (i l y : ℕ) → i < length ls → l ≡ get_or ls i l → y ≡ places l →
    items ≡ map (place_to places p) (map At (take i ls)) → new ≡ items ++ y ∷ [] →
    new ≡ map (place_to places p) (map At (take (i + 1) ls))
switch_more places p ls items new i l y lt is e inv n =
    n ∙ ap (λ ys. ys ++ y ∷ []) inv ∙ ap (λ z. map (place_to places p) (map At (take i ls)) ++ z ∷ []) (e ∙ ap places is)
    ∙ sym (ap (λ xs. map (place_to places p) (map At xs)) (take_more ls i l lt)
    ∙ ap (map (place_to places p)) (map-append At (take i ls) (get_or ls i l ∷ []))
    ∙ map-append (place_to places p) (map At (take i ls)) (At (get_or ls i l) ∷ []))
