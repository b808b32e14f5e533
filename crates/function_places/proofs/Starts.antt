-- Where functions begin that are laid out, one after the other.
use Rattle.std.proofs.Common.{◌≡◌, ℕ, ◌+◌, ◌<◌, ◌≤◌, List, [], ◌∷◌, ◌++◌, length, map, get_or, drop, refl, sym, ap, ◌∙◌, append_assoc, arith}
use Rattle.std.specs.Prelude.{sum_by}
use Rattle.std.specs.List.{AllZip}
use Rattle.std.proofs.lemmas.List.{append-nil, drop_all}
use Rattle.std.proofs.lemmas.List.Sums.{sum_by-cons}
use Rattle.function_places.specs.Places.{IsLaidFunction}
use Rattle.function_places.specs.declared.places.Laid.{Laid}
use Rattle.rv_layout_rules.specs.declared.form.Form.{Form}
use Rattle.rv_layout_rules.specs.Forms.{total_words, all_words}
use Rattle.rv_layout_rules.specs.Laid.{function_entries_from, AreAllForms}
use Rattle.rv_pieces.specs.declared.piece.Pieces.{Pieces}
use Rattle.bs_words.proofs.Lists.{drop_step}

abbrev pub own_forms : Laid → List Form
own_forms own = own.forms.items

abbrev pub own_words : Laid → ℕ
own_words own = own.words

-- where functions begin, the first of them here
abbrev pub starts : ℕ → List Laid → List ℕ
starts at [] = []
starts at (own ∷ all) = at ∷ starts (at + own.words) all

pub starts_step : (all : List Laid) (i : ℕ) (own : Laid) (at : ℕ) (entries entries' total : List ℕ) → i < length all → own ≡ get_or all i own → entries' ≡ entries ++ at ∷ [] →
    entries ++ starts at (drop i all) ≡ total → entries' ++ starts (at + own.words) (drop (i + 1) all) ≡ total
starts_step all i own at entries entries' total h is e so_far =
    let rest = starts (at + own.words) (drop (i + 1) all) in
    ap (λ es. es ++ rest) e
    ∙ (append_assoc entries (at ∷ []) rest ∙ (ap (λ l. entries ++ starts at l) (sym (drop_step all i own h is)) ∙ so_far))

pub starts_done : (all : List Laid) (i at : ℕ) (entries total : List ℕ) → length all ≤ i → entries ++ starts at (drop i all) ≡ total → entries ≡ total
starts_done all i at entries total h so_far =
    let none = ap (λ l. entries ++ starts at l) (drop_all i all h) in
    sym (append-nil entries) ∙ (sym none ∙ so_far)

pub forms_laid : (ps : List Pieces) (all : List Laid) → AllZip IsLaidFunction ps all → AreAllForms ps (map own_forms all)
forms_laid [] [] each = tt
forms_laid [] (own ∷ all) each = absurd each
forms_laid (p ∷ ps) [] each = absurd each
forms_laid (p ∷ ps) (own ∷ all) each = (each.0.forms, forms_laid ps all each.1)

pub starts_laid : (at : ℕ) (ps : List Pieces) (all : List Laid) → AllZip IsLaidFunction ps all → starts at all ≡ function_entries_from at ps (map own_forms all)
starts_laid at [] [] each = refl
starts_laid at [] (own ∷ all) each = absurd each
starts_laid at (p ∷ ps) [] each = absurd each
starts_laid at (p ∷ ps) (own ∷ all) each =
    ap (λ l. at ∷ l) (ap (λ n. starts (at + n) all) each.0.words ∙ starts_laid (at + total_words p.code own.forms.items) ps all each.1)

pub words_laid : (ps : List Pieces) (all : List Laid) → AllZip IsLaidFunction ps all → sum_by own_words all ≡ all_words ps (map own_forms all)
words_laid [] [] each = refl
words_laid [] (own ∷ all) each = absurd each
words_laid (p ∷ ps) [] each = absurd each
words_laid (p ∷ ps) (own ∷ all) each = omega (arith, sum_by-cons own_words own all, each.0.words, words_laid ps all each.1)
