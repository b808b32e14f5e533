-- One turn of a loop over the items of a file.
use Rattle.std.proofs.Common.{◌≡◌, ℕ, zero, suc, ◌+◌, ◌<◌, List, [], ◌∷◌, ◌++◌, map, length, get_or, take, drop, set, Option, ap, sym, subst, ◌∙◌, arith}
use Rattle.std.proofs.lemmas.List.{take_more_set}
use Rattle.bs_fault.specs.declared.fault.Fault.{Fault}
use Rattle.cmm_tree.specs.View.{item_view, data_item_view}
use Rattle.cmm_tree.specs.declared.file.Item.{Item}
use Rattle.cmm_tree.specs.declared.file.DataItem.{DataItem}
use Rattle.cmm_tree.specs.Symbols.{DefinedSymbol, item_symbols, symbols_among, datum_symbols, data_symbols}
use Rattle.cmm_types.specs.Gathered.{item_faults, items_faults, with_symbols, symbol_faults}
use Rattle.bs_fault.specs.Reported.{noted_all}
use Rattle.cmm_types.specs.Typing.{IsItemAnnotated, AreItemsAnnotated}
use Rattle.cmm_types.proofs.Appending.{with_symbols-append, symbol_faults-append}
use Rattle.bs_words.proofs.Lists.{drop_step}

pub items_view-set : (xs : List Item) (i : ℕ) (x y : Item) → i < length xs → x ≡ get_or xs i x → item_view y ≡ item_view x → map item_view (set xs i y) ≡ map item_view xs
items_view-set [] i x y lt at v = absurd (omega arith)
items_view-set (z ∷ zs) zero x y lt at v = ap (λ w. w ∷ map item_view zs) (v ∙ ap item_view at)
items_view-set (z ∷ zs) (suc i) x y lt at v = ap (λ l. item_view z ∷ l) (items_view-set zs i x y (omega arith) at v)

items_push : (xs : List Item) (y : Item) → AreItemsAnnotated xs → IsItemAnnotated y → AreItemsAnnotated (xs ++ y ∷ [])
items_push [] y all own = (own, tt)
items_push (x ∷ xs) y all own = (all.0, items_push xs y all.1 own)

pub items-set : (xs : List Item) (i : ℕ) (y : Item) → i < length xs → AreItemsAnnotated (take i xs) → IsItemAnnotated y → AreItemsAnnotated (take (i + 1) (set xs i y))
items-set xs i y lt all own =
    let P : List Item → Type 0 = λ l. AreItemsAnnotated l in
    subst P (sym (take_more_set xs i y lt)) (items_push (take i xs) y all own)

pub items_turn : (d : List ℕ → Option DefinedSymbol) (xs : List Item) (i : ℕ) (x : Item) (found after : Option Fault) → i < length xs → x ≡ get_or xs i x
    → after ≡ noted_all (item_faults d (item_view x)) found
    → noted_all (items_faults d (map item_view (drop (i + 1) xs))) after ≡ noted_all (items_faults d (map item_view (drop i xs))) found
items_turn d xs i x found after lt at is =
    ap (noted_all (items_faults d (map item_view (drop (i + 1) xs)))) is
    ∙ sym (ap (λ k. noted_all (items_faults d (map item_view k)) found) (drop_step xs i x lt at))

-- ---- symbols

pub symbols_turn : (xs : List Item) (i : ℕ) (x : Item) (known after : List DefinedSymbol) → i < length xs → x ≡ get_or xs i x
    → after ≡ with_symbols known (item_symbols (item_view x))
    → with_symbols after (symbols_among (map item_view (drop (i + 1) xs))) ≡ with_symbols known (symbols_among (map item_view (drop i xs)))
symbols_turn xs i x known after lt at is =
    let rest = symbols_among (map item_view (drop (i + 1) xs)) in
    ap (λ k. with_symbols k rest) is
    ∙ sym (with_symbols-append known (item_symbols (item_view x)) rest)
    ∙ sym (ap (λ k. with_symbols known (symbols_among (map item_view k))) (drop_step xs i x lt at))

pub symbol_faults_turn : (xs : List Item) (i : ℕ) (x : Item) (known after : List DefinedSymbol) (found noted : Option Fault) → i < length xs → x ≡ get_or xs i x
    → after ≡ with_symbols known (item_symbols (item_view x))
    → noted ≡ noted_all (symbol_faults known (item_symbols (item_view x))) found
    → noted_all (symbol_faults after (symbols_among (map item_view (drop (i + 1) xs)))) noted ≡ noted_all (symbol_faults known (symbols_among (map item_view (drop i xs)))) found
symbol_faults_turn xs i x known after found noted lt at is told =
    let rest = symbols_among (map item_view (drop (i + 1) xs)) in
    ap (λ k. noted_all (symbol_faults k rest) noted) is
    ∙ ap (noted_all (symbol_faults (with_symbols known (item_symbols (item_view x))) rest)) told
    ∙ sym (symbol_faults-append known (item_symbols (item_view x)) rest found)
    ∙ sym (ap (λ k. noted_all (symbol_faults known (symbols_among (map item_view k))) found) (drop_step xs i x lt at))

pub data_turn : (xs : List DataItem) (i : ℕ) (x : DataItem) (known after : List DefinedSymbol) → i < length xs → x ≡ get_or xs i x
    → after ≡ with_symbols known (datum_symbols x.at (data_item_view x).datum)
    → with_symbols after (data_symbols (map data_item_view (drop (i + 1) xs))) ≡ with_symbols known (data_symbols (map data_item_view (drop i xs)))
data_turn xs i x known after lt at is =
    let rest = data_symbols (map data_item_view (drop (i + 1) xs)) in
    ap (λ k. with_symbols k rest) is
    ∙ sym (with_symbols-append known (datum_symbols x.at (data_item_view x).datum) rest)
    ∙ sym (ap (λ k. with_symbols known (data_symbols (map data_item_view k))) (drop_step xs i x lt at))

pub data_faults_turn : (xs : List DataItem) (i : ℕ) (x : DataItem) (known after : List DefinedSymbol) (found noted : Option Fault) → i < length xs → x ≡ get_or xs i x
    → after ≡ with_symbols known (datum_symbols x.at (data_item_view x).datum)
    → noted ≡ noted_all (symbol_faults known (datum_symbols x.at (data_item_view x).datum)) found
    → noted_all (symbol_faults after (data_symbols (map data_item_view (drop (i + 1) xs)))) noted ≡ noted_all (symbol_faults known (data_symbols (map data_item_view (drop i xs)))) found
data_faults_turn xs i x known after found noted lt at is told =
    let own = datum_symbols x.at (data_item_view x).datum in
    let rest = data_symbols (map data_item_view (drop (i + 1) xs)) in
    ap (λ k. noted_all (symbol_faults k rest) noted) is
    ∙ ap (noted_all (symbol_faults (with_symbols known own) rest)) told
    ∙ sym (symbol_faults-append known own rest found)
    ∙ sym (ap (λ k. noted_all (symbol_faults known (data_symbols (map data_item_view k))) found) (drop_step xs i x lt at))
