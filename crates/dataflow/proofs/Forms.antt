-- The test of a graph's form.
use Rattle.std.proofs.Common.{◌≡◌, ℕ, ◌+◌, ◌<◌, ◌≤◌, List, length, take, get_or, sym, ◌∙◌, ap, arith, subst}
use Rattle.std.specs.List.{All}
use Rattle.std.proofs.lemmas.List.{take_all}
use Rattle.std.proofs.lemmas.List.Elements.{All-get_or, All-more}
use Rattle.bs_words.specs.Contents.{contents}
use Rattle.dataflow.specs.declared.flow.Place as place
use Rattle.dataflow.specs.declared.flow.Flow as flow
use Rattle.dataflow.specs.Flow.{IsPlace, IsFlowFormed}

pub one_unfit : (f : flow.Flow) (items : List place.Place) (count i : ℕ) (x : place.Place) → items ≡ contents f.places → count ≡ length (contents f.places) → i < length items → x ≡ get_or items i x → (IsPlace count f.bound x → ⊥) → IsFlowFormed f → ⊥
one_unfit f items count i x e n within read unfit formed =
    let P : ℕ → Type 0 = λ m. IsPlace m f.bound x in
    let Q : place.Place → Type 0 = λ y. IsPlace (length (contents f.places)) f.bound y in
    let at : x ≡ get_or (contents f.places) i x = read ∙ ap (λ (l : List place.Place). get_or l i x) e in
    let below : i < length (contents f.places) = omega (arith, within, ap length e) in
    unfit (subst P (sym n) (subst Q (sym at) (All-get_or Q (contents f.places) i x below formed)))

pub one_more : (P : place.Place → Type 0) (xs items : List place.Place) (i : ℕ) (x : place.Place) → items ≡ xs → i < length items → x ≡ get_or items i x → All P (take i xs) → P x → All P (take (i + 1) xs)
one_more P xs items i x e within read before here =
    let at : x ≡ get_or xs i x = read ∙ ap (λ (l : List place.Place). get_or l i x) e in
    let below : i < length xs = omega (arith, within, ap length e) in
    All-more P xs i x below before (subst P at here)

pub all_fit : (f : flow.Flow) (count i : ℕ) → count ≡ length (contents f.places) → length (contents f.places) ≤ i → All (IsPlace count f.bound) (take i (contents f.places)) → IsFlowFormed f
all_fit f count i n past all =
    let P : ℕ → Type 0 = λ m. All (IsPlace m f.bound) (contents f.places) in
    let Q : List place.Place → Type 0 = λ l. All (IsPlace count f.bound) l in
    subst P n (subst Q (take_all i (contents f.places) past) all)
