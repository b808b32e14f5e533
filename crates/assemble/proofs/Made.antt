-- Static data of an image, as it is made.
use Rattle.std.proofs.Common.{◌≡◌, ℕ, zero, suc, ◌-◌, ◌≤◌, List, [], ◌∷◌, length, map, take, flat_map, get_or, true, ◌<◌, refl, sym, ap, ap₂, ◌∙◌, arith}
use Rattle.std.proofs.Math.Dec.{ltb}
use Rattle.std.proofs.lemmas.Bool.{ltb-true}
use Rattle.std.proofs.lemmas.List.{take_all}
use Rattle.std.proofs.lemmas.List.Folds.{flat_map-map}
use Rattle.assemble.specs.Source.{IsSource, source_entries, laid_of}
use Rattle.assemble.specs.declared.source.Source.{Source}
use Rattle.bs_words.specs.Contents.{contents}
use Rattle.bs_words.specs.Fits.{data_start}
use Rattle.bs_words.specs.Memory.{StaticList}
use Rattle.cmm_data.specs.Map.{symbol_view, cells_view}
use Rattle.cmm_data.specs.declared.data_map.DataCells.{DataCells}
use Rattle.cmm_data.specs.declared.data_map.DataSymbol.{DataSymbol}
use Rattle.image_form.specs.Tables.{Sym}
use Rattle.rv_layout_rules.specs.Laid.{cell_bytes, sym_of}

pub got : (xs : List ℕ) (i x : ℕ) → true ≡ ltb i (length xs) → x ≡ get_or xs i x → x ≡ get_or xs i 0
got xs i x within at = by xs i (ltb-true i (length xs) (sym within)) at
  where
    by : (ys : List ℕ) (k : ℕ) → k < length ys → x ≡ get_or ys k x → x ≡ get_or ys k 0
    by [] k h e = absurd (omega (arith, h))
    by (y ∷ ys) zero h e = e
    by (y ∷ ys) (suc k) h e = by ys k (omega (arith, h)) e

pub bytes_made : (s : Source) → IsSource s → (items : List DataCells) (i : ℕ) (bytes : List ℕ) → items ≡ contents s.data.now.lists → length items ≤ i →
    bytes ≡ flat_map (λ (list : DataCells). flat_map (cell_bytes (source_entries s)) (contents list.cells)) (take i items) →
    take s.data.now.bytes bytes ≡ (laid_of s).bytes
bytes_made s source items i bytes is h made =
    let own = λ (l : StaticList). flat_map (cell_bytes (source_entries s)) l.cells in
    let all : bytes ≡ flat_map (λ (x : DataCells). own (cells_view x)) (contents s.data.now.lists) =
    made ∙ ap (flat_map (λ (x : DataCells). own (cells_view x))) (take_all i items h ∙ is) in
    ap₂ take source.placed.bytes (all ∙ (sym (flat_map-map own cells_view (contents s.data.now.lists)) ∙ ap (flat_map own) source.placed.lists))

syms_of : (ss : List DataSymbol) → map (λ (x : DataSymbol). sym_of (symbol_view x)) ss ≡ map sym_of (map symbol_view ss)
syms_of [] = refl
syms_of (x ∷ ss) = ap (λ rows. sym_of (symbol_view x) ∷ rows) (syms_of ss)

pub syms_made : (s : Source) → IsSource s → (items : List DataSymbol) (i : ℕ) (rows : List Sym) → items ≡ contents s.data.now.symbols → length items ≤ i →
    rows ≡ map (λ (x : DataSymbol). sym_of (symbol_view x)) (take i items) → rows ≡ (laid_of s).syms
syms_made s source items i rows is h made =
    made ∙ (ap (map (λ (x : DataSymbol). sym_of (symbol_view x))) (take_all i items h ∙ is) ∙ (syms_of (contents s.data.now.symbols) ∙ ap (map sym_of) source.placed.symbols))

pub roots_made : (s : Source) → IsSource s → (items : List ℕ) (i : ℕ) (roots : List ℕ) → items ≡ contents s.data.now.roots → length items ≤ i →
    roots ≡ map (λ address. address - data_start) (take i items) → roots ≡ (laid_of s).roots
roots_made s source items i roots is h made =
    made ∙ ap (map (λ address. address - data_start)) (take_all i items h ∙ (is ∙ source.placed.roots))
