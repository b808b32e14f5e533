-- The external calls of a file: no row occurs twice, and each keeps the rules of images.
use Rattle.std.proofs.Common.{◌≡◌, ◌≢◌, ℕ, Bool, true, false, cond, ◌&&◌, ◌==◌, List, [], ◌∷◌, ◌++◌, map, refl, sym, ap, ◌∙◌, subst, bytes_eq, true≢false}
use Rattle.std.specs.List.{AllByRecursion}
use Rattle.std.proofs.Math.Dec.{T, eqb_refl}
use Rattle.std.proofs.lemmas.Slice.Eq.{bytes_eq-Decides}
use Rattle.std.proofs.lemmas.Bool.{or_parts}
use Rattle.bs_words.specs.External.{External}
use Rattle.bs_words.specs.declared.types.Comp.{Comp}
use Rattle.bs_words.specs.declared.types.Ret.{Ret}
use Rattle.cmm_tree.specs.Tree.{FileTree}
use Rattle.image_form.proofs.Differ.{AllDiffer}
use Rattle.image_form.specs.Image.{comp_byte, ret_byte}
use Rattle.rv_layout_rules.specs.Externals.{same_row, is_among_externals, firsts_behind, externals, all_calls}

-- the firsts of two lists, one after the other
pub firsts_append : (before xs ys : List External) → firsts_behind before (xs ++ ys) ≡ firsts_behind (firsts_behind before xs) ys
firsts_append before [] ys = refl
firsts_append before (x ∷ xs) ys = firsts_append (cond (is_among_externals before x) before (before ++ x ∷ [])) xs ys

-- ---- no row occurs twice

bytes_same : (bs : List ℕ) → bytes_eq bs bs ≡ true
bytes_same bs = (bytes_eq-Decides bs bs).1 refl

from_test : (b : Bool) → T b → b ≡ true
from_test true t = refl
from_test false t = absurd t

number_same : (n : ℕ) → (n == n) ≡ true
number_same n = from_test (n == n) (eqb_refl n)

all_three : (a b c : Bool) → a ≡ true → b ≡ true → c ≡ true → (a && b && c) ≡ true
all_three true true true e f g = refl
all_three false b c e f g = cc
all_three true false c e f g = cc
all_three true true false e f g = cc

row_same : (a b : External) → a ≡ b → same_row a b ≡ true
row_same a b e =
    let names : a.name ≡ b.name = ap (λ (x : External). x.name) e in
    let params : a.params ≡ b.params = ap (λ (x : External). x.params) e in
    let results : a.result ≡ b.result = ap (λ (x : External). x.result) e in
    all_three (bytes_eq a.name b.name) (bytes_eq (map comp_byte a.params) (map comp_byte b.params)) (ret_byte a.result == ret_byte b.result)
    (subst (λ n. bytes_eq a.name n ≡ true) names (bytes_same a.name))
    (subst (λ (ps : List Comp). bytes_eq (map comp_byte a.params) (map comp_byte ps) ≡ true) params (bytes_same (map comp_byte a.params)))
    (subst (λ (r : Ret). (ret_byte a.result == ret_byte r) ≡ true) results (number_same (ret_byte a.result)))

others : (rows : List External) (e : External) → is_among_externals rows e ≡ false → AllByRecursion (λ x. x ≢ e) rows
others [] e none = tt
others (x ∷ rows) e none =
    let both = or_parts (same_row x e) (is_among_externals rows e) none in
    (λ same. true≢false (sym (row_same x e same) ∙ both.0), others rows e both.1)

all_then : {A : Type 0} (P : A → Type 0) (xs : List A) (y : A) → AllByRecursion P xs → P y → AllByRecursion P (xs ++ y ∷ [])
all_then P [] y all last = (last, tt)
all_then P (x ∷ xs) y all last = (all.0, all_then P xs y all.1 last)

differ_then : {A : Type 0} (xs : List A) (y : A) → AllDiffer xs → AllByRecursion (λ x. x ≢ y) xs → AllDiffer (xs ++ y ∷ [])
differ_then [] y differ none = (tt, tt)
differ_then (x ∷ xs) y differ none = (all_then (λ z. x ≢ z) xs y differ.0 none.0, differ_then xs y differ.1 none.1)

one_more : (known : Bool) (before : List External) (e : External) → is_among_externals before e ≡ known → AllDiffer before →
    AllDiffer (cond known before (before ++ e ∷ []))
one_more true before e is differ = differ
one_more false before e is differ = differ_then before e differ (others before e is)

firsts_differ : (before es : List External) → AllDiffer before → AllDiffer (firsts_behind before es)
firsts_differ before [] differ = differ
firsts_differ before (e ∷ es) differ =
    firsts_differ (cond (is_among_externals before e) before (before ++ e ∷ [])) es (one_more (is_among_externals before e) before e refl differ)

pub rows_differ : (file : FileTree) → AllDiffer (externals file)
rows_differ file = firsts_differ [] (all_calls file) tt
