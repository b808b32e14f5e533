-- A row is found by its bytes.
use Rattle.std.proofs.Common.{◌≡◌, ℕ, zero, suc, ◌+◌, ◌≤◌, Bool, true, false, cond, not, ◌&&◌, ◌||◌, ◌==◌, List, [], ◌∷◌, ◌++◌, Option, Some, None, is_some, unwrap_or, position, nat_lt, slice_get, take, map, length, Vec, Global, refl, sym, ap, ap₂, ◌∙◌, subst, bytes_eq, arith}
use Rattle.std.specs.List.{position_or_len}
use Rattle.std.specs.Map.{lookup, keys_of}
use Rattle.std.proofs.lemmas.Bool.{ltb-false}
use Rattle.std.proofs.lemmas.Bool.Decides.{same_from_decides}
use Rattle.indexmap.specs.IndexMap.{IndexMap, insert_entry}
use Rattle.indexmap.proofs.CallerLemmas.{insert_entry-new}
use Rattle.std.proofs.lemmas.List.{map-append, take_all}
use Rattle.std.proofs.lemmas.List.Sums.{prefix_len-le-length}
use Rattle.std.proofs.lemmas.Slice.Eq.{bytes_eq-Decides}
use Rattle.bs_words.specs.External.{External}
use Rattle.bs_words.specs.declared.types.Comp.{Comp}
use Rattle.bs_words.specs.declared.types.Ret.{Ret}
use Rattle.bs_words.specs.declared.types.Comp.TheVariants.{Int, Val, Addr, Float}
use Rattle.image_form.specs.Image.{comp_byte, ret_byte}
use Rattle.image_form.specs.declared.image.ExtRow.{ExtRow}
use Rattle.image_form.specs.Tables.{ext}
use Rattle.rv_layout_rules.specs.Externals.{same_row, is_among_externals, external_number}
use Rattle.external_rows.specs.Entries.{external_key, external_view, AreKeyed, row_noted}

abbrev pub Entry : Type 0
Entry = Vec ℕ Global × ExtRow

turned : (a b : List ℕ) → bytes_eq a b ≡ bytes_eq b a
turned a b =
    let d = bytes_eq-Decides b a in
    same_from_decides (bytes_eq a b) (bytes_eq b a) (bytes_eq-Decides a b) (λ e. sym (d.0 e), λ e. d.1 (sym e))

all_of : (a b c : Bool) → ((a && b) && c) ≡ (a && (b && c))
all_of true b c = refl
all_of false b c = refl

types_then : (ps qs : List Comp) (a b : List ℕ) →
    bytes_eq (map comp_byte ps ++ 255 ∷ a) (map comp_byte qs ++ 255 ∷ b) ≡ (bytes_eq (map comp_byte ps) (map comp_byte qs) && bytes_eq a b)
types_then [] [] a b = refl
types_then [] (Int ∷ qs) a b = refl
types_then [] (Val ∷ qs) a b = refl
types_then [] (Addr ∷ qs) a b = refl
types_then [] (Float ∷ qs) a b = refl
types_then (Int ∷ ps) [] a b = refl
types_then (Val ∷ ps) [] a b = refl
types_then (Addr ∷ ps) [] a b = refl
types_then (Float ∷ ps) [] a b = refl
types_then (p ∷ ps) (q ∷ qs) a b =
    ap (λ c. (comp_byte p == comp_byte q) && c) (types_then ps qs a b)
    ∙ sym (all_of (comp_byte p == comp_byte q) (bytes_eq (map comp_byte ps) (map comp_byte qs)) (bytes_eq a b))

reordered : (r p n : Bool) → (r && (p && n)) ≡ (n && p && r)
reordered true true true = refl
reordered true true false = refl
reordered true false true = refl
reordered true false false = refl
reordered false true true = refl
reordered false true false = refl
reordered false false true = refl
reordered false false false = refl

pub same_key : (a b : External) → bytes_eq (external_key a) (external_key b) ≡ same_row a b
same_key a b =
    ap (λ c. (ret_byte a.result == ret_byte b.result) && c) (types_then a.params b.params a.name b.name)
    ∙ reordered (ret_byte a.result == ret_byte b.result) (bytes_eq (map comp_byte a.params) (map comp_byte b.params)) (bytes_eq a.name b.name)

abbrev pub row : List ℕ → List Comp → Ret → External
row n ps r = record { name = n; params = ps; result = r }

pub row_parts : (n n' : List ℕ) (ps ps' : List Comp) (r : Ret) → n ≡ n' → ps ≡ ps' →
    row n ps r ≡ row n' ps' r
row_parts n n' ps ps' r e f = ap₂ (λ (a : List ℕ) (b : List Comp). record { name = a; params = b; result = r }) e f

-- an entry that is at its own bytes is found by those of a call where it is of its row
found_by : (e : External) (key : List ℕ) (entry : Entry) → key ≡ external_key e → entry.0.items ≡ external_key (external_view entry) → bytes_eq key entry.0.items ≡ same_row (external_view entry) e
found_by e key entry is keyed =
    ap₂ bytes_eq is keyed ∙ (turned (external_key e) (external_key (external_view entry)) ∙ same_key (external_view entry) e)

first_keyed : (entry : Entry) (es : List Entry) → AreKeyed (entry ∷ es) → (entry.0.items ≡ external_key (external_view entry)) × AreKeyed es
first_keyed entry es keyed = (cc, cc)

pub is_found : (e : External) (key : List ℕ) (es : List Entry) → key ≡ external_key e → AreKeyed es →
    is_some (lookup (λ (k : Vec ℕ Global). bytes_eq key k.items) es) ≡ is_among_externals (map external_view es) e
is_found e key [] is keyed = refl
is_found e key (entry ∷ es) is keyed =
    let both = first_keyed entry es keyed in
    one (bytes_eq key entry.0.items) (same_row (external_view entry) e) (lookup (λ (k : Vec ℕ Global). bytes_eq key k.items) es) (is_among_externals (map external_view es) e)
    (found_by e key entry is both.0) (is_found e key es is both.1)
  where
    one : (a b : Bool) (rest : Option ExtRow) (others : Bool) → a ≡ b → is_some rest ≡ others → is_some (cond a (Some entry.1) rest) ≡ (b || others)
    one true true rest others e f = refl
    one false false rest others e f = f
    one true false rest others e f = cc
    one false true rest others e f = cc

pub place_found : (e : External) (key : List ℕ) (es : List Entry) → key ≡ external_key e → AreKeyed es →
    position_or_len (λ (k : Vec ℕ Global). bytes_eq key k.items) (keys_of es) ≡ external_number (map external_view es) e
place_found e key [] is keyed = refl
place_found e key (entry ∷ es) is keyed =
    let both = first_keyed entry es keyed in
    ap₂ (λ (same : Bool) (n : ℕ). cond (not same) (1 + n) 0) (found_by e key entry is both.0) (place_found e key es is both.1)

-- the place of the first that passes, or the length
first_or_length : {A : Type 0} (test : A → Bool) (xs : List A) → unwrap_or (position test xs) (length xs) ≡ position_or_len test xs
first_or_length test xs = by (nat_lt (position_or_len test xs) (length xs)) refl
  where
    by : (found : Bool) → nat_lt (position_or_len test xs) (length xs) ≡ found → unwrap_or (position test xs) (length xs) ≡ position_or_len test xs
    by true e = ap (λ b. unwrap_or (cond b (Some (position_or_len test xs)) None) (length xs)) e
    by false e =
        let past = ltb-false (position_or_len test xs) (length xs) e in
        let most = prefix_len-le-length (λ x. not (test x)) xs in
        ap (λ b. unwrap_or (cond b (Some (position_or_len test xs)) None) (length xs)) e ∙ omega (arith, past, most)

pub number_found : (e : External) (key : List ℕ) (es : List Entry) (len : ℕ) → key ≡ external_key e → AreKeyed es → len ≡ length (keys_of es) →
    unwrap_or (position (λ (k : Vec ℕ Global). bytes_eq key k.items) (keys_of es)) len ≡ external_number (map external_view es) e
number_found e key es len is keyed long =
    let test : Vec ℕ Global → Bool = λ k. bytes_eq key k.items in
    ap (unwrap_or (position test (keys_of es))) long ∙ (first_or_length test (keys_of es) ∙ place_found e key es is keyed)

-- ---- a row that is not there is added as the last

pub record IsAdded (before after : List Entry) (e : External) : Type 0 where
  pub keyed : AreKeyed after
  pub view : map external_view after ≡ row_noted (map external_view before) e

pub added : {S : Type 0} (m : IndexMap (Vec ℕ Global) ExtRow S) (k : Vec ℕ Global) (row : ExtRow) (e : External) (text : List ℕ) (after : List Entry) →
    external_view (k, row) ≡ e → k.items ≡ external_key e → text ≡ k.items → AreKeyed m.entries → is_some (lookup (λ (j : Vec ℕ Global). bytes_eq text j.items) m.entries) ≡ false →
    after ≡ insert_entry (λ (a b : Vec ℕ Global). bytes_eq a.items b.items) m.entries k row → IsAdded m.entries after e
added m k row e text after is key held keyed sought same =
    let es = m.entries in
    let none : is_some (lookup (λ (j : Vec ℕ Global). bytes_eq k.items j.items) es) ≡ false =
    subst (λ bs. is_some (lookup (λ (j : Vec ℕ Global). bytes_eq bs j.items) es) ≡ false) held sought in
    let absent = none_there (lookup (λ (j : Vec ℕ Global). bytes_eq k.items j.items) es) none in
    let last : after ≡ es ++ (k, row) ∷ [] = same ∙ insert_entry-new (λ (a b : Vec ℕ Global). bytes_eq a.items b.items) m k row absent in
    let own : external_key e ≡ external_key (external_view (k, row)) = ap external_key (sym is) in
    let new : is_among_externals (map external_view es) e ≡ false = sym (is_found e k.items es key keyed) ∙ none in
    record {
      keyed =
          ap (map (λ (x : Entry). x.0.items)) last
          ∙ (map-append (λ (x : Entry). x.0.items) es ((k, row) ∷ [])
          ∙ (ap₂ (λ (a : List (List ℕ)) (b : List ℕ). a ++ b ∷ []) keyed (key ∙ own)
          ∙ (sym (map-append (λ (x : Entry). external_key (external_view x)) es ((k, row) ∷ [])) ∙ ap (map (λ (x : Entry). external_key (external_view x))) (sym last))));
      view =
          ap (map external_view) last
          ∙ (map-append external_view es ((k, row) ∷ [])
          ∙ (ap (λ (x : External). map external_view es ++ x ∷ []) is ∙ ap (λ b. cond b (map external_view es) (map external_view es ++ e ∷ [])) (sym new)));
    }
  where
    none_there : {A : Type 0} (o : Option A) → is_some o ≡ false → o ≡ None
    none_there None h = refl
    none_there (Some x) h = cc

-- one that is there stays
pub known : (e : External) (key : List ℕ) (es : List Entry) → key ≡ external_key e → AreKeyed es → is_some (lookup (λ (k : Vec ℕ Global). bytes_eq key k.items) es) ≡ true →
    map external_view es ≡ row_noted (map external_view es) e
known e key es is keyed there = ap (λ b. cond b (map external_view es) (map external_view es ++ e ∷ [])) (sym (sym (is_found e key es is keyed) ∙ there))

-- ---- all rows

pub all_rows : (es : List Entry) (i len : ℕ) → len ≡ length es → len ≤ i → map external_view (take i es) ≡ map external_view es
all_rows es i len long h = ap (map external_view) (take_all i es (omega (arith, long, h)))

one_longer : {A : Type 0} (xs : List A) (i : ℕ) (x : A) → slice_get xs i ≡ Some x → take (suc i) xs ≡ take i xs ++ x ∷ []
one_longer [] i x at = absurd (cc)
one_longer (y ∷ xs) zero x at = ap (λ z. z ∷ []) (some_same at)
  where
    some_same : {A : Type 0} {a b : A} → Some a ≡ Some b → a ≡ b
    some_same e = cc
one_longer (y ∷ xs) (suc i) x at = ap (λ zs. y ∷ zs) (one_longer xs i x at)

pub next_row : (es : List Entry) (i : ℕ) (e : Entry) (rows new : List ExtRow) (copy : ExtRow) → slice_get es i ≡ Some e → ext copy ≡ ext e.1 → new ≡ rows ++ copy ∷ [] →
    map ext rows ≡ map external_view (take i es) → map ext new ≡ map external_view (take (i + 1) es)
next_row es i e rows new copy at same pushed so_far =
    let own : Entry → External = external_view in
    let next : i + 1 ≡ suc i = omega arith in
    ap (map ext) pushed
    ∙ (map-append ext rows (copy ∷ [])
    ∙ (ap₂ (λ (a : List External) (b : External). a ++ b ∷ []) so_far same
    ∙ (sym (map-append own (take i es) (e ∷ [])) ∙ (ap (map own) (sym (one_longer es i e at)) ∙ ap (λ n. map own (take n es)) (sym next)))))
