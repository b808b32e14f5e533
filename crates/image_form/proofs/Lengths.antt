-- How long the parts of an image are, and what holds of each row.
use Rattle.std.proofs.Common.{◌≡◌, ℕ, zero, suc, ◌+◌, ◌*◌, ◌^◌, ◌<◌, ◌≤◌, Bool, true, false, cond, eqb, List, [], ◌∷◌, ◌++◌, length, get_or, map, refl, subst, arith, inl, inr, length-append}
use Rattle.std.specs.List.{flat_map, AllByRecursion}
use Rattle.bs_words.specs.declared.types.Comp.{Comp}
use Rattle.image_form.specs.Tables.{Desc}
use Rattle.image_form.specs.Image.{le16, le32, comp_byte, name_bytes, params_bytes, func_bytes, sym_bytes, ext_bytes, desc_bytes, table_bytes, table_limit, entry_limit, IsEntry, IsDesc}
use Rattle.std.proofs.lemmas.List.{length-map}

-- what holds of each row's view holds of the row at an index
pub each_at : {X Y : Type 0} (P : Y → Type 0) (view : X → Y) (xs : List X) (i : ℕ) (d : X) → AllByRecursion P (map view xs) → i < length xs → P (view (get_or xs i d))
each_at P view [] i d all lt = absurd (omega arith)
each_at P view (x ∷ xs) zero d all lt = all.0
each_at P view (x ∷ xs) (suc i) d all lt = each_at P view xs i d all.1 (omega arith)

pub length-le16 : (n : ℕ) → length (le16 n) ≡ 2
unfolding le16
length-le16 n = refl

pub length-le32 : (n : ℕ) → length (le32 n) ≡ 4
unfolding le32
length-le32 n = refl

pub name_length : (name : List ℕ) → length (name_bytes name) ≡ 2 + length name
unfolding name_bytes
name_length name = omega (arith, length-append (le16 (length name)) name, length-le16 (length name))

pub params_length : (params : List Comp) → length (params_bytes params) ≡ 1 + length params
unfolding params_bytes
params_length params = let same = length-map params comp_byte in omega (arith, same)

pub length-words : (ws : List ℕ) → length (flat_map le32 ws) ≡ 4 * length ws
length-words [] = refl
length-words (w ∷ ws) = omega (arith, length-append (le32 w) (flat_map le32 ws), length-le32 w, length-words ws)

-- ---- a table whose body is short has few rows

abbrev pub Nonempty : {A : Type 0} → (A → List ℕ) → Type 0
Nonempty {A} row = (x : A) → 0 < length (row x)

rows_long : {A : Type 0} (row : A → List ℕ) (rows : List A) → Nonempty row → length rows ≤ length (flat_map row rows)
rows_long row [] some = omega arith
rows_long row (x ∷ rows) some = omega (arith, length-append (row x) (flat_map row rows), some x, rows_long row rows some)

pub few : {A : Type 0} (row : A → List ℕ) (rows : List A) → Nonempty row → length (table_bytes row rows) ≤ table_limit → length rows < 2 ^ 32
unfolding table_bytes
few row rows some short = omega (arith, length-append (le32 (length rows)) (flat_map row rows), rows_long row rows some)

pub few_rows : {X A : Type 0} (view : X → A) (row : A → List ℕ) (xs : List X) → Nonempty row → length (table_bytes row (map view xs)) ≤ table_limit → length xs < 2 ^ 32
few_rows view row xs some short = subst (λ n. n < 2 ^ 32) (length-map xs view) (few row (map view xs) some short)

pub few_roots : (roots : List ℕ) → length (table_bytes le32 roots) ≤ table_limit → length roots < 2 ^ 32
unfolding table_bytes
few_roots roots short = omega (arith, length-append (le32 (length roots)) (flat_map le32 roots), length-words roots)

name_nonempty : (name : List ℕ) → 0 < length (name_bytes name)
unfolding name_bytes
name_nonempty name = omega (arith, length-append (le16 (length name)) name, length-le16 (length name))

first_nonempty : (xs ys : List ℕ) → 0 < length xs → 0 < length (xs ++ ys)
first_nonempty xs ys some = omega (arith, length-append xs ys)

pub func_nonempty : Nonempty func_bytes
unfolding func_bytes
func_nonempty f = first_nonempty (name_bytes f.name) _ (name_nonempty f.name)

pub sym_nonempty : Nonempty sym_bytes
unfolding sym_bytes
sym_nonempty s = first_nonempty (name_bytes s.name) _ (name_nonempty s.name)

pub ext_nonempty : Nonempty ext_bytes
unfolding ext_bytes
ext_nonempty e = first_nonempty (name_bytes e.name) _ (name_nonempty e.name)

pub desc_nonempty : (version : ℕ) → Nonempty (desc_bytes version)
unfolding desc_bytes
desc_nonempty version d = first_nonempty (le32 d.after) _ (omega (arith, length-le32 d.after))

pub le32_nonempty : Nonempty le32
le32_nonempty n = omega (arith, length-le32 n)

-- ---- the entries of a descriptor fit their fields

pub wide_enough : (version : ℕ) → (64 ≤ entry_limit version) × (entry_limit version ≤ 2 ^ 32)
wide_enough version = by (eqb version 1)
  where
    by : (old : Bool) → (64 ≤ cond old (2 ^ 16) (2 ^ 32)) × (cond old (2 ^ 16) (2 ^ 32) ≤ 2 ^ 32)
    by true = (omega arith, omega arith)
    by false = (omega arith, omega arith)

pub entry_fits : (version size e : ℕ) → size < entry_limit version → IsEntry size e → e < entry_limit version
entry_fits version size e fits (inl odd) = let wide = (wide_enough version).0 in omega arith
entry_fits version size e fits (inr even) = omega arith

entries_fit' : (version size : ℕ) (es : List ℕ) → size < entry_limit version → AllByRecursion (IsEntry size) es → AllByRecursion (λ e. e < entry_limit version) es
entries_fit' version size [] fits all = tt
entries_fit' version size (e ∷ es) fits all = (entry_fits version size e fits all.0, entries_fit' version size es fits all.1)

pub entries_fit : (version limit : ℕ) (d : Desc) → IsDesc version limit d → AllByRecursion (λ e. e < entry_limit version) d.entries
entries_fit version limit d is = entries_fit' version d.size d.entries is.size_fits is.entries
