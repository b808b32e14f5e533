-- External calls by their rows in the image.
use Rattle.std.proofs.Common.{◌≡◌, Bool, true, false, cond, ◌&&◌, ◌==◌, ◌⊎◌, inl, inr, List, [], ◌∷◌, map, bytes_eq, Some, refl, sym, ap, ◌∙◌}
use Rattle.std.specs.Prelude.{find, slice_get}
use Rattle.std.proofs.lemmas.Bool.{true≢false, eqb-true, and_parts, eq-eqb}
use Rattle.std.proofs.lemmas.List.Folds.{find_at}
use Rattle.std.proofs.lemmas.Slice.Eq.{bytes_eq-Decides}
use Rattle.bs_words.specs.External.{External}
use Rattle.image_form.specs.Image.{comp_byte, ret_byte}
use Rattle.rv_layout_rules.specs.Externals.{external_number, same_row}
use Rattle.linearise_rules.proofs.Homes.{IsIn, is_first, is_later}
use Rattle.laid_files.proofs.Laid.{ret_same, comps_same}

-- what two calls of one row have alike
pub record IsSame (a b : External) : Type 0 where
  pub name : a.name ≡ b.name
  pub params : a.params ≡ b.params
  pub result : a.result ≡ b.result

pub same_row_is : (a b : External) → same_row a b ≡ true → IsSame a b
same_row_is a b e =
    let names = bytes_eq a.name b.name in
    let params = bytes_eq (map comp_byte a.params) (map comp_byte b.params) in
    let result = ret_byte a.result == ret_byte b.result in
    let first = (and_parts (names && params) result e).0 in
    record {
      name = (bytes_eq-Decides a.name b.name).0 (and_parts names params first).0;
      params = comps_same a.params b.params ((bytes_eq-Decides (map comp_byte a.params) (map comp_byte b.params)).0 (and_parts names params first).1);
      result = ret_same a.result b.result (eqb-true (ret_byte a.result) (ret_byte b.result) (and_parts (names && params) result e).1);
    }

row_itself : (e : External) → same_row e e ≡ true
row_itself e =
    rw (
      (bytes_eq-Decides e.name e.name).1 refl,
      (bytes_eq-Decides (map comp_byte e.params) (map comp_byte e.params)).1 refl,
      eq-eqb (ret_byte e.result) (ret_byte e.result) refl,
    ) refl

-- the first row that is the call's
record First (rows : List External) (e : External) : Type 0 where
  row : External
  found : find (λ x. same_row x e) rows ≡ Some row
  same : same_row row e ≡ true

first : (rows : List External) (e : External) → IsIn e rows → First rows e
first [] e z = elim z [ ]
first (x ∷ rows) e z = by (same_row x e) refl (later e z) (λ y. first rows e y)
  where
    later : (e : External) → IsIn e (x ∷ rows) → (same_row x e ≡ true) ⊎ IsIn e rows
    later e is_first = inl (row_itself x)
    later e (is_later y) = inr y

    by : (b : Bool) → same_row x e ≡ b → (same_row x e ≡ true) ⊎ IsIn e rows → (IsIn e rows → First rows e) → First (x ∷ rows) e
    by true h z go = record { row = x; found = ap (λ b. cond b (Some x) (find (λ y. same_row y e) rows)) h; same = h }
    by false h (inl own) go = absurd (true≢false (sym own ∙ h))
    by false h (inr y) go =
        let it = go y in
        record { row = it.row; found = ap (λ b. cond b (Some x) (find (λ y. same_row y e) rows)) h ∙ it.found; same = it.same }

-- A call of the file has a row of the image, at its number.
pub row_found : (rows : List External) (e : External) → IsIn e rows → (ext : External) × (slice_get rows (external_number rows e) ≡ Some ext)
    × (ext.name ≡ e.name) × (ext.params ≡ e.params) × (ext.result ≡ e.result)
row_found rows e z =
    let it = first rows e z in
    let same = same_row_is it.row e it.same in
    let there : slice_get rows (external_number rows e) ≡ Some it.row = sym (find_at (λ x. same_row x e) rows) ∙ it.found in
    (it.row, there, same.name, same.params, same.result)
