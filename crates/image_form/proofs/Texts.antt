-- A set of texts, seen by the test whether it has one.
use Rattle.std.proofs.Common.{◌≡◌, ℕ, Bool, true, false, ◌||◌, List, [], ◌∷◌, ◌++◌, map, refl, sym, ap, ◌∙◌}
use Rattle.std.specs.declared.cmp.Ordering.{Ordering}
use Rattle.std.specs.declared.cmp.Ordering.TheVariants.{Less, Equal, Greater}
use Rattle.std.specs.Ordering.{is_eq, match_ordering}
use Rattle.std.specs.BTreeSet.{insert_key}
use Rattle.std.specs.List.{list_any}
use Rattle.std.specs.Str.{bytes_eq}
use Rattle.std.proofs.lemmas.Slice.Eq.{bytes_eq-Decides}
use Rattle.image_form.specs.Seen.{has_text}

or_same : (b h : Bool) → (b || h) ≡ (b || (b || h))
or_same true h = refl
or_same false h = refl

or_swap : (x b h : Bool) → (x || (b || h)) ≡ (b || (x || h))
or_swap true true h = refl
or_swap true false h = refl
or_swap false b h = refl

pub list_any-append : {A : Type 0} (p : A → Bool) (xs ys : List A) → list_any p (xs ++ ys) ≡ (list_any p xs || list_any p ys)
list_any-append p [] ys = refl
list_any-append p (x ∷ xs) ys = ap (λ (b : Bool). p x || b) (list_any-append p xs ys) ∙ or_assoc (p x) (list_any p xs) (list_any p ys)
  where
    or_assoc : (a b c : Bool) → (a || (b || c)) ≡ ((a || b) || c)
    or_assoc true b c = refl
    or_assoc false b c = refl

module _ {K : Type 0} (items : K → List ℕ) (cmp : K → K → Ordering) (same : (x y : K) → is_eq (cmp x y) ≡ bytes_eq (items x) (items y)) where
  pub among : (k : K) (ks : List K) → list_any (λ y. is_eq (cmp k y)) ks ≡ has_text (map items ks) (items k)
  unfolding has_text
  among k [] = refl
  among k (x ∷ ks) = rw (same k x, among k ks) refl

  equal_items : (k x : K) → is_eq (cmp k x) ≡ true → items k ≡ items x
  equal_items k x e = (bytes_eq-Decides (items k) (items x)).0 (sym (same k x) ∙ e)

  inserted : (k x : K) (ks after : List K) (text : List ℕ) (o : Ordering) → o ≡ cmp k x
      → has_text (map items after) text ≡ (bytes_eq text (items k) || has_text (map items ks) text)
      → has_text (map items (match_ordering o (k ∷ x ∷ ks) (x ∷ ks) (x ∷ after))) text ≡ (bytes_eq text (items k) || has_text (map items (x ∷ ks)) text)
  unfolding has_text
  inserted k x ks after text Less e h = refl
  inserted k x ks after text Equal e h = rw (equal_items k x (ap is_eq (sym e))) (or_same (bytes_eq text (items x)) _)
  inserted k x ks after text Greater e h = rw h (or_swap (bytes_eq text (items x)) (bytes_eq text (items k)) _)

  pub has_insert : (ks : List K) (k : K) (text : List ℕ) → has_text (map items (insert_key cmp ks k)) text ≡ (bytes_eq text (items k) || has_text (map items ks) text)
  has_insert [] k text = unfold has_text in refl
  has_insert (x ∷ ks) k text = inserted k x ks (insert_key cmp ks k) text (cmp k x) refl (has_insert ks k text)

-- one more text at the end
pub has_more : (texts : List (List ℕ)) (new text : List ℕ) → has_text (texts ++ new ∷ []) text ≡ (bytes_eq text new || has_text texts text)
unfolding has_text
has_more [] new text = refl
has_more (x ∷ texts) new text = rw (has_more texts new text) (or_swap (bytes_eq text x) (bytes_eq text new) (has_text texts text))
