-- Which texts came before.
use Rattle.std.specs.Prelude.{◌≡◌, ℕ, Bool, List, map}
use Rattle.std.specs.List.{list_any}
use Rattle.std.specs.Str.{bytes_eq}
use Rattle.std.specs.BTreeSet.{keys}
use Rattle.image_form.specs.declared.seen.Seen as declared

-- whether the text is among them
unfoldable pub has_text : List (List ℕ) → List ℕ → Bool
has_text texts text = list_any (bytes_eq text) texts

-- the set holds these texts, in whatever order
unfoldable pub HoldsTexts : declared.Seen → List (List ℕ) → Type 0
HoldsTexts seen texts =
    (text : List ℕ) → has_text (map (λ v. v.items) (keys seen.texts)) text ≡ has_text texts text
