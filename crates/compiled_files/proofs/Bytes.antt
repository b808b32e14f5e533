-- The data of an image are bytes.
use Rattle.std.proofs.Common.{ℕ, zero, suc, ◌/◌, ◌%◌, ◌^◌, ◌<◌, List, [], ◌∷◌, ◌++◌, Some, take, sym, ap, subst, arith}
use Rattle.std.specs.Int.{w64, to_le_bytes}
use Rattle.std.specs.List.{AllByRecursion, flat_map}
use Rattle.bs_words.specs.Memory.{StaticList}
use Rattle.cmm_data.specs.Contents.{statics}
use Rattle.cmm_data.specs.Placement.{data_bytes}
use Rattle.cmm_tree.specs.Tree.{FileTree}
use Rattle.image_form.specs.Image.{stub_words}
use Rattle.image_form.specs.Tables.{Tables}
use Rattle.rv_layout_rules.specs.Laid.{IsLaid, address_of_value, cell_bytes, data_of, function_entries_from}
use Rattle.rv_pieces.specs.declared.piece.Pieces.{Pieces}

abbrev pub AreSmall : List ℕ → Type 0
AreSmall bytes = AllByRecursion (λ b. b < 256) bytes

byte_small : (n : ℕ) → n % 256 < 256
byte_small n = omega arith

word_small : (n : ℕ) → AreSmall (to_le_bytes w64 n)
word_small n = (
  byte_small n,
  (
    byte_small (n / 256 ^ 1),
    (
      byte_small (n / 256 ^ 2),
      (
        byte_small (n / 256 ^ 3),
        (
          byte_small (n / 256 ^ 4),
          (byte_small (n / 256 ^ 5), (byte_small (n / 256 ^ 6), (byte_small (n / 256 ^ 7), tt))),
        ),
      ),
    ),
  ),
)

both_small : (xs ys : List ℕ) → AreSmall xs → AreSmall ys → AreSmall (xs ++ ys)
both_small [] ys x y = y
both_small (a ∷ xs) ys x y = (x.0, both_small xs ys x.1 y)

first_small : (n : ℕ) (xs : List ℕ) → AreSmall xs → AreSmall (take n xs)
first_small zero xs x = tt
first_small (suc n) [] x = tt
first_small (suc n) (a ∷ xs) x = (x.0, first_small n xs x.1)

each_small : {A : Type 0} (f : A → List ℕ) → ((a : A) → AreSmall (f a)) → (xs : List A) → AreSmall (flat_map f xs)
each_small f small [] = tt
each_small f small (a ∷ xs) = both_small (f a) (flat_map f xs) (small a) (each_small f small xs)

data_small : (file : FileTree) (entries : List ℕ) → AreSmall (data_of file entries)
data_small file entries =
    first_small (data_bytes file) _
    (each_small _ (λ (l : StaticList). each_small (cell_bytes entries) (λ v. word_small (address_of_value entries (Some v))) l.cells) (statics file))

pub bytes_small : (file : FileTree) (image : Tables) (ps : List Pieces) → IsLaid file ps image → AreSmall image.bytes
bytes_small file image ps laid =
    subst AreSmall (sym (ap (λ (t : Tables). t.bytes) laid.is)) (data_small file (function_entries_from stub_words ps laid.forms))
