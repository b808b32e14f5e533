-- Before which places a number is seen.
use Rattle.std.specs.Prelude.{ℕ, suc, Bool, cond, nat_eq, List, [], ◌∷◌, slice_set, slice_index_or}
use Rattle.bs_bits.specs.Set.{has}
use Rattle.bs_words.specs.Contents.{contents}
use Rattle.dataflow.specs.Rows.{set_in_row}
use Rattle.dataflow.specs.declared.flow.Place as place
use Rattle.sink.specs.declared.sights.Sight.{Sight}
use Rattle.sink.specs.declared.sights.Sight.TheVariants as sight

-- seen before this place too
abbrev pub sighted : ℕ → Sight → Sight
sighted p sight.Unseen = sight.Once p
sighted p (sight.Once q) = cond (nat_eq q p) (sight.Once q) sight.Often
sighted p sight.Often = sight.Often

abbrev pub noted_number : List Bool → ℕ → ℕ → List Sight → List Sight
noted_number fresh p n t =
    cond (has fresh n) (slice_set t n (sighted p (slice_index_or t n sight.Unseen))) t

-- so are those of these numbers that are fresh there
abbrev pub noted_numbers : List Bool → ℕ → List ℕ → List Sight → List Sight
noted_numbers fresh p [] t = t
noted_numbers fresh p (n ∷ ns) t = noted_numbers fresh p ns (noted_number fresh p n t)

-- and those that live over the instructions of these places, from this one on
abbrev pub noted_places : List (List Bool) → ℕ → List place.Place → List Sight → List Sight
noted_places rows p [] t = t
noted_places rows p (x ∷ xs) t =
    noted_places rows (suc p) xs (noted_numbers (set_in_row rows p) p (contents x.writes) t)
