-- What the table of a function's labels has.
use Rattle.std.specs.Prelude.{◌≡◌, ⊤, ℕ, ◌<◌, List, Option, Some, None, slice_index_or, slice_set}
use Rattle.std.specs.List.{AllByRecursion}
use Rattle.rv_layout_rules.specs.declared.form.Form.{Form}
use Rattle.rv_layout_rules.specs.Forms.{label_from, place_or_entry}
use Rattle.rv_layout.specs.declared.labels.LabelOffsets.{LabelOffsets}
use Rattle.rv_pieces.specs.declared.piece.Piece.{Piece}
use Rattle.rv_pieces.specs.declared.piece.Piece.TheVariants.{Label}

-- the place of a label, if there is one
abbrev pub word_of_label : List (Option ℕ) → ℕ → Option ℕ
word_of_label places l = slice_index_or places l None

-- the first of two
abbrev pub first_of_two : Option ℕ → Option ℕ → Option ℕ
first_of_two None later = later
first_of_two (Some place) later = Some place

-- the table with the place of a label that is here, where it had none
abbrev pub label_noted : List (Option ℕ) → Piece → (at : ℕ) → List (Option ℕ)
label_noted places (Label l) at = slice_set places l (first_of_two (word_of_label places l) (Some at))
label_noted places _ at = places

-- its place, or the entry
abbrev pub words_of_labels : LabelOffsets → ℕ → ℕ
words_of_labels table l = place_or_entry (word_of_label table.places.items l)

-- The table has the labels of these pieces in these forms.
pub record IsLabelTable (ps : List Piece) (forms : List Form) (table : LabelOffsets) : Type 0 where
  pub each : (l : ℕ) → word_of_label table.places.items l ≡ label_from l 0 ps forms

-- a label that is here is below this number
abbrev pub LabelBelow : ℕ → Piece → Type 0
LabelBelow bound (Label l) = l < bound
LabelBelow bound _ = ⊤

abbrev pub LabelsBelow : ℕ → List Piece → Type 0
LabelsBelow bound ps = AllByRecursion (LabelBelow bound) ps
