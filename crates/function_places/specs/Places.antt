-- Where functions begin, and in which forms their pieces are laid.
use Rattle.std.specs.Prelude.{◌≡◌, ℕ, ◌+◌, List, Some, map, slice_get}
use Rattle.std.specs.List.{AllZip}
use Rattle.function_places.specs.Sizes.{pieces_size}
use Rattle.function_places.specs.declared.places.Laid.{Laid}
use Rattle.function_places.specs.declared.places.Places.{Places}
use Rattle.image_form.specs.Image.{stub_words}
use Rattle.rv_layout_rules.specs.declared.form.Form.{Form}
use Rattle.rv_layout_rules.specs.Conditions.{weight_of}
use Rattle.rv_layout_rules.specs.Forms.{total_words, none_far, AreForms, all_words}
use Rattle.rv_layout_rules.specs.Laid.{function_entries_from, AreAllForms}
use Rattle.rv_pieces.specs.declared.piece.Pieces.{Pieces}

abbrev pub size_of : Pieces → ℕ
size_of p = weight_of p.code

-- The function that is these pieces has these forms, so many words and so many bytes of descriptors.
pub record IsLaidFunction (p : Pieces) (own : Laid) : Type 0 where
  pub forms : AreForms none_far p.code own.forms.items
  pub words : own.words ≡ total_words p.code own.forms.items
  pub descs : own.descs ≡ pieces_size p

-- the function of this number
abbrev pub IsLaidAt : List Pieces → ℕ → Laid → Type 0
IsLaidAt ps k own = (p : Pieces) → slice_get ps k ≡ Some p → IsLaidFunction p own

-- the forms of each function
abbrev pub forms_in : Places → List (List Form)
forms_in places = map (λ (own : Laid). own.forms.items) places.forms.items

-- These are the places of functions that are these pieces, which are after the stub in order.
pub record ArePlaces (ps : List Pieces) (places : Places) : Type 0 where
  pub each : AllZip IsLaidFunction ps places.forms.items
  pub forms : AreAllForms ps (forms_in places)
  pub entries : places.entries.items ≡ function_entries_from stub_words ps (forms_in places)
  pub end : places.end ≡ stub_words + all_words ps (forms_in places)
