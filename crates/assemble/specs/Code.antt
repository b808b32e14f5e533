-- The code of one function.
use Rattle.std.specs.Prelude.{◌≡◌, ℕ, List, Some, map, slice_get, slice_index}
use Rattle.function_places.specs.Places.{forms_in}
use Rattle.assemble.specs.Source.{tree_of, source_entries}
use Rattle.assemble.specs.declared.code.Code.{Code}
use Rattle.assemble.specs.declared.source.Source.{Source}
use Rattle.image_form.specs.Tables.{desc}
use Rattle.rv_layout_rules.specs.declared.form.Form.{Form}
use Rattle.rv_layout_rules.specs.Laid.{function_words, descs_in}
use Rattle.rv_pieces.specs.declared.piece.Pieces.{Pieces}

-- This is the code of a function that is these pieces in these forms, and whose entry is this word.
pub record IsAssembledCode (s : Source) (entry : ℕ) (p : Pieces) (own : List Form) (code : Code) : Type 0 where
  pub words : code.words.items ≡ function_words (tree_of s) (source_entries s) entry p.code own
  pub descs : map desc code.descs.items ≡ descs_in entry p.code own

-- the code of the function of this number
abbrev pub IsCodeAt : Source → ℕ → Code → Type 0
IsCodeAt s k code =
    (p : Pieces) (own : List Form) → slice_get s.pieces.now k ≡ Some p → slice_get (forms_in s.places.now) k ≡ Some own →
    IsAssembledCode s (slice_index (source_entries s) k) p own code
