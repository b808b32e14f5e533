-- The descriptor of one piece.
use Rattle.std.specs.Prelude.{ℕ, List, [], ◌∷◌}
use Rattle.image_form.specs.Tables.{Desc}
use Rattle.rv_layout_rules.specs.Laid.{descriptor_laid_at}
use Rattle.rv_pieces.specs.declared.piece.Piece.{Piece}
use Rattle.rv_pieces.specs.declared.piece.Piece.TheVariants.{Descriptor}

abbrev pub desc_in : (at : ℕ) → Piece → List Desc
desc_in at (Descriptor d) = descriptor_laid_at at d ∷ []
desc_in at _ = []
