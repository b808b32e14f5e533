-- How the pieces of a part lie in the image.
--
-- A part carries that its forms reach, since a near form is right only where it does.
use Rattle.std.specs.Prelude.{◌≡◌, ℕ, ◌+◌, ◌-◌, ◌/◌, List}
use Rattle.rv_machine.specs.Memory.{code_start}
use Rattle.rv_pieces.specs.declared.piece.Piece.{Piece}
use Rattle.rv_layout_rules.specs.declared.form.Form.{Form}
use Rattle.rv_layout_rules.specs.Forms.{total_words, ReachFrom}
use Rattle.rv_layout_rules.specs.Stands.{HasPieces}
use Rattle.rv_layout_rules.specs.Words.{NameAddresses}
use Rattle.lin_machine.specs.View.{Fixed}

-- how many words of the code are before a label
abbrev pub label_place : NameAddresses → ℕ → ℕ
label_place n l = (n.label l - code_start) / 4

-- The words of these pieces are from one place of the code to another, each piece in a form that
-- reaches.
pub record PartStands (s : Fixed) (n : NameAddresses) (at to : ℕ) (ps : List Piece) : Type 0 where
  pub forms : List Form
  pub has : HasPieces s.image.code n at ps forms
  pub reach : ReachFrom (label_place n) at ps forms
  pub past : to ≡ at + total_words ps forms
