-- The pieces of one function among those of a file.
use Rattle.std.specs.Prelude.{◌≡◌, ℕ, List, Some, slice_get}
use Rattle.std.specs.Borrow.{Bor}
use Rattle.choices.specs.declared.choices.Choices.{Choices}
use Rattle.cmm_tree.specs.View.{function_view}
use Rattle.cmm_tree.specs.declared.file.Function.{Function}
use Rattle.file_promise.specs.Known.{IsFunctionMade}
use Rattle.rv_pieces.specs.declared.piece.Pieces.{Pieces}

-- these are the pieces of the function at that place
abbrev pub ArePiecesAt : Choices → List (Bor Function) → ℕ → Pieces → Type 0
ArePiecesAt choices functions k pieces =
    (f : Bor Function) → slice_get functions k ≡ Some f →
    IsFunctionMade choices (function_view f.now) pieces
