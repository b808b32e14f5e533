-- What a call by distance is of moves along, where what is far is called by address.
use Rattle.std.proofs.Common.{◌≡◌, ℕ, ◌+◌, ◌≤◌, Bool, true, false, List, [], ◌∷◌, refl, arith}
use Rattle.rv_layout_rules.specs.declared.form.Form.{Form}
use Rattle.rv_layout_rules.specs.declared.form.Form.TheVariants.{Near, Middle, Far}
use Rattle.rv_layout_rules.specs.Forms.{piece_words, label_word_offset, call_form, needed_form, form_rank, SufficeFrom}
use Rattle.rv_pieces.specs.declared.piece.Piece.{Piece}
use Rattle.rv_pieces.specs.declared.piece.Piece.TheVariants.{Known, Label, Branch, Jump, Row, LabelAddress, Call, TailCall, SymbolAddress, ExternalNumber, Descriptor}
use Rattle.rv_pieces.specs.declared.piece.Pieces.{Pieces}
use Rattle.unit_rules.specs.Relocated.{CalleeMoves, CallMoves, CallsMove, AllCallsMove, AllSuffice}

module _ (far : List ℕ → Bool) (d : ℕ) (symbol named : List ℕ → ℕ) (moves : (name : List ℕ) → far name ≡ false → named name ≡ symbol name + d) where
  callee_moves : (name : List ℕ) (b : Bool) → far name ≡ b → (f : Form) → form_rank (call_form b) ≤ form_rank f → CalleeMoves d (symbol name) (named name) f
  callee_moves name false e Near h = moves name e
  callee_moves name true e Near h = absurd (omega (arith, h))
  callee_moves name b e Middle h = tt
  callee_moves name b e Far h = tt

  call_moves : (places : ℕ → ℕ) (at : ℕ) (p : Piece) (f : Form) → form_rank (needed_form far places at p) ≤ form_rank f → CallMoves d symbol named p f
  call_moves places at (Known i) f h = tt
  call_moves places at (Label l) f h = tt
  call_moves places at (Branch c a b l) f h = tt
  call_moves places at (Jump l) f h = tt
  call_moves places at (Row l) f h = tt
  call_moves places at (LabelAddress r l) f h = tt
  call_moves places at (Call name) f h = callee_moves name (far name) refl f h
  call_moves places at (TailCall name) f h = callee_moves name (far name) refl f h
  call_moves places at (SymbolAddress r name) f h = tt
  call_moves places at (ExternalNumber r row) f h = tt
  call_moves places at (Descriptor e) f h = tt

  calls_move : (places : ℕ → ℕ) (at : ℕ) (ps : List Piece) (fs : List Form) → SufficeFrom far places at ps fs → CallsMove d symbol named ps fs
  calls_move places at [] fs s = tt
  calls_move places at (p ∷ ps) [] s = tt
  calls_move places at (p ∷ ps) (f ∷ fs) s = (call_moves places at p f s.0, calls_move places (at + piece_words p f) ps fs s.1)

  pub callees_move : (ps : List Pieces) (forms : List (List Form)) → AllSuffice far ps forms → AllCallsMove d symbol named ps forms
  callees_move [] forms s = tt
  callees_move (p ∷ ps) [] s = tt
  callees_move (p ∷ ps) (f ∷ forms) s = (calls_move (label_word_offset p.code f) 0 p.code f s.0, callees_move ps forms s.1)
