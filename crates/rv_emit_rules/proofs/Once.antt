-- The pieces of a function with its descriptors are one list.
use Rattle.std.proofs.Common.{◌≡◌, ℕ, Bool, true, false, nat_eq, List, [], ◌∷◌, ◌++◌, length, refl, sym, ap, ◌∙◌}
use Rattle.std.proofs.lemmas.Bool.{true≢false, eq-eqb, eqb-true}
use Rattle.lin_ir.specs.Meaning.{passes_frame}
use Rattle.lin_ir.specs.Walks.{StandsAsLine, here, below, Reached}
use Rattle.lin_ir.specs.declared.descr.Descr.{Descr}
use Rattle.lin_ir.specs.declared.lin.Line.{Line}
use Rattle.lin_ir.specs.declared.lin.Lin.{Lin}
use Rattle.rv_pieces.specs.declared.piece.Piece.{Piece}
use Rattle.rv_pieces.specs.declared.piece.Pieces.{Pieces}
use Rattle.rv_emit_rules.specs.Emitted.{part_before, descriptor, left_after, parts_of_lines, IsEmitted}
use Rattle.rv_emit_rules.specs.Entry.{FrameLayout, frame_of, entry_pieces}

module _ {m : Lin} {ds : List Descr} {p q : Pieces} (h : IsEmitted m ds p) (k : IsEmitted m ds q) where
  -- the same traps count as pushed: where the numbers differ no walk comes, and both are 0
  same_traps : (i : Line) (next : List Line) → StandsAsLine i next m.code → h.traps (length next) ≡ k.traps (length next)
  same_traps i next s = by (nat_eq (h.traps (length next)) (k.traps (length next))) refl
    where
      by : (b : Bool) → nat_eq (h.traps (length next)) (k.traps (length next)) ≡ b → h.traps (length next) ≡ k.traps (length next)
      by true e = eqb-true (h.traps (length next)) (k.traps (length next)) e
      by false e = h.unreached i next s out ∙ sym (k.unreached i next s out)
        where
          out : (tries : List ℕ) → Reached m (i ∷ next) tries → ⊥
          out tries r =
              true≢false
              (sym (eq-eqb (h.traps (length next)) (k.traps (length next)) (h.pushed.pushed i next s tries r ∙ sym (k.pushed.pushed i next s tries r)))
              ∙ e)

  same_parts : (f : FrameLayout) (ds : List Descr) (code : List Line) → ((i : Line) (next : List Line) → StandsAsLine i next code →
      h.traps (length next) ≡ k.traps (length next)) → parts_of_lines h.traps f ds code ≡ parts_of_lines k.traps f ds code
  same_parts f ds [] same = refl
  same_parts f ds (i ∷ next) same =
      ap (λ t. part_before t f (descriptor (passes_frame i.op) ds) i next ++ parts_of_lines h.traps f (left_after (passes_frame i.op) ds) next) (same i next here)
      ∙ ap (λ ps. part_before (k.traps (length next)) f (descriptor (passes_frame i.op) ds) i next ++ ps)
      (same_parts f (left_after (passes_frame i.op) ds) next (λ j js s. same j js (below s)))

  abbrev of_code : List Piece → Pieces
  of_code ps = record { frame = (frame_of m).bytes; code = entry_pieces (frame_of m) ++ ps }

  -- A function with its descriptors is emitted in one way.
  pub emitted_once : p ≡ q
  emitted_once = h.is ∙ ap of_code (same_parts (frame_of m) ds m.code same_traps) ∙ sym k.is
