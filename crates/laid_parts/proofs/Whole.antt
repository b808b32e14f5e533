-- The pieces of a function are laid out as its Linear function.
use Rattle.std.proofs.Common.{◌≡◌, ℕ, List, [], ◌∷◌, length, refl, sym, subst, ap, arith}
use Rattle.std.proofs.lemmas.List.Elements.{All-contains}
use Rattle.lin_ir.specs.Descriptors.{FitsDescriptors, frame_point_count}
use Rattle.lin_ir.specs.Formed.{IsFormedLine, WellFormed, Seated}
use Rattle.lin_ir.specs.Meaning.{passes_frame}
use Rattle.lin_ir.specs.Walks.{StandsAsLine, here, below, Traps, by_walk, unreached}
use Rattle.lin_ir.specs.declared.descr.Descr.{Descr}
use Rattle.lin_ir.specs.declared.lin.Line.{Line}
use Rattle.lin_ir.specs.declared.lin.Lin.{Lin}
use Rattle.rv_pieces.specs.declared.piece.Pieces.{Pieces}
use Rattle.rv_emit_rules.specs.Emitted.{part_of_line, parts_of_lines, descriptor, left_after, IsEmitted}
use Rattle.rv_emit_rules.specs.Entry.{frame_of}
use Rattle.rv_emit_rules.proofs.Names.{stands-contains}
use Rattle.rv_emit_rules.proofs.Units.{part_by}
use Rattle.laid_parts.specs.Laid.{CarriesSlots, IsPartOf, AreParts, no_line, a_line, IsLaidOutAs}
use Rattle.laid_parts.proofs.Each.{carried}
use Rattle.laid_parts.proofs.EverySlots.{slots_carried}
use Rattle.laid_parts.proofs.Free.{free_part}
use Rattle.laid_parts.proofs.Marks.{line_marked, left_length}
use Rattle.laid_parts.proofs.Raising.{raises_behind_branch}

module _ (m : Lin) (w : WellFormed m) (seated : Seated m) (within : FitsDescriptors m) (ds : List Descr) (p : Pieces) (e : IsEmitted m ds p) where
  counted : (i : Line) (next : List Line) → StandsAsLine i next m.code → (tries : List ℕ) → Traps m (i ∷ next) tries → e.traps (length next) ≡ length tries
  counted i next s tries (by_walk r) = e.pushed.pushed i next s tries r
  counted i next s tries (unreached none) = e.unreached i next s none

  parts-laid : (is : List Line) → ((i : Line) (next : List Line) → StandsAsLine i next is → StandsAsLine i next m.code) → (left : List Descr) →
      length left ≡ frame_point_count is → AreParts m left is (parts_of_lines e.traps (frame_of m) left is)
  parts-laid [] s [] k = no_line
  parts-laid [] s (d ∷ left) k = absurd (omega arith)
  parts-laid (i ∷ next) s left k =
      let at = s i next here in
      let t = e.traps (length next) in
      let d = descriptor (passes_frame i.op) left in
      let among = stands-contains m.code at in
      let others = left_after (passes_frame i.op) left in
      a_line
      (part_by t (frame_of m) d i next (λ part. IsPartOf m left others i next part)
      (free_part m left next i (All-contains IsFormedLine m.code i w.forms among))
      (λ unless. record {
        registers = carried m w seated i among t (frame_of m) d;
        slots = λ tries traps.
            subst (λ (t : ℕ). CarriesSlots (frame_of m) (length tries) i (part_of_line t (frame_of m) d i)) (sym (counted i next at tries traps))
            (slots_carried m w seated within i next tries among traps d);
        mark = line_marked t (frame_of m) i (frame_point_count next) (passes_frame i.op) refl left k;
        raises = raises_behind_branch t (frame_of m) d i.op i.args i.results;
      }))
      (parts-laid next (λ j rest h. s j rest (below h)) others
      (left_length (frame_point_count next) (passes_frame i.op) left k))

  pub laid_out : length ds ≡ frame_point_count m.code → IsLaidOutAs m ds p
  laid_out k = record {
    frame = ap (λ (q : Pieces). q.frame) e.is;
    lines = parts_of_lines e.traps (frame_of m) ds m.code;
    code = ap (λ (q : Pieces). q.code) e.is;
    parts = parts-laid m.code (λ i next s. s) ds k;
  }
