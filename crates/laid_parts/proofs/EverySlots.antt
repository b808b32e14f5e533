-- The part of each line names the slots that the line reads and writes.
use Rattle.std.proofs.Common.{ℕ, ◌+◌, ◌*◌, ◌<◌, cond, List, ◌∷◌, length, refl, Option, arith}
use Rattle.std.specs.List.{Contains}
use Rattle.std.proofs.lemmas.List.Elements.{All-contains}
use Rattle.mach_ir.specs.Seats.{AreSeated}
use Rattle.mach_ir.specs.declared.op.Calling.TheVariants as calling
use Rattle.mach_ir.specs.declared.op.Op.TheVariants as op
use Rattle.lin_ir.specs.Descriptors.{FitsDescriptors, has_frame_point}
use Rattle.lin_ir.specs.Formed.{IsFormedLine, formed_op, formed_flow, Locates, places_of, lin_operand_seats, lin_result_seats, WellFormed, Seated}
use Rattle.lin_ir.specs.Walks.{Traps}
use Rattle.lin_ir.specs.declared.descr.Descr.{Descr}
use Rattle.lin_ir.specs.declared.lin.Flow.TheVariants as flow
use Rattle.lin_ir.specs.declared.lin.Line.{Line}
use Rattle.lin_ir.specs.declared.lin.LinOp.{LinOp}
use Rattle.lin_ir.specs.declared.lin.LinOp.TheVariants as lin
use Rattle.lin_ir.specs.declared.lin.Lin.{Lin}
use Rattle.lin_ir.specs.declared.lin.Spot.{Spot}
use Rattle.rv_emit_rules.specs.Emitted.{part_of_line}
use Rattle.rv_emit_rules.specs.Entry.{FrameLayout, frame_of, return_offset}
use Rattle.laid_parts.specs.Laid.{CarriesSlots, names}
use Rattle.laid_parts.proofs.Each.{no_move}
use Rattle.laid_parts.proofs.PureSlots.{frame_holds, pure-slots}
use Rattle.laid_parts.proofs.FlowSlots.{branch-named, switch-named, call-named, external-named, label-named, jump-named, exit-named}
use Rattle.laid_parts.proofs.MemorySlots.{access-named}
use Rattle.laid_parts.proofs.LeavingSlots.{tail_call-named, leaving-named, push-named, pop-named, enter-named}

module _ (m : Lin) (t : ℕ) (b : 8 * m.slots + 16 * t < 1073741824) (f : FrameLayout) (fits : return_offset f < 1073741824) (d : Option Descr) where
  line-slots : (o : LinOp) (args results : List Spot) → IsFormedLine (record { op = o; args = args; results = results }) →
      Locates m args → Locates m results → AreSeated (lin_operand_seats o) (places_of args) → AreSeated (lin_result_seats o) (places_of results) →
      CarriesSlots f t (record { op = o; args = args; results = results }) (part_of_line t f d (record { op = o; args = args; results = results }))
  line-slots (lin.Op (op.Pure g)) args results h a r s u = pure-slots m t b f d g args results h a r
  line-slots (lin.Op (op.Access g)) args results (formed_op h) a r s u = names (no_move refl) (access-named m t b f d args results a r g h)
  line-slots (lin.Op (op.Calling (calling.Call whom result))) args results (formed_op h) a r s u =
      names (no_move refl) (call-named m t b f d args results a r whom result h s u)
  line-slots (lin.Op (op.Calling (calling.TailCall whom result))) args results (formed_op h) a r s u =
      names (no_move refl) (tail_call-named m t b f fits d args results a r whom result h s u)
  line-slots (lin.Op (op.Calling (calling.External row frame))) args results (formed_op h) a r s u =
      names (no_move refl) (external-named m t b f d args results a r row frame s u)
  line-slots (lin.Op (op.Leaving g)) args results (formed_op h) a r s u = names (no_move refl) (leaving-named m t b f fits d args results a r g h s)
  line-slots (lin.Flow (flow.Label l)) args results (formed_flow h) a r s u = names (no_move refl) (label-named m t b f d args results a r l h)
  line-slots (lin.Flow (flow.Jump l)) args results (formed_flow h) a r s u = names (no_move refl) (jump-named m t b f d args results a r l h)
  line-slots (lin.Flow (flow.Exit l)) args results (formed_flow h) a r s u = names (no_move refl) (exit-named m t b f d args results a r l h)
  line-slots (lin.Flow (flow.Branch g l)) args results (formed_flow h) a r s u = names (no_move refl) (branch-named m t b f d args results a r g l h)
  line-slots (lin.Flow (flow.Switch ls)) args results (formed_flow h) a r s u = names (no_move refl) (switch-named m t b f d args results a r ls h)
  line-slots (lin.Flow (flow.PushTrap l)) args results (formed_flow h) a r s u = names (no_move refl) (push-named m t b f fits d args results a r l h)
  line-slots (lin.Flow flow.PopTrap) args results (formed_flow h) a r s u = names (no_move refl) (pop-named m t b f fits d args results a r h)
  line-slots (lin.Flow flow.EnterTrap) args results (formed_flow h) a r s u = names (no_move refl) (enter-named m t b f fits d args results a r h)

-- ---- every line of a function

pub slots_carried : (m : Lin) → WellFormed m → Seated m → FitsDescriptors m → (i : Line) (next : List Line) (tries : List ℕ) → Contains m.code i →
    Traps m (i ∷ next) tries → (d : Option Descr) → CarriesSlots (frame_of m) (length tries) i (part_of_line (length tries) (frame_of m) d i)
slots_carried m w seated within i next tries c traps d =
    let at = All-contains (λ (i : Line). Locates m i.args × Locates m i.results) m.code i w.locations c in
    let k = within.frame (i ∷ next) tries traps in
    let fits : return_offset (frame_of m) < 1073741824 = omega (arith, k) in
    line-slots m (length tries) (frame_holds m.slots (cond (has_frame_point m.code) 8 0) (length tries) k)
    (frame_of m) fits d i.op i.args i.results (All-contains IsFormedLine m.code i w.forms c) at.0 at.1 (seated.operands i c) (seated.results i c)
