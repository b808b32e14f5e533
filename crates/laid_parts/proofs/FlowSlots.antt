-- The part of each line that tests, switches or calls names the slots that the line reads and writes.
use Rattle.std.proofs.Common.{◌≡◌, ℕ, Bool, false, nat_eq, ◌||◌, List, [], ◌∷◌, ◌++◌, length, map, refl, sym, ◌∙◌, Option, Some, None}
use Rattle.bs_words.specs.declared.operators.CmpOp.TheVariants as compare
use Rattle.bs_words.specs.declared.types.Comp.{Comp}
use Rattle.bs_words.specs.declared.types.Loc.{Loc}
use Rattle.bs_words.specs.declared.types.Loc.TheVariants as loc
use Rattle.mach_ir.specs.Forms.{HasForm, IsTested, holds, fails, signed, unsigned}
use Rattle.mach_ir.specs.Seats.{AreSeated, InOrder, argument_locations, result_locations}
use Rattle.mach_ir.specs.declared.mach.Test.{Test}
use Rattle.mach_ir.specs.declared.mach.Test.TheVariants as test
use Rattle.mach_ir.specs.declared.op.Callee.{Callee}
use Rattle.mach_ir.specs.declared.op.Callee.TheVariants as callee
use Rattle.mach_ir.specs.declared.op.Calling.TheVariants as calling
use Rattle.mach_ir.specs.declared.op.Op.TheVariants as op
use Rattle.mach_ir.specs.declared.op.Right.{Right}
use Rattle.mach_ir.specs.declared.op.Right.TheVariants as right
use Rattle.lin_ir.specs.Formed.{FlowHasForm, Locates, comps, places_of, lin_operand_seats}
use Rattle.lin_ir.specs.declared.descr.Descr.{Descr}
use Rattle.lin_ir.specs.declared.lin.Flow.TheVariants as flow
use Rattle.lin_ir.specs.declared.lin.LinOp.{LinOp}
use Rattle.lin_ir.specs.declared.lin.LinOp.TheVariants as lin
use Rattle.lin_ir.specs.declared.lin.Lin.{Lin}
use Rattle.lin_ir.specs.declared.lin.Spot.{Spot}
use Rattle.rv_pieces.specs.declared.piece.Piece.TheVariants as piece
use Rattle.std.specs.Prelude.{◌*◌, ◌<◌, nat_le}
use Rattle.std.proofs.Common.{◌+◌}
use Rattle.std.proofs.Math.Bool.{or-false}
use Rattle.bs_words.specs.declared.operators.CmpOp.{CmpOp}
use Rattle.mach_ir.specs.declared.op.External.{External}
use Rattle.rv_isa.specs.declared.instr.AluImmOp.TheVariants as imm
use Rattle.rv_isa.specs.declared.instr.AluOp.TheVariants as alu
use Rattle.rv_isa.specs.declared.instr.Condition.{Condition}
use Rattle.rv_isa.specs.declared.instr.Condition.TheVariants as condition
use Rattle.rv_isa.specs.declared.instr.ShiftOp.TheVariants as shifts
use Rattle.rv_isa.specs.declared.register.Register.{Register}
use Rattle.rv_isa.specs.declared.register.Register.TheVariants.{Zero, T0, T1, T2}
use Rattle.rv_pieces.specs.declared.piece.Piece.TheVariants as piece
use Rattle.rv_emit_rules.specs.Instructions.{addi, alu_operation, shift_piece, auipc, goes_to_address, calls_at, ecall}
use Rattle.rv_isa.specs.Registers.{register_at}
use Rattle.rv_emit_rules.specs.Emitted.{part_of_line}
use Rattle.rv_emit_rules.specs.Entry.{FrameLayout}
use Rattle.rv_emit_rules.specs.Calls.{mark_of, call_words, external_words, external_service}
use Rattle.rv_emit_rules.specs.Slots.{first_location, second, register_of, slot_offset}
use Rattle.rv_emit_rules.specs.Tests.{signed_branch, unsigned_branch, right_register, right_words, branch_part, value_words, tests_in_turn, table_of_jumps, switch_part}
use Rattle.lin_laws.proofs.Forms.{label_inv, jump_inv, exit_inv, branch_inv, switch_inv}
use Rattle.laid_parts.specs.Laid.{lies_at, lie_at, NamesSlots}
use Rattle.laid_parts.proofs.Words.{Chunk, in_part, joined, same, then_none, either, nothing, still, is_t1, is_t2, stack_load-words}
use Rattle.laid_parts.proofs.SlotParts.{IsWithinFrame, in_frame, immediate-still, operation-still, shift-still, constant-still, fetched-slot}
use Rattle.laid_parts.proofs.PureSlots.{first_within, second_within, slots_of, lie_none, lie_one, lie_two, lie_seated, lie_after}
use Rattle.laid_parts.proofs.Each.{RightIs, one_right, no_right, right_inv, call_more}

module _ (c t : ℕ) where
  abbrev at_slot : Loc → Bool
  at_slot l = lies_at t c l

  -- one that names no word, whatever its registers
  branch-still : (q : Condition) (a b : Register) (l : ℕ) → Chunk c (piece.Branch q a b l ∷ []) false false
  branch-still q a b l = still c (piece.Branch q a b l) (λ h. refl) (λ h. refl) refl

  signed-still : (f : CmpOp) (a b : Register) (l : ℕ) → Chunk c (signed_branch f a b l ∷ []) false false
  signed-still compare.Eq a b l = branch-still condition.Beq a b l
  signed-still compare.Ne a b l = branch-still condition.Bne a b l
  signed-still compare.Lt a b l = branch-still condition.Blt a b l
  signed-still compare.Le a b l = branch-still condition.Bge b a l
  signed-still compare.Gt a b l = branch-still condition.Blt b a l
  signed-still compare.Ge a b l = branch-still condition.Bge a b l

  unsigned-still : (f : CmpOp) (a b : Register) (l : ℕ) → Chunk c (unsigned_branch f a b l ∷ []) false false
  unsigned-still compare.Eq a b l = branch-still condition.Beq a b l
  unsigned-still compare.Ne a b l = branch-still condition.Bne a b l
  unsigned-still compare.Lt a b l = branch-still condition.Bltu a b l
  unsigned-still compare.Le a b l = branch-still condition.Bgeu b a l
  unsigned-still compare.Gt a b l = branch-still condition.Bltu b a l
  unsigned-still compare.Ge a b l = branch-still condition.Bgeu a b l

  unfoldable pub right-slot : (o : Right) (args : List Spot) → Bool
  right-slot right.Register args = at_slot (second args)
  right-slot (right.Constant w) args = false

  unfoldable pub RightWithin : Right → List Spot → Type 0
  RightWithin right.Register args = IsWithinFrame t (second args)
  RightWithin (right.Constant w) args = Unit {0}

  pub right-words : (o : Right) (args : List Spot) → RightWithin o args → Chunk c (right_words t o args) (right-slot o args) false
  unfolding right-slot RightWithin
  right-words right.Register args h = fetched-slot c t T2 (second args) is_t2 refl h
  right-words (right.Constant w) args h = either c (nat_eq w 0) (nothing c) (constant-still c T2 w refl)

  pub signed_line : (f : CmpOp) (o : Right) (l : ℕ) (args : List Spot) → IsWithinFrame t (first_location args) → RightWithin o args →
      Chunk c (branch_part t (test.Signed f o) l args) (at_slot (first_location args) || right-slot o args) false
  signed_line f o l args a h =
      then_none c (joined c (fetched-slot c t T1 (first_location args) is_t1 refl a) (right-words o args h))
      (signed-still f (register_of T1 (first_location args)) (right_register o args) l)

  pub unsigned_line : (f : CmpOp) (o : Right) (l : ℕ) (args : List Spot) → IsWithinFrame t (first_location args) → RightWithin o args →
      Chunk c (branch_part t (test.Unsigned f o) l args) (at_slot (first_location args) || right-slot o args) false
  unsigned_line f o l args a h =
      then_none c (joined c (fetched-slot c t T1 (first_location args) is_t1 refl a) (right-words o args h))
      (unsigned-still f (register_of T1 (first_location args)) (right_register o args) l)

  pub holds_line : (l : ℕ) (args : List Spot) → IsWithinFrame t (first_location args) → Chunk c (branch_part t test.Holds l args) (at_slot (first_location args)) false
  holds_line l args a =
      then_none c (then_none c (fetched-slot c t T1 (first_location args) is_t1 refl a) (nothing c))
      (branch-still condition.Bne (register_of T1 (first_location args)) Zero l)

  pub fails_line : (l : ℕ) (args : List Spot) → IsWithinFrame t (first_location args) → Chunk c (branch_part t test.Fails l args) (at_slot (first_location args)) false
  fails_line l args a =
      then_none c (then_none c (fetched-slot c t T1 (first_location args) is_t1 refl a) (nothing c))
      (branch-still condition.Beq (register_of T1 (first_location args)) Zero l)

  -- ---- switches

  pub value-slot : (l : Loc) → IsWithinFrame t l → Chunk c (value_words t l) (at_slot l) false
  value-slot (loc.Slot j) (in_frame b) = stack_load-words c T1 T1 (slot_offset t j) is_t1 b refl
  value-slot (loc.Machine r) a = immediate-still c imm.Addi T1 (register_at r) 0 refl
  value-slot loc.Unset a = elim a [ ]

  turns-still : (ls : List ℕ) → Chunk c (tests_in_turn ls) false false
  turns-still [] = nothing c
  turns-still (l ∷ []) = still c (piece.Jump l) (λ h. refl) (λ h. refl) refl
  turns-still (l ∷ j ∷ ls) =
      joined c {xs = piece.Branch condition.Beq T1 Zero l ∷ []} (branch-still condition.Beq T1 Zero l)
      (joined c {xs = addi T1 T1 0xFFFFFFFFFFFFFFFF ∷ []} (immediate-still c imm.Addi T1 T1 0xFFFFFFFFFFFFFFFF refl) (turns-still (j ∷ ls)))

  rows-still : (ls : List ℕ) → Chunk c (map piece.Row ls) false false
  rows-still [] = nothing c
  rows-still (l ∷ ls) = joined c {xs = piece.Row l ∷ []} (still c (piece.Row l) (λ h. refl) (λ h. refl) refl) (rows-still ls)

  table-still : (ls : List ℕ) → Chunk c (table_of_jumps ls) false false
  table-still ls =
      joined c {xs = shift_piece shifts.Slli T1 T1 3 ∷ []} (shift-still c shifts.Slli T1 T1 3 refl)
      (joined c {xs = auipc T2 ∷ []} (still c (auipc T2) (λ h. refl) (λ h. refl) refl)
      (joined c {xs = alu_operation alu.Add T2 T2 T1 ∷ []} (operation-still c alu.Add T2 T2 T1 refl)
      (joined c {xs = goes_to_address T2 12 ∷ []} (still c (goes_to_address T2 12) (λ h. refl) (λ h. refl) refl) (rows-still ls))))

  pub switch_line-slots : (ls : List ℕ) (args : List Spot) → IsWithinFrame t (first_location args) → Chunk c (switch_part t ls args) (at_slot (first_location args)) false
  switch_line-slots ls args a = then_none c (value-slot (first_location args) a) (either c (nat_le (length ls) 4) (turns-still ls) (table-still ls))

  -- ---- calls

  pub mark-still : (d : Option Descr) → Chunk c (mark_of d) false false
  mark-still (Some d) = still c (piece.Descriptor d) (λ h. refl) (λ h. refl) refl
  mark-still None = nothing c

  pub call_line-slots : (name : List ℕ) (args : List Spot) (d : Option Descr) → Chunk c (call_words t (callee.Symbol name) args ++ mark_of d) false false
  call_line-slots name args d = joined c (still c (piece.Call name) (λ h. refl) (λ h. refl) refl) (mark-still d)

  pub call_register-slots : (args : List Spot) (d : Option Descr) → IsWithinFrame t (first_location args) →
      Chunk c (call_words t callee.Register args ++ mark_of d) (at_slot (first_location args)) false
  call_register-slots args d a =
      then_none c
      (then_none c (fetched-slot c t T1 (first_location args) is_t1 refl a)
      (still c (calls_at (register_of T1 (first_location args))) (λ h. refl) (λ h. refl) refl))
      (mark-still d)

  pub external-slots : (row : External) (frame : Bool) (d : Option Descr) → Chunk c (external_words row frame ++ mark_of d) false false
  external-slots row frame d =
      joined c
      (joined c {xs = piece.ExternalNumber T0 row ∷ []} (still c (piece.ExternalNumber T0 row) (λ h. refl) (λ h. refl) refl)
      (joined c (constant-still c T2 (external_service frame) refl) (still c ecall (λ h. refl) (λ h. refl) refl)))
      (mark-still d)

-- ---- lines

module _ (m : Lin) (t : ℕ) (b : 8 * m.slots + 16 * t < 1073741824) (f : FrameLayout) (d : Option Descr) (args results : List Spot)
    (a : Locates m args) (r : Locates m results) where
  abbrev NamesIn : LinOp → Type 0
  NamesIn o = NamesSlots f t (record { op = o; args = args; results = results }) (part_of_line t f d (record { op = o; args = args; results = results }))

  pub beside : (c : ℕ) (o : Right) (u : Comp) (us : List Comp) → comps args ≡ u ∷ us → RightIs o us →
      RightWithin c t o args × ((lies_at t c (first_location args) || right-slot c t o args) ≡ lie_at t c (places_of args))
  unfolding RightWithin right-slot
  beside c right.Register u us e (one_right v) = (second_within m t b args u v [] e a, sym (lie_two t c args u v e))
  beside c (right.Constant w) u us e no_right = (tt, or-false (lies_at t c (first_location args)) ∙ sym (lie_one t c args u e))

  branch-slots : (c : ℕ) (g : Test) (l : ℕ) (us : List Comp) → comps args ≡ us → IsTested g us →
      Chunk c (branch_part t g l args) (lie_at t c (places_of args)) false
  branch-slots c test.Holds l us e (holds {t = u}) =
      same c (holds_line c t l args (first_within m t b args u [] e a)) (sym (lie_one t c args u e)) refl
  branch-slots c test.Fails l us e (fails {t = u}) =
      same c (fails_line c t l args (first_within m t b args u [] e a)) (sym (lie_one t c args u e)) refl
  branch-slots c (test.Signed q o) l us e (signed {rest} {left = u} h) =
      let x = beside c o u rest e (right_inv _ o rest h) in
      same c (signed_line c t q o l args (first_within m t b args u rest e a) x.0) x.1 refl
  branch-slots c (test.Unsigned q o) l us e (unsigned {rest} {left = u} h) =
      let x = beside c o u rest e (right_inv _ o rest h) in
      same c (unsigned_line c t q o l args (first_within m t b args u rest e a) x.0) x.1 refl

  pub branch-named : (g : Test) (l : ℕ) → FlowHasForm (flow.Branch g l) (comps args) (comps results) → NamesIn (lin.Flow (flow.Branch g l))
  branch-named g l h =
      let i = branch_inv g l (comps args) (comps results) h in
      slots_of t (λ c n. in_part c (same c (branch-slots c g l (comps args) refl i.0) refl (sym (lie_none t c results i.1))))

  pub switch-named : (ls : List ℕ) → FlowHasForm (flow.Switch ls) (comps args) (comps results) → NamesIn (lin.Flow (flow.Switch ls))
  switch-named ls h =
      let i = switch_inv ls (comps args) (comps results) h in
      slots_of t (λ c n. in_part c (same c (switch_line-slots c t ls args (first_within m t b args i.0.0 [] i.0.1 a))
      (sym (lie_one t c args i.0.0 i.0.1)) (sym (lie_none t c results i.1))))

  pub call-named : (whom : Callee) (result : _) → HasForm (op.Calling (calling.Call whom result)) (comps args) (comps results) →
      AreSeated (lin_operand_seats (lin.Op (op.Calling (calling.Call whom result)))) (places_of args) →
      AreSeated (InOrder result_locations) (places_of results) → NamesIn (lin.Op (op.Calling (calling.Call whom result)))
  call-named (callee.Symbol name) result h s u =
      slots_of t (λ c n. in_part c (same c (call_line-slots c t name args d)
      (sym (lie_seated t c argument_locations (places_of args) s refl)) (sym (lie_seated t c result_locations (places_of results) u refl))))
  call-named callee.Register result h s u =
      let i = call_more result (comps args) (comps results) h in
      slots_of t (λ c n. in_part c (same c (call_register-slots c t args d (first_within m t b args i.0 i.1 i.2 a))
      (sym (lie_after t c argument_locations args s refl)) (sym (lie_seated t c result_locations (places_of results) u refl))))

  pub external-named : (row : External) (frame : Bool) → AreSeated (InOrder argument_locations) (places_of args) →
      AreSeated (InOrder result_locations) (places_of results) → NamesIn (lin.Op (op.Calling (calling.External row frame)))
  external-named row frame s u =
      slots_of t (λ c n. in_part c (same c (external-slots c t row frame d)
      (sym (lie_seated t c argument_locations (places_of args) s refl)) (sym (lie_seated t c result_locations (places_of results) u refl))))

  pub label-named : (l : ℕ) → FlowHasForm (flow.Label l) (comps args) (comps results) → NamesIn (lin.Flow (flow.Label l))
  label-named l h =
      let i = label_inv l (comps args) (comps results) h in
      slots_of t (λ c n. in_part c (same c (still c (piece.Label l) (λ h. refl) (λ h. refl) refl)
      (sym (lie_none t c args i.0)) (sym (lie_none t c results i.1))))

  pub jump-named : (l : ℕ) → FlowHasForm (flow.Jump l) (comps args) (comps results) → NamesIn (lin.Flow (flow.Jump l))
  jump-named l h =
      let i = jump_inv l (comps args) (comps results) h in
      slots_of t (λ c n. in_part c (same c (still c (piece.Jump l) (λ h. refl) (λ h. refl) refl)
      (sym (lie_none t c args i.0)) (sym (lie_none t c results i.1))))

  pub exit-named : (l : ℕ) → FlowHasForm (flow.Exit l) (comps args) (comps results) → NamesIn (lin.Flow (flow.Exit l))
  exit-named l h =
      let i = exit_inv l (comps args) (comps results) h in
      slots_of t (λ c n. in_part c (same c (still c (piece.Jump l) (λ h. refl) (λ h. refl) refl)
      (sym (lie_none t c args i.0)) (sym (lie_none t c results i.1))))
