-- The slots that the parts of lines over registers and slots name.
use Rattle.std.proofs.Common.{◌≡◌, ℕ, ◌+◌, ◌-◌, ◌%◌, Bool, false, nat_eq, ◌||◌, List, [], ◌∷◌, ◌++◌, refl, ap}
use Rattle.bs_words.specs.declared.operators.CmpOp.{CmpOp}
use Rattle.bs_words.specs.declared.operators.CmpOp.TheVariants as compare
use Rattle.bs_words.specs.declared.operators.IntOp.{IntOp}
use Rattle.bs_words.specs.declared.operators.IntOp.TheVariants as operator
use Rattle.bs_words.specs.declared.types.Loc.{Loc}
use Rattle.bs_words.specs.declared.types.Loc.TheVariants as loc
use Rattle.mach_ir.specs.declared.op.Right.TheVariants as right
use Rattle.lin_ir.specs.declared.lin.Spot.{Spot}
use Rattle.rv_isa.specs.declared.instr.AluImmOp.{AluImmOp}
use Rattle.rv_isa.specs.declared.instr.AluImmOp.TheVariants as imm
use Rattle.rv_isa.specs.declared.instr.AluOp.{AluOp}
use Rattle.rv_isa.specs.declared.instr.AluOp.TheVariants as alu
use Rattle.rv_isa.specs.declared.instr.ShiftOp.TheVariants as shifts
use Rattle.rv_isa.specs.declared.register.Register.{Register}
use Rattle.rv_isa.specs.declared.register.Register.TheVariants.{Zero, T1, T2}
use Rattle.rv_pieces.specs.declared.piece.Piece.{Piece}
use Rattle.rv_pieces.specs.declared.piece.Piece.TheVariants as piece
use Rattle.rv_emit_rules.specs.Instructions.{with_immediate, alu_operation, shift_piece}
use Rattle.rv_isa.specs.Registers.{register_at}
use Rattle.rv_emit_rules.specs.Constants.{constant_pieces}
use Rattle.rv_emit_rules.specs.Operators.{compared, operated, compared_with, operated_with}
use Rattle.rv_emit_rules.specs.Slots.{register_of, target, keep_pieces, copy_pieces, slot_offset}
use Rattle.rv_emit_rules.specs.Instructions.{lui, addiw}
use Rattle.rv_emit_rules.specs.Emitted.{operator_part}
use Rattle.rv_emit_rules.specs.Slots.{first_location, second, fetch_pieces}
use Rattle.rv_emit_rules.specs.Traversal.{EachPiece, each_none, each_more}
use Rattle.rv_emit_rules.specs.Values.{Makes, makes_first, makes_upper, makes_lower, makes_sum, makes_shift}
use Rattle.rv_emit_rules.proofs.Values.{constant_is_made}
use Rattle.laid_parts.specs.Laid.{lies_at}
use Rattle.laid_parts.proofs.Clean.{stack_load-clear}
use Rattle.laid_parts.proofs.Words.{Chunk, Clear, joined, same, then_none, nothing, still, IsScratch, is_t1, is_t2, is_sp, stack_load-words, stack_store-words}
use Rattle.std.proofs.Common.{◌*◌, ◌<◌}
use Rattle.std.proofs.Math.Bool.{or-false}

module _ (c : ℕ) where
  pub immediate-still : (f : AluImmOp) (to from : Register) (w : ℕ) → is_sp to ≡ false → Chunk c (with_immediate f to from w ∷ []) false false
  immediate-still f to from w e = still c (with_immediate f to from w) (λ h. refl) (λ h. refl) (ap (λ (z : Bool). (z || false)) e)

  pub operation-still : (f : AluOp) (to a b : Register) → is_sp to ≡ false → Chunk c (alu_operation f to a b ∷ []) false false
  operation-still f to a b e = still c (alu_operation f to a b) (λ h. refl) (λ h. refl) (ap (λ (z : Bool). (z || false)) e)

  pub shift-still : (f : _) (to from : Register) (w : ℕ) → is_sp to ≡ false → Chunk c (shift_piece f to from w ∷ []) false false
  shift-still f to from w e = still c (shift_piece f to from w) (λ h. refl) (λ h. refl) (ap (λ (z : Bool). (z || false)) e)

  made-still : (r : Register) {p : Piece} → is_sp r ≡ false → Makes r p → Chunk c (p ∷ []) false false
  made-still r e (makes_first w) = immediate-still imm.Addi r Zero w e
  made-still r e (makes_upper w) = still c (lui r w) (λ h. refl) (λ h. refl) (ap (λ (z : Bool). (z || false)) e)
  made-still r e (makes_lower w) = still c (addiw r r w) (λ h. refl) (λ h. refl) (ap (λ (z : Bool). (z || false)) e)
  made-still r e (makes_sum w) = immediate-still imm.Addi r r w e
  made-still r e (makes_shift amount) = shift-still shifts.Slli r r amount e

  each-still : (r : Register) {ps : List Piece} → is_sp r ≡ false → EachPiece (Makes r) ps → Chunk c ps false false
  each-still r e each_none = nothing c
  each-still r e (each_more {p} {ps} made rest) = joined c {xs = p ∷ []} (made-still r e made) (each-still r e rest)

  pub constant-still : (r : Register) (w : ℕ) → is_sp r ≡ false → Chunk c (constant_pieces r w) false false
  constant-still r w e = each-still r e (constant_is_made r w)

  compared-still : (less : AluOp) (f : CmpOp) (to a b : Register) → is_sp to ≡ false → Chunk c (compared less f to a b) false false
  compared-still less compare.Eq to a b e = joined c {xs =
      alu_operation alu.Xor to a b ∷ []} (operation-still alu.Xor to a b e) (immediate-still imm.Sltiu to to 1 e)
  compared-still less compare.Ne to a b e = joined c {xs =
      alu_operation alu.Xor to a b ∷ []} (operation-still alu.Xor to a b e) (operation-still alu.Sltu to Zero to e)
  compared-still less compare.Lt to a b e = operation-still less to a b e
  compared-still less compare.Ge to a b e = joined c {xs = alu_operation less to a b ∷ []} (operation-still less to a b e) (immediate-still imm.Xori to to 1 e)
  compared-still less compare.Gt to a b e = operation-still less to b a e
  compared-still less compare.Le to a b e = joined c {xs = alu_operation less to b a ∷ []} (operation-still less to b a e) (immediate-still imm.Xori to to 1 e)

  operated-still : (f : IntOp) (to a b : Register) → is_sp to ≡ false → Chunk c (operated f to a b) false false
  operated-still operator.Add to a b e = operation-still alu.Add to a b e
  operated-still operator.AddV to a b e = operation-still alu.Add to a b e
  operated-still operator.AddA to a b e = operation-still alu.Add to a b e
  operated-still operator.Sub to a b e = operation-still alu.Sub to a b e
  operated-still operator.Mul to a b e = operation-still alu.Mul to a b e
  operated-still operator.Mulh to a b e = operation-still alu.Mulh to a b e
  operated-still operator.Div to a b e = operation-still alu.Div to a b e
  operated-still operator.Mod to a b e = operation-still alu.Rem to a b e
  operated-still operator.And to a b e = operation-still alu.And to a b e
  operated-still operator.Or to a b e = operation-still alu.Or to a b e
  operated-still operator.Xor to a b e = operation-still alu.Xor to a b e
  operated-still operator.Shl to a b e = operation-still alu.Sll to a b e
  operated-still operator.Shr to a b e = operation-still alu.Srl to a b e
  operated-still operator.Sar to a b e = operation-still alu.Sra to a b e
  operated-still (operator.Cmp f) to a b e = compared-still alu.Slt f to a b e
  operated-still (operator.CmpU f) to a b e = compared-still alu.Sltu f to a b e

  far-still : (w : ℕ) {ys : List Piece} → Chunk c ys false false → Chunk c (constant_pieces T2 w ++ ys) false false
  far-still w y = joined c (constant-still T2 w refl) y

  compared_with-still : (less : AluImmOp) (far : AluOp) (f : CmpOp) (to a : Register) (w : ℕ) → is_sp to ≡ false →
      Chunk c (compared_with less far f to a w) false false
  compared_with-still less far compare.Eq to a w e = joined c {xs =
      with_immediate imm.Xori to a w ∷ []} (immediate-still imm.Xori to a w e) (immediate-still imm.Sltiu to to 1 e)
  compared_with-still less far compare.Ne to a w e = joined c {xs =
      with_immediate imm.Xori to a w ∷ []} (immediate-still imm.Xori to a w e) (operation-still alu.Sltu to Zero to e)
  compared_with-still less far compare.Lt to a w e = immediate-still less to a w e
  compared_with-still less far compare.Ge to a w e = joined c {xs =
      with_immediate less to a w ∷ []} (immediate-still less to a w e) (immediate-still imm.Xori to to 1 e)
  compared_with-still less far compare.Gt to a w e = far-still w (compared-still far compare.Gt to a T2 e)
  compared_with-still less far compare.Le to a w e = far-still w (compared-still far compare.Le to a T2 e)

  operated_with-still : (f : IntOp) (to a : Register) (w : ℕ) → is_sp to ≡ false → Chunk c (operated_with f to a w) false false
  operated_with-still operator.Add to a w e = immediate-still imm.Addi to a w e
  operated_with-still operator.AddV to a w e = immediate-still imm.Addi to a w e
  operated_with-still operator.AddA to a w e = immediate-still imm.Addi to a w e
  operated_with-still operator.Sub to a w e = immediate-still imm.Addi to a (4096 - w % 4096) e
  operated_with-still operator.And to a w e = immediate-still imm.Andi to a w e
  operated_with-still operator.Or to a w e = immediate-still imm.Ori to a w e
  operated_with-still operator.Xor to a w e = immediate-still imm.Xori to a w e
  operated_with-still operator.Shl to a w e = shift-still shifts.Slli to a w e
  operated_with-still operator.Shr to a w e = shift-still shifts.Srli to a w e
  operated_with-still operator.Sar to a w e = shift-still shifts.Srai to a w e
  operated_with-still operator.Mul to a w e = far-still w (operated-still operator.Mul to a T2 e)
  operated_with-still operator.Mulh to a w e = far-still w (operated-still operator.Mulh to a T2 e)
  operated_with-still operator.Div to a w e = far-still w (operated-still operator.Div to a T2 e)
  operated_with-still operator.Mod to a w e = far-still w (operated-still operator.Mod to a T2 e)
  operated_with-still (operator.Cmp f) to a w e = compared_with-still imm.Slti alu.Slt f to a w e
  operated_with-still (operator.CmpU f) to a w e = compared_with-still imm.Sltiu alu.Sltu f to a w e

-- a location whose place in a frame can be told apart
pub data IsWithinFrame (t : ℕ) : Loc → Type 0 where
  in_register : {r : ℕ} → is_sp (register_at r) ≡ false → IsWithinFrame t (loc.Machine r)
  in_frame : {j : ℕ} → 8 * j + 16 * t < 1073741824 → IsWithinFrame t (loc.Slot j)

pub target-apart : (t : ℕ) (l : Loc) → IsWithinFrame t l → is_sp (target l) ≡ false
target-apart t (loc.Machine r) (in_register e) = e
target-apart t (loc.Slot j) a = refl
target-apart t loc.Unset a = elim a [ ]

pub register-apart : (t : ℕ) (scratch : Register) (l : Loc) → is_sp scratch ≡ false → IsWithinFrame t l → is_sp (register_of scratch l) ≡ false
register-apart t scratch (loc.Machine r) s (in_register e) = e
register-apart t scratch (loc.Slot j) s a = s
register-apart t scratch loc.Unset s a = elim a [ ]

module _ (c t : ℕ) where
  pub fetched-clear : (scratch : Register) (l : Loc) → IsScratch scratch → IsWithinFrame t l → Clear c (fetch_pieces t scratch l) (lies_at t c l) false
  fetched-clear scratch (loc.Machine r) s a = nothing c
  fetched-clear scratch (loc.Slot j) s (in_frame b) = stack_load-clear c scratch (slot_offset t j) s b
  fetched-clear scratch loc.Unset s a = elim a [ ]

  pub fetched-slot : (scratch : Register) (l : Loc) → IsScratch scratch → is_sp scratch ≡ false → IsWithinFrame t l →
      Chunk c (fetch_pieces t scratch l) (lies_at t c l) false
  fetched-slot scratch (loc.Machine r) s e a = nothing c
  fetched-slot scratch (loc.Slot j) s e (in_frame b) = stack_load-words c scratch scratch (slot_offset t j) s b e
  fetched-slot scratch loc.Unset s e a = elim a [ ]

  pub kept-slot : (l : Loc) → IsWithinFrame t l → Chunk c (keep_pieces t l) false (lies_at t c l)
  kept-slot (loc.Machine r) a = nothing c
  kept-slot (loc.Slot j) (in_frame b) = stack_store-words c T1 (slot_offset t j) b
  kept-slot loc.Unset a = elim a [ ]

  pub copied-slot : (from to : Loc) → IsWithinFrame t from → IsWithinFrame t to → Chunk c (copy_pieces t from to) (lies_at t c from) (lies_at t c to)
  copied-slot (loc.Slot j) to (in_frame a) b =
      same c
      (joined c (stack_load-words c T2 (target to) (slot_offset t j) is_t2 a (target-apart t to b)) (kept-slot to b))
      (or-false (nat_eq (8 * j + 16 * t) c)) refl
  copied-slot (loc.Machine r) (loc.Slot j) a (in_frame b) = stack_store-words c (register_at r) (slot_offset t j) b
  copied-slot (loc.Machine r) (loc.Machine o) a (in_register e) = immediate-still c imm.Addi (register_at o) (register_at r) 0 e
  copied-slot (loc.Machine r) loc.Unset a b = elim b [ ]
  copied-slot loc.Unset to a b = elim a [ ]

  pub operator_register-slots : (f : IntOp) (args results : List Spot) → IsWithinFrame t (first_location args) → IsWithinFrame t (second args) →
      IsWithinFrame t (first_location results) →
      Chunk c (operator_part t f right.Register args results) (lies_at t c (first_location args) || lies_at t c (second args)) (lies_at t c (first_location results))
  operator_register-slots f args results a b d =
      same c
      (joined c
      (then_none c (joined c (fetched-slot T1 (first_location args) is_t1 refl a) (fetched-slot T2 (second args) is_t2 refl b))
      (operated-still c f (target (first_location results)) (register_of T1 (first_location args)) (register_of T2 (second args)) (target-apart t (first_location results) d)))
      (kept-slot (first_location results) d))
      (or-false (lies_at t c (first_location args) || lies_at t c (second args))) refl

  pub operator_constant-slots : (f : IntOp) (w : ℕ) (args results : List Spot) → IsWithinFrame t (first_location args) → IsWithinFrame t (first_location results) →
      Chunk c (operator_part t f (right.Constant w) args results) (lies_at t c (first_location args)) (lies_at t c (first_location results))
  operator_constant-slots f w args results a d =
      same c
      (joined c
      (then_none c (fetched-slot T1 (first_location args) is_t1 refl a)
      (operated_with-still c f (target (first_location results)) (register_of T1 (first_location args)) w (target-apart t (first_location results) d)))
      (kept-slot (first_location results) d))
      (or-false (lies_at t c (first_location args))) refl

  pub constant_line-slots : (w : ℕ) (results : List Spot) → IsWithinFrame t (first_location results) →
      Chunk c (constant_pieces (target (first_location results)) w ++ keep_pieces t (first_location results)) false (lies_at t c (first_location results))
  constant_line-slots w results d =
      joined c (constant-still c (target (first_location results)) w (target-apart t (first_location results) d)) (kept-slot (first_location results) d)

  pub symbol_line-slots : (name : List ℕ) (results : List Spot) → IsWithinFrame t (first_location results) →
      Chunk c (piece.SymbolAddress (target (first_location results)) name ∷ keep_pieces t (first_location results)) false (lies_at t c (first_location results))
  symbol_line-slots name results d =
      joined c {xs = piece.SymbolAddress (target (first_location results)) name ∷ []}
      (still c (piece.SymbolAddress (target (first_location results)) name) (λ h. refl) (λ h. refl)
      (ap (λ (z : Bool). (z || false)) (target-apart t (first_location results) d)))
      (kept-slot (first_location results) d)
