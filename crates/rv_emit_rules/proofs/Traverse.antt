-- EachPiece piece of a part is allowed by its line.
use Rattle.std.proofs.Common.{◌≡◌, ℕ, zero, suc, ◌+◌, ◌-◌, ◌*◌, ◌/◌, ◌%◌, ◌<◌, Bool, true, false, cond, nat_eq, nat_lt, nat_le, List, [], ◌∷◌, ◌++◌, length, map, Option, Some, None, refl, lit<, arith}
use Rattle.bs_words.specs.Fits.{data_start}
use Rattle.bs_words.specs.declared.operators.CmpOp.{CmpOp}
use Rattle.bs_words.specs.declared.operators.CmpOp.TheVariants as compare
use Rattle.bs_words.specs.declared.operators.IntOp.{IntOp}
use Rattle.bs_words.specs.declared.operators.IntOp.TheVariants as operator
use Rattle.bs_words.specs.declared.types.Chunk.{Chunk}
use Rattle.bs_words.specs.declared.types.Loc.{Loc}
use Rattle.bs_words.specs.declared.types.Loc.TheVariants as loc
use Rattle.mach_ir.specs.Acts.{At}
use Rattle.mach_ir.specs.Blocks.{total_block_bytes}
use Rattle.mach_ir.specs.Forms.{is_immediate_12}
use Rattle.mach_ir.specs.Keeps as keeps
use Rattle.mach_ir.specs.Walks.{OneOf, this, other}
use Rattle.mach_ir.specs.declared.blocks.NewBlock.{NewBlock}
use Rattle.mach_ir.specs.declared.mach.Test.{Test}
use Rattle.mach_ir.specs.declared.mach.Test.TheVariants as test
use Rattle.mach_ir.specs.declared.op.Access.{Access}
use Rattle.mach_ir.specs.declared.op.Access.TheVariants as access
use Rattle.mach_ir.specs.declared.op.Callee.TheVariants as callee
use Rattle.mach_ir.specs.declared.op.Calling.{Calling}
use Rattle.mach_ir.specs.declared.op.Calling.TheVariants as calling
use Rattle.mach_ir.specs.declared.op.Leaving.{Leaving}
use Rattle.mach_ir.specs.declared.op.Leaving.TheVariants as leaving
use Rattle.mach_ir.specs.declared.op.Op.{Op}
use Rattle.mach_ir.specs.declared.op.Op.TheVariants as op
use Rattle.mach_ir.specs.declared.op.Pure.{Pure}
use Rattle.mach_ir.specs.declared.op.Pure.TheVariants as pure
use Rattle.mach_ir.specs.declared.op.Right.{Right}
use Rattle.mach_ir.specs.declared.op.Right.TheVariants as right
use Rattle.lin_ir.specs.Formed.{goes_to, pushes}
use Rattle.lin_ir.specs.Meaning.{same_loc}
use Rattle.lin_ir.specs.declared.descr.Descr.{Descr}
use Rattle.lin_ir.specs.declared.lin.Flow.{Flow}
use Rattle.lin_ir.specs.declared.lin.Flow.TheVariants as flow
use Rattle.lin_ir.specs.declared.lin.Line.{Line}
use Rattle.lin_ir.specs.declared.lin.LinOp.{LinOp}
use Rattle.lin_ir.specs.declared.lin.LinOp.TheVariants as lin
use Rattle.lin_ir.specs.declared.lin.Spot.{Spot}
use Rattle.rv_isa.specs.Encoding.{InstrFits}
use Rattle.rv_isa.specs.Registers.{register_number, register_at}
use Rattle.rv_isa.specs.declared.instr.AluImmOp.{AluImmOp}
use Rattle.rv_isa.specs.declared.instr.AluImmOp.TheVariants as imm
use Rattle.rv_isa.specs.declared.instr.AluOp.{AluOp}
use Rattle.rv_isa.specs.declared.instr.AluOp.TheVariants as alu
use Rattle.rv_isa.specs.declared.instr.Condition.{Condition}
use Rattle.rv_isa.specs.declared.instr.Condition.TheVariants as condition
use Rattle.rv_isa.specs.declared.instr.Instr.{Instr}
use Rattle.rv_isa.specs.declared.instr.LoadWidth.{LoadWidth}
use Rattle.rv_isa.specs.declared.instr.LoadWidth.TheVariants as loads
use Rattle.rv_isa.specs.declared.instr.ShiftOp.{ShiftOp}
use Rattle.rv_isa.specs.declared.instr.ShiftOp.TheVariants as shifts
use Rattle.rv_isa.specs.declared.instr.StoreWidth.{StoreWidth}
use Rattle.rv_isa.specs.declared.instr.StoreWidth.TheVariants as stores
use Rattle.rv_isa.specs.declared.register.Register.{Register}
use Rattle.rv_isa.specs.declared.register.Register.TheVariants.{Zero, Ra, Sp, Gp, Tp, T0, T1, T2, S0, S1, A0, A1, A2, A3, A4, A5, A6, A7, S2, S3, S4, S5, S6, S7, S8, S9, S10, S11, T3, T4, T5, T6}
use Rattle.rv_pieces.specs.declared.piece.Piece.{Piece}
use Rattle.rv_pieces.specs.declared.piece.Piece.TheVariants as piece
use Rattle.rv_emit_rules.specs.Instructions.{low_12, with_immediate, addi, alu_operation, shift_piece, lui, addiw, auipc, load_piece, store_piece, skip, goes_to_address as jumps_to, calls_at, ecall}
use Rattle.rv_emit_rules.specs.Constants.{is_word_32, above_12, lower_part, constant_32, upper_constant, shifted, constant_shifted, constant_pieces, sum_to, bytes_taken_off}
use Rattle.rv_emit_rules.specs.Slots.{far_stack, stack_load, stack_store, slot_offset, first_location, second, register_of, fetch_pieces, target, keep_pieces, copy_pieces, move_pieces}
use Rattle.rv_emit_rules.specs.Operators.{opposed, is_none, is_some, compared, operated, compared_with, operated_with}
use Rattle.rv_emit_rules.specs.Tests.{constant_words, right_register, right_words, signed_branch, unsigned_branch, test_words, test_branch, branch_part, value_words, tests_in_turn, switch_part}
use Rattle.rv_emit_rules.specs.Memory.{address_words, address_register, address_offset, load_width, load_from, load_part, store_width, store_part, ask, reserved, addresses, alloc_part}
use Rattle.rv_emit_rules.specs.Entry.{FrameLayout, restored, return_offset, frame_allocation, entry_pieces, frame_release}
use Rattle.rv_emit_rules.specs.Calls.{mark_of, external_service, return_part}
use Rattle.rv_emit_rules.specs.Traps.{raise_words, pop_part, check_part}
use Rattle.rv_emit_rules.specs.Emitted.{operator_part, pure_part, access_part, calling_part, leaving_part, op_part, flow_part, part_of_line, part_before}
use Rattle.rv_emit_rules.specs.Units.{is_free_exit}
use Rattle.rv_emit_rules.specs.Traversal.{EachPiece, each_none, each_more, Allows}

-- ---- numbers

pub number-below : (r : Register) → register_number r < 32
number-below Zero = lit< tt
number-below Ra = lit< tt
number-below Sp = lit< tt
number-below Gp = lit< tt
number-below Tp = lit< tt
number-below T0 = lit< tt
number-below T1 = lit< tt
number-below T2 = lit< tt
number-below S0 = lit< tt
number-below S1 = lit< tt
number-below A0 = lit< tt
number-below A1 = lit< tt
number-below A2 = lit< tt
number-below A3 = lit< tt
number-below A4 = lit< tt
number-below A5 = lit< tt
number-below A6 = lit< tt
number-below A7 = lit< tt
number-below S2 = lit< tt
number-below S3 = lit< tt
number-below S4 = lit< tt
number-below S5 = lit< tt
number-below S6 = lit< tt
number-below S7 = lit< tt
number-below S8 = lit< tt
number-below S9 = lit< tt
number-below S10 = lit< tt
number-below S11 = lit< tt
number-below T3 = lit< tt
number-below T4 = lit< tt
number-below T5 = lit< tt
number-below T6 = lit< tt

below_12 : (w : ℕ) → low_12 w < 4096
below_12 w = omega arith

-- ---- lists

pub join : {P : Piece → Type 0} {xs ys : List Piece} → EachPiece P xs → EachPiece P ys → EachPiece P (xs ++ ys)
join each_none all = all
join (each_more p ps) all = each_more p (join ps all)

pub one : {P : Piece → Type 0} {p : Piece} → P p → EachPiece P (p ∷ [])
one p = each_more p each_none

pub chosen : {P : Piece → Type 0} (b : Bool) {xs ys : List Piece} → EachPiece P xs → EachPiece P ys → EachPiece P (cond b xs ys)
chosen true x y = x
chosen false x y = y

-- ---- instructions alone

module _ (P : Piece → Type 0) (known : (j : Instr) → InstrFits j → P (piece.Known j)) where
  with_immediate-in : (f : AluImmOp) (to from : Register) (w : ℕ) → P (with_immediate f to from w)
  with_immediate-in f to from w = known _ (number-below to, number-below from, below_12 w)

  addi-in : (to from : Register) (w : ℕ) → P (addi to from w)
  addi-in to from w = with_immediate-in imm.Addi to from w

  operation-in : (f : AluOp) (to a b : Register) → P (alu_operation f to a b)
  operation-in f to a b = known _ (number-below to, number-below a, number-below b)

  shift-in : (f : ShiftOp) (to from : Register) (amount : ℕ) → P (shift_piece f to from amount)
  shift-in f to from amount = let k : amount % 64 < 64 = omega arith in known _ (number-below to, number-below from, k)

  lui-in : (to : Register) (upper : ℕ) → P (lui to upper)
  lui-in to upper = let k : upper % 1048576 < 1048576 = omega arith in known _ (number-below to, k)

  addiw-in : (to from : Register) (w : ℕ) → P (addiw to from w)
  addiw-in to from w = known _ (number-below to, number-below from, below_12 w)

  auipc-in : (to : Register) → P (auipc to)
  auipc-in to = known _ (number-below to, lit< tt)

  load-in : (k : LoadWidth) (to address : Register) (offset : ℕ) → P (load_piece k to address offset)
  load-in k to address offset = known _ (number-below to, number-below address, below_12 offset)

  store-in : (k : StoreWidth) (from address : Register) (offset : ℕ) → P (store_piece k from address offset)
  store-in k from address offset = known _ (number-below address, number-below from, below_12 offset)

  skip-in : (f : Condition) (a b : Register) (n : ℕ) → P (skip f a b (4 * n))
  skip-in f a b n =
      let k : 4 * n % 8192 < 8192 = omega arith in
      let even : 4 * n % 8192 % 2 ≡ 0 = omega arith in
      known _ (number-below a, number-below b, k, even)

  jumps_to-in : (address : Register) (offset : ℕ) → P (jumps_to address offset)
  jumps_to-in address offset = known _ (number-below Zero, number-below address, below_12 offset)

  calls_at-in : (address : Register) → P (calls_at address)
  calls_at-in address = known _ (number-below Ra, number-below address, lit< tt)

  ecall-in : P ecall
  ecall-in = known _ tt

  -- constants
  lower_part-in : (r : Register) (w : ℕ) → EachPiece P (lower_part r w)
  lower_part-in r w = chosen (nat_eq (low_12 w) 0) each_none (one (addiw-in r r w))

  constant_32-in : (r : Register) (w : ℕ) → EachPiece P (constant_32 r w)
  constant_32-in r w =
      chosen (is_immediate_12 w) (one (addi-in r Zero w)) (each_more (lui-in r (above_12 w)) (lower_part-in r w))

  shifted-in : (r : Register) (amount : ℕ) → EachPiece P (shifted r amount)
  shifted-in r zero = each_none
  shifted-in r (suc n) = one (shift-in shifts.Slli r r (suc n))

  constant_shifted-in : (n : ℕ) (r : Register) (w amount : ℕ) → EachPiece P (constant_shifted n r w amount)
  constant_shifted-in zero r w amount = join (constant_32-in r w) (shifted-in r amount)
  constant_shifted-in (suc n) r w amount =
      chosen (is_word_32 w) (join (constant_32-in r w) (shifted-in r amount))
      (chosen (nat_eq (low_12 w) 0) (constant_shifted-in n r (upper_constant w) (amount + 12))
      (join (constant_shifted-in n r (upper_constant w) 12) (each_more (addi-in r r w) (shifted-in r amount))))

  constant-in : (r : Register) (w : ℕ) → EachPiece P (constant_pieces r w)
  unfolding constant_pieces
  constant-in r w = constant_shifted-in 3 r w 0

  sum_to-in : (scratch to from : Register) (n : ℕ) → EachPiece P (sum_to scratch to from n)
  sum_to-in scratch to from n =
      chosen (nat_lt n 2048) (one (addi-in to from n)) (join (constant-in scratch n) (one (operation-in alu.Add to from scratch)))

  lowered-in : (scratch r : Register) (n : ℕ) → EachPiece P (bytes_taken_off scratch r n)
  lowered-in scratch r n =
      chosen (nat_le n 2048) (one (addi-in r r (4096 - n % 4096))) (join (constant-in scratch n) (one (operation-in alu.Sub r r scratch)))

  -- slots
  far_stack-in : (scratch : Register) (offset : ℕ) → EachPiece P (far_stack scratch offset)
  far_stack-in scratch offset = each_more (lui-in scratch (above_12 offset)) (one (operation-in alu.Add scratch scratch Sp))

  stack_load-in : (scratch to : Register) (offset : ℕ) → EachPiece P (stack_load scratch to offset)
  stack_load-in scratch to offset =
      chosen (nat_lt offset 2048) (one (load-in loads.Ld to Sp offset)) (join (far_stack-in scratch offset) (one (load-in loads.Ld to scratch offset)))

  stack_store-in : (scratch from : Register) (offset : ℕ) → EachPiece P (stack_store scratch from offset)
  stack_store-in scratch from offset =
      chosen (nat_lt offset 2048) (one (store-in stores.Sd from Sp offset)) (join (far_stack-in scratch offset) (one (store-in stores.Sd from scratch offset)))

  fetched-in : (t : ℕ) (scratch : Register) (l : Loc) → EachPiece P (fetch_pieces t scratch l)
  fetched-in t scratch (loc.Machine n) = each_none
  fetched-in t scratch (loc.Slot k) = stack_load-in scratch scratch (slot_offset t k)
  fetched-in t scratch loc.Unset = each_none

  kept-in : (t : ℕ) (l : Loc) → EachPiece P (keep_pieces t l)
  kept-in t (loc.Machine n) = each_none
  kept-in t (loc.Slot k) = stack_store-in T2 T1 (slot_offset t k)
  kept-in t loc.Unset = each_none

  copied-in : (t : ℕ) (from to : Loc) → EachPiece P (copy_pieces t from to)
  copied-in t (loc.Slot j) to = join (stack_load-in T2 (target to) (slot_offset t j)) (kept-in t to)
  copied-in t (loc.Machine n) (loc.Slot k) = stack_store-in T2 (register_at n) (slot_offset t k)
  copied-in t (loc.Machine n) (loc.Machine o) = one (addi-in (register_at o) (register_at n) 0)
  copied-in t (loc.Machine n) loc.Unset = each_none
  copied-in t loc.Unset to = each_none

  moved-in : (t : ℕ) (from to : Loc) → EachPiece P (move_pieces t from to)
  moved-in t from to = chosen (same_loc from to) each_none (copied-in t from to)

  -- operators
  opposed-in : (to : Register) → P (opposed to)
  opposed-in to = with_immediate-in imm.Xori to to 1

  is_none-in : (to : Register) → P (is_none to)
  is_none-in to = with_immediate-in imm.Sltiu to to 1

  is_some-in : (to : Register) → P (is_some to)
  is_some-in to = operation-in alu.Sltu to Zero to

  compared-in : (less : AluOp) (f : CmpOp) (to a b : Register) → EachPiece P (compared less f to a b)
  compared-in less compare.Eq to a b = each_more (operation-in alu.Xor to a b) (one (is_none-in to))
  compared-in less compare.Ne to a b = each_more (operation-in alu.Xor to a b) (one (is_some-in to))
  compared-in less compare.Lt to a b = one (operation-in less to a b)
  compared-in less compare.Ge to a b = each_more (operation-in less to a b) (one (opposed-in to))
  compared-in less compare.Gt to a b = one (operation-in less to b a)
  compared-in less compare.Le to a b = each_more (operation-in less to b a) (one (opposed-in to))

  operated-in : (f : IntOp) (to a b : Register) → EachPiece P (operated f to a b)
  operated-in operator.Add to a b = one (operation-in alu.Add to a b)
  operated-in operator.AddV to a b = one (operation-in alu.Add to a b)
  operated-in operator.AddA to a b = one (operation-in alu.Add to a b)
  operated-in operator.Sub to a b = one (operation-in alu.Sub to a b)
  operated-in operator.Mul to a b = one (operation-in alu.Mul to a b)
  operated-in operator.Mulh to a b = one (operation-in alu.Mulh to a b)
  operated-in operator.Div to a b = one (operation-in alu.Div to a b)
  operated-in operator.Mod to a b = one (operation-in alu.Rem to a b)
  operated-in operator.And to a b = one (operation-in alu.And to a b)
  operated-in operator.Or to a b = one (operation-in alu.Or to a b)
  operated-in operator.Xor to a b = one (operation-in alu.Xor to a b)
  operated-in operator.Shl to a b = one (operation-in alu.Sll to a b)
  operated-in operator.Shr to a b = one (operation-in alu.Srl to a b)
  operated-in operator.Sar to a b = one (operation-in alu.Sra to a b)
  operated-in (operator.Cmp f) to a b = compared-in alu.Slt f to a b
  operated-in (operator.CmpU f) to a b = compared-in alu.Sltu f to a b

  compared_with-in : (less : AluImmOp) (far : AluOp) (f : CmpOp) (to a : Register) (w : ℕ) → EachPiece P (compared_with less far f to a w)
  compared_with-in less far compare.Eq to a w = each_more (with_immediate-in imm.Xori to a w) (one (is_none-in to))
  compared_with-in less far compare.Ne to a w = each_more (with_immediate-in imm.Xori to a w) (one (is_some-in to))
  compared_with-in less far compare.Lt to a w = one (with_immediate-in less to a w)
  compared_with-in less far compare.Ge to a w = each_more (with_immediate-in less to a w) (one (opposed-in to))
  compared_with-in less far compare.Gt to a w = join (constant-in T2 w) (compared-in far compare.Gt to a T2)
  compared_with-in less far compare.Le to a w = join (constant-in T2 w) (compared-in far compare.Le to a T2)

  operated_with-in : (f : IntOp) (to a : Register) (w : ℕ) → EachPiece P (operated_with f to a w)
  operated_with-in operator.Add to a w = one (addi-in to a w)
  operated_with-in operator.AddV to a w = one (addi-in to a w)
  operated_with-in operator.AddA to a w = one (addi-in to a w)
  operated_with-in operator.Sub to a w = one (addi-in to a (4096 - w % 4096))
  operated_with-in operator.And to a w = one (with_immediate-in imm.Andi to a w)
  operated_with-in operator.Or to a w = one (with_immediate-in imm.Ori to a w)
  operated_with-in operator.Xor to a w = one (with_immediate-in imm.Xori to a w)
  operated_with-in operator.Shl to a w = one (shift-in shifts.Slli to a w)
  operated_with-in operator.Shr to a w = one (shift-in shifts.Srli to a w)
  operated_with-in operator.Sar to a w = one (shift-in shifts.Srai to a w)
  operated_with-in operator.Mul to a w = join (constant-in T2 w) (operated-in operator.Mul to a T2)
  operated_with-in operator.Mulh to a w = join (constant-in T2 w) (operated-in operator.Mulh to a T2)
  operated_with-in operator.Div to a w = join (constant-in T2 w) (operated-in operator.Div to a T2)
  operated_with-in operator.Mod to a w = join (constant-in T2 w) (operated-in operator.Mod to a T2)
  operated_with-in (operator.Cmp f) to a w = compared_with-in imm.Slti alu.Slt f to a w
  operated_with-in (operator.CmpU f) to a w = compared_with-in imm.Sltiu alu.Sltu f to a w

  operator_part-in : (t : ℕ) (f : IntOp) (r : Right) (args results : List Spot) → EachPiece P (operator_part t f r args results)
  operator_part-in t f right.Register args results =
      join (join (join (fetched-in t T1 (first_location args)) (fetched-in t T2 (second args))) (operated-in f (target (first_location results)) (register_of T1
      (first_location args)) (register_of T2 (second args))))
      (kept-in t (first_location results))
  operator_part-in t f (right.Constant w) args results =
      join (join (fetched-in t T1 (first_location args)) (operated_with-in f (target (first_location results)) (register_of T1 (first_location args)) w)) (kept-in t (first_location results))

  -- tests
  constant_words-in : (w : ℕ) → EachPiece P (constant_words w)
  constant_words-in w = chosen (nat_eq w 0) each_none (constant-in T2 w)

  right_words-in : (t : ℕ) (r : Right) (args : List Spot) → EachPiece P (right_words t r args)
  right_words-in t right.Register args = fetched-in t T2 (second args)
  right_words-in t (right.Constant w) args = constant_words-in w

  test_words-in : (t : ℕ) (f : Test) (args : List Spot) → EachPiece P (test_words t f args)
  test_words-in t test.Holds args = each_none
  test_words-in t test.Fails args = each_none
  test_words-in t (test.Signed f r) args = right_words-in t r args
  test_words-in t (test.Unsigned f r) args = right_words-in t r args

  value_words-in : (t : ℕ) (l : Loc) → EachPiece P (value_words t l)
  value_words-in t (loc.Slot k) = stack_load-in T1 T1 (slot_offset t k)
  value_words-in t (loc.Machine n) = one (addi-in T1 (register_at n) 0)
  value_words-in t loc.Unset = one (addi-in T1 Zero 0)

  -- memory
  address_words-in : (base : Register) (offset : ℕ) → EachPiece P (address_words base offset)
  address_words-in base offset =
      chosen (is_immediate_12 offset) each_none (join (constant-in T2 offset) (one (operation-in alu.Add T1 base T2)))

  load_from-in : (k : Chunk) (offset : ℕ) (base to : Register) → EachPiece P (load_from k offset base to)
  load_from-in k offset base to =
      join (address_words-in base offset) (one (load-in (load_width k) to (address_register base offset) (address_offset offset)))

  load_part-in : (t : ℕ) (k : Chunk) (offset : ℕ) (args results : List Spot) → EachPiece P (load_part t k offset args results)
  load_part-in t k offset args results =
      join (join (fetched-in t T1 (first_location args)) (load_from-in k offset (register_of T1 (first_location args)) (target (first_location results)))) (kept-in t (first_location results))

  store_part-in : (t : ℕ) (k : Chunk) (offset : ℕ) (args : List Spot) → EachPiece P (store_part t k offset args)
  store_part-in t k offset args =
      join (join (join (fetched-in t T1 (first_location args)) (address_words-in (register_of T1 (first_location args)) offset)) (fetched-in t T2 (second args)))
      (one (store-in (store_width k) (register_of T2 (second args)) (address_register (register_of T1 (first_location args)) offset) (address_offset offset)))

  ask-in : (bytes : ℕ) → EachPiece P (ask bytes)
  ask-in bytes = join (join (constant-in T0 bytes) (constant-in T2 3)) (one ecall-in)

  reserved-in : (bytes : ℕ) → EachPiece P (reserved bytes)
  reserved-in bytes =
      join (lowered-in T1 S10 bytes) (each_more (load-in loads.Ld T1 S11 0) (each_more (skip-in condition.Bgeu S10 T1 (1 + length (ask bytes))) (ask-in bytes)))

  addresses-in : (t : ℕ) (blocks : List NewBlock) (results : List Spot) → EachPiece P (addresses t blocks results)
  addresses-in t [] results = each_none
  addresses-in t (b ∷ blocks) [] = each_none
  addresses-in t (b ∷ blocks) (s ∷ results) =
      join (join (addresses-in t blocks results) (sum_to-in T1 (target s.loc) S10 (total_block_bytes blocks + 8))) (kept-in t s.loc)

  alloc_part-in : (t : ℕ) (mark : List Piece) (blocks : List NewBlock) (results : List Spot) → EachPiece P mark → EachPiece P (alloc_part t mark blocks results)
  alloc_part-in t mark blocks results all = join (join (reserved-in (total_block_bytes blocks)) all) (addresses-in t blocks results)

  -- traps and frames
  raise_words-in : EachPiece P raise_words
  raise_words-in =
      each_more (addi-in Sp S1 0) (each_more (load-in loads.Ld T1 Sp 0) (each_more (load-in loads.Ld S1 Sp 8) (each_more (addi-in Sp Sp 16) (one
      (jumps_to-in T1 0)))))

  pop_part-in : EachPiece P pop_part
  pop_part-in = each_more (load-in loads.Ld S1 Sp 8) (one (addi-in Sp Sp 16))

  check_part-in : (t : ℕ) (r : Right) (args : List Spot) → EachPiece P (check_part t r args)
  check_part-in t r args =
      join (join (fetched-in t T1 (first_location args)) (right_words-in t r args))
      (each_more (skip-in condition.Bltu (right_register r args) (register_of T1 (first_location args)) 7) (each_more (lui-in A0 (data_start / 4096)) raise_words-in))

  taken-in : (f : FrameLayout) → EachPiece P (frame_allocation f)
  taken-in f = chosen (nat_eq f.bytes 0) each_none (lowered-in T1 Sp f.bytes)

  pub entry-in : (f : FrameLayout) → EachPiece P (entry_pieces f)
  entry-in f = join (taken-in f) (chosen f.saves (stack_store-in T1 Ra (return_offset f)) each_none)

  restored-in : (f : FrameLayout) → EachPiece P (restored f)
  restored-in f = chosen f.saves (stack_load-in T2 Ra (return_offset f)) each_none

  given_back-in : (f : FrameLayout) → EachPiece P (frame_release f)
  given_back-in f = join (restored-in f) (chosen (nat_eq f.bytes 0) each_none (sum_to-in T2 Sp Sp f.bytes))

  return_part-in : (f : FrameLayout) → EachPiece P (return_part f)
  return_part-in f = join (given_back-in f) (one (jumps_to-in Ra 0))

  leaving_part-in : (t : ℕ) (f : FrameLayout) (g : Leaving) (args : List Spot) → EachPiece P (leaving_part t f g args)
  leaving_part-in t f (leaving.Checkbound r) args = check_part-in t r args
  leaving_part-in t f leaving.Raise args = raise_words-in
  leaving_part-in t f leaving.Return args = return_part-in f

  access_part-in : (t : ℕ) (mark : List Piece) (g : Access) (args results : List Spot) → EachPiece P mark → EachPiece P (access_part t mark g args results)
  access_part-in t mark (access.Load k offset) args results all = load_part-in t k offset args results
  access_part-in t mark (access.Store k offset) args results all = store_part-in t k offset args
  access_part-in t mark (access.Alloc blocks) args results all = alloc_part-in t mark blocks results all

-- ---- pieces with names

module _ (P : Piece → Type 0) (d : Option Descr) where
  mark_of-in : (f : LinOp) → Allows P f d → (e : Option Descr) → d ≡ e → EachPiece P (mark_of e)
  mark_of-in f a None is = each_none
  mark_of-in f a (Some e) is = one (a.mark e is)

  pure_part-in : (t : ℕ) (g : Pure) (args results : List Spot) → Allows P (lin.Op (op.Pure g)) d → EachPiece P (pure_part t g args results)
  pure_part-in t (pure.Copy kind) args results a = moved-in P a.known t (first_location args) (first_location results)
  pure_part-in t (pure.Constant w) args results a = join (constant-in P a.known (target (first_location results)) w) (kept-in P a.known t (first_location results))
  pure_part-in t (pure.Symbol name) args results a =
      each_more (a.symbol name (record {
        op = op.Pure (pure.Symbol name);
        is = refl;
        named =
            keeps.its_value;
      }) (target (first_location results))) (kept-in P a.known t (first_location results))
  pure_part-in t (pure.Operator f r) args results a = operator_part-in P a.known t f r args results

  calling_part-in : (t : ℕ) (f : FrameLayout) (mark : List Piece) (g : Calling) (args : List Spot) → Allows P (lin.Op (op.Calling g)) d → EachPiece P mark →
      EachPiece P (calling_part t f mark g args)
  calling_part-in t f mark (calling.Call (callee.Symbol name) result) args a all =
      join (one (a.call name (record { op = op.Calling (calling.Call (callee.Symbol name) result); is = refl; named = keeps.calls }))) all
  calling_part-in t f mark (calling.Call callee.Register result) args a all =
      join (join (fetched-in P a.known t T1 (first_location args)) (one (calls_at-in P a.known (register_of T1 (first_location args))))) all
  calling_part-in t f mark (calling.TailCall (callee.Symbol name) result) args a all =
      join (join each_none (given_back-in P a.known f))
      (one (a.tail_call name (record { op = op.Calling (calling.TailCall (callee.Symbol name) result); is = refl; named = keeps.tail_calls })))
  calling_part-in t f mark (calling.TailCall callee.Register result) args a all =
      join (join (value_words-in P a.known t (first_location args)) (given_back-in P a.known f)) (one (jumps_to-in P a.known T1 0))
  calling_part-in t f mark (calling.External row frame) args a all =
      join (join (each_more (a.external row frame refl T0) (constant-in P a.known T2 (external_service frame))) (one (ecall-in P a.known))) all

  op_part-in : (t : ℕ) (f : FrameLayout) (g : Op) (args results : List Spot) → Allows P (lin.Op g) d → EachPiece P (op_part t f (mark_of d) g args results)
  op_part-in t f (op.Pure g) args results a = pure_part-in t g args results a
  op_part-in t f (op.Access g) args results a = access_part-in P a.known t (mark_of d) g args results (mark_of-in _ a d refl)
  op_part-in t f (op.Calling g) args results a = calling_part-in t f (mark_of d) g args a (mark_of-in _ a d refl)
  op_part-in t f (op.Leaving g) args results a = leaving_part-in P a.known t f g args

  signed_branch-in : (f : CmpOp) (a b : Register) (l : ℕ) → ((c : Condition) (a b : Register) → P (piece.Branch c a b l)) → P (signed_branch f a b l)
  signed_branch-in compare.Eq a b l by = by condition.Beq a b
  signed_branch-in compare.Ne a b l by = by condition.Bne a b
  signed_branch-in compare.Lt a b l by = by condition.Blt a b
  signed_branch-in compare.Le a b l by = by condition.Bge b a
  signed_branch-in compare.Gt a b l by = by condition.Blt b a
  signed_branch-in compare.Ge a b l by = by condition.Bge a b

  unsigned_branch-in : (f : CmpOp) (a b : Register) (l : ℕ) → ((c : Condition) (a b : Register) → P (piece.Branch c a b l)) → P (unsigned_branch f a b l)
  unsigned_branch-in compare.Eq a b l by = by condition.Beq a b
  unsigned_branch-in compare.Ne a b l by = by condition.Bne a b
  unsigned_branch-in compare.Lt a b l by = by condition.Bltu a b
  unsigned_branch-in compare.Le a b l by = by condition.Bgeu b a
  unsigned_branch-in compare.Gt a b l by = by condition.Bltu b a
  unsigned_branch-in compare.Ge a b l by = by condition.Bgeu a b

  test_branch-in : (f : Test) (args : List Spot) (a : Register) (l : ℕ) → ((c : Condition) (a b : Register) → P (piece.Branch c a b l)) →
      P (test_branch f args a l)
  test_branch-in test.Holds args a l by = by condition.Bne a Zero
  test_branch-in test.Fails args a l by = by condition.Beq a Zero
  test_branch-in (test.Signed f r) args a l by = signed_branch-in f a (right_register r args) l by
  test_branch-in (test.Unsigned f r) args a l by = unsigned_branch-in f a (right_register r args) l by

  branch_part-in : (t : ℕ) (f : Test) (l : ℕ) (args : List Spot) → Allows P (lin.Flow (flow.Branch f l)) d → EachPiece P (branch_part t f l args)
  branch_part-in t f l args a =
      join (join (fetched-in P a.known t T1 (first_location args)) (test_words-in P a.known t f args))
      (one (test_branch-in f args (register_of T1 (first_location args)) l (a.branch l (goes_to (other this)))))

  tests_in_turn-in : (ls : List ℕ) → ((l : ℕ) → OneOf (At l) (map At ls) → P (piece.Branch condition.Beq T1 Zero l)) → ((l : ℕ) →
      OneOf (At l) (map At ls) → P (piece.Jump l)) →
      ((j : Instr) → InstrFits j → P (piece.Known j)) → EachPiece P (tests_in_turn ls)
  tests_in_turn-in [] by to known = each_none
  tests_in_turn-in (l ∷ []) by to known = one (to l this)
  tests_in_turn-in (l ∷ k ∷ ls) by to known =
      each_more (by l this) (each_more (addi-in P known T1 T1 0xFFFFFFFFFFFFFFFF) (tests_in_turn-in (k ∷ ls) (λ m n. by m (other n)) (λ m n. to m
      (other n)) known))

  rows-in : (ls : List ℕ) → ((l : ℕ) → OneOf (At l) (map At ls) → P (piece.Row l)) → EachPiece P (map piece.Row ls)
  rows-in [] to = each_none
  rows-in (l ∷ ls) to = each_more (to l this) (rows-in ls (λ m n. to m (other n)))

  switch_part-in : (t : ℕ) (ls : List ℕ) (args : List Spot) → Allows P (lin.Flow (flow.Switch ls)) d → EachPiece P (switch_part t ls args)
  switch_part-in t ls args a =
      join (value_words-in P a.known t (first_location args))
      (chosen (nat_le (length ls) 4) (tests_in_turn-in ls (λ l n. a.branch l (goes_to n) condition.Beq T1 Zero) (λ l n. a.jump l (goes_to n)) a.known)
      (each_more (shift-in P a.known shifts.Slli T1 T1 3) (each_more (auipc-in P a.known T2) (each_more (operation-in P a.known alu.Add T2 T2 T1)
      (each_more (jumps_to-in P a.known T2 12) (rows-in ls (λ l n. a.row l (goes_to n))))))))

  flow_part-in : (t : ℕ) (g : Flow) (args results : List Spot) → Allows P (lin.Flow g) d → EachPiece P (flow_part t g args results)
  flow_part-in t (flow.Label l) args results a = one (a.place l refl)
  flow_part-in t (flow.Jump l) args results a = one (a.jump l (goes_to this))
  flow_part-in t (flow.Exit l) args results a = one (a.jump l (goes_to this))
  flow_part-in t (flow.Branch f l) args results a = branch_part-in t f l args a
  flow_part-in t (flow.Switch ls) args results a = switch_part-in t ls args a
  flow_part-in t (flow.PushTrap l) args results a =
      each_more (a.address l (pushes refl) T1) (each_more (addi-in P a.known Sp Sp 0xFFFFFFFFFFFFFFF0)
      (each_more (store-in P a.known stores.Sd T1 Sp 0) (each_more (store-in P a.known stores.Sd S1 Sp 8) (one (addi-in P a.known S1 Sp 0)))))
  flow_part-in t flow.PopTrap args results a = pop_part-in P a.known
  flow_part-in t flow.EnterTrap args results a = moved-in P a.known t (loc.Machine 10) (first_location results)

  lin_part-in : (t : ℕ) (f : FrameLayout) (g : LinOp) (args results : List Spot) → Allows P g d →
      EachPiece P (part_of_line t f d (record { op = g; args = args; results = results }))
  lin_part-in t f (lin.Op g) args results a = op_part-in t f g args results a
  lin_part-in t f (lin.Flow g) args results a = flow_part-in t g args results a

  -- each piece of a part is allowed
  pub part-in : (t : ℕ) (f : FrameLayout) (i : Line) → Allows P i.op d → EachPiece P (part_of_line t f d i)
  part-in t f i a = lin_part-in t f i.op i.args i.results a

  -- also where there is none
  pub before-in : (t : ℕ) (f : FrameLayout) (i : Line) (next : List Line) → Allows P i.op d → EachPiece P (part_before t f d i next)
  before-in t f i next a = chosen (is_free_exit i.op next) each_none (part-in t f i a)
