-- Each part has few words, and at least one instruction where its line does something.
use Rattle.std.proofs.Common.{◌≡◌, ℕ, zero, suc, ◌+◌, ◌*◌, ◌≤◌, Bool, true, false, cond, nat_eq, nat_lt, nat_le, List, [], ◌∷◌, ◌++◌, length, map, Option, Some, None, arith}
use Rattle.bs_words.specs.declared.operators.CmpOp.{CmpOp}
use Rattle.bs_words.specs.declared.operators.CmpOp.TheVariants as compare
use Rattle.bs_words.specs.declared.operators.IntOp.{IntOp}
use Rattle.bs_words.specs.declared.operators.IntOp.TheVariants as operator
use Rattle.bs_words.specs.declared.types.Chunk.{Chunk}
use Rattle.bs_words.specs.declared.types.Loc.{Loc}
use Rattle.bs_words.specs.declared.types.Loc.TheVariants as loc
use Rattle.mach_ir.specs.Blocks.{total_block_bytes}
use Rattle.mach_ir.specs.Forms.{is_immediate_12}
use Rattle.mach_ir.specs.declared.blocks.NewBlock.{NewBlock}
use Rattle.mach_ir.specs.declared.mach.Test.{Test}
use Rattle.mach_ir.specs.declared.mach.Test.TheVariants as test
use Rattle.mach_ir.specs.declared.op.Access.{Access}
use Rattle.mach_ir.specs.declared.op.Access.TheVariants as access
use Rattle.mach_ir.specs.declared.op.Callee.TheVariants as callee
use Rattle.mach_ir.specs.declared.op.Calling.{Calling}
use Rattle.mach_ir.specs.declared.op.Calling.TheVariants as calling
use Rattle.mach_ir.specs.declared.op.Leaving.{Leaving}
use Rattle.mach_ir.specs.declared.op.Leaving.TheVariants as leaving
use Rattle.mach_ir.specs.declared.op.Op.{Op}
use Rattle.mach_ir.specs.declared.op.Op.TheVariants as op
use Rattle.mach_ir.specs.declared.op.Pure.{Pure}
use Rattle.mach_ir.specs.declared.op.Pure.TheVariants as pure
use Rattle.mach_ir.specs.declared.op.Right.{Right}
use Rattle.mach_ir.specs.declared.op.Right.TheVariants as right
use Rattle.lin_ir.specs.Meaning.{same_loc}
use Rattle.lin_ir.specs.declared.descr.Descr.{Descr}
use Rattle.lin_ir.specs.declared.lin.Flow.{Flow}
use Rattle.lin_ir.specs.declared.lin.Flow.TheVariants as flow
use Rattle.lin_ir.specs.declared.lin.Line.{Line}
use Rattle.lin_ir.specs.declared.lin.LinOp.{LinOp}
use Rattle.lin_ir.specs.declared.lin.LinOp.TheVariants as lin
use Rattle.lin_ir.specs.declared.lin.Spot.{Spot}
use Rattle.rv_isa.specs.declared.instr.AluImmOp.{AluImmOp}
use Rattle.rv_isa.specs.declared.instr.AluImmOp.TheVariants as imm
use Rattle.rv_isa.specs.declared.instr.AluOp.{AluOp}
use Rattle.rv_isa.specs.declared.instr.AluOp.TheVariants as alu
use Rattle.rv_isa.specs.declared.instr.Condition.{Condition}
use Rattle.rv_isa.specs.declared.instr.Instr.{Instr}
use Rattle.rv_isa.specs.declared.register.Register.{Register}
use Rattle.rv_isa.specs.declared.register.Register.TheVariants.{Ra, Sp, T0, T1, T2, S10}
use Rattle.rv_pieces.specs.declared.piece.Piece.{Piece}
use Rattle.rv_pieces.specs.declared.piece.Piece.TheVariants as piece
use Rattle.rv_emit_rules.specs.Instructions.{low_12}
use Rattle.rv_isa.specs.Registers.{register_at}
use Rattle.rv_emit_rules.specs.Constants.{is_word_32, lower_part, constant_32, upper_constant, shifted, constant_shifted, constant_pieces, sum_to, bytes_taken_off}
use Rattle.rv_emit_rules.specs.Slots.{stack_load, stack_store, slot_offset, first_location, second, register_of, fetch_pieces, target, keep_pieces, copy_pieces, move_pieces}
use Rattle.rv_emit_rules.specs.Operators.{compared, operated, compared_with, operated_with}
use Rattle.rv_emit_rules.specs.Tests.{constant_words, right_register, right_words, signed_branch, unsigned_branch, test_words, test_branch, branch_part, value_words, tests_in_turn, table_of_jumps, switch_part}
use Rattle.rv_emit_rules.specs.Memory.{address_words, load_from, load_part, store_part, ask, reserved, addresses, alloc_part}
use Rattle.rv_emit_rules.specs.Entry.{FrameLayout, restored, return_offset, frame_allocation, entry_pieces, frame_release}
use Rattle.rv_emit_rules.specs.Calls.{mark_of, external_service}
use Rattle.rv_emit_rules.specs.Traps.{raise_words, check_part}
use Rattle.rv_emit_rules.specs.Emitted.{operator_part, pure_part, access_part, calling_part, leaving_part, op_part, flow_part, part_of_line}
use Rattle.lin_ir.specs.declared.lin.Lin.{Lin}
use Rattle.lin_ir.specs.Meaning.{passes_frame}
use Rattle.rv_emit_rules.specs.Entry.{frame_of}
use Rattle.rv_emit_rules.specs.Emitted.{part_before, parts_of_lines, descriptor, left_after, emitted}
use Rattle.rv_emit_rules.proofs.Units.{part_by}
use Rattle.rv_emit_rules.specs.Sizes.{words_at_most, switch_index_count, line_bound, lines_bound}

pub record Short (n : ℕ) (ps : List Piece) : Type 0 where
  pub fits : words_at_most ps ≤ n

pub words-join : (xs ys : List Piece) → words_at_most (xs ++ ys) ≡ words_at_most xs + words_at_most ys
words-join [] ys = omega arith
words-join (x ∷ xs) ys = let e : words_at_most (xs ++ ys) ≡ words_at_most xs + words_at_most ys = words-join xs ys in omega arith

join : {a b : ℕ} {xs ys : List Piece} → Short a xs → Short b ys → Short (a + b) (xs ++ ys)
join {a} {b} {xs} {ys} x y =
    let e : words_at_most (xs ++ ys) ≡ words_at_most xs + words_at_most ys = words-join xs ys in
    let h : words_at_most xs ≤ a = x.fits in
    let k : words_at_most ys ≤ b = y.fits in
    record { fits = omega arith }

none : Short 0 []
none = record { fits = omega arith }

one : {j : Instr} → Short 1 (piece.Known j ∷ [])
one = record { fits = omega arith }

put : {n : ℕ} {j : Instr} {ps : List Piece} → Short n ps → Short (1 + n) (piece.Known j ∷ ps)
put {n} {j} {ps} s = let h : words_at_most ps ≤ n = s.fits in record { fits = omega arith }

wide : (k : ℕ) {n : ℕ} {ps : List Piece} → Short n ps → Short (n + k) ps
wide k {n} {ps} s = let h : words_at_most ps ≤ n = s.fits in record { fits = omega arith }

within : {n m : ℕ} {ps : List Piece} → Short n ps → n ≤ m → Short m ps
within {n} {m} {ps} s h = let k : words_at_most ps ≤ n = s.fits in record { fits = omega arith }

chosen : {n : ℕ} (b : Bool) {xs ys : List Piece} → Short n xs → Short n ys → Short n (cond b xs ys)
chosen true x y = x
chosen false x y = y

-- ---- constants and slots

lower_part-in : (r : Register) (w : ℕ) → Short 1 (lower_part r w)
lower_part-in r w = chosen (nat_eq (low_12 w) 0) (wide 1 none) one

constant_32-in : (r : Register) (w : ℕ) → Short 2 (constant_32 r w)
constant_32-in r w = chosen (is_immediate_12 w) (wide 1 one) (put (lower_part-in r w))

shifted-in : (r : Register) (amount : ℕ) → Short 1 (shifted r amount)
shifted-in r zero = wide 1 none
shifted-in r (suc n) = one

shifted_0-in : (r : Register) (w amount : ℕ) → Short 3 (constant_shifted 0 r w amount)
shifted_0-in r w amount = join (constant_32-in r w) (shifted-in r amount)

shifted_1-in : (r : Register) (w amount : ℕ) → Short 5 (constant_shifted 1 r w amount)
shifted_1-in r w amount =
    chosen (is_word_32 w) (wide 2 (join (constant_32-in r w) (shifted-in r amount)))
    (chosen (nat_eq (low_12 w) 0) (wide 2 (shifted_0-in r (upper_constant w) (amount + 12))) (join (shifted_0-in r (upper_constant w) 12) (put (shifted-in r amount))))

shifted_2-in : (r : Register) (w amount : ℕ) → Short 7 (constant_shifted 2 r w amount)
shifted_2-in r w amount =
    chosen (is_word_32 w) (wide 4 (join (constant_32-in r w) (shifted-in r amount)))
    (chosen (nat_eq (low_12 w) 0) (wide 2 (shifted_1-in r (upper_constant w) (amount + 12))) (join (shifted_1-in r (upper_constant w) 12) (put (shifted-in r amount))))

-- a constant has at most nine words
pub constant-in : (r : Register) (w : ℕ) → Short 9 (constant_pieces r w)
unfolding constant_pieces
constant-in r w =
    chosen (is_word_32 w) (wide 6 (join (constant_32-in r w) (shifted-in r 0)))
    (chosen (nat_eq (low_12 w) 0) (wide 2 (shifted_2-in r (upper_constant w) 12)) (join (shifted_2-in r (upper_constant w) 12) (put (shifted-in r 0))))

sum_to-in : (scratch to from : Register) (n : ℕ) → Short 10 (sum_to scratch to from n)
sum_to-in scratch to from n = chosen (nat_lt n 2048) (wide 9 one) (join (constant-in scratch n) one)

lowered-in : (scratch r : Register) (n : ℕ) → Short 10 (bytes_taken_off scratch r n)
lowered-in scratch r n = chosen (nat_le n 2048) (wide 9 one) (join (constant-in scratch n) one)

stack_load-in : (scratch to : Register) (offset : ℕ) → Short 3 (stack_load scratch to offset)
stack_load-in scratch to offset = chosen (nat_lt offset 2048) (wide 2 one) (put (put one))

stack_store-in : (scratch from : Register) (offset : ℕ) → Short 3 (stack_store scratch from offset)
stack_store-in scratch from offset = chosen (nat_lt offset 2048) (wide 2 one) (put (put one))

fetched-in : (t : ℕ) (scratch : Register) (l : Loc) → Short 3 (fetch_pieces t scratch l)
fetched-in t scratch (loc.Machine n) = wide 3 none
fetched-in t scratch (loc.Slot k) = stack_load-in scratch scratch (slot_offset t k)
fetched-in t scratch loc.Unset = wide 3 none

kept-in : (t : ℕ) (l : Loc) → Short 3 (keep_pieces t l)
kept-in t (loc.Machine n) = wide 3 none
kept-in t (loc.Slot k) = stack_store-in T2 T1 (slot_offset t k)
kept-in t loc.Unset = wide 3 none

copied-in : (t : ℕ) (from to : Loc) → Short 6 (copy_pieces t from to)
copied-in t (loc.Slot j) to = join (stack_load-in T2 (target to) (slot_offset t j)) (kept-in t to)
copied-in t (loc.Machine n) (loc.Slot k) = wide 3 (stack_store-in T2 (register_at n) (slot_offset t k))
copied-in t (loc.Machine n) (loc.Machine o) = wide 5 one
copied-in t (loc.Machine n) loc.Unset = wide 6 none
copied-in t loc.Unset to = wide 6 none

moved-in : (t : ℕ) (from to : Loc) → Short 6 (move_pieces t from to)
moved-in t from to = chosen (same_loc from to) (wide 6 none) (copied-in t from to)

-- ---- operators

compared-in : (less : AluOp) (f : CmpOp) (to a b : Register) → Short 2 (compared less f to a b)
compared-in less compare.Eq to a b = put one
compared-in less compare.Ne to a b = put one
compared-in less compare.Lt to a b = wide 1 one
compared-in less compare.Ge to a b = put one
compared-in less compare.Gt to a b = wide 1 one
compared-in less compare.Le to a b = put one

operated-in : (f : IntOp) (to a b : Register) → Short 2 (operated f to a b)
operated-in operator.Add to a b = wide 1 one
operated-in operator.AddV to a b = wide 1 one
operated-in operator.AddA to a b = wide 1 one
operated-in operator.Sub to a b = wide 1 one
operated-in operator.Mul to a b = wide 1 one
operated-in operator.Mulh to a b = wide 1 one
operated-in operator.Div to a b = wide 1 one
operated-in operator.Mod to a b = wide 1 one
operated-in operator.And to a b = wide 1 one
operated-in operator.Or to a b = wide 1 one
operated-in operator.Xor to a b = wide 1 one
operated-in operator.Shl to a b = wide 1 one
operated-in operator.Shr to a b = wide 1 one
operated-in operator.Sar to a b = wide 1 one
operated-in (operator.Cmp f) to a b = compared-in alu.Slt f to a b
operated-in (operator.CmpU f) to a b = compared-in alu.Sltu f to a b

compared_with-in : (less : AluImmOp) (far : AluOp) (f : CmpOp) (to a : Register) (w : ℕ) → Short 11 (compared_with less far f to a w)
compared_with-in less far compare.Eq to a w = wide 9 (put one)
compared_with-in less far compare.Ne to a w = wide 9 (put one)
compared_with-in less far compare.Lt to a w = wide 10 one
compared_with-in less far compare.Ge to a w = wide 9 (put one)
compared_with-in less far compare.Gt to a w = join (constant-in T2 w) (compared-in far compare.Gt to a T2)
compared_with-in less far compare.Le to a w = join (constant-in T2 w) (compared-in far compare.Le to a T2)

operated_with-in : (f : IntOp) (to a : Register) (w : ℕ) → Short 11 (operated_with f to a w)
operated_with-in operator.Add to a w = wide 10 one
operated_with-in operator.AddV to a w = wide 10 one
operated_with-in operator.AddA to a w = wide 10 one
operated_with-in operator.Sub to a w = wide 10 one
operated_with-in operator.And to a w = wide 10 one
operated_with-in operator.Or to a w = wide 10 one
operated_with-in operator.Xor to a w = wide 10 one
operated_with-in operator.Shl to a w = wide 10 one
operated_with-in operator.Shr to a w = wide 10 one
operated_with-in operator.Sar to a w = wide 10 one
operated_with-in operator.Mul to a w = join (constant-in T2 w) (operated-in operator.Mul to a T2)
operated_with-in operator.Mulh to a w = join (constant-in T2 w) (operated-in operator.Mulh to a T2)
operated_with-in operator.Div to a w = join (constant-in T2 w) (operated-in operator.Div to a T2)
operated_with-in operator.Mod to a w = join (constant-in T2 w) (operated-in operator.Mod to a T2)
operated_with-in (operator.Cmp f) to a w = compared_with-in imm.Slti alu.Slt f to a w
operated_with-in (operator.CmpU f) to a w = compared_with-in imm.Sltiu alu.Sltu f to a w

operator_part-in : (t : ℕ) (f : IntOp) (r : Right) (args results : List Spot) → Short 17 (operator_part t f r args results)
operator_part-in t f right.Register args results =
    wide 6 (join (join (join (fetched-in t T1 (first_location args)) (fetched-in t T2 (second args))) (operated-in f (target (first_location results)) (register_of T1
    (first_location args)) (register_of T2 (second args))))
    (kept-in t (first_location results)))
operator_part-in t f (right.Constant w) args results =
    join (join (fetched-in t T1 (first_location args)) (operated_with-in f (target (first_location results)) (register_of T1 (first_location args)) w)) (kept-in t (first_location results))

-- ---- tests

constant_words-in : (w : ℕ) → Short 9 (constant_words w)
constant_words-in w = chosen (nat_eq w 0) (wide 9 none) (constant-in T2 w)

right_words-in : (t : ℕ) (r : Right) (args : List Spot) → Short 9 (right_words t r args)
right_words-in t right.Register args = wide 6 (fetched-in t T2 (second args))
right_words-in t (right.Constant w) args = constant_words-in w

test_words-in : (t : ℕ) (f : Test) (args : List Spot) → Short 9 (test_words t f args)
test_words-in t test.Holds args = wide 9 none
test_words-in t test.Fails args = wide 9 none
test_words-in t (test.Signed f r) args = right_words-in t r args
test_words-in t (test.Unsigned f r) args = right_words-in t r args

value_words-in : (t : ℕ) (l : Loc) → Short 3 (value_words t l)
value_words-in t (loc.Slot k) = stack_load-in T1 T1 (slot_offset t k)
value_words-in t (loc.Machine n) = wide 2 one
value_words-in t loc.Unset = wide 2 one

branch : {c : Condition} {a b : Register} {l : ℕ} → Short 3 (piece.Branch c a b l ∷ [])
branch = record { fits = omega arith }

signed_branch-in : (f : CmpOp) (a b : Register) (l : ℕ) → Short 3 (signed_branch f a b l ∷ [])
signed_branch-in compare.Eq a b l = branch
signed_branch-in compare.Ne a b l = branch
signed_branch-in compare.Lt a b l = branch
signed_branch-in compare.Le a b l = branch
signed_branch-in compare.Gt a b l = branch
signed_branch-in compare.Ge a b l = branch

unsigned_branch-in : (f : CmpOp) (a b : Register) (l : ℕ) → Short 3 (unsigned_branch f a b l ∷ [])
unsigned_branch-in compare.Eq a b l = branch
unsigned_branch-in compare.Ne a b l = branch
unsigned_branch-in compare.Lt a b l = branch
unsigned_branch-in compare.Le a b l = branch
unsigned_branch-in compare.Gt a b l = branch
unsigned_branch-in compare.Ge a b l = branch

test_branch-in : (f : Test) (args : List Spot) (a : Register) (l : ℕ) → Short 3 (test_branch f args a l ∷ [])
test_branch-in test.Holds args a l = branch
test_branch-in test.Fails args a l = branch
test_branch-in (test.Signed f r) args a l = signed_branch-in f a (right_register r args) l
test_branch-in (test.Unsigned f r) args a l = unsigned_branch-in f a (right_register r args) l

branch_part-in : (t : ℕ) (f : Test) (l : ℕ) (args : List Spot) → Short 15 (branch_part t f l args)
branch_part-in t f l args = join (join (fetched-in t T1 (first_location args)) (test_words-in t f args)) (test_branch-in f args (register_of T1 (first_location args)) l)

tests_in_turn-in : (ls : List ℕ) → Short (4 * length ls) (tests_in_turn ls)
tests_in_turn-in [] = none
tests_in_turn-in (l ∷ []) = record { fits = omega arith }
tests_in_turn-in (l ∷ k ∷ ls) =
    let h : words_at_most (tests_in_turn (k ∷ ls)) ≤ 4 * length (k ∷ ls) = (tests_in_turn-in (k ∷ ls)).fits in
    record { fits = omega arith }

rows-in : (ls : List ℕ) → Short (4 * length ls) (map piece.Row ls)
rows-in [] = none
rows-in (l ∷ ls) =
    let h : words_at_most (map piece.Row ls) ≤ 4 * length ls = (rows-in ls).fits in
    record { fits = omega arith }

table-in : (ls : List ℕ) → Short (4 + 4 * length ls) (table_of_jumps ls)
table-in ls = let h : words_at_most (map piece.Row ls) ≤ 4 * length ls = (rows-in ls).fits in record { fits = omega arith }

switch_part-in : (t : ℕ) (ls : List ℕ) (args : List Spot) → Short (3 + (4 + 4 * length ls)) (switch_part t ls args)
switch_part-in t ls args =
    join (value_words-in t (first_location args)) (chosen (nat_le (length ls) 4) (within (tests_in_turn-in ls) (omega arith)) (table-in ls))

-- ---- memory

address_words-in : (base : Register) (offset : ℕ) → Short 10 (address_words base offset)
address_words-in base offset = chosen (is_immediate_12 offset) (wide 10 none) (join (constant-in T2 offset) one)

load_from-in : (k : Chunk) (offset : ℕ) (base to : Register) → Short 11 (load_from k offset base to)
load_from-in k offset base to = join (address_words-in base offset) one

load_part-in : (t : ℕ) (k : Chunk) (offset : ℕ) (args results : List Spot) → Short 17 (load_part t k offset args results)
load_part-in t k offset args results =
    join (join (fetched-in t T1 (first_location args)) (load_from-in k offset (register_of T1 (first_location args)) (target (first_location results)))) (kept-in t (first_location results))

store_part-in : (t : ℕ) (k : Chunk) (offset : ℕ) (args : List Spot) → Short 17 (store_part t k offset args)
store_part-in t k offset args =
    join (join (join (fetched-in t T1 (first_location args)) (address_words-in (register_of T1 (first_location args)) offset)) (fetched-in t T2 (second args))) one

ask-in : (bytes : ℕ) → Short 19 (ask bytes)
ask-in bytes = join (join (constant-in T0 bytes) (constant-in T2 3)) one

reserved-in : (bytes : ℕ) → Short 31 (reserved bytes)
reserved-in bytes = join (lowered-in T1 S10 bytes) (put (put (ask-in bytes)))

addresses-in : (t : ℕ) (blocks : List NewBlock) (results : List Spot) → Short (16 * length results) (addresses t blocks results)
addresses-in t [] results = record { fits = omega arith }
addresses-in t (b ∷ blocks) [] = none
addresses-in t (b ∷ blocks) (s ∷ results) =
    within (join (join (addresses-in t blocks results) (sum_to-in T1 (target s.loc) S10 (total_block_bytes blocks + 8))) (kept-in t s.loc)) (omega arith)

mark-in : (d : Option Descr) → Short 0 (mark_of d)
mark-in None = none
mark-in (Some d) = record { fits = omega arith }

alloc_part-in : (t : ℕ) (d : Option Descr) (blocks : List NewBlock) (results : List Spot) →
    Short (31 + 16 * length results) (alloc_part t (mark_of d) blocks results)
alloc_part-in t d blocks results = join (join (reserved-in (total_block_bytes blocks)) (mark-in d)) (addresses-in t blocks results)

-- ---- traps, frames, calls

raise_words-in : Short 5 raise_words
raise_words-in = put (put (put (put one)))

check_part-in : (t : ℕ) (r : Right) (args : List Spot) → Short 19 (check_part t r args)
check_part-in t r args = join (join (fetched-in t T1 (first_location args)) (right_words-in t r args)) (put (put raise_words-in))

taken-in : (f : FrameLayout) → Short 10 (frame_allocation f)
taken-in f = chosen (nat_eq f.bytes 0) (wide 10 none) (lowered-in T1 Sp f.bytes)

-- the entry has at most 13 words
pub entry-in : (f : FrameLayout) → Short 13 (entry_pieces f)
entry-in f = join (taken-in f) (chosen f.saves (stack_store-in T1 Ra (return_offset f)) (wide 3 none))

restored-in : (f : FrameLayout) → Short 3 (restored f)
restored-in f = chosen f.saves (stack_load-in T2 Ra (return_offset f)) (wide 3 none)

given_back-in : (f : FrameLayout) → Short 13 (frame_release f)
given_back-in f = join (restored-in f) (chosen (nat_eq f.bytes 0) (wide 10 none) (sum_to-in T2 Sp Sp f.bytes))

pure_part-in : (t : ℕ) (g : Pure) (args results : List Spot) → Short 17 (pure_part t g args results)
pure_part-in t (pure.Copy kind) args results = wide 11 (moved-in t (first_location args) (first_location results))
pure_part-in t (pure.Constant w) args results = wide 5 (join (constant-in (target (first_location results)) w) (kept-in t (first_location results)))
pure_part-in t (pure.Symbol name) args results =
    let h : words_at_most (keep_pieces t (first_location results)) ≤ 3 = (kept-in t (first_location results)).fits in
    record { fits = omega arith }
pure_part-in t (pure.Operator f r) args results = operator_part-in t f r args results

access_part-in : (t : ℕ) (d : Option Descr) (g : Access) (args results : List Spot) →
    Short (31 + 16 * length results) (access_part t (mark_of d) g args results)
access_part-in t d (access.Load k offset) args results = within (load_part-in t k offset args results) (omega arith)
access_part-in t d (access.Store k offset) args results = within (store_part-in t k offset args) (omega arith)
access_part-in t d (access.Alloc blocks) args results = alloc_part-in t d blocks results

calling_part-in : (t : ℕ) (f : FrameLayout) (d : Option Descr) (g : Calling) (args : List Spot) → Short 18 (calling_part t f (mark_of d) g args)
calling_part-in t f d (calling.Call (callee.Symbol name) result) args =
    let h : words_at_most (mark_of d) ≤ 0 = (mark-in d).fits in record { fits = omega arith }
calling_part-in t f d (calling.Call callee.Register result) args = wide 14 (join (join (fetched-in t T1 (first_location args)) one) (mark-in d))
calling_part-in t f d (calling.TailCall (callee.Symbol name) result) args =
    let s : Short 3 (piece.TailCall name ∷ []) = record { fits = omega arith } in wide 2 (join (join none (given_back-in f)) s)
calling_part-in t f d (calling.TailCall callee.Register result) args = wide 1 (join (join (value_words-in t (first_location args)) (given_back-in f)) one)
calling_part-in t f d (calling.External row frame) args =
    let s : Short 2 (piece.ExternalNumber T0 row ∷ []) = record { fits = omega arith } in
    wide 6 (join (join (join s (constant-in T2 (external_service frame))) one) (mark-in d))

leaving_part-in : (t : ℕ) (f : FrameLayout) (g : Leaving) (args : List Spot) → Short 19 (leaving_part t f g args)
leaving_part-in t f (leaving.Checkbound r) args = check_part-in t r args
leaving_part-in t f leaving.Raise args = wide 14 raise_words-in
leaving_part-in t f leaving.Return args = wide 5 (join (given_back-in f) one)

op_part-in : (t : ℕ) (f : FrameLayout) (d : Option Descr) (g : Op) (args results : List Spot) →
    Short (32 + 16 * length results) (op_part t f (mark_of d) g args results)
op_part-in t f d (op.Pure g) args results = within (pure_part-in t g args results) (omega arith)
op_part-in t f d (op.Access g) args results = within (access_part-in t d g args results) (omega arith)
op_part-in t f d (op.Calling g) args results = within (calling_part-in t f d g args) (omega arith)
op_part-in t f d (op.Leaving g) args results = within (leaving_part-in t f g args) (omega arith)

flow_part-in : (t : ℕ) (g : Flow) (args results : List Spot) → Short (32 + 4 * switch_index_count (lin.Flow g)) (flow_part t g args results)
flow_part-in t (flow.Label l) args results = record { fits = omega arith }
flow_part-in t (flow.Jump l) args results = record { fits = omega arith }
flow_part-in t (flow.Exit l) args results = record { fits = omega arith }
flow_part-in t (flow.Branch f l) args results = within (branch_part-in t f l args) (omega arith)
flow_part-in t (flow.Switch ls) args results = within (switch_part-in t ls args) (omega arith)
flow_part-in t (flow.PushTrap l) args results = record { fits = omega arith }
flow_part-in t flow.PopTrap args results = record { fits = omega arith }
flow_part-in t flow.EnterTrap args results = within (moved-in t (loc.Machine 10) (first_location results)) (omega arith)

lin_part-in : (t : ℕ) (f : FrameLayout) (d : Option Descr) (g : LinOp) (args results : List Spot) →
    Short (32 + 16 * length results + 4 * switch_index_count g) (part_of_line t f d (record { op = g; args = args; results = results }))
lin_part-in t f d (lin.Op g) args results = within (op_part-in t f d g args results) (omega arith)
lin_part-in t f d (lin.Flow g) args results = within (flow_part-in t g args results) (omega arith)

-- a part has few words
pub part_is_short : (t : ℕ) (f : FrameLayout) (d : Option Descr) (i : Line) → words_at_most (part_of_line t f d i) ≤ line_bound i
part_is_short t f d i = (lin_part-in t f d i.op i.args i.results).fits

pub before_is_short : (t : ℕ) (f : FrameLayout) (d : Option Descr) (i : Line) (next : List Line) → words_at_most (part_before t f d i next) ≤ line_bound i
before_is_short t f d i next = part_by t f d i next (λ ps. words_at_most ps ≤ line_bound i) (λ e. omega arith) (λ e. part_is_short t f d i)

pub parts_are_short : (f : FrameLayout) (traps : ℕ → ℕ) (ds : List Descr) (is : List Line) → words_at_most (parts_of_lines traps f ds is) ≤ lines_bound is
parts_are_short f traps ds [] = omega arith
parts_are_short f traps ds (i ∷ next) =
    let d : Option Descr = descriptor (passes_frame i.op) ds in
    let rest : List Descr = left_after (passes_frame i.op) ds in
    let part = part_before (traps (length next)) f d i next in
    let e : words_at_most (part ++ parts_of_lines traps f rest next) ≡ words_at_most part + words_at_most (parts_of_lines traps f rest next) =
    words-join part (parts_of_lines traps f rest next) in
    let h : words_at_most part ≤ line_bound i = before_is_short (traps (length next)) f d i next in
    let k : words_at_most (parts_of_lines traps f rest next) ≤ lines_bound next = parts_are_short f traps rest next in
    omega arith

-- so has a function
pub function_is_short : (m : Lin) (traps : ℕ → ℕ) (ds : List Descr) → words_at_most (emitted m traps ds).code ≤ 13 + lines_bound m.code
function_is_short m traps ds =
    let e : words_at_most (entry_pieces (frame_of m) ++ parts_of_lines traps (frame_of m) ds m.code) ≡ words_at_most (entry_pieces (frame_of m)) + words_at_most (parts_of_lines traps
    (frame_of m) ds m.code) =
    words-join (entry_pieces (frame_of m)) (parts_of_lines traps (frame_of m) ds m.code) in
    let h : words_at_most (entry_pieces (frame_of m)) ≤ 13 = (entry-in (frame_of m)).fits in
    let k : words_at_most (parts_of_lines traps (frame_of m) ds m.code) ≤ lines_bound m.code = parts_are_short (frame_of m) traps ds m.code in
    omega arith
