-- A part has an instruction, where its line is no label, no copy from a location to itself and no entry of a handler.
use Rattle.std.proofs.Common.{◌≡◌, ℕ, zero, suc, ◌+◌, ◌≤◌, sym, subst, Bool, true, false, cond, nat_eq, nat_lt, List, [], ◌∷◌, ◌++◌, length, Option, refl, arith}
use Rattle.bs_words.specs.declared.operators.CmpOp.{CmpOp}
use Rattle.bs_words.specs.declared.operators.CmpOp.TheVariants as compare
use Rattle.bs_words.specs.declared.operators.IntOp.{IntOp}
use Rattle.bs_words.specs.declared.operators.IntOp.TheVariants as operator
use Rattle.bs_words.specs.declared.types.Loc.{Loc}
use Rattle.bs_words.specs.declared.types.Loc.TheVariants as loc
use Rattle.mach_ir.specs.Blocks.{total_block_bytes}
use Rattle.mach_ir.specs.Forms.{is_immediate_12}
use Rattle.mach_ir.specs.declared.mach.Test.{Test}
use Rattle.mach_ir.specs.declared.mach.Test.TheVariants as test
use Rattle.mach_ir.specs.declared.op.Access.TheVariants as access
use Rattle.mach_ir.specs.declared.op.Callee.TheVariants as callee
use Rattle.mach_ir.specs.declared.op.Calling.TheVariants as calling
use Rattle.mach_ir.specs.declared.op.Leaving.TheVariants as leaving
use Rattle.mach_ir.specs.declared.op.Op.{Op}
use Rattle.mach_ir.specs.declared.op.Op.TheVariants as op
use Rattle.mach_ir.specs.declared.op.Pure.TheVariants as pure
use Rattle.mach_ir.specs.declared.op.Right.{Right}
use Rattle.mach_ir.specs.declared.op.Right.TheVariants as right
use Rattle.lin_ir.specs.Meaning.{same_loc, passes_frame}
use Rattle.lin_ir.specs.declared.descr.Descr.{Descr}
use Rattle.lin_ir.specs.declared.lin.Flow.{Flow}
use Rattle.lin_ir.specs.declared.lin.Flow.TheVariants as flow
use Rattle.lin_ir.specs.declared.lin.Line.{Line}
use Rattle.lin_ir.specs.declared.lin.LinOp.{LinOp}
use Rattle.lin_ir.specs.declared.lin.LinOp.TheVariants as lin
use Rattle.lin_ir.specs.declared.lin.Spot.{Spot}
use Rattle.rv_isa.specs.declared.instr.AluImmOp.{AluImmOp}
use Rattle.rv_isa.specs.declared.instr.AluImmOp.TheVariants as imm
use Rattle.rv_isa.specs.declared.instr.AluOp.{AluOp}
use Rattle.rv_isa.specs.declared.instr.AluOp.TheVariants as alu
use Rattle.rv_isa.specs.declared.instr.Instr.{Instr}
use Rattle.rv_isa.specs.declared.register.Register.{Register}
use Rattle.rv_isa.specs.declared.register.Register.TheVariants.{T1, T2, S10}
use Rattle.rv_pieces.specs.declared.piece.Piece.{Piece}
use Rattle.rv_pieces.specs.declared.piece.Piece.TheVariants as piece
use Rattle.lin_laws.proofs.Forms.{same_loc_is}
use Rattle.rv_emit_rules.specs.Instructions.{low_12}
use Rattle.rv_isa.specs.Registers.{register_at}
use Rattle.rv_emit_rules.specs.Constants.{is_word_32, constant_32, upper_constant, constant_shifted, constant_pieces, bytes_taken_off}
use Rattle.rv_emit_rules.specs.Slots.{stack_load, stack_store, slot_offset, first_location, second, register_of, fetch_pieces, target, copy_pieces}
use Rattle.rv_emit_rules.specs.Operators.{compared, operated, compared_with, operated_with}
use Rattle.rv_emit_rules.specs.Tests.{right_register, right_words, signed_branch, unsigned_branch, test_words, test_branch, value_words}
use Rattle.rv_emit_rules.specs.Memory.{address_words}
use Rattle.rv_emit_rules.specs.Entry.{FrameLayout, frame_release}
use Rattle.rv_emit_rules.specs.Calls.{mark_of}
use Rattle.rv_emit_rules.specs.Emitted.{operator_part, op_part, flow_part, lin_part, part_of_line, descriptor, left_after, parts_of_lines}
use Rattle.rv_emit_rules.specs.Units.{is_branch}
use Rattle.rv_emit_rules.proofs.Units.{FallsTo, falls_here, falls_past, if_branch, branch_is_not_free, part_unless_free}
use Rattle.mach_ir.specs.declared.op.CopyKind.{CopyKind}
use Rattle.lin_ir.specs.Formed.{IsSelfMove, is_self_move, IsLocation, is_home, is_spare, IsHome, is_colour, is_slot}
use Rattle.lin_ir.specs.declared.lin.Lin.{Lin}
use Rattle.rv_emit_rules.specs.Sizes.{least_words, words_at_least}

pub data Acts : List Piece → Type 0 where
  acts_here : {p : Piece} {ps : List Piece} → least_words p ≡ 1 → Acts (p ∷ ps)
  acts_later : {p : Piece} {ps : List Piece} → Acts ps → Acts (p ∷ ps)

pub acts-some : {ps : List Piece} → Acts ps → 1 ≤ words_at_least ps
acts-some (acts_here {p} {ps} e) = omega arith
acts-some (acts_later {p} {ps} a) = let h : 1 ≤ words_at_least ps = acts-some a in omega arith

before : {xs : List Piece} (ys : List Piece) → Acts xs → Acts (xs ++ ys)
before ys (acts_here e) = acts_here e
before ys (acts_later a) = acts_later (before ys a)

after : (xs : List Piece) {ys : List Piece} → Acts ys → Acts (xs ++ ys)
after [] a = a
after (x ∷ xs) a = acts_later (after xs a)

chosen : (b : Bool) {xs ys : List Piece} → Acts xs → Acts ys → Acts (cond b xs ys)
chosen true x y = x
chosen false x y = y

known : {j : Instr} {ps : List Piece} → Acts (piece.Known j ∷ ps)
known = acts_here refl

-- ---- instructions alone

word-acts : (r : Register) (w : ℕ) → Acts (constant_32 r w)
word-acts r w = chosen (is_immediate_12 w) known known

steps-acts : (n : ℕ) (r : Register) (w amount : ℕ) → Acts (constant_shifted n r w amount)
steps-acts zero r w amount = before _ (word-acts r w)
steps-acts (suc n) r w amount =
    chosen (is_word_32 w) (before _ (word-acts r w)) (chosen (nat_eq (low_12 w) 0) (steps-acts n r (upper_constant w) (amount + 12)) (before _ (steps-acts n r
    (upper_constant w) 12)))

constant-acts : (r : Register) (w : ℕ) → Acts (constant_pieces r w)
unfolding constant_pieces
constant-acts r w = steps-acts 3 r w 0

stack_load-acts : (scratch to : Register) (offset : ℕ) → Acts (stack_load scratch to offset)
stack_load-acts scratch to offset = chosen (nat_lt offset 2048) known known

stack_store-acts : (scratch from : Register) (offset : ℕ) → Acts (stack_store scratch from offset)
stack_store-acts scratch from offset = chosen (nat_lt offset 2048) known known

compared-acts : (less : AluOp) (f : CmpOp) (to a b : Register) → Acts (compared less f to a b)
compared-acts less compare.Eq to a b = known
compared-acts less compare.Ne to a b = known
compared-acts less compare.Lt to a b = known
compared-acts less compare.Le to a b = known
compared-acts less compare.Gt to a b = known
compared-acts less compare.Ge to a b = known

operated-acts : (f : IntOp) (to a b : Register) → Acts (operated f to a b)
operated-acts operator.Add to a b = known
operated-acts operator.AddV to a b = known
operated-acts operator.AddA to a b = known
operated-acts operator.Sub to a b = known
operated-acts operator.Mul to a b = known
operated-acts operator.Mulh to a b = known
operated-acts operator.Div to a b = known
operated-acts operator.Mod to a b = known
operated-acts operator.And to a b = known
operated-acts operator.Or to a b = known
operated-acts operator.Xor to a b = known
operated-acts operator.Shl to a b = known
operated-acts operator.Shr to a b = known
operated-acts operator.Sar to a b = known
operated-acts (operator.Cmp f) to a b = compared-acts alu.Slt f to a b
operated-acts (operator.CmpU f) to a b = compared-acts alu.Sltu f to a b

compared_with-acts : (less : AluImmOp) (far : AluOp) (f : CmpOp) (to a : Register) (w : ℕ) → Acts (compared_with less far f to a w)
compared_with-acts less far compare.Eq to a w = known
compared_with-acts less far compare.Ne to a w = known
compared_with-acts less far compare.Lt to a w = known
compared_with-acts less far compare.Ge to a w = known
compared_with-acts less far compare.Gt to a w = before _ (constant-acts T2 w)
compared_with-acts less far compare.Le to a w = before _ (constant-acts T2 w)

operated_with-acts : (f : IntOp) (to a : Register) (w : ℕ) → Acts (operated_with f to a w)
operated_with-acts operator.Add to a w = known
operated_with-acts operator.AddV to a w = known
operated_with-acts operator.AddA to a w = known
operated_with-acts operator.Sub to a w = known
operated_with-acts operator.And to a w = known
operated_with-acts operator.Or to a w = known
operated_with-acts operator.Xor to a w = known
operated_with-acts operator.Shl to a w = known
operated_with-acts operator.Shr to a w = known
operated_with-acts operator.Sar to a w = known
operated_with-acts operator.Mul to a w = before _ (constant-acts T2 w)
operated_with-acts operator.Mulh to a w = before _ (constant-acts T2 w)
operated_with-acts operator.Div to a w = before _ (constant-acts T2 w)
operated_with-acts operator.Mod to a w = before _ (constant-acts T2 w)
operated_with-acts (operator.Cmp f) to a w = compared_with-acts imm.Slti alu.Slt f to a w
operated_with-acts (operator.CmpU f) to a w = compared_with-acts imm.Sltiu alu.Sltu f to a w

-- ---- copies

-- a location that a line may name
pub data IsSet : Loc → Type 0 where
  set_register : {n : ℕ} → IsSet (loc.Machine n)
  set_slot : {k : ℕ} → IsSet (loc.Slot k)

is-set-by : {m : Lin} {l : Loc} → IsHome m l → IsSet l
is-set-by (is_colour h) = set_register
is-set-by (is_slot h) = set_slot

is-set : {m : Lin} {l : Loc} → IsLocation m l → IsSet l
is-set (is_home h) = is-set-by h
is-set {m} {l} (is_spare e) = subst IsSet (sym e) (set_register {n = 5})

copied-acts : (t : ℕ) (from to : Loc) → IsSet from → IsSet to → Acts (copy_pieces t from to)
copied-acts t (loc.Slot j) to a b = before _ (stack_load-acts T2 (target to) (slot_offset t j))
copied-acts t (loc.Machine n) (loc.Slot k) a b = stack_store-acts T2 (register_at n) (slot_offset t k)
copied-acts t (loc.Machine n) (loc.Machine o) a b = known
copied-acts t (loc.Machine n) loc.Unset a b = elim b [ ]
copied-acts t loc.Unset to a b = elim a [ ]

moved-acts : (t : ℕ) (from to : Loc) (same : Bool) → same_loc from to ≡ same → (same ≡ true → ⊥) → IsSet from → IsSet to →
    Acts (cond same [] (copy_pieces t from to))
moved-acts t from to true e apart a b = absurd (apart refl)
moved-acts t from to false e apart a b = copied-acts t from to a b

-- ---- parts

-- what a part is for: a line that is no label and no entry of a handler, and moves nothing to where it is
abbrev pub DoesMore : LinOp → Type 0
DoesMore (lin.Flow (flow.Label l)) = ⊥
DoesMore (lin.Flow flow.EnterTrap) = ⊥
DoesMore _ = Unit {0}

signed-acts : (f : CmpOp) (a b : Register) (l : ℕ) → Acts (signed_branch f a b l ∷ [])
signed-acts compare.Eq a b l = acts_here refl
signed-acts compare.Ne a b l = acts_here refl
signed-acts compare.Lt a b l = acts_here refl
signed-acts compare.Le a b l = acts_here refl
signed-acts compare.Gt a b l = acts_here refl
signed-acts compare.Ge a b l = acts_here refl

unsigned-acts : (f : CmpOp) (a b : Register) (l : ℕ) → Acts (unsigned_branch f a b l ∷ [])
unsigned-acts compare.Eq a b l = acts_here refl
unsigned-acts compare.Ne a b l = acts_here refl
unsigned-acts compare.Lt a b l = acts_here refl
unsigned-acts compare.Le a b l = acts_here refl
unsigned-acts compare.Gt a b l = acts_here refl
unsigned-acts compare.Ge a b l = acts_here refl

test-acts : (f : Test) (args : List Spot) (a : Register) (l : ℕ) → Acts (test_branch f args a l ∷ [])
test-acts test.Holds args a l = acts_here refl
test-acts test.Fails args a l = acts_here refl
test-acts (test.Signed f r) args a l = signed-acts f a (right_register r args) l
test-acts (test.Unsigned f r) args a l = unsigned-acts f a (right_register r args) l

value-acts : (t : ℕ) (l : Loc) → Acts (value_words t l)
value-acts t (loc.Slot k) = stack_load-acts T1 T1 (slot_offset t k)
value-acts t (loc.Machine n) = known
value-acts t loc.Unset = known

flow-acts : (t : ℕ) (g : Flow) (args results : List Spot) → DoesMore (lin.Flow g) → Acts (flow_part t g args results)
flow-acts t (flow.Label l) args results h = absurd h
flow-acts t (flow.Jump l) args results h = acts_here refl
flow-acts t (flow.Exit l) args results h = acts_here refl
flow-acts t (flow.Branch f l) args results h = after (fetch_pieces t T1 (first_location args) ++ test_words t f args) (test-acts f args (register_of T1 (first_location args)) l)
flow-acts t (flow.Switch ls) args results h = before _ (value-acts t (first_location args))
flow-acts t (flow.PushTrap l) args results h = acts_here refl
flow-acts t flow.PopTrap args results h = known
flow-acts t flow.EnterTrap args results h = absurd h

operator-acts : (t : ℕ) (f : IntOp) (r : Right) (args results : List Spot) → Acts (operator_part t f r args results)
operator-acts t f right.Register args results =
    before _ (after (fetch_pieces t T1 (first_location args) ++ fetch_pieces t T2 (second args)) (operated-acts f (target (first_location results)) (register_of T1 (first_location args))
    (register_of T2 (second args))))
operator-acts t f (right.Constant w) args results =
    before _ (after (fetch_pieces t T1 (first_location args)) (operated_with-acts f (target (first_location results)) (register_of T1 (first_location args)) w))

-- a copy is from a set location to another one
abbrev pub CopiesOther : Op → List Spot → List Spot → Type 0
CopiesOther (op.Pure (pure.Copy kind)) args results = IsSet (first_location args) × IsSet (first_location results) × (same_loc (first_location args) (first_location results) ≡ true → ⊥)
CopiesOther _ args results = Unit {0}

op-acts : (t : ℕ) (f : FrameLayout) (mark : List Piece) (g : Op) (args results : List Spot) → CopiesOther g args results → Acts (op_part t f mark g args results)
op-acts t f mark (op.Pure (pure.Copy kind)) args results h = moved-acts t (first_location args) (first_location results) (same_loc (first_location args) (first_location results)) refl h.2 h.0 h.1
op-acts t f mark (op.Pure (pure.Constant w)) args results h = before _ (constant-acts (target (first_location results)) w)
op-acts t f mark (op.Pure (pure.Symbol name)) args results h = acts_here refl
op-acts t f mark (op.Pure (pure.Operator g r)) args results h = operator-acts t g r args results
op-acts t f mark (op.Access (access.Load k offset)) args results h =
    before _ (after (fetch_pieces t T1 (first_location args)) (after (address_words (register_of T1 (first_location args)) offset) known))
op-acts t f mark (op.Access (access.Store k offset)) args results h =
    after (fetch_pieces t T1 (first_location args) ++ address_words (register_of T1 (first_location args)) offset ++ fetch_pieces t T2 (second args)) known
op-acts t f mark (op.Access (access.Alloc blocks)) args results h = before _ (before _ (after (bytes_taken_off T1 S10 (total_block_bytes blocks)) known))
op-acts t f mark (op.Calling (calling.Call (callee.Symbol name) result)) args results h = acts_here refl
op-acts t f mark (op.Calling (calling.Call callee.Register result)) args results h = before _ (after (fetch_pieces t T1 (first_location args)) known)
op-acts t f mark (op.Calling (calling.TailCall (callee.Symbol name) result)) args results h = after (frame_release f) (acts_here refl)
op-acts t f mark (op.Calling (calling.TailCall callee.Register result)) args results h = after (value_words t (first_location args) ++ frame_release f) known
op-acts t f mark (op.Calling (calling.External row frame)) args results h = acts_here refl
op-acts t f mark (op.Leaving (leaving.Checkbound r)) args results h = after (fetch_pieces t T1 (first_location args) ++ right_words t r args) known
op-acts t f mark (op.Leaving leaving.Raise) args results h = known
op-acts t f mark (op.Leaving leaving.Return) args results h = after (frame_release f) known

abbrev pub ActsAt : LinOp → List Spot → List Spot → Type 0
ActsAt (lin.Op g) args results = CopiesOther g args results
ActsAt (lin.Flow g) args results = DoesMore (lin.Flow g)

-- a part has an instruction
pub part_acts : (t : ℕ) (f : FrameLayout) (d : Option Descr) (g : LinOp) (args results : List Spot) → ActsAt g args results →
    1 ≤ words_at_least (part_of_line t f d (record { op = g; args = args; results = results }))
part_acts t f d (lin.Op g) args results h = acts-some (op-acts t f (mark_of d) g args results h)
part_acts t f d (lin.Flow g) args results h = acts-some (flow-acts t g args results h)

-- what a copy of a well-formed function that is none from a location to itself needs
pub copies_other : (m : Lin) (kind : CopyKind) (from to : Spot) → IsLocation m from.loc → IsLocation m to.loc →
    (IsSelfMove (record { op = lin.Op (op.Pure (pure.Copy kind)); args = from ∷ []; results = to ∷ [] }) from to → ⊥) →
    ActsAt (lin.Op (op.Pure (pure.Copy kind))) (from ∷ []) (to ∷ [])
copies_other m kind from to a b apart = (is-set a, is-set b, λ e. apart (is_self_move (same_loc_is from.loc to.loc e)))

-- ---- code after an exit that has no words

module _ (traps : ℕ → ℕ) (f : FrameLayout) where
  branch_acts : (ds : List Descr) (i : Line) (next : List Line) → is_branch i.op ≡ true → Acts (parts_of_lines traps f ds (i ∷ next))
  branch_acts ds i next e =
      let t = traps (length next) in
      let d = descriptor (passes_frame i.op) ds in
      let own = if_branch (λ g. Acts (lin_part t f (mark_of d) g i.args i.results)) (λ q l. flow-acts t (flow.Branch q l) i.args i.results tt) i.op e in
      before _ (subst Acts (sym (part_unless_free t f d i next (branch_is_not_free i.op next e))) own)

  -- it has an instruction: its branch has
  falls_acts : {l : ℕ} {code : List Line} (ds : List Descr) → FallsTo l code → Acts (parts_of_lines traps f ds code)
  falls_acts ds (falls_here {i = i} {j = j} {rest = rest} has tests) = after _ (branch_acts (left_after (passes_frame i.op) ds) j rest tests)
  falls_acts ds (falls_past {i = i} other mark falls) = after _ (falls_acts (left_after (passes_frame i.op) ds) falls)

  pub falls_act : (ds : List Descr) (l : ℕ) (code : List Line) → FallsTo l code → 1 ≤ words_at_least (parts_of_lines traps f ds code)
  falls_act ds l code falls = acts-some (falls_acts ds falls)
