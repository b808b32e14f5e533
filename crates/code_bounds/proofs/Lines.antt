-- The pieces of a function have as few words as its lines say.
use Rattle.std.proofs.Common.{◌≡◌, ℕ, ◌+◌, ◌≤◌, Bool, true, false, cond, nat_eq, nat_lt, List, [], ◌∷◌, ◌++◌, length, Option, refl, arith}
use Rattle.bs_words.specs.declared.operators.CmpOp.{CmpOp}
use Rattle.bs_words.specs.declared.operators.CmpOp.TheVariants as compare
use Rattle.bs_words.specs.declared.types.Loc.{Loc}
use Rattle.bs_words.specs.declared.types.Loc.TheVariants as loc
use Rattle.lin_ir.specs.Meaning.{passes_frame, same_loc}
use Rattle.lin_ir.specs.declared.descr.Descr.{Descr}
use Rattle.lin_ir.specs.declared.lin.Flow.TheVariants as flow
use Rattle.lin_ir.specs.declared.lin.LinOp.{LinOp}
use Rattle.lin_ir.specs.declared.lin.LinOp.TheVariants as lin
use Rattle.lin_ir.specs.declared.lin.Line.{Line}
use Rattle.lin_ir.specs.declared.lin.Lin.{Lin}
use Rattle.lin_ir.specs.declared.lin.Spot.{Spot}
use Rattle.mach_ir.specs.declared.mach.Test.{Test}
use Rattle.mach_ir.specs.declared.mach.Test.TheVariants as test
use Rattle.mach_ir.specs.declared.op.Op.TheVariants as op
use Rattle.mach_ir.specs.declared.op.Pure.TheVariants as pure
use Rattle.mach_ir.specs.declared.op.Right.{Right}
use Rattle.mach_ir.specs.declared.op.Right.TheVariants as right
use Rattle.rv_isa.specs.declared.instr.LoadWidth.TheVariants as loads
use Rattle.rv_isa.specs.declared.instr.StoreWidth.TheVariants as stores
use Rattle.rv_isa.specs.declared.register.Register.{Register}
use Rattle.rv_isa.specs.declared.register.Register.TheVariants.{Sp, T1, T2}
use Rattle.rv_emit_rules.specs.Constants.{constant_pieces}
use Rattle.rv_emit_rules.specs.Instructions.{load_piece, store_piece}
use Rattle.rv_isa.specs.Registers.{register_at}
use Rattle.rv_emit_rules.specs.Slots.{far_stack, stack_load, stack_store, slot_offset, first_location, second, register_of, fetch_pieces, target, keep_pieces, copy_pieces, move_pieces}
use Rattle.rv_emit_rules.specs.Tests.{right_register, right_words, signed_branch, unsigned_branch, test_words, test_branch, branch_part}
use Rattle.pass_rules.specs.Measures.{copy_words}
use Rattle.rv_emit_rules.specs.Emitted.{parts_of_lines, part_of_line, part_before, descriptor, left_after, emitted}
use Rattle.rv_emit_rules.specs.Entry.{FrameLayout, frame_of, entry_pieces}
use Rattle.rv_emit_rules.specs.Sizes.{most_piece_words, words_at_most}
use Rattle.rv_emit_rules.proofs.Sizes.{constant-in, entry-in, part_is_short, words-join}
use Rattle.rv_emit_rules.proofs.Units.{part_by}
use Rattle.code_bounds.specs.Lines.{words_for_line, line_words, lines_words}

-- ---- copies

load_short : (scratch to : Register) (offset : ℕ) → words_at_most (stack_load scratch to offset) ≤ 3
load_short scratch to offset = by (nat_lt offset 2048)
  where
    by : (b : Bool) → words_at_most (cond b (load_piece loads.Ld to Sp offset ∷ []) (far_stack scratch offset ++ load_piece loads.Ld to scratch offset ∷ [])) ≤ 3
    by true = omega arith
    by false = omega arith

store_short : (scratch from : Register) (offset : ℕ) → words_at_most (stack_store scratch from offset) ≤ 3
store_short scratch from offset = by (nat_lt offset 2048)
  where
    by : (b : Bool) → words_at_most (cond b (store_piece stores.Sd from Sp offset ∷ []) (far_stack scratch offset ++ store_piece stores.Sd from scratch offset ∷ [])) ≤ 3
    by true = omega arith
    by false = omega arith

kept_short : (t : ℕ) (l : Loc) → words_at_most (keep_pieces t l) ≤ 3
kept_short t (loc.Machine n) = omega arith
kept_short t (loc.Slot k) = store_short T2 T1 (slot_offset t k)
kept_short t loc.Unset = omega arith

copy_short : (t : ℕ) (from to : Loc) → words_at_most (copy_pieces t from to) ≤ copy_words
copy_short t (loc.Slot j) to =
    let both = words-join (stack_load T2 (target to) (slot_offset t j)) (keep_pieces t to) in
    let one = load_short T2 (target to) (slot_offset t j) in
    let two = kept_short t to in
    omega (arith, both, one, two)
copy_short t (loc.Machine n) (loc.Slot k) = let one = store_short T2 (register_at n) (slot_offset t k) in omega (arith, one)
copy_short t (loc.Machine n) (loc.Machine o) = omega arith
copy_short t (loc.Machine n) loc.Unset = omega arith
copy_short t loc.Unset to = omega arith

move_short : (t : ℕ) (from to : Loc) → words_at_most (move_pieces t from to) ≤ copy_words
move_short t from to = by (same_loc from to)
  where
    by : (b : Bool) → words_at_most (cond b [] (copy_pieces t from to)) ≤ copy_words
    by true = omega arith
    by false = copy_short t from to

-- ---- branches

fetched_short : (t : ℕ) (scratch : Register) (l : Loc) → words_at_most (fetch_pieces t scratch l) ≤ 3
fetched_short t scratch (loc.Machine n) = omega arith
fetched_short t scratch (loc.Slot k) = load_short scratch scratch (slot_offset t k)
fetched_short t scratch loc.Unset = omega arith

right_short : (t : ℕ) (r : Right) (args : List Spot) → words_at_most (right_words t r args) ≤ 9
right_short t right.Register args = let h = fetched_short t T2 (second args) in omega (arith, h)
right_short t (right.Constant w) args = by (nat_eq w 0)
  where
    by : (b : Bool) → words_at_most (cond b [] (constant_pieces T2 w)) ≤ 9
    by true = omega arith
    by false = (constant-in T2 w).fits

test_short : (t : ℕ) (f : Test) (args : List Spot) → words_at_most (test_words t f args) ≤ 9
test_short t test.Holds args = omega arith
test_short t test.Fails args = omega arith
test_short t (test.Signed f r) args = right_short t r args
test_short t (test.Unsigned f r) args = right_short t r args

signed_short : (f : CmpOp) (a b : Register) (l : ℕ) → most_piece_words (signed_branch f a b l) ≡ 3
signed_short compare.Eq a b l = refl
signed_short compare.Ne a b l = refl
signed_short compare.Lt a b l = refl
signed_short compare.Le a b l = refl
signed_short compare.Gt a b l = refl
signed_short compare.Ge a b l = refl

unsigned_short : (f : CmpOp) (a b : Register) (l : ℕ) → most_piece_words (unsigned_branch f a b l) ≡ 3
unsigned_short compare.Eq a b l = refl
unsigned_short compare.Ne a b l = refl
unsigned_short compare.Lt a b l = refl
unsigned_short compare.Le a b l = refl
unsigned_short compare.Gt a b l = refl
unsigned_short compare.Ge a b l = refl

one_branch : (f : Test) (args : List Spot) (a : Register) (l : ℕ) → most_piece_words (test_branch f args a l) ≡ 3
one_branch test.Holds args a l = refl
one_branch test.Fails args a l = refl
one_branch (test.Signed f r) args a l = signed_short f a (right_register r args) l
one_branch (test.Unsigned f r) args a l = unsigned_short f a (right_register r args) l

branch_short : (t : ℕ) (f : Test) (l : ℕ) (args : List Spot) → words_at_most (branch_part t f l args) ≤ 15
branch_short t f l args =
    let a = register_of T1 (first_location args) in
    let last = test_branch f args a l ∷ [] in
    let whole = words-join (fetch_pieces t T1 (first_location args) ++ test_words t f args) last in
    let before = words-join (fetch_pieces t T1 (first_location args)) (test_words t f args) in
    let fetch = fetched_short t T1 (first_location args) in
    let tested = test_short t f args in
    let one = one_branch f args a l in
    omega (arith, whole, before, fetch, tested, one)

-- ---- lines

part_short : (t : ℕ) (f : FrameLayout) (d : Option Descr) (g : LinOp) (args results : List Spot) →
    words_at_most (part_of_line t f d (record { op = g; args = args; results = results })) ≤ words_for_line g (length results)
part_short t f d (lin.Op (op.Pure (pure.Copy kind))) args results = move_short t (first_location args) (first_location results)
part_short t f d (lin.Op (op.Pure (pure.Constant w))) args results =
    let h = part_is_short t f d (record { op = lin.Op (op.Pure (pure.Constant w)); args = args; results = results }) in omega (arith, h)
part_short t f d (lin.Op (op.Pure (pure.Symbol name))) args results =
    let h = part_is_short t f d (record { op = lin.Op (op.Pure (pure.Symbol name)); args = args; results = results }) in omega (arith, h)
part_short t f d (lin.Op (op.Pure (pure.Operator g r))) args results =
    let h = part_is_short t f d (record { op = lin.Op (op.Pure (pure.Operator g r)); args = args; results = results }) in omega (arith, h)
part_short t f d (lin.Op (op.Access g)) args results =
    let h = part_is_short t f d (record { op = lin.Op (op.Access g); args = args; results = results }) in omega (arith, h)
part_short t f d (lin.Op (op.Calling g)) args results =
    let h = part_is_short t f d (record { op = lin.Op (op.Calling g); args = args; results = results }) in omega (arith, h)
part_short t f d (lin.Op (op.Leaving g)) args results =
    let h = part_is_short t f d (record { op = lin.Op (op.Leaving g); args = args; results = results }) in omega (arith, h)
part_short t f d (lin.Flow (flow.Label l)) args results = omega arith
part_short t f d (lin.Flow (flow.Jump l)) args results = omega arith
part_short t f d (lin.Flow (flow.Exit l)) args results = omega arith
part_short t f d (lin.Flow flow.PopTrap) args results = omega arith
part_short t f d (lin.Flow (flow.Branch g l)) args results = let h = branch_short t g l args in omega (arith, h)
part_short t f d (lin.Flow g) args results = let h = part_is_short t f d (record { op = lin.Flow g; args = args; results = results }) in omega (arith, h)

pub line_short : (t : ℕ) (f : FrameLayout) (d : Option Descr) (i : Line) (next : List Line) → words_at_most (part_before t f d i next) ≤ line_words i
line_short t f d i next = part_by t f d i next (λ ps. words_at_most ps ≤ line_words i) (λ free. omega arith) (λ unless. part_short t f d i.op i.args i.results)

lines_short : (f : FrameLayout) (traps : ℕ → ℕ) (ds : List Descr) (is : List Line) → words_at_most (parts_of_lines traps f ds is) ≤ lines_words is
lines_short f traps ds [] = omega arith
lines_short f traps ds (i ∷ next) =
    let d : Option Descr = descriptor (passes_frame i.op) ds in
    let rest : List Descr = left_after (passes_frame i.op) ds in
    let e = words-join (part_before (traps (length next)) f d i next) (parts_of_lines traps f rest next) in
    let h = line_short (traps (length next)) f d i next in
    let k = lines_short f traps rest next in
    omega (arith, e, h, k)

pub function_short : (m : Lin) (traps : ℕ → ℕ) (ds : List Descr) → words_at_most (emitted m traps ds).code ≤ 13 + lines_words m.code
function_short m traps ds =
    let e = words-join (entry_pieces (frame_of m)) (parts_of_lines traps (frame_of m) ds m.code) in
    let h = (entry-in (frame_of m)).fits in
    let k = lines_short (frame_of m) traps ds m.code in
    omega (arith, e, h, k)
