-- Labels, jumps, branches on tests, and switches.
--
-- A `switch` stays one operation up to here: whether it becomes tests or a table of jumps is decided by
-- emission.
use Rattle.std.specs.Prelude.{ℕ, cond, nat_eq, nat_le, List, [], ◌∷◌, ◌++◌, length, map}
use Rattle.bs_words.specs.declared.operators.CmpOp.{CmpOp}
use Rattle.bs_words.specs.declared.operators.CmpOp.TheVariants as compare
use Rattle.bs_words.specs.declared.types.Loc.{Loc}
use Rattle.bs_words.specs.declared.types.Loc.TheVariants as loc
use Rattle.mach_ir.specs.declared.op.Right.{Right}
use Rattle.mach_ir.specs.declared.op.Right.TheVariants as right
use Rattle.mach_ir.specs.declared.mach.Test.{Test}
use Rattle.mach_ir.specs.declared.mach.Test.TheVariants as test
use Rattle.lin_ir.specs.declared.lin.Spot.{Spot}
use Rattle.rv_isa.specs.declared.instr.Condition.TheVariants as condition
use Rattle.rv_isa.specs.declared.instr.ShiftOp.TheVariants as shifts
use Rattle.rv_isa.specs.declared.register.Register.{Register}
use Rattle.rv_isa.specs.declared.register.Register.TheVariants.{Zero, T1, T2}
use Rattle.rv_pieces.specs.declared.piece.Piece.{Piece}
use Rattle.rv_pieces.specs.declared.piece.Piece.TheVariants as piece
use Rattle.rv_emit_rules.specs.Instructions.{addi, add, mv, shift_piece, auipc, goes_to_address}
use Rattle.rv_emit_rules.specs.Constants.{constant_pieces}
use Rattle.rv_emit_rules.specs.Slots.{first_location, second, register_of, fetch_pieces, slot_offset, stack_load}

-- ---- right operands

-- the register of a right operand: a constant other than 0 is put into t2
abbrev pub constant_register : ℕ → Register
constant_register w = cond (nat_eq w 0) Zero T2

abbrev pub constant_words : ℕ → List Piece
constant_words w = cond (nat_eq w 0) [] (constant_pieces T2 w)

abbrev pub right_register : Right → List Spot → Register
right_register right.Register args = register_of T2 (second args)
right_register (right.Constant w) args = constant_register w

abbrev pub right_words : (traps : ℕ) → Right → List Spot → List Piece
right_words traps right.Register args = fetch_pieces traps T2 (second args)
right_words traps (right.Constant w) args = constant_words w

-- ---- branches

abbrev pub signed_branch : CmpOp → (a b : Register) → (label : ℕ) → Piece
signed_branch compare.Eq a b label = piece.Branch condition.Beq a b label
signed_branch compare.Ne a b label = piece.Branch condition.Bne a b label
signed_branch compare.Lt a b label = piece.Branch condition.Blt a b label
signed_branch compare.Le a b label = piece.Branch condition.Bge b a label
signed_branch compare.Gt a b label = piece.Branch condition.Blt b a label
signed_branch compare.Ge a b label = piece.Branch condition.Bge a b label

abbrev pub unsigned_branch : CmpOp → (a b : Register) → (label : ℕ) → Piece
unsigned_branch compare.Eq a b label = piece.Branch condition.Beq a b label
unsigned_branch compare.Ne a b label = piece.Branch condition.Bne a b label
unsigned_branch compare.Lt a b label = piece.Branch condition.Bltu a b label
unsigned_branch compare.Le a b label = piece.Branch condition.Bgeu b a label
unsigned_branch compare.Gt a b label = piece.Branch condition.Bltu b a label
unsigned_branch compare.Ge a b label = piece.Branch condition.Bgeu a b label

-- what a test needs besides its first operand
abbrev pub test_words : (traps : ℕ) → Test → List Spot → List Piece
test_words traps test.Holds args = []
test_words traps test.Fails args = []
test_words traps (test.Signed f r) args = right_words traps r args
test_words traps (test.Unsigned f r) args = right_words traps r args

abbrev pub test_branch : Test → List Spot → (a : Register) → (label : ℕ) → Piece
test_branch test.Holds args a label = piece.Branch condition.Bne a Zero label
test_branch test.Fails args a label = piece.Branch condition.Beq a Zero label
test_branch (test.Signed f r) args a label = signed_branch f a (right_register r args) label
test_branch (test.Unsigned f r) args a label = unsigned_branch f a (right_register r args) label

abbrev pub branch_part : (traps : ℕ) → Test → (label : ℕ) → List Spot → List Piece
branch_part traps t label args =
    fetch_pieces traps T1 (first_location args) ++ test_words traps t args
    ++ test_branch t args (register_of T1 (first_location args)) label ∷ []

-- ---- switches

-- the index becomes the value of t1
abbrev pub value_words : (traps : ℕ) → Loc → List Piece
value_words traps (loc.Slot k) = stack_load T1 T1 (slot_offset traps k)
value_words traps (loc.Machine n) = mv T1 (register_of T1 (loc.Machine n)) ∷ []
value_words traps loc.Unset = mv T1 Zero ∷ []

-- T1 is tested against 0, and lowered, until the last label is left
abbrev pub tests_in_turn : List ℕ → List Piece
tests_in_turn [] = []
tests_in_turn (l ∷ []) = piece.Jump l ∷ []
tests_in_turn (l ∷ k ∷ labels) =
    piece.Branch condition.Beq T1 Zero l ∷ addi T1 T1 0xFFFFFFFFFFFFFFFF
    ∷ tests_in_turn (k ∷ labels)

-- A row for each label, 8 bytes each. The first lies 12 bytes after the auipc.
abbrev pub table_of_jumps : List ℕ → List Piece
table_of_jumps labels =
    shift_piece shifts.Slli T1 T1 3 ∷ auipc T2 ∷ add T2 T2 T1 ∷ goes_to_address T2 12 ∷ map piece.Row labels

abbrev pub switch_part : (traps : ℕ) → List ℕ → List Spot → List Piece
switch_part traps labels args =
    value_words traps (first_location args)
    ++ cond (nat_le (length labels) 4) (tests_in_turn labels) (table_of_jumps labels)
