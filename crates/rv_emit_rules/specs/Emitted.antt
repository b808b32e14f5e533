-- The pieces of a function: its entry, and a part for each line, in their order.
use Rattle.std.specs.Prelude.{◌≡◌, ℕ, Bool, true, cond, List, [], ◌∷◌, ◌++◌, length, Option, Some, None}
use Rattle.mach_ir.specs.declared.op.Pure.{Pure}
use Rattle.mach_ir.specs.declared.op.Pure.TheVariants as pure
use Rattle.mach_ir.specs.declared.op.Access.{Access}
use Rattle.mach_ir.specs.declared.op.Access.TheVariants as access
use Rattle.mach_ir.specs.declared.op.Calling.{Calling}
use Rattle.mach_ir.specs.declared.op.Calling.TheVariants as calling
use Rattle.mach_ir.specs.declared.op.Leaving.{Leaving}
use Rattle.mach_ir.specs.declared.op.Leaving.TheVariants as leaving
use Rattle.mach_ir.specs.declared.op.Right.{Right}
use Rattle.mach_ir.specs.declared.op.Right.TheVariants as right
use Rattle.mach_ir.specs.declared.op.Op.{Op}
use Rattle.mach_ir.specs.declared.op.Op.TheVariants as op
use Rattle.bs_words.specs.declared.operators.IntOp.{IntOp}
use Rattle.lin_ir.specs.Meaning.{passes_frame}
use Rattle.lin_ir.specs.Walks.{StandsAsLine, Reached, ArePushed}
use Rattle.lin_ir.specs.declared.descr.Descr.{Descr}
use Rattle.lin_ir.specs.declared.lin.Spot.{Spot}
use Rattle.lin_ir.specs.declared.lin.Flow.{Flow}
use Rattle.lin_ir.specs.declared.lin.Flow.TheVariants as flow
use Rattle.lin_ir.specs.declared.lin.LinOp.{LinOp}
use Rattle.lin_ir.specs.declared.lin.LinOp.TheVariants as lin
use Rattle.lin_ir.specs.declared.lin.Line.{Line}
use Rattle.lin_ir.specs.declared.lin.Lin.{Lin}
use Rattle.rv_isa.specs.declared.register.Register.TheVariants.{T1, T2}
use Rattle.rv_pieces.specs.declared.piece.Piece.{Piece}
use Rattle.rv_pieces.specs.declared.piece.Piece.TheVariants as piece
use Rattle.rv_pieces.specs.declared.piece.Pieces.{Pieces}
use Rattle.rv_emit_rules.specs.Constants.{constant_pieces}
use Rattle.rv_emit_rules.specs.Slots.{first_location, second, register_of, fetch_pieces, target, keep_pieces, move_pieces}
use Rattle.rv_emit_rules.specs.Operators.{operated, operated_with}
use Rattle.rv_emit_rules.specs.Tests.{branch_part, switch_part}
use Rattle.rv_emit_rules.specs.Memory.{load_part, store_part, alloc_part}
use Rattle.rv_emit_rules.specs.Calls.{mark_of, call_words, tail_call_part, external_words, return_part}
use Rattle.rv_emit_rules.specs.Traps.{raise_words, push_part, pop_part, enter_part, check_part}
use Rattle.rv_emit_rules.specs.Units.{is_free_exit}
use Rattle.rv_emit_rules.specs.Entry.{FrameLayout, frame_of, entry_pieces}

-- ---- parts, while so many traps are pushed

abbrev pub operator_part : (traps : ℕ) → IntOp → Right → (args results : List Spot) → List Piece
operator_part traps f right.Register args results =
    fetch_pieces traps T1 (first_location args) ++ fetch_pieces traps T2 (second args)
    ++ operated f (target (first_location results)) (register_of T1 (first_location args))
    (register_of T2 (second args))
    ++ keep_pieces traps (first_location results)
operator_part traps f (right.Constant w) args results =
    fetch_pieces traps T1 (first_location args)
    ++ operated_with f (target (first_location results)) (register_of T1 (first_location args)) w
    ++ keep_pieces traps (first_location results)

abbrev pub pure_part : (traps : ℕ) → Pure → (args results : List Spot) → List Piece
pure_part traps (pure.Copy kind) args results = move_pieces traps (first_location args) (first_location results)
pure_part traps (pure.Constant w) args results =
    constant_pieces (target (first_location results)) w ++ keep_pieces traps (first_location results)
pure_part traps (pure.Symbol name) args results =
    piece.SymbolAddress (target (first_location results)) name ∷ keep_pieces traps (first_location results)
pure_part traps (pure.Operator f r) args results = operator_part traps f r args results

abbrev pub access_part : (traps : ℕ) → (mark : List Piece) → Access → (args results : List Spot) →
    List Piece
access_part traps mark (access.Load k offset) args results =
    load_part traps k offset args results
access_part traps mark (access.Store k offset) args results = store_part traps k offset args
access_part traps mark (access.Alloc blocks) args results = alloc_part traps mark blocks results

abbrev pub calling_part : (traps : ℕ) → FrameLayout → (mark : List Piece) → Calling →
    (args : List Spot) → List Piece
calling_part traps f mark (calling.Call whom result) args = call_words traps whom args ++ mark
calling_part traps f mark (calling.TailCall whom result) args = tail_call_part traps f whom args
calling_part traps f mark (calling.External row frame) args = external_words row frame ++ mark

abbrev pub leaving_part : (traps : ℕ) → FrameLayout → Leaving → (args : List Spot) → List Piece
leaving_part traps f (leaving.Checkbound r) args = check_part traps r args
leaving_part traps f leaving.Raise args = raise_words
leaving_part traps f leaving.Return args = return_part f

abbrev pub op_part : (traps : ℕ) → FrameLayout → (mark : List Piece) → Op → (args results : List Spot) →
    List Piece
op_part traps f mark (op.Pure g) args results = pure_part traps g args results
op_part traps f mark (op.Access g) args results = access_part traps mark g args results
op_part traps f mark (op.Calling g) args results = calling_part traps f mark g args
op_part traps f mark (op.Leaving g) args results = leaving_part traps f g args

abbrev pub flow_part : (traps : ℕ) → Flow → (args results : List Spot) → List Piece
flow_part traps (flow.Label l) args results = piece.Label l ∷ []
flow_part traps (flow.Jump l) args results = piece.Jump l ∷ []
flow_part traps (flow.Exit l) args results = piece.Jump l ∷ []
flow_part traps (flow.Branch t l) args results = branch_part traps t l args
flow_part traps (flow.Switch labels) args results = switch_part traps labels args
flow_part traps (flow.PushTrap l) args results = push_part l
flow_part traps flow.PopTrap args results = pop_part
flow_part traps flow.EnterTrap args results = enter_part traps results

abbrev pub lin_part : (traps : ℕ) → FrameLayout → (mark : List Piece) → LinOp →
    (args results : List Spot) → List Piece
lin_part traps f mark (lin.Op g) args results = op_part traps f mark g args results
lin_part traps f mark (lin.Flow g) args results = flow_part traps g args results

-- the part of a line, with its descriptor where it has one
abbrev pub part_of_line : (traps : ℕ) → FrameLayout → Option Descr → Line → List Piece
part_of_line traps f d i = lin_part traps f (mark_of d) i.op i.args i.results

-- ---- all lines

-- the part of a line before this code: an exit whose unit the branch after it answers for has none
abbrev pub part_before : (traps : ℕ) → FrameLayout → Option Descr → Line → List Line → List Piece
part_before traps f d i next = cond (is_free_exit i.op next) [] (part_of_line traps f d i)

-- each frame point that is no tail call has the first of the descriptors that are left
abbrev pub descriptor : Bool → List Descr → Option Descr
descriptor true (d ∷ ds) = Some d
descriptor _ ds = None

abbrev pub left_after : Bool → List Descr → List Descr
left_after true (d ∷ ds) = ds
left_after _ ds = ds

-- the number of traps that are pushed before a line is looked up by the number of lines after it
abbrev pub parts_of_lines : (traps : ℕ → ℕ) → FrameLayout → List Descr → List Line → List Piece
parts_of_lines traps f ds [] = []
parts_of_lines traps f ds (i ∷ next) =
    part_before (traps (length next)) f (descriptor (passes_frame i.op) ds) i next
    ++ parts_of_lines traps f (left_after (passes_frame i.op) ds) next

abbrev pub emitted : Lin → (traps : ℕ → ℕ) → List Descr → Pieces
emitted m traps ds = record {
  frame = (frame_of m).bytes;
  code = entry_pieces (frame_of m) ++ parts_of_lines traps (frame_of m) ds m.code;
}

-- ---- whole

-- The pieces of a function with these descriptors. No trap counts as pushed before a line that no
-- walk comes to.
pub record IsEmitted (m : Lin) (ds : List Descr) (p : Pieces) : Type 0 where
  pub traps : ℕ → ℕ
  pub pushed : ArePushed m traps
  pub unreached : (i : Line) (next : List Line) → StandsAsLine i next m.code →
      ((tries : List ℕ) → Reached m (i ∷ next) tries → ⊥) → traps (length next) ≡ 0
  pub is : p ≡ emitted m traps ds
