-- After the branch of a bound test comes its raising path alone.
use Rattle.std.proofs.Common.{◌≡◌, ℕ, ◌+◌, ◌*◌, Bool, true, false, cond, nat_eq, nat_lt, List, [], ◌∷◌, ◌++◌, length, append_assoc, refl, ◌∙◌, ap, Option}
use Rattle.bs_words.specs.declared.types.Loc.{Loc}
use Rattle.bs_words.specs.declared.types.Loc.TheVariants as loc
use Rattle.mach_ir.specs.declared.op.Leaving.TheVariants as leaving
use Rattle.mach_ir.specs.declared.op.Op.TheVariants as op
use Rattle.mach_ir.specs.declared.op.Right.{Right}
use Rattle.mach_ir.specs.declared.op.Right.TheVariants as right
use Rattle.lin_ir.specs.declared.descr.Descr.{Descr}
use Rattle.lin_ir.specs.declared.lin.LinOp.{LinOp}
use Rattle.lin_ir.specs.declared.lin.LinOp.TheVariants as lin
use Rattle.lin_ir.specs.declared.lin.Spot.{Spot}
use Rattle.rv_isa.specs.declared.instr.Condition.TheVariants as condition
use Rattle.rv_isa.specs.declared.register.Register.{Register}
use Rattle.rv_isa.specs.declared.register.Register.TheVariants.{T1, T2}
use Rattle.rv_pieces.specs.declared.piece.Piece.{Piece}
use Rattle.rv_emit_rules.specs.Constants.{constant_pieces}
use Rattle.rv_emit_rules.specs.Emitted.{part_of_line}
use Rattle.rv_emit_rules.specs.Entry.{FrameLayout}
use Rattle.rv_emit_rules.specs.Instructions.{skip}
use Rattle.rv_emit_rules.specs.Slots.{first_location, second, register_of, fetch_pieces, slot_offset}
use Rattle.rv_emit_rules.specs.Tests.{right_register, right_words}
use Rattle.rv_emit_rules.specs.Traps.{raise_bound_error, check_part}
use Rattle.rv_emit_rules.specs.Traversal.{EachPiece, each_none, each_more}
use Rattle.rv_emit_rules.specs.Values.{Makes, makes_first, makes_upper, makes_lower, makes_sum, makes_shift}
use Rattle.rv_emit_rules.proofs.Values.{constant_is_made}
use Rattle.laid_parts.specs.Laid.{is_branch_piece, behind_branch, leave_at_end, RaisesBehind}

-- the first branch is the first of what is after these
record Straight (xs : List Piece) : Type 0 where
  pub behind : (ys : List Piece) → behind_branch (xs ++ ys) ≡ behind_branch ys

straight : {xs : List Piece} → ((ys : List Piece) → behind_branch (xs ++ ys) ≡ behind_branch ys) → Straight xs
straight h = record { behind = h }

no_piece : Straight []
no_piece = straight (λ ys. refl)

in_turn : {xs zs : List Piece} → Straight xs → Straight zs → (p : Piece) (ys : List Piece) → is_branch_piece p ≡ true →
    behind_branch ((xs ++ zs) ++ p ∷ ys) ≡ ys
in_turn {xs} {zs} x z p ys b =
    ap behind_branch (append_assoc xs zs (p ∷ ys))
    ∙ (x.behind (zs ++ p ∷ ys) ∙ (z.behind (p ∷ ys) ∙ ap (λ (c : Bool). cond c ys (behind_branch ys)) b))

either_straight : (b : Bool) {xs ys : List Piece} → Straight xs → Straight ys → Straight (cond b xs ys)
either_straight true x y = x
either_straight false x y = y

made_straight : (r : Register) {ps : List Piece} → EachPiece (Makes r) ps → (ys : List Piece) → behind_branch (ps ++ ys) ≡ behind_branch ys
made_straight r each_none ys = refl
made_straight r (each_more (makes_first w) rest) ys = made_straight r rest ys
made_straight r (each_more (makes_upper w) rest) ys = made_straight r rest ys
made_straight r (each_more (makes_lower w) rest) ys = made_straight r rest ys
made_straight r (each_more (makes_sum w) rest) ys = made_straight r rest ys
made_straight r (each_more (makes_shift amount) rest) ys = made_straight r rest ys

fetched_straight : (t : ℕ) (scratch : Register) (l : Loc) → Straight (fetch_pieces t scratch l)
fetched_straight t scratch (loc.Machine r) = no_piece
fetched_straight t scratch (loc.Slot k) =
    either_straight (nat_lt (slot_offset t k) 2048) (straight (λ ys. refl)) (straight (λ ys. refl))
fetched_straight t scratch loc.Unset = no_piece

right_straight : (t : ℕ) (o : Right) (args : List Spot) → Straight (right_words t o args)
right_straight t right.Register args = fetched_straight t T2 (second args)
right_straight t (right.Constant w) args =
    either_straight (nat_eq w 0) {ys = constant_pieces T2 w} no_piece (straight (made_straight T2 (constant_is_made T2 w)))

check_raises : (t : ℕ) (o : Right) (args : List Spot) → leave_at_end (behind_branch (check_part t o args)) ≡ true
check_raises t o args =
    ap leave_at_end
    (in_turn (fetched_straight t T1 (first_location args)) (right_straight t o args)
    (skip condition.Bltu (right_register o args) (register_of T1 (first_location args)) (4 * (1 + length raise_bound_error)))
    raise_bound_error refl)

pub raises_behind_branch : (t : ℕ) (f : FrameLayout) (d : Option Descr) (g : LinOp) (args results : List Spot) →
    RaisesBehind g (part_of_line t f d (record { op = g; args = args; results = results }))
raises_behind_branch t f d (lin.Op (op.Leaving (leaving.Checkbound o))) args results = check_raises t o args
raises_behind_branch t f d (lin.Op (op.Leaving leaving.Raise)) args results = tt
raises_behind_branch t f d (lin.Op (op.Leaving leaving.Return)) args results = tt
raises_behind_branch t f d (lin.Op (op.Pure g)) args results = tt
raises_behind_branch t f d (lin.Op (op.Access g)) args results = tt
raises_behind_branch t f d (lin.Op (op.Calling g)) args results = tt
raises_behind_branch t f d (lin.Flow g) args results = tt
