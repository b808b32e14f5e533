-- A function's pieces in parts, one for each line: each names exactly the locations that its line
-- reads and writes.
use Rattle.std.specs.Prelude.{◌≡◌, ℕ, ◌+◌, ◌*◌, Bool, true, false, cond, nat_eq, nat_lt, nat_le, not, ◌||◌, ◌&&◌, List, [], ◌∷◌, ◌++◌, length, ⊤}
use Rattle.bs_words.specs.declared.types.Loc.{Loc}
use Rattle.bs_words.specs.declared.types.Loc.TheVariants as loc
use Rattle.bs_words.specs.declared.types.Ret.{Ret}
use Rattle.mach_ir.specs.Meaning.{is_destroyed}
use Rattle.mach_ir.specs.Seats.{argument_locations, result_locations}
use Rattle.mach_ir.specs.declared.blocks.NewBlock.{NewBlock}
use Rattle.mach_ir.specs.declared.op.Access.TheVariants as access
use Rattle.mach_ir.specs.declared.op.Callee.{Callee}
use Rattle.mach_ir.specs.declared.op.Calling.TheVariants as calling
use Rattle.mach_ir.specs.declared.op.External.{External}
use Rattle.mach_ir.specs.declared.op.Leaving.TheVariants as leaving
use Rattle.mach_ir.specs.declared.op.Op.TheVariants as op
use Rattle.lin_ir.specs.Descriptors.{frame_bytes}
use Rattle.lin_ir.specs.Formed.{IsSelfMove, places_of}
use Rattle.lin_ir.specs.Meaning.{destroyed_by, is_named_location, passes_frame}
use Rattle.lin_ir.specs.Walks.{Traps}
use Rattle.lin_ir.specs.declared.descr.Descr.{Descr}
use Rattle.lin_ir.specs.declared.lin.Flow.TheVariants as flow
use Rattle.lin_ir.specs.declared.lin.LinOp.{LinOp}
use Rattle.lin_ir.specs.declared.lin.LinOp.TheVariants as lin
use Rattle.lin_ir.specs.declared.lin.Line.{Line}
use Rattle.lin_ir.specs.declared.lin.Spot.{Spot}
use Rattle.lin_ir.specs.declared.lin.Lin.{Lin}
use Rattle.rv_isa.specs.Registers.{ra, sp, t0, t1, t2, s1, s10, s11}
use Rattle.rv_isa.specs.declared.instr.Instr.TheVariants as instr
use Rattle.rv_pieces.specs.Named.{marks_in}
use Rattle.rv_pieces.specs.declared.piece.Piece.{Piece}
use Rattle.rv_pieces.specs.declared.piece.Piece.TheVariants as piece
use Rattle.rv_pieces.specs.declared.piece.Pieces.{Pieces}
use Rattle.rv_emit_rules.specs.Entry.{FrameLayout, frame_of, return_offset, entry_pieces}
use Rattle.linearise_rules.specs.Lowered.{is_among_numbers}
use Rattle.laid_parts.specs.Named.{is_source, is_target}
use Rattle.laid_parts.specs.Stack.{at_first, is_loaded, is_stored}

-- ---- registers that are not compared

-- x0, the return address, sp, the trap, allocation and domain pointers, and the scratch registers
abbrev pub is_reserved : ℕ → Bool
is_reserved n =
    is_among_numbers n (0 ∷ ra ∷ sp ∷ t0 ∷ t1 ∷ t2 ∷ s1 ∷ s10 ∷ s11 ∷ [])

-- Those in which a convention hands over arguments, a result or a raised value: the part of the
-- line need not name them.
abbrev pub is_handed_on : LinOp → ℕ → Bool
is_handed_on (lin.Op (op.Calling f)) n = is_named_location (loc.Machine n) argument_locations
is_handed_on (lin.Op (op.Leaving leaving.Raise)) n = is_named_location (loc.Machine n) result_locations
is_handed_on (lin.Op (op.Leaving leaving.Return)) n = is_named_location (loc.Machine n) result_locations
is_handed_on (lin.Flow flow.EnterTrap) n = is_named_location (loc.Machine n) result_locations
is_handed_on _ n = false

-- Those that a call or a handler's entry writes by a convention: results, and what is destroyed.
abbrev pub is_left : LinOp → ℕ → Bool
is_left f n = is_destroyed (destroyed_by f) (loc.Machine n)

-- A bound test that fails raises after its branch, where the raised value is put into a0.
abbrev pub is_branch_piece : Piece → Bool
is_branch_piece (piece.Known (instr.Branch c a b offset)) = true
is_branch_piece (piece.Branch c a b l) = true
is_branch_piece _ = false

abbrev pub up_to_branch : List Piece → List Piece
up_to_branch [] = []
up_to_branch (p ∷ ps) = p ∷ cond (is_branch_piece p) [] (up_to_branch ps)

abbrev pub behind_branch : List Piece → List Piece
behind_branch [] = []
behind_branch (p ∷ ps) = cond (is_branch_piece p) ps (behind_branch ps)

-- what may lead elsewhere than to the next piece
abbrev pub may_jump : Piece → Bool
may_jump (piece.Known (instr.Jal rd offset)) = true
may_jump (piece.Known (instr.Jalr rd rs w)) = true
may_jump (piece.Known (instr.Branch c a b offset)) = true
may_jump (piece.Branch c a b l) = true
may_jump (piece.Jump l) = true
may_jump (piece.Row l) = true
may_jump (piece.Call name) = true
may_jump (piece.TailCall name) = true
may_jump _ = false

-- what goes to the address in a register, as to a handler, and keeps no return address
abbrev pub leaves_by_jump : Piece → Bool
leaves_by_jump (piece.Known (instr.Jalr rd rs w)) = nat_eq rd 0
leaves_by_jump _ = false

-- pieces that run one after the other to the last of them, which leaves
abbrev pub leave_at_end : List Piece → Bool
leave_at_end [] = false
leave_at_end (p ∷ []) = leaves_by_jump p
leave_at_end (p ∷ q ∷ ps) = not (may_jump p) && leave_at_end (q ∷ ps)

-- After the branch of a bound test comes its raising path, to the end of the part. So nothing that
-- is written there comes to the next line.
abbrev pub RaisesBehind : LinOp → List Piece → Type 0
RaisesBehind (lin.Op (op.Leaving (leaving.Checkbound r))) part =
    leave_at_end (behind_branch part) ≡ true
RaisesBehind _ part = ⊤

abbrev pub raises_behind : LinOp → ℕ → Bool
raises_behind (lin.Op (op.Leaving (leaving.Checkbound r))) n =
    is_named_location (loc.Machine n) result_locations
raises_behind _ n = false

-- the pieces that must write a register as the line does
abbrev pub writing : LinOp → ℕ → List Piece → List Piece
writing f n part = cond (raises_behind f n) (up_to_branch part) part

-- ---- words of the stack, by their bytes from sp, that are not compared

-- where a function is left, no trap is pushed, and the frame is given back
abbrev pub is_return_address : FrameLayout → ℕ → Bool
is_return_address f c = f.saves && nat_eq (return_offset f) c

-- the return address where the function is left, and the 16 bytes of the trap that a line pushes or
-- pops
abbrev pub is_aside : FrameLayout → LinOp → ℕ → Bool
is_aside f (lin.Op (op.Leaving leaving.Return)) c = is_return_address f c
is_aside f (lin.Op (op.Calling (calling.TailCall whom result))) c = is_return_address f c
is_aside f (lin.Flow (flow.PushTrap l)) c = nat_le 0xFFFFFFFFFFFFFFF0 c
is_aside f (lin.Flow flow.PopTrap) c = nat_lt c 16
is_aside f _ c = false

-- Slot k lies 8 bytes for each lower slot, and 16 for each pushed trap, from sp.
abbrev pub lies_at : (traps c : ℕ) → Loc → Bool
lies_at traps c (loc.Slot k) = nat_eq (8 * k + 16 * traps) c
lies_at traps c _ = false

-- one of these is a slot that lies there
abbrev pub lie_at : (traps c : ℕ) → List Loc → Bool
lie_at traps c [] = false
lie_at traps c (l ∷ ls) = lies_at traps c l || lie_at traps c ls

-- ---- one part

pub record NamesRegisters (i : Line) (part : List Piece) : Type 0 where
  pub reads : (n : ℕ) → is_reserved n ≡ false → is_handed_on i.op n ≡ false →
      is_source n part ≡ is_named_location (loc.Machine n) (places_of i.args)
  pub writes : (n : ℕ) → is_reserved n ≡ false → is_left i.op n ≡ false →
      is_target n (writing i.op n part) ≡ is_named_location (loc.Machine n) (places_of i.results)

-- A part names no other word of the stack.
pub record NamesSlots (f : FrameLayout) (traps : ℕ) (i : Line) (part : List Piece) : Type 0 where
  pub reads : (c : ℕ) → is_aside f i.op c ≡ false →
      is_loaded at_first c part ≡ lie_at traps c (places_of i.args)
  pub writes : (c : ℕ) → is_aside f i.op c ≡ false →
      is_stored at_first c part ≡ lie_at traps c (places_of i.results)

abbrev pub MovesNothing : Line → Type 0
MovesNothing i = (from : Spot) × (to : Spot) × IsSelfMove i from to

-- The part names what it should; but a move from a location to itself has no words.
pub data IsNamedOrEmpty (Named : List Piece → Type 0) (i : Line) : List Piece → Type 0 where
  moves_nothing : MovesNothing i → IsNamedOrEmpty Named i []
  names : {part : List Piece} → (MovesNothing i → ⊥) → Named part → IsNamedOrEmpty Named i part

abbrev pub CarriesRegisters : Line → List Piece → Type 0
CarriesRegisters i part = IsNamedOrEmpty (NamesRegisters i) i part

abbrev pub CarriesSlots : FrameLayout → (traps : ℕ) → Line → List Piece → Type 0
CarriesSlots f traps i part = IsNamedOrEmpty (NamesSlots f traps i) i part

-- what the return address of a line follows: a call, or the ECALL of an allocation or a frame call
pub data ReturnsAfter : LinOp → Piece → Type 0 where
  after_call : {whom : Callee} {result : Ret} {name : List ℕ} →
      ReturnsAfter (lin.Op (op.Calling (calling.Call whom result))) (piece.Call name)
  after_jump : {whom : Callee} {result : Ret} {rs w : ℕ} →
      ReturnsAfter (lin.Op (op.Calling (calling.Call whom result)))
      (piece.Known (instr.Jalr ra rs w))
  after_service : {row : External} {frame : Bool} →
      ReturnsAfter (lin.Op (op.Calling (calling.External row frame))) (piece.Known instr.Ecall)
  after_allocation : {blocks : List NewBlock} →
      ReturnsAfter (lin.Op (op.Access (access.Alloc blocks))) (piece.Known instr.Ecall)

-- what leaves a return address: a call, or an ECALL
abbrev pub comes_back : Piece → Bool
comes_back (piece.Call name) = true
comes_back (piece.Known (instr.Jal rd offset)) = nat_eq rd ra
comes_back (piece.Known (instr.Jalr rd rs w)) = nat_eq rd ra
comes_back (piece.Known instr.Ecall) = true
comes_back _ = false

abbrev pub some_comes_back : List Piece → Bool
some_comes_back [] = false
some_comes_back (p ∷ ps) = comes_back p || some_comes_back ps

-- The descriptor of a frame point that is no tail call is right after its one call. It is the
-- first of those that are left; then these are left.
pub data IsMarked (f : LinOp) : Bool → List Descr → List Descr → List Piece → Type 0 where
  no_mark : {ds : List Descr} {part : List Piece} → marks_in part ≡ [] →
      IsMarked f false ds ds part
  one_mark : {d : Descr} {ds : List Descr} {p : Piece} (before rest : List Piece) →
      ReturnsAfter f p → marks_in before ≡ [] → marks_in rest ≡ [] →
      some_comes_back before ≡ false → some_comes_back rest ≡ false →
      IsMarked f true (d ∷ ds) ds (before ++ p ∷ piece.Descriptor d ∷ rest)

-- The part of a line, before this code.
pub record IsPartOf (m : Lin) (ds left : List Descr) (i : Line) (next : List Line)
    (part : List Piece) : Type 0 where
  pub registers : CarriesRegisters i part
  pub slots : (tries : List ℕ) → Traps m (i ∷ next) tries →
      CarriesSlots (frame_of m) (length tries) i part
  pub mark : IsMarked i.op (passes_frame i.op) ds left part
  -- what is after the branch of a bound test leaves the part for good
  pub raises : RaisesBehind i.op part

-- ---- whole

pub data AreParts (m : Lin) : List Descr → List Line → List Piece → Type 0 where
  no_line : AreParts m [] [] []
  a_line : {ds left : List Descr} {i : Line} {next : List Line} {part rest : List Piece} →
      IsPartOf m ds left i next part → AreParts m left next rest →
      AreParts m ds (i ∷ next) (part ++ rest)

-- The pieces are laid out as the function, with these descriptors: its entry, and then the parts.
pub record IsLaidOutAs (m : Lin) (ds : List Descr) (p : Pieces) : Type 0 where
  pub frame : p.frame ≡ frame_bytes m
  pub lines : List Piece
  pub code : p.code ≡ entry_pieces (frame_of m) ++ lines
  pub parts : AreParts m ds m.code lines
