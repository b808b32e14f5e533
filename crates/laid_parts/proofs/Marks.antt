-- The descriptor of a frame point is right after its call.
use Rattle.std.proofs.Common.{◌≡◌, ℕ, suc, ◌+◌, ◌*◌, Bool, true, false, cond, List, [], ◌∷◌, ◌++◌, length, append_assoc, refl, sym, subst, ◌∙◌, ap, arith, Some}
use Rattle.mach_ir.specs.Blocks.{total_block_bytes}
use Rattle.mach_ir.specs.declared.op.Access.TheVariants as access
use Rattle.mach_ir.specs.declared.op.Callee.TheVariants as callee
use Rattle.mach_ir.specs.declared.op.Calling.TheVariants as calling
use Rattle.mach_ir.specs.declared.op.Op.TheVariants as op
use Rattle.lin_ir.specs.Meaning.{passes_frame}
use Rattle.lin_ir.specs.declared.descr.Descr.{Descr}
use Rattle.lin_ir.specs.declared.lin.LinOp.{LinOp}
use Rattle.lin_ir.specs.declared.lin.LinOp.TheVariants as lin
use Rattle.lin_ir.specs.declared.lin.Line.{Line}
use Rattle.lin_ir.specs.declared.lin.Spot.{Spot}
use Rattle.rv_isa.specs.declared.instr.Condition.TheVariants as condition
use Rattle.rv_isa.specs.declared.instr.LoadWidth.TheVariants as loads
use Rattle.rv_isa.specs.declared.register.Register.TheVariants.{T0, T1, T2, S10, S11}
use Rattle.rv_pieces.specs.Named.{marks_in}
use Rattle.rv_pieces.specs.declared.piece.Piece.{Piece}
use Rattle.rv_pieces.specs.declared.piece.Piece.TheVariants as piece
use Rattle.rv_emit_rules.specs.Calls.{external_service}
use Rattle.rv_emit_rules.specs.Constants.{constant_pieces, bytes_taken_off}
use Rattle.rv_emit_rules.specs.Emitted.{part_of_line, descriptor, left_after}
use Rattle.rv_emit_rules.specs.Entry.{FrameLayout}
use Rattle.rv_emit_rules.specs.Instructions.{load_piece, skip, calls_at, ecall}
use Rattle.rv_emit_rules.specs.Memory.{allocation_service, ask, reserved, addresses}
use Rattle.rv_emit_rules.specs.Slots.{first_location, register_of, fetch_pieces}
use Rattle.rv_emit_rules.proofs.Descriptors.{marks-join, part-unmarked, nil-first, nil-second}
use Rattle.laid_parts.specs.Laid.{ReturnsAfter, after_call, after_jump, after_service, after_allocation, some_comes_back, IsMarked, no_mark, one_mark}
use Rattle.laid_parts.proofs.Calls.{GoOn, goes_on, all_on, constant_on, fetched-on, lowered-on, addresses-on}

placed : (xs : List Piece) (p q : Piece) (post : List Piece) → xs ++ p ∷ q ∷ post ≡ ((xs ++ p ∷ []) ++ q ∷ []) ++ post
placed [] p q post = refl
placed (x ∷ xs) p q post = ap (λ (ys : List Piece). x ∷ ys) (placed xs p q post)

placed_last : (xs : List Piece) (p q : Piece) → xs ++ p ∷ q ∷ [] ≡ (xs ++ p ∷ []) ++ q ∷ []
placed_last [] p q = refl
placed_last (x ∷ xs) p q = ap (λ (ys : List Piece). x ∷ ys) (placed_last xs p q)

module _ (g : LinOp) (d : Descr) (ds : List Descr) where
  Marked : List Piece → Type 0
  Marked part = IsMarked g true (d ∷ ds) ds part

  -- what has no mark, with one put between
  marked : (xs : List Piece) (p : Piece) (post : List Piece) → ReturnsAfter g p → some_comes_back xs ≡ false → some_comes_back post ≡ false → marks_in (((xs ++ p ∷ []) ++ []) ++ post) ≡ [] →
      Marked (((xs ++ p ∷ []) ++ piece.Descriptor d ∷ []) ++ post)
  unfolding Marked
  marked xs p post r u v h =
      let j : marks_in ((xs ++ p ∷ []) ++ []) ++ marks_in post ≡ [] = sym (marks-join ((xs ++ p ∷ []) ++ []) post) ∙ h in
      let k : marks_in (xs ++ p ∷ []) ++ [] ≡ [] = sym (marks-join (xs ++ p ∷ []) []) ∙ nil-first (marks_in ((xs ++ p ∷ []) ++ [])) (marks_in post) j in
      let l : marks_in xs ++ marks_in (p ∷ []) ≡ [] = sym (marks-join xs (p ∷ [])) ∙ nil-first (marks_in (xs ++ p ∷ [])) [] k in
      subst (λ (part : List Piece). IsMarked g true (d ∷ ds) ds part) (placed xs p (piece.Descriptor d) post)
      (one_mark xs post r (nil-first (marks_in xs) (marks_in (p ∷ [])) l) (nil-second (marks_in ((xs ++ p ∷ []) ++ [])) (marks_in post) j) u v)

  marked_last : (xs : List Piece) (p : Piece) → ReturnsAfter g p → some_comes_back xs ≡ false → marks_in ((xs ++ p ∷ []) ++ []) ≡ [] →
      Marked ((xs ++ p ∷ []) ++ piece.Descriptor d ∷ [])
  unfolding Marked
  marked_last xs p r u h =
      let k : marks_in (xs ++ p ∷ []) ++ [] ≡ [] = sym (marks-join (xs ++ p ∷ []) []) ∙ h in
      let l : marks_in xs ++ marks_in (p ∷ []) ≡ [] = sym (marks-join xs (p ∷ [])) ∙ nil-first (marks_in (xs ++ p ∷ [])) [] k in
      subst (λ (part : List Piece). IsMarked g true (d ∷ ds) ds part) (placed_last xs p (piece.Descriptor d))
      (one_mark xs [] r (nil-first (marks_in xs) (marks_in (p ∷ [])) l) refl u refl)

-- an allocation asks last
before_ask : (bytes : ℕ) → List Piece
before_ask bytes =
    bytes_taken_off T1 S10 bytes
    ++ load_piece loads.Ld T1 S11 0 ∷ skip condition.Bgeu S10 T1 (4 * (1 + length (ask bytes)))
    ∷ (constant_pieces T0 bytes ++ constant_pieces T2 allocation_service)

asks_last : (bytes : ℕ) → before_ask bytes ++ ecall ∷ [] ≡ reserved bytes
unfolding before_ask
asks_last bytes =
    append_assoc (bytes_taken_off T1 S10 bytes)
    (load_piece loads.Ld T1 S11 0 ∷ skip condition.Bgeu S10 T1 (4 * (1 + length (ask bytes))) ∷ (constant_pieces T0 bytes ++ constant_pieces T2 allocation_service))
    (ecall ∷ [])

before_ask-on : (bytes : ℕ) → GoOn (before_ask bytes)
unfolding before_ask
before_ask-on bytes =
    all_on {ys = load_piece loads.Ld T1 S11 0 ∷ skip condition.Bgeu S10 T1 (4 * (1 + length (ask bytes))) ∷ (constant_pieces T0 bytes ++ constant_pieces T2 allocation_service)}
    (lowered-on bytes) (goes_on (all_on (constant_on T0 bytes) (constant_on T2 allocation_service)).none)

marked_part : (t : ℕ) (f : FrameLayout) (d : Descr) (ds : List Descr) (g : LinOp) (args results : List Spot) → passes_frame g ≡ true →
    IsMarked g true (d ∷ ds) ds (part_of_line t f (Some d) (record { op = g; args = args; results = results }))
unfolding Marked
marked_part t f d ds (lin.Flow g) args results h = cc
marked_part t f d ds (lin.Op (op.Pure g)) args results h = cc
marked_part t f d ds (lin.Op (op.Leaving g)) args results h = cc
marked_part t f d ds (lin.Op (op.Access (access.Load k offset))) args results h = cc
marked_part t f d ds (lin.Op (op.Access (access.Store k offset))) args results h = cc
marked_part t f d ds (lin.Op (op.Access (access.Alloc blocks))) args results h =
    let g = lin.Op (op.Access (access.Alloc blocks)) in
    let e = asks_last (total_block_bytes blocks) in
    let none : marks_in ((reserved (total_block_bytes blocks) ++ []) ++ addresses t blocks results) ≡ []
    = part-unmarked t f (record { op = g; args = args; results = results }) in
    subst (λ (xs : List Piece). IsMarked g true (d ∷ ds) ds ((xs ++ piece.Descriptor d ∷ []) ++ addresses t blocks results)) e
    (marked g d ds (before_ask (total_block_bytes blocks)) ecall (addresses t blocks results) after_allocation
    (before_ask-on (total_block_bytes blocks)).none (addresses-on t blocks results).none
    (subst (λ (xs : List Piece). marks_in ((xs ++ []) ++ addresses t blocks results) ≡ []) (sym e) none))
marked_part t f d ds (lin.Op (op.Calling (calling.Call (callee.Symbol name) result))) args results h =
    marked_last (lin.Op (op.Calling (calling.Call (callee.Symbol name) result))) d ds [] (piece.Call name) after_call refl refl
marked_part t f d ds (lin.Op (op.Calling (calling.Call callee.Register result))) args results h =
    let g = lin.Op (op.Calling (calling.Call callee.Register result)) in
    marked_last g d ds (fetch_pieces t T1 (first_location args)) (calls_at (register_of T1 (first_location args))) after_jump (fetched-on t T1 (first_location args)).none
    (part-unmarked t f (record { op = g; args = args; results = results }))
marked_part t f d ds (lin.Op (op.Calling (calling.TailCall whom result))) args results h = cc
marked_part t f d ds (lin.Op (op.Calling (calling.External row frame))) args results h =
    let g = lin.Op (op.Calling (calling.External row frame)) in
    marked_last g d ds (piece.ExternalNumber T0 row ∷ constant_pieces T2 (external_service frame)) ecall after_service (constant_on T2 (external_service frame)).none
    (part-unmarked t f (record { op = g; args = args; results = results }))

-- of the descriptors that are left, of which there are enough
pub line_marked : (t : ℕ) (f : FrameLayout) (i : Line) (n : ℕ) (b : Bool) → passes_frame i.op ≡ b → (ds : List Descr) → length ds ≡ cond b (suc n) n →
    IsMarked i.op b ds (left_after b ds) (part_of_line t f (descriptor b ds) i)
line_marked t f i n true p [] e = absurd (omega arith)
line_marked t f i n true p (d ∷ ds) e = marked_part t f d ds i.op i.args i.results p
line_marked t f i n false p ds e = no_mark (part-unmarked t f i)

pub left_length : (n : ℕ) (b : Bool) (ds : List Descr) → length ds ≡ cond b (suc n) n → length (left_after b ds) ≡ n
left_length n true [] e = absurd (omega arith)
left_length n true (d ∷ ds) e = omega arith
left_length n false ds e = e
