-- The descriptors are among the pieces as they are handed in, in their order.
use Rattle.std.proofs.Common.{◌≡◌, ℕ, suc, Bool, true, false, cond, List, [], ◌∷◌, ◌++◌, length, Some, None, refl, sym, ◌∙◌, ap, append_assoc, arith}
use Rattle.std.proofs.lemmas.Bool.{true≢false}
use Rattle.mach_ir.specs.Blocks.{total_block_bytes}
use Rattle.mach_ir.specs.declared.op.Access.TheVariants as access
use Rattle.mach_ir.specs.declared.op.Calling.TheVariants as calling
use Rattle.mach_ir.specs.declared.op.Op.TheVariants as op
use Rattle.lin_ir.specs.Meaning.{passes_frame}
use Rattle.lin_ir.specs.declared.descr.Descr.{Descr}
use Rattle.lin_ir.specs.declared.lin.Line.{Line}
use Rattle.lin_ir.specs.declared.lin.Lin.{Lin}
use Rattle.lin_ir.specs.declared.lin.LinOp.{LinOp}
use Rattle.lin_ir.specs.declared.lin.LinOp.TheVariants as lin
use Rattle.lin_ir.specs.declared.lin.Spot.{Spot}
use Rattle.rv_pieces.specs.declared.piece.Piece.{Piece}
use Rattle.rv_pieces.specs.declared.piece.Piece.TheVariants as piece
use Rattle.rv_emit_rules.specs.Calls.{call_words, external_words}
use Rattle.rv_emit_rules.specs.Emitted.{part_of_line, part_before, parts_of_lines, descriptor, left_after, emitted}
use Rattle.rv_emit_rules.specs.Entry.{FrameLayout, frame_of, entry_pieces}
use Rattle.rv_emit_rules.specs.Memory.{reserved, addresses}
use Rattle.rv_pieces.specs.Named.{mark_in, marks_in}
use Rattle.lin_ir.specs.Descriptors.{frame_point_count}
use Rattle.rv_emit_rules.specs.Traversal.{EachPiece, each_none, each_more, Allows}
use Rattle.rv_emit_rules.proofs.Traverse.{entry-in, part-in, before-in}
use Rattle.rv_emit_rules.proofs.Units.{free_passes_no_frame, part_by}

abbrev pub NoMark : Piece → Type 0
NoMark p = mark_in p ≡ []

pub no-marks : {ps : List Piece} → EachPiece NoMark ps → marks_in ps ≡ []
no-marks each_none = refl
no-marks (each_more {p} {ps} h hs) = rw h (no-marks hs)

pub marks-join : (xs ys : List Piece) → marks_in (xs ++ ys) ≡ marks_in xs ++ marks_in ys
marks-join [] ys = refl
marks-join (x ∷ xs) ys = ap (λ (t : List Descr). mark_in x ++ t) (marks-join xs ys) ∙ sym (append_assoc (mark_in x) (marks_in xs) (marks_in ys))

pub allows-unmarked : (f : LinOp) → Allows NoMark f None
allows-unmarked f = record {
  known = λ j h. refl;
  place = λ l is. refl;
  branch = λ l n c a b. refl;
  jump = λ l n. refl;
  row = λ l n. refl;
  address = λ l n r. refl;
  call = λ name n. refl;
  tail_call = λ name n. refl;
  symbol = λ name n r. refl;
  external = λ row frame e r. refl;
  mark = λ e is. cc;
}

-- with no descriptor a part has no mark
pub part-unmarked : (t : ℕ) (f : FrameLayout) (i : Line) → marks_in (part_of_line t f None i) ≡ []
part-unmarked t f i = no-marks (part-in NoMark None t f i (allows-unmarked i.op))

pub nil-first : {A : Type 0} (xs ys : List A) → xs ++ ys ≡ [] → xs ≡ []
nil-first [] ys e = refl
nil-first (x ∷ xs) ys e = cc

pub nil-second : {A : Type 0} (xs ys : List A) → xs ++ ys ≡ [] → ys ≡ []
nil-second [] ys e = e
nil-second (x ∷ xs) ys e = cc

-- what has no mark has one mark where one is put between
one-mark : (pre post : List Piece) (e : Descr) → marks_in ((pre ++ []) ++ post) ≡ [] → marks_in ((pre ++ piece.Descriptor e ∷ []) ++ post) ≡ e ∷ []
one-mark pre post e h =
    let j : marks_in (pre ++ []) ++ marks_in post ≡ [] = sym (marks-join (pre ++ []) post) ∙ h in
    let k : marks_in pre ++ [] ≡ [] = sym (marks-join pre []) ∙ nil-first (marks_in (pre ++ [])) (marks_in post) j in
    let a : marks_in pre ≡ [] = nil-first (marks_in pre) [] k in
    let b : marks_in post ≡ [] = nil-second (marks_in (pre ++ [])) (marks_in post) j in
    marks-join (pre ++ piece.Descriptor e ∷ []) post ∙ ap (λ (x : List Descr). x ++ marks_in post) (marks-join pre (piece.Descriptor e ∷ []))
    ∙ ap (λ (x : List Descr). (x ++ e ∷ []) ++ marks_in post) a ∙ ap (λ (x : List Descr). e ∷ x) b

one-last : (pre : List Piece) (e : Descr) → marks_in (pre ++ []) ≡ [] → marks_in (pre ++ piece.Descriptor e ∷ []) ≡ e ∷ []
one-last pre e h =
    let a : marks_in pre ≡ [] = nil-first (marks_in pre) [] (sym (marks-join pre []) ∙ h) in
    marks-join pre (piece.Descriptor e ∷ []) ∙ ap (λ (x : List Descr). x ++ e ∷ []) a

-- the part of a frame point has the mark of its descriptor
part-marked : (t : ℕ) (f : FrameLayout) (e : Descr) (g : LinOp) (args results : List Spot) → passes_frame g ≡ true →
    marks_in (part_of_line t f (Some e) (record { op = g; args = args; results = results })) ≡ e ∷ []
part-marked t f e (lin.Flow g) args results h = cc
part-marked t f e (lin.Op (op.Pure g)) args results h = cc
part-marked t f e (lin.Op (op.Leaving g)) args results h = cc
part-marked t f e (lin.Op (op.Access (access.Load k offset))) args results h = cc
part-marked t f e (lin.Op (op.Access (access.Store k offset))) args results h = cc
part-marked t f e (lin.Op (op.Access (access.Alloc blocks))) args results h =
    one-mark (reserved (total_block_bytes blocks)) (addresses t blocks results) e (part-unmarked t f (record {
      op = lin.Op (op.Access (access.Alloc blocks));
      args =
          args;
      results = results;
    }))
part-marked t f e (lin.Op (op.Calling (calling.Call whom result))) args results h =
    one-last (call_words t whom args) e (part-unmarked t f (record { op = lin.Op (op.Calling (calling.Call whom result)); args = args; results = results }))
part-marked t f e (lin.Op (op.Calling (calling.TailCall whom result))) args results h = cc
part-marked t f e (lin.Op (op.Calling (calling.External row frame))) args results h =
    one-last (external_words row frame) e (part-unmarked t f (record { op = lin.Op (op.Calling (calling.External row frame)); args = args; results = results }))

-- a frame point is no exit, and has its words
before-marked : (t : ℕ) (f : FrameLayout) (e : Descr) (i : Line) (next : List Line) → passes_frame i.op ≡ true →
    marks_in (part_before t f (Some e) i next) ≡ e ∷ []
before-marked t f e i next h =
    part_by t f (Some e) i next (λ ps. marks_in ps ≡ e ∷ []) (λ free. absurd (true≢false (sym h ∙ free_passes_no_frame i.op next free)))
    (λ free. part-marked t f e i.op i.args i.results h)

before-unmarked : (t : ℕ) (f : FrameLayout) (i : Line) (next : List Line) → marks_in (part_before t f None i next) ≡ []
before-unmarked t f i next = no-marks (before-in NoMark None t f i next (allows-unmarked i.op))

module _ (f : FrameLayout) (traps : ℕ → ℕ) where
  marks-by : (i : Line) (next : List Line) (b : Bool) → passes_frame i.op ≡ b → ((ds : List Descr) → length ds ≡ frame_point_count next →
      marks_in (parts_of_lines traps f ds next) ≡ ds) →
      (ds : List Descr) → length ds ≡ cond b (suc (frame_point_count next)) (frame_point_count next) →
      marks_in (part_before (traps (length next)) f (descriptor b ds) i next ++ parts_of_lines traps f (left_after b ds) next) ≡ ds
  marks-by i next true p rest [] e = absurd (omega arith)
  marks-by i next true p rest (d ∷ ds) e =
      marks-join (part_before (traps (length next)) f (Some d) i next) (parts_of_lines traps f ds next)
      ∙ ap (λ (x : List Descr). x ++ marks_in (parts_of_lines traps f ds next)) (before-marked (traps (length next)) f d i next p)
      ∙ ap (λ (x : List Descr). d ∷ x) (rest ds (omega arith))
  marks-by i next false p rest ds e =
      marks-join (part_before (traps (length next)) f None i next) (parts_of_lines traps f ds next)
      ∙ ap (λ (x : List Descr). x ++ marks_in (parts_of_lines traps f ds next)) (before-unmarked (traps (length next)) f i next)
      ∙ rest ds e

  parts-marks : (is : List Line) (ds : List Descr) → length ds ≡ frame_point_count is → marks_in (parts_of_lines traps f ds is) ≡ ds
  parts-marks [] [] e = refl
  parts-marks [] (d ∷ ds) e = absurd (omega arith)
  parts-marks (i ∷ next) ds e = marks-by i next (passes_frame i.op) refl (parts-marks next) ds e

-- a descriptor for each frame point: they are carried unchanged
pub descriptors_are_carried : (m : Lin) (traps : ℕ → ℕ) (ds : List Descr) → length ds ≡ frame_point_count m.code → marks_in (emitted m traps ds).code ≡ ds
descriptors_are_carried m traps ds e =
    marks-join (entry_pieces (frame_of m)) (parts_of_lines traps (frame_of m) ds m.code)
    ∙ ap (λ (x : List Descr). x ++ marks_in (parts_of_lines traps (frame_of m) ds m.code)) (no-marks (entry-in NoMark (λ j h. refl) (frame_of m)))
    ∙ parts-marks (frame_of m) traps m.code ds e
