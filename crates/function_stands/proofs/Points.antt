-- What is known of the lines of a function besides their words.
use Rattle.std.proofs.Common.{◌≡◌, ℕ, ◌+◌, ◌<◌, Bool, false, cond, List, [], ◌∷◌, ◌++◌, length, Option, None, refl, sym, ap, ◌∙◌, subst, arith}
use Rattle.std.specs.List.{AllByRecursion}
use Rattle.std.proofs.lemmas.Bool.{eq-eqb}
use Rattle.rv_emit_rules.specs.Emitted.{descriptor, part_before, part_of_line, parts_of_lines}
use Rattle.rv_emit_rules.specs.Entry.{FrameLayout}
use Rattle.rv_emit_rules.specs.Traversal.{Allows, EachPiece, each_more}
use Rattle.rv_emit_rules.specs.Units.{is_free_exit}
use Rattle.rv_emit_rules.proofs.Traverse.{part-in}
use Rattle.rv_emit_rules.proofs.Units.{part_unless_free}
use Rattle.rv_layout_rules.specs.declared.form.Form.{Form}
use Rattle.rv_layout_rules.specs.Forms.{total_words, piece_words}
use Rattle.lin_ir.specs.Meaning.{passes_frame}
use Rattle.lin_ir.specs.Walks.{StandsAsLine, here, below}
use Rattle.lin_ir.specs.declared.descr.Descr.{Descr}
use Rattle.lin_ir.specs.declared.lin.Line.{Line}
use Rattle.lin_ir.specs.declared.lin.LinOp.{LinOp}
use Rattle.lin_ir.specs.declared.lin.LinOp.TheVariants as lin
use Rattle.line_calls.specs.Points.{AreMarked, IsDescriptorFound}
use Rattle.lin_machine.specs.View.{Fixed}
use Rattle.linearise_rules.proofs.Homes.{IsIn, is_first, is_later}
use Rattle.mach_ir.specs.declared.op.Calling.TheVariants as calling
use Rattle.mach_ir.specs.declared.op.External.{External}
use Rattle.mach_ir.specs.declared.op.Op.TheVariants as op
use Rattle.rv_isa.specs.declared.register.Register.TheVariants.{T0}
use Rattle.rv_pieces.specs.declared.piece.Piece.{Piece}
use Rattle.rv_pieces.specs.declared.piece.Piece.TheVariants.{Known, Label, Branch, Jump, Row, LabelAddress, Call, TailCall, SymbolAddress, ExternalNumber, Descriptor}
use Rattle.lin_tidy_rules.proofs.TurningShape.{not_same}
use Rattle.function_stands.proofs.Parts.{AreFound, IsFound, descriptor_of, left_in, part_in, shorter}

-- ---- marks

module _ (s : Fixed) where
  mark_one : (at : ℕ) (p : Piece) → IsFound s.image at p → at < length s.image.code → IsDescriptorFound s at p
  mark_one at (Descriptor d) found h = (found, h)
  mark_one at (Known i) found h = tt
  mark_one at (Label l) found h = tt
  mark_one at (Branch c a b l) found h = tt
  mark_one at (Jump l) found h = tt
  mark_one at (Row l) found h = tt
  mark_one at (LabelAddress r l) found h = tt
  mark_one at (Call name) found h = tt
  mark_one at (TailCall name) found h = tt
  mark_one at (SymbolAddress r name) found h = tt
  mark_one at (ExternalNumber r row) found h = tt

  -- where the pieces end before the code does
  pub found_marked : (at : ℕ) (ps : List Piece) (fs : List Form) → AreFound s.image at ps fs → at + total_words ps fs < length s.image.code → AreMarked s at ps fs
  found_marked at [] fs found h = tt
  found_marked at (p ∷ ps) [] found h = tt
  found_marked at (p ∷ ps) (f ∷ fs) found h =
      (mark_one at p found.0 (omega (arith, h)), found_marked (at + piece_words p f) ps fs found.1 (omega (arith, h)))

  -- and where there is none
  abbrev Unmarked : Piece → Type 0
  Unmarked p = (at : ℕ) → IsDescriptorFound s at p

  pub each_marked : (at : ℕ) (ps : List Piece) (fs : List Form) → EachPiece Unmarked ps → AreMarked s at ps fs
  each_marked at [] fs each = tt
  each_marked at (p ∷ ps) [] each = tt
  each_marked at (p ∷ ps) (f ∷ fs) (each_more h each) = (h at, each_marked (at + piece_words p f) ps fs each)

  allows_unmarked : (f : LinOp) → Allows Unmarked f None
  allows_unmarked f = record {
    known = λ j h at. tt;
    place = λ l is at. tt;
    branch = λ l n c a b at. tt;
    jump = λ l n at. tt;
    row = λ l n at. tt;
    address = λ l n r at. tt;
    call = λ name n at. tt;
    tail_call = λ name n at. tt;
    symbol = λ name n r at. tt;
    external = λ row frame e r at. tt;
    mark = λ e is at. cc;
  }

  pub none_marked : (t : ℕ) (f : FrameLayout) (i : Line) (at : ℕ) (fs : List Form) → AreMarked s at (part_of_line t f None i) fs
  none_marked t f i at fs = each_marked at (part_of_line t f None i) fs (part-in Unmarked None t f i (allows_unmarked i.op))

-- a line that is no frame point has no descriptor
pub no_descriptor : {i : Line} {next : List Line} (ds : List Descr) (code : List Line) → StandsAsLine i next code → passes_frame i.op ≡ false →
    descriptor_of ds code (length next) ≡ None
no_descriptor ds [] stands none = elim stands [ ]
no_descriptor ds (i ∷ next) here none =
    ap (λ b. cond b (descriptor (passes_frame i.op) ds) (descriptor_of (left_in ds i) next (length next))) (eq-eqb (length next) (length next) refl)
    ∙ ap (λ b. descriptor b ds) none
no_descriptor {next = next} ds (j ∷ js) (below stands) none =
    ap (λ b. cond b (descriptor (passes_frame j.op) ds) (descriptor_of (left_in ds j) js (length next))) (not_same (length js) (length next) (shorter stands))
    ∙ no_descriptor (left_in ds j) js stands none

-- ---- pieces by their lines

all_right : (P : Piece → Type 0) (xs ys : List Piece) → AllByRecursion P (xs ++ ys) → AllByRecursion P ys
all_right P [] ys all = all
all_right P (x ∷ xs) ys all = all_right P xs ys all.1

all_left : (P : Piece → Type 0) (xs ys : List Piece) → AllByRecursion P (xs ++ ys) → AllByRecursion P xs
all_left P [] ys all = tt
all_left P (x ∷ xs) ys all = (all.0, all_left P xs ys all.1)

-- what holds of all pieces holds of those of each part
record InPart (P : Piece → Type 0) (f : FrameLayout) (i : Line) : Type 0 where
  traps : ℕ
  descr : Option Descr
  next : List Line
  all : AllByRecursion P (part_before traps f descr i next)

in_part : (P : Piece → Type 0) (traps : ℕ → ℕ) (f : FrameLayout) (ds : List Descr) (code : List Line) (i : Line) → AllByRecursion P (parts_of_lines traps f ds code) →
    IsIn i code → InPart P f i
in_part P traps f ds [] i all z = elim z [ ]
in_part P traps f ds (j ∷ js) j' all is_first = record {
  traps = traps (length js);
  descr = descriptor (passes_frame j.op) ds;
  next = js;
  all = all_left P (part_in traps f ds j js) (parts_of_lines traps f (left_in ds j) js) all;
}
in_part P traps f ds (j ∷ js) i all (is_later z) =
    in_part P traps f (left_in ds j) js i (all_right P (part_in traps f ds j js) (parts_of_lines traps f (left_in ds j) js) all) z

external_first : (P : Piece → Type 0) (t : ℕ) (f : FrameLayout) (d : Option Descr) (row : External) (frame : Bool) (g : LinOp) (args results : List _) →
    g ≡ lin.Op (op.Calling (calling.External row frame)) → AllByRecursion P (part_of_line t f d (record { op = g; args = args; results = results })) →
    P (ExternalNumber T0 row)
external_first P t f d row frame g args results e all =
    (subst (λ g. AllByRecursion P (part_of_line t f d (record { op = g; args = args; results = results }))) e all).0

-- what holds of all pieces holds of that which names an external call
pub external_in : (P : Piece → Type 0) (traps : ℕ → ℕ) (f : FrameLayout) (pre : List Piece) (ds : List Descr) (code : List Line) (i : Line) (row : External)
    (frame : Bool) → AllByRecursion P (pre ++ parts_of_lines traps f ds code) → IsIn i code → i.op ≡ lin.Op (op.Calling (calling.External row frame)) →
    P (ExternalNumber T0 row)
external_in P traps f pre ds code i row frame all z e =
    let it = in_part P traps f ds code i (all_right P pre (parts_of_lines traps f ds code) all) z in
    external_first P it.traps f it.descr row frame i.op i.args i.results e
    (subst (AllByRecursion P) (part_unless_free it.traps f it.descr i it.next (subst (λ g. is_free_exit g it.next ≡ false) (sym e) refl)) it.all)
