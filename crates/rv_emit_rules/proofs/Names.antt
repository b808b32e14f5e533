-- The pieces of a function: their numbers fit, they name what the function names, and each place and each descriptor comes
-- in them once.
use Rattle.std.proofs.Common.{◌≡◌, ℕ, List, [], ◌∷◌, ◌++◌, length, Option, Some, refl, sym, ◌∙◌, ap, subst, append_assoc, arith, Contains}
use Rattle.std.proofs.lemmas.List.Elements.{Contains-append_right}
use Rattle.mach_ir.specs.Keeps.{NamesSymbol}
use Rattle.mach_ir.specs.declared.op.External.{External}
use Rattle.lin_ir.specs.Formed.{NamesLabel, label_of, labels_in, WellFormed}
use Rattle.lin_ir.specs.Keeps.{IsNamedIn}
use Rattle.lin_ir.specs.Meaning.{passes_frame}
use Rattle.lin_ir.specs.Walks.{StandsAsLine, here, below}
use Rattle.lin_ir.specs.declared.descr.Descr.{Descr}
use Rattle.lin_ir.specs.declared.lin.Flow.TheVariants as flow
use Rattle.lin_ir.specs.declared.lin.Line.{Line}
use Rattle.lin_ir.specs.declared.lin.Lin.{Lin}
use Rattle.lin_ir.specs.declared.lin.LinOp.{LinOp}
use Rattle.lin_ir.specs.declared.lin.LinOp.TheVariants as lin
use Rattle.lin_ir.specs.declared.lin.Spot.{Spot}
use Rattle.rv_isa.specs.Encoding.{InstrFits}
use Rattle.rv_isa.specs.declared.instr.Instr.{Instr}
use Rattle.rv_pieces.specs.declared.piece.Piece.{Piece}
use Rattle.rv_pieces.specs.declared.piece.Piece.TheVariants as piece
use Rattle.rv_emit_rules.specs.Entry.{FrameLayout, frame_of, entry_pieces}
use Rattle.rv_emit_rules.specs.Emitted.{part_of_line, part_before, parts_of_lines, descriptor, left_after, emitted}
use Rattle.rv_pieces.specs.Named.{PieceFits, label_named, symbol_named, external_named, labels_of_piece, places_in}
use Rattle.rv_emit_rules.specs.Named.{IsLabelOf, IsExternalOf}
use Rattle.rv_emit_rules.specs.Traversal.{EachPiece, each_none, each_more, LineNamesSymbol, Allows}
use Rattle.rv_emit_rules.proofs.Units.{part_by, free_has_no_label}
use Rattle.rv_emit_rules.proofs.Traverse.{join, entry-in, part-in, before-in}

-- ---- all lines

module _ (P : Piece → Type 0) (f : FrameLayout) (traps : ℕ → ℕ) where
  -- what each line allows holds of each piece of its part
  pub parts-in : (is : List Line) (ds : List Descr) → ((i : Line) (next : List Line) → StandsAsLine i next is → (d : Option Descr) → Allows P i.op d) →
      EachPiece P (parts_of_lines traps f ds is)
  parts-in [] ds all = each_none
  parts-in (i ∷ next) ds all =
      join (before-in P (descriptor (passes_frame i.op) ds) (traps (length next)) f i next (all i next here (descriptor (passes_frame i.op) ds)))
      (parts-in next (left_after (passes_frame i.op) ds) (λ j after s d. all j after (below s) d))

pub emitted-in : (P : Piece → Type 0) (m : Lin) (traps : ℕ → ℕ) (ds : List Descr) → ((j : Instr) → InstrFits j → P (piece.Known j)) →
    ((i : Line) (next : List Line) → StandsAsLine i next m.code → (d : Option Descr) → Allows P i.op d) → EachPiece P (emitted m traps ds).code
emitted-in P m traps ds known all = join (entry-in P known (frame_of m)) (parts-in P (frame_of m) traps m.code ds all)

pub stands-contains : {i : Line} {next : List Line} (code : List Line) → StandsAsLine i next code → Contains code i
stands-contains {i} [] s = elim s [ ]
stands-contains {i} (j ∷ is) here = (0, omega arith, refl)
stands-contains {i} (j ∷ is) (below s) = Contains-append_right (j ∷ []) is i (stands-contains is s)

-- ---- numbers

-- the numbers of each instruction fit their fields
pub numbers_fit : (m : Lin) (traps : ℕ → ℕ) (ds : List Descr) → EachPiece PieceFits (emitted m traps ds).code
numbers_fit m traps ds = emitted-in PieceFits m traps ds (λ j h. h) (λ i next s d. record {
  known = λ j h. h;
  place = λ l e. tt;
  branch = λ l n c a b. tt;
  jump = λ l n. tt;
  row = λ l n. tt;
  address = λ l n r. tt;
  call = λ name n. tt;
  tail_call = λ name n. tt;
  symbol = λ name n r. tt;
  external = λ row frame e r. tt;
  mark = λ e is. tt;
})

-- ---- labels

abbrev LabelIn : Lin → Piece → Type 0
LabelIn m p = (l : ℕ) → label_named p ≡ Some l → IsLabelOf m l

label-is : (m : Lin) (k l : ℕ) → IsLabelOf m k → Some k ≡ Some l → IsLabelOf m l
label-is m k l is e = let same : k ≡ l = cc in let Q : ℕ → Type 0 = λ n. IsLabelOf m n in subst Q same is

-- each label that a piece names is one that a line names
pub labels_are_named : (m : Lin) (traps : ℕ → ℕ) (ds : List Descr) → EachPiece (LabelIn m) (emitted m traps ds).code
labels_are_named m traps ds = emitted-in (LabelIn m) m traps ds (λ j h l e. cc) (λ i next s d.
    let of : (k : ℕ) → NamesLabel k i.op → (l : ℕ) → Some k ≡ Some l → IsLabelOf m l =
    λ k n l e. label-is m k l (record { line = i; next = next; stands = s; named = n }) e in
    record {
      known = λ j h l e. cc;
      place = λ k is l e. cc;
      branch = λ k n c a b l e. of k n l e;
      jump = λ k n l e. of k n l e;
      row = λ k n l e. of k n l e;
      address = λ k n r l e. of k n l e;
      call = λ name n l e. cc;
      tail_call = λ name n l e. cc;
      symbol = λ name n r l e. cc;
      external = λ row frame is r l e. cc;
      mark = λ x is l e. cc;
    })

-- ---- symbols and external calls

abbrev SymbolIn : Lin → Piece → Type 0
SymbolIn m p = (name : List ℕ) → symbol_named p ≡ Some name → IsNamedIn (NamesSymbol name) m

symbol-is : (m : Lin) (a b : List ℕ) → IsNamedIn (NamesSymbol a) m → Some a ≡ Some b → IsNamedIn (NamesSymbol b) m
symbol-is m a b is e = let same : a ≡ b = cc in let Q : List ℕ → Type 0 = λ n. IsNamedIn (NamesSymbol n) m in subst Q same is

-- each symbol that a piece names is one that the function names
pub symbols_are_named : (m : Lin) (traps : ℕ → ℕ) (ds : List Descr) → EachPiece (SymbolIn m) (emitted m traps ds).code
symbols_are_named m traps ds = emitted-in (SymbolIn m) m traps ds (λ j h l e. cc) (λ i next s d.
    let of : (a : List ℕ) → LineNamesSymbol a i.op → (b : List ℕ) → Some a ≡ Some b → IsNamedIn (NamesSymbol b) m =
    λ a n b e. symbol-is m a b (record { line = i; among = stands-contains m.code s; op = n.op; is = n.is; named = n.named }) e in
    record {
      known = λ j h l e. cc;
      place = λ k is l e. cc;
      branch = λ k n c a b l e. cc;
      jump = λ k n l e. cc;
      row = λ k n l e. cc;
      address = λ k n r l e. cc;
      call = λ name n l e. of name n l e;
      tail_call = λ name n l e. of name n l e;
      symbol = λ name n r l e. of name n l e;
      external = λ row frame is r l e. cc;
      mark = λ x is l e. cc;
    })

abbrev ExternalIn : Lin → Piece → Type 0
ExternalIn m p = (row : External) → external_named p ≡ Some row → IsExternalOf m row

external-is : (m : Lin) (a b : External) → IsExternalOf m a → Some a ≡ Some b → IsExternalOf m b
external-is m a b is e = let same : a ≡ b = cc in let Q : External → Type 0 = λ n. IsExternalOf m n in subst Q same is

-- each external call that a piece names is one of the function, by its row
pub externals_are_named : (m : Lin) (traps : ℕ → ℕ) (ds : List Descr) → EachPiece (ExternalIn m) (emitted m traps ds).code
externals_are_named m traps ds = emitted-in (ExternalIn m) m traps ds (λ j h l e. cc) (λ i next s d. record {
  known = λ j h l e. cc;
  place = λ k is l e. cc;
  branch = λ k n c a b l e. cc;
  jump = λ k n l e. cc;
  row = λ k n l e. cc;
  address = λ k n r l e. cc;
  call = λ name n l e. cc;
  tail_call = λ name n l e. cc;
  symbol = λ name n r l e. cc;
  external = λ row frame is r other e.
      external-is m row other (record { line = i; among = stands-contains m.code s; frame = frame; is = is }) e;
  mark = λ x is l e. cc;
})

-- ---- places of labels

abbrev NoPlace : Piece → Type 0
NoPlace p = labels_of_piece p ≡ []

no-places : {ps : List Piece} → EachPiece NoPlace ps → places_in ps ≡ []
no-places each_none = refl
no-places (each_more {p} {ps} h hs) = rw h (no-places hs)

places-join : (xs ys : List Piece) → places_in (xs ++ ys) ≡ places_in xs ++ places_in ys
places-join [] ys = refl
places-join (x ∷ xs) ys = ap (λ (t : List ℕ). labels_of_piece x ++ t) (places-join xs ys) ∙ sym (append_assoc (labels_of_piece x) (places_in xs) (places_in ys))

allows-none : (f : LinOp) (d : Option Descr) → label_of f ≡ [] → Allows NoPlace f d
allows-none f d none = record {
  known = λ j h. refl;
  place = λ l is. sym (ap label_of is) ∙ none;
  branch = λ l n c a b. refl;
  jump = λ l n. refl;
  row = λ l n. refl;
  address = λ l n r. refl;
  call = λ name n. refl;
  tail_call = λ name n. refl;
  symbol = λ name n r. refl;
  external = λ row frame e r. refl;
  mark = λ e is. refl;
}

places-part : (t : ℕ) (f : FrameLayout) (d : Option Descr) (i : Line) → label_of i.op ≡ [] → places_in (part_of_line t f d i) ≡ label_of i.op
places-part t f d i none = no-places (part-in NoPlace d t f i (allows-none i.op d none)) ∙ sym none

places-of : (t : ℕ) (f : FrameLayout) (d : Option Descr) (g : LinOp) (args results : List Spot) →
    places_in (part_of_line t f d (record { op = g; args = args; results = results })) ≡ label_of g
places-of t f d (lin.Op g) args results = places-part t f d (record { op = lin.Op g; args = args; results = results }) refl
places-of t f d (lin.Flow (flow.Label l)) args results = refl
places-of t f d (lin.Flow (flow.Jump l)) args results = places-part t f d (record { op = lin.Flow (flow.Jump l); args = args; results = results }) refl
places-of t f d (lin.Flow (flow.Exit l)) args results = places-part t f d (record { op = lin.Flow (flow.Exit l); args = args; results = results }) refl
places-of t f d (lin.Flow (flow.Branch b l)) args results = places-part t f d (record { op = lin.Flow (flow.Branch b l); args = args; results = results }) refl
places-of t f d (lin.Flow (flow.Switch ls)) args results = places-part t f d (record { op = lin.Flow (flow.Switch ls); args = args; results = results }) refl
places-of t f d (lin.Flow (flow.PushTrap l)) args results = places-part t f d (record { op = lin.Flow (flow.PushTrap l); args = args; results = results }) refl
places-of t f d (lin.Flow flow.PopTrap) args results = places-part t f d (record { op = lin.Flow flow.PopTrap; args = args; results = results }) refl
places-of t f d (lin.Flow flow.EnterTrap) args results = places-part t f d (record { op = lin.Flow flow.EnterTrap; args = args; results = results }) refl

places-before : (t : ℕ) (f : FrameLayout) (d : Option Descr) (i : Line) (next : List Line) → places_in (part_before t f d i next) ≡ label_of i.op
places-before t f d i next =
    part_by t f d i next (λ ps. places_in ps ≡ label_of i.op) (λ e. sym (free_has_no_label i.op next e)) (λ e. places-of t f d i.op i.args i.results)

places-parts : (f : FrameLayout) (traps : ℕ → ℕ) (ds : List Descr) (is : List Line) → places_in (parts_of_lines traps f ds is) ≡ labels_in is
places-parts f traps ds [] = refl
places-parts f traps ds (i ∷ next) =
    let d : Option Descr = descriptor (passes_frame i.op) ds in
    places-join (part_before (traps (length next)) f d i next) (parts_of_lines traps f (left_after (passes_frame i.op) ds) next)
    ∙ ap (λ (x : List ℕ). x ++ places_in (parts_of_lines traps f (left_after (passes_frame i.op) ds) next)) (places-before (traps (length next)) f d i next)
    ∙ ap (λ (x : List ℕ). label_of i.op ++ x) (places-parts f traps (left_after (passes_frame i.op) ds) next)

-- the places among the pieces are the labels of the lines, in order
pub places_are_labels : (m : Lin) (traps : ℕ → ℕ) (ds : List Descr) → places_in (emitted m traps ds).code ≡ labels_in m.code
places_are_labels m traps ds =
    places-join (entry_pieces (frame_of m)) (parts_of_lines traps (frame_of m) ds m.code)
    ∙ ap (λ (x : List ℕ). x ++ places_in (parts_of_lines traps (frame_of m) ds m.code)) (no-places (entry-in NoPlace (λ j h. refl) (frame_of m)))
    ∙ places-parts (frame_of m) traps ds m.code

-- in a well-formed function each label that a piece names has a place
pub named_labels_stand : (m : Lin) → WellFormed m → (traps : ℕ → ℕ) (ds : List Descr) (l : ℕ) → IsLabelOf m l → Contains (places_in (emitted m traps ds).code) l
named_labels_stand m good traps ds l is =
    let Q : List ℕ → Type 0 = λ ls. Contains ls l in
    subst Q (sym (places_are_labels m traps ds)) (good.named is.line (stands-contains m.code is.stands) l is.named)
