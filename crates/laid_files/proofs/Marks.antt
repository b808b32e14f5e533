-- After the entry of a function and between two of its descriptors there is a word.
use Rattle.std.proofs.Common.{◌≡◌, ℕ, ◌+◌, ◌≤◌, Bool, true, false, List, [], ◌∷◌, ◌++◌, length, Some, None, refl, sym, ◌∙◌, arith}
use Rattle.std.proofs.lemmas.Bool.{true≢false}
use Rattle.std.specs.List.{AllByRecursion}
use Rattle.rv_emit_rules.specs.Calls.{call_words, external_words}
use Rattle.rv_emit_rules.specs.Emitted.{part_of_line, part_before, parts_of_lines, descriptor, left_after, emitted}
use Rattle.rv_emit_rules.specs.Entry.{FrameLayout, frame_of, entry_pieces}
use Rattle.rv_emit_rules.specs.Memory.{reserved, addresses}
use Rattle.rv_emit_rules.specs.Constants.{bytes_taken_off}
use Rattle.rv_emit_rules.specs.Instructions.{load_piece, calls_at}
use Rattle.rv_emit_rules.specs.Slots.{first_location, register_of, fetch_pieces}
use Rattle.rv_emit_rules.specs.Sizes.{least_words, words_at_least}
use Rattle.rv_emit_rules.specs.Traversal.{EachPiece, each_none, each_more}
use Rattle.rv_emit_rules.proofs.Traverse.{entry-in, part-in, before-in}
use Rattle.rv_emit_rules.proofs.Units.{free_passes_no_frame, part_by}
use Rattle.rv_emit_rules.proofs.Descriptors.{allows-unmarked, NoMark}
use Rattle.rv_layout_rules.specs.Conditions.{AreDescriptors, IsDescriptor}
use Rattle.lin_ir.specs.Meaning.{passes_frame}
use Rattle.lin_ir.specs.declared.descr.Descr.{Descr}
use Rattle.lin_ir.specs.declared.lin.Lin.{Lin}
use Rattle.lin_ir.specs.declared.lin.Line.{Line}
use Rattle.lin_ir.specs.declared.lin.LinOp.{LinOp}
use Rattle.lin_ir.specs.declared.lin.LinOp.TheVariants as lin
use Rattle.lin_ir.specs.declared.lin.Spot.{Spot}
use Rattle.mach_ir.specs.Blocks.{total_block_bytes}
use Rattle.mach_ir.specs.declared.op.Access.TheVariants as access
use Rattle.mach_ir.specs.declared.op.Callee.{Callee}
use Rattle.mach_ir.specs.declared.op.Callee.TheVariants as callee
use Rattle.mach_ir.specs.declared.op.Calling.TheVariants as calling
use Rattle.mach_ir.specs.declared.op.Op.TheVariants as op
use Rattle.rv_isa.specs.declared.instr.LoadWidth.TheVariants as loads
use Rattle.rv_isa.specs.declared.register.Register.TheVariants.{T1, S10, S11}
use Rattle.rv_pieces.specs.declared.piece.Piece.{Piece}
use Rattle.rv_pieces.specs.declared.piece.Piece.TheVariants as piece

-- ---- descriptors

-- whether a word is after the last descriptor, or after the begin
abbrev behind : Bool → List Piece → Bool
behind b [] = b
behind b (piece.Descriptor d ∷ ps) = behind false ps
behind b (piece.Label l ∷ ps) = behind b ps
behind b (_ ∷ ps) = behind true ps

weaker : (b : Bool) (ps : List Piece) → AreDescriptors false ps → AreDescriptors b ps
weaker b [] p = tt
weaker b (piece.Descriptor d ∷ ps) p = absurd (let z : false ≡ true = p.0 in cc)
weaker b (piece.Label l ∷ ps) p = weaker b ps p
weaker b (_ ∷ ps) p = p

joined : (b : Bool) (xs ys : List Piece) → AreDescriptors b xs → AreDescriptors (behind b xs) ys → AreDescriptors b (xs ++ ys)
joined b [] ys p q = q
joined b (piece.Descriptor d ∷ xs) ys p q = (p.0, p.1, joined false xs ys p.2 q)
joined b (piece.Label l ∷ xs) ys p q = joined b xs ys p q
joined b (piece.Known j ∷ xs) ys p q = joined true xs ys p q
joined b (piece.Branch c x y l ∷ xs) ys p q = joined true xs ys p q
joined b (piece.Jump l ∷ xs) ys p q = joined true xs ys p q
joined b (piece.Row l ∷ xs) ys p q = joined true xs ys p q
joined b (piece.LabelAddress r l ∷ xs) ys p q = joined true xs ys p q
joined b (piece.Call name ∷ xs) ys p q = joined true xs ys p q
joined b (piece.TailCall name ∷ xs) ys p q = joined true xs ys p q
joined b (piece.SymbolAddress r name ∷ xs) ys p q = joined true xs ys p q
joined b (piece.ExternalNumber r row ∷ xs) ys p q = joined true xs ys p q

none_are : (b : Bool) (ps : List Piece) → EachPiece NoMark ps → AreDescriptors b ps
none_are b [] each_none = tt
none_are b (piece.Descriptor d ∷ ps) (each_more h hs) = absurd (let z : d ∷ [] ≡ [] = h in cc)
none_are b (piece.Label l ∷ ps) (each_more h hs) = none_are b ps hs
none_are b (piece.Known j ∷ ps) (each_more h hs) = none_are true ps hs
none_are b (piece.Branch c x y l ∷ ps) (each_more h hs) = none_are true ps hs
none_are b (piece.Jump l ∷ ps) (each_more h hs) = none_are true ps hs
none_are b (piece.Row l ∷ ps) (each_more h hs) = none_are true ps hs
none_are b (piece.LabelAddress r l ∷ ps) (each_more h hs) = none_are true ps hs
none_are b (piece.Call name ∷ ps) (each_more h hs) = none_are true ps hs
none_are b (piece.TailCall name ∷ ps) (each_more h hs) = none_are true ps hs
none_are b (piece.SymbolAddress r name ∷ ps) (each_more h hs) = none_are true ps hs
none_are b (piece.ExternalNumber r row ∷ ps) (each_more h hs) = none_are true ps hs

-- after pieces without a mark that are after a word there is a word
behind_true : (ps : List Piece) → EachPiece NoMark ps → behind true ps ≡ true
behind_true [] each_none = refl
behind_true (piece.Descriptor d ∷ ps) (each_more h hs) = absurd (let z : d ∷ [] ≡ [] = h in cc)
behind_true (piece.Label l ∷ ps) (each_more h hs) = behind_true ps hs
behind_true (piece.Known j ∷ ps) (each_more h hs) = behind_true ps hs
behind_true (piece.Branch c x y l ∷ ps) (each_more h hs) = behind_true ps hs
behind_true (piece.Jump l ∷ ps) (each_more h hs) = behind_true ps hs
behind_true (piece.Row l ∷ ps) (each_more h hs) = behind_true ps hs
behind_true (piece.LabelAddress r l ∷ ps) (each_more h hs) = behind_true ps hs
behind_true (piece.Call name ∷ ps) (each_more h hs) = behind_true ps hs
behind_true (piece.TailCall name ∷ ps) (each_more h hs) = behind_true ps hs
behind_true (piece.SymbolAddress r name ∷ ps) (each_more h hs) = behind_true ps hs
behind_true (piece.ExternalNumber r row ∷ ps) (each_more h hs) = behind_true ps hs

-- and after a word among them
behind_word : (b : Bool) (ps : List Piece) → EachPiece NoMark ps → 1 ≤ words_at_least ps → behind b ps ≡ true
behind_word b [] each_none some = absurd (omega (arith, some))
behind_word b (piece.Descriptor d ∷ ps) (each_more h hs) some = absurd (let z : d ∷ [] ≡ [] = h in cc)
behind_word b (piece.Label l ∷ ps) (each_more h hs) some = behind_word b ps hs (omega (arith, some))
behind_word b (piece.Known j ∷ ps) (each_more h hs) some = behind_true ps hs
behind_word b (piece.Branch c x y l ∷ ps) (each_more h hs) some = behind_true ps hs
behind_word b (piece.Jump l ∷ ps) (each_more h hs) some = behind_true ps hs
behind_word b (piece.Row l ∷ ps) (each_more h hs) some = behind_true ps hs
behind_word b (piece.LabelAddress r l ∷ ps) (each_more h hs) some = behind_true ps hs
behind_word b (piece.Call name ∷ ps) (each_more h hs) some = behind_true ps hs
behind_word b (piece.TailCall name ∷ ps) (each_more h hs) some = behind_true ps hs
behind_word b (piece.SymbolAddress r name ∷ ps) (each_more h hs) some = behind_true ps hs
behind_word b (piece.ExternalNumber r row ∷ ps) (each_more h hs) some = behind_true ps hs

each_front : {P : Piece → Type 0} (xs ys : List Piece) → EachPiece P (xs ++ ys) → EachPiece P xs
each_front [] ys all = each_none
each_front (x ∷ xs) ys (each_more h hs) = each_more h (each_front xs ys hs)

each_back : {P : Piece → Type 0} (xs ys : List Piece) → EachPiece P (xs ++ ys) → EachPiece P ys
each_back [] ys all = all
each_back (x ∷ xs) ys (each_more h hs) = each_back xs ys hs

pub words_both : (xs ys : List Piece) → words_at_least (xs ++ ys) ≡ words_at_least xs + words_at_least ys
words_both [] ys = omega arith
words_both (x ∷ xs) ys = let later = words_both xs ys in omega (arith, later)

-- a mark after pieces with a word, and before others
marked : (d : Descr) (pre post : List Piece) → EachPiece NoMark pre → 1 ≤ words_at_least pre → EachPiece NoMark post → IsDescriptor d → AreDescriptors false ((pre ++ piece.Descriptor d ∷ []) ++ post)
marked d pre post none some others is =
    joined false (pre ++ piece.Descriptor d ∷ []) post
    (joined false pre (piece.Descriptor d ∷ []) (none_are false pre none) (behind_word false pre none some, is, tt))
    (none_are (behind false (pre ++ piece.Descriptor d ∷ [])) post others)

marked_last : (d : Descr) (pre : List Piece) → EachPiece NoMark pre → 1 ≤ words_at_least pre → IsDescriptor d → AreDescriptors false (pre ++ piece.Descriptor d ∷ [])
marked_last d pre none some is = joined false pre (piece.Descriptor d ∷ []) (none_are false pre none) (behind_word false pre none some, is, tt)

word_inside : (xs ys : List Piece) (p : Piece) → least_words p ≡ 1 → 1 ≤ words_at_least (xs ++ p ∷ ys)
word_inside xs ys p e = omega (arith, e, words_both xs (p ∷ ys))

call_some : (t : ℕ) (whom : Callee) (args : List Spot) → 1 ≤ words_at_least (call_words t whom args)
call_some t (callee.Symbol name) args = omega arith
call_some t callee.Register args = word_inside (fetch_pieces t T1 (first_location args)) [] (calls_at (register_of T1 (first_location args))) refl

part_are : (t : ℕ) (f : FrameLayout) (d : Descr) (g : LinOp) (args results : List Spot) → passes_frame g ≡ true → IsDescriptor d →
    AreDescriptors false (part_of_line t f (Some d) (record { op = g; args = args; results = results }))
part_are t f d (lin.Flow g) args results h is = absurd (let z : false ≡ true = h in cc)
part_are t f d (lin.Op (op.Pure g)) args results h is = absurd (let z : false ≡ true = h in cc)
part_are t f d (lin.Op (op.Leaving g)) args results h is = absurd (let z : false ≡ true = h in cc)
part_are t f d (lin.Op (op.Access (access.Load k offset))) args results h is = absurd (let z : false ≡ true = h in cc)
part_are t f d (lin.Op (op.Access (access.Store k offset))) args results h is = absurd (let z : false ≡ true = h in cc)
part_are t f d (lin.Op (op.Access (access.Alloc blocks))) args results h is =
    let all : EachPiece NoMark ((reserved (total_block_bytes blocks) ++ []) ++ addresses t blocks results) =
    part-in NoMark None t f (record { op = lin.Op (op.Access (access.Alloc blocks)); args = args; results = results }) (allows-unmarked (lin.Op (op.Access (access.Alloc blocks)))) in
    let pre = each_front (reserved (total_block_bytes blocks)) [] (each_front (reserved (total_block_bytes blocks) ++ []) (addresses t blocks results) all) in
    marked d (reserved (total_block_bytes blocks)) (addresses t blocks results) pre
    (reserved_some (total_block_bytes blocks))
    (each_back (reserved (total_block_bytes blocks) ++ []) (addresses t blocks results) all) is
  where
    reserved_some : (n : ℕ) → 1 ≤ words_at_least (reserved n)
    reserved_some n = word_inside (bytes_taken_off T1 S10 n) _ (load_piece loads.Ld T1 S11 0) refl
part_are t f d (lin.Op (op.Calling (calling.Call whom result))) args results h is =
    let all : EachPiece NoMark (call_words t whom args ++ []) =
    part-in NoMark None t f (record { op = lin.Op (op.Calling (calling.Call whom result)); args = args; results = results }) (allows-unmarked (lin.Op (op.Calling (calling.Call whom result)))) in
    marked_last d (call_words t whom args) (each_front (call_words t whom args) [] all) (call_some t whom args) is
part_are t f d (lin.Op (op.Calling (calling.TailCall whom result))) args results h is = absurd (let z : false ≡ true = h in cc)
part_are t f d (lin.Op (op.Calling (calling.External row frame))) args results h is =
    let all : EachPiece NoMark (external_words row frame ++ []) =
    part-in NoMark None t f (record { op = lin.Op (op.Calling (calling.External row frame)); args = args; results = results }) (allows-unmarked (lin.Op (op.Calling (calling.External row frame)))) in
    marked_last d (external_words row frame) (each_front (external_words row frame) [] all) (omega arith) is

plain_part : (t : ℕ) (f : FrameLayout) (i : Line) (next : List Line) → AreDescriptors false (part_before t f None i next)
plain_part t f i next = none_are false (part_before t f None i next) (before-in NoMark None t f i next (allows-unmarked i.op))

-- a frame point is no exit, and has its words
point_part : (t : ℕ) (f : FrameLayout) (d : Descr) (i : Line) (next : List Line) → passes_frame i.op ≡ true → IsDescriptor d →
    AreDescriptors false (part_before t f (Some d) i next)
point_part t f d i next h is =
    part_by t f (Some d) i next (λ ps. AreDescriptors false ps) (λ free. absurd (true≢false (sym h ∙ free_passes_no_frame i.op next free)))
    (λ unless. part_are t f d i.op i.args i.results h is)

module _ (f : FrameLayout) (traps : ℕ → ℕ) where
  step : (i : Line) (next : List Line) (b : Bool) → passes_frame i.op ≡ b → ((ds : List Descr) → AllByRecursion IsDescriptor ds → AreDescriptors false (parts_of_lines traps f ds next)) →
      (ds : List Descr) → AllByRecursion IsDescriptor ds →
      AreDescriptors false (part_before (traps (length next)) f (descriptor b ds) i next ++ parts_of_lines traps f (left_after b ds) next)
  step i next true p later [] all =
      joined false (part_before (traps (length next)) f None i next) (parts_of_lines traps f [] next) (plain_part (traps (length next)) f i next) (weaker _ (parts_of_lines traps f [] next) (later [] tt))
  step i next true p later (d ∷ ds) all =
      joined false (part_before (traps (length next)) f (Some d) i next) (parts_of_lines traps f ds next) (point_part (traps (length next)) f d i next p all.0) (weaker _ (parts_of_lines traps f ds next) (later ds all.1))
  step i next false p later ds all =
      joined false (part_before (traps (length next)) f None i next) (parts_of_lines traps f ds next) (plain_part (traps (length next)) f i next) (weaker _ (parts_of_lines traps f ds next) (later ds all))

  parts_are : (is : List Line) (ds : List Descr) → AllByRecursion IsDescriptor ds → AreDescriptors false (parts_of_lines traps f ds is)
  parts_are [] ds all = tt
  parts_are (i ∷ next) ds all = step i next (passes_frame i.op) refl (parts_are next) ds all

-- Descriptors that keep the rules of images keep them among the pieces.
pub descriptors_stand : (m : Lin) (traps : ℕ → ℕ) (ds : List Descr) → AllByRecursion IsDescriptor ds → AreDescriptors false (emitted m traps ds).code
descriptors_stand m traps ds all =
    joined false (entry_pieces (frame_of m)) (parts_of_lines traps (frame_of m) ds m.code) (none_are false (entry_pieces (frame_of m)) (entry-in NoMark (λ j h. refl) (frame_of m)))
    (weaker _ (parts_of_lines traps (frame_of m) ds m.code) (parts_are (frame_of m) traps m.code ds all))
