-- The code of choices and of catches as wholes, from the codes of their parts.
use Rattle.std.proofs.Common.{◌≡◌, ℕ, suc, ◌+◌, false, List, [], ◌∷◌, ◌++◌, length, ap, sym, ◌∙◌}
use Rattle.bs_words.specs.declared.types.Comp.TheVariants as comp
use Rattle.bs_words.specs.declared.types.Ty.TheVariants as ty
use Rattle.bs_words.specs.declared.types.Ty.{Ty}
use Rattle.cmm_tree.specs.Rows.{cases_of, handlers_of}
use Rattle.cmm_tree.specs.Tree.{If, Switch, Catch, Try}
use Rattle.cmm_tree.specs.View.{expr_view}
use Rattle.cmm_tree.specs.declared.expr.Case.{Case}
use Rattle.cmm_tree.specs.declared.expr.Expr.{Expr}
use Rattle.cmm_tree.specs.declared.expr.Handler.{Handler}
use Rattle.cmm_types.specs.Annotated.{IsAnnotated}
use Rattle.cmm_types.specs.Types.{type_of}
use Rattle.mach_ir.specs.declared.mach.Instr.{Instr}
use Rattle.mach_ir.specs.declared.mach.Mark.TheVariants as mark
use Rattle.mach_ir.specs.declared.mach.Test.TheVariants as test
use Rattle.mach_ir.specs.declared.reg.Reg.{Reg}
use Rattle.selection_rules.specs.Instructions.{bare_mark}
use Rattle.selection_rules.specs.Instructions as emit
use Rattle.selection_rules.specs.Select.{fresh_register, seat, inner_dest, inner_valued, select, select_test, select_cases, select_handlers, switch_labels, labels_from, in_handlers, labels_within_try, count_cases, width, width_labels}
use Rattle.selection_scope.proofs.Counts.{count-cases}
use Rattle.selection_control.proofs.LastParts.{operand_place, part_place}
use Rattle.selection_operands.specs.Below.{selected_code, node_code}
use Rattle.selection_scope.specs.Scoping.{LexicalScope, scoped_names}
use Rattle.selection_scope.specs.declared.place.Node.{Node}
use Rattle.selection_scope.specs.declared.place.Place.{Place}

-- a part of a node, whose numbers begin with `m`
abbrev part : LexicalScope → Node → Ty → ℕ → Expr → List Instr → List Instr
part s node y m e next =
    select s.names s.labels (inner_valued node.place.valued y) node.place.tail (inner_dest y node.place.base node.place.dest) m (expr_view e) next

part-code : (s t : LexicalScope) (node : Node) (y : Ty) (m n : ℕ) (e : Expr) (place : Place) (old new : List Instr)
    → t ≡ s → node.ty ≡ y → m ≡ n → place ≡ part_place node m → new ≡ selected_code t place e old
    → new ≡ part s node y n e old
part-code s t node y m n e place old new ts type number at made =
    made
    ∙ ap (λ x. selected_code x place e old) ts
    ∙ ap (λ p. selected_code s p e old) at
    ∙ ap (λ k. part s node node.ty k e old) number
    ∙ ap (λ x. part s node x n e old) type

-- ---- an if

pub if-code : (s t u v : LexicalScope) (node : Node) (at base label end on_true_at on_false_at : ℕ) (condition on_true on_false : Expr) (first second third : Place) (old c0 c1 c2 c3 c4 : List Instr)
    → node.ty ≡ type_of (scoped_names s) (If at (expr_view condition) (expr_view on_true) (expr_view on_false))
    → IsAnnotated (scoped_names s) condition
    → base ≡ suc (suc (suc (suc node.place.base)))
    → label ≡ suc (suc node.place.base)
    → end ≡ suc (suc (suc node.place.base))
    → on_true_at ≡ suc (suc (suc (suc node.place.base))) + width (expr_view condition)
    → on_false_at ≡ suc (suc (suc (suc node.place.base))) + width (expr_view condition) + width (expr_view on_true)
    → t ≡ s → u ≡ s → v ≡ s
    → third ≡ part_place node on_false_at
    → second ≡ part_place node on_true_at
    → first ≡ operand_place (fresh_register (suc node.place.base) condition.ty) base
    → c0 ≡ bare_mark (mark.End end) ∷ old
    → c1 ≡ selected_code t third on_false c0
    → c2 ≡ bare_mark (mark.Else label end) ∷ c1
    → c3 ≡ selected_code u second on_true c2
    → c4 ≡ select_test v.names v.labels label first.base (expr_view condition)
    (select v.names v.labels false false first.dest first.base (expr_view condition) (emit.branch test.Holds label (first.dest ∷ []) ∷ c3)) c3
    → c4 ≡ node_code s node.place (If at (expr_view condition) (expr_view on_true) (expr_view on_false)) old
if-code s t u v node at base label end on_true_at on_false_at condition on_true on_false first second third old c0 c1 c2 c3 c4 type typed ab al ae at_true at_false ts us vs in3 in2 in1 m0 m1 m2 m3 m4 =
    let b = node.place.base in
    let y = type_of (scoped_names s) (If at (expr_view condition) (expr_view on_true) (expr_view on_false)) in
    let e = expr_view condition in
    let r = fresh_register (suc b) (type_of (scoped_names s) e) in
    let from = suc (suc (suc (suc b))) in
    let n = from + width e in
    let k = n + width (expr_view on_true) in
    let last : c0 ≡ bare_mark (mark.End (suc (suc (suc b)))) ∷ old = m0 ∙ ap (λ x. bare_mark (mark.End x) ∷ old) ae in
    let false_code : c1 ≡ part s node y k on_false (bare_mark (mark.End (suc (suc (suc b)))) ∷ old) =
    part-code s t node y on_false_at k on_false third c0 c1 ts type at_false in3 m1 ∙ ap (part s node y k on_false) last in
    let else_code : c2 ≡ bare_mark (mark.Else (suc (suc b)) (suc (suc (suc b)))) ∷ part s node y k on_false (bare_mark (mark.End (suc (suc (suc b)))) ∷ old) =
    m2
    ∙ ap (λ x. bare_mark (mark.Else x end) ∷ c1) al
    ∙ ap (λ x. bare_mark (mark.Else (suc (suc b)) x) ∷ c1) ae
    ∙ ap (λ x. bare_mark (mark.Else (suc (suc b)) (suc (suc (suc b)))) ∷ x) false_code in
    let true_code = part-code s u node y on_true_at n on_true second c2 c3 us type at_true in2 m3 ∙ ap (part s node y n on_true) else_code in
    let tests : LexicalScope → ℕ → Reg → ℕ → List Instr → List Instr = λ x l q m c.
    select_test x.names x.labels l m e (select x.names x.labels false false q m e (emit.branch test.Holds l (q ∷ []) ∷ c)) c in
    m4
    ∙ ap (λ (p : Place). tests v label p.dest p.base c3) in1
    ∙ ap (λ x. tests x label (fresh_register (suc b) condition.ty) base c3) vs
    ∙ ap (λ x. tests s x (fresh_register (suc b) condition.ty) base c3) al
    ∙ ap (λ x. tests s (suc (suc b)) (fresh_register (suc b) x) base c3) typed.type
    ∙ ap (λ x. tests s (suc (suc b)) r x c3) ab
    ∙ ap (tests s (suc (suc b)) r from) true_code

-- ---- a switch

pub switch-code : (s t u : LexicalScope) (node : Node) (at size_at size first end base bodies : ℕ) (selector : Expr) (cases : List Case) (all : List ℕ) (r : Reg) (inner own : Place) (old c0 c1 c2 c3 : List Instr)
    → node.ty ≡ type_of (scoped_names s) (Switch at size_at size (expr_view selector) (cases_of cases))
    → IsAnnotated (scoped_names s) selector
    → first ≡ suc (suc (suc node.place.base))
    → end ≡ suc (suc node.place.base)
    → base ≡ suc (suc (suc node.place.base)) + length cases
    → bodies ≡ base + width (expr_view selector)
    → r ≡ fresh_register (suc node.place.base) selector.ty
    → t ≡ s → u ≡ s
    → all ≡ switch_labels first (cases_of cases) 0 size
    → inner ≡ part_place node bodies
    → own ≡ operand_place r base
    → c0 ≡ bare_mark (mark.End end) ∷ old
    → c1 ≡ select_cases t.names t.labels inner.valued inner.tail inner.dest all end first inner.base (cases_of cases) c0
    → c2 ≡ emit.choose all r ∷ c1
    → c3 ≡ selected_code u own selector c2
    → c3 ≡ node_code s node.place (Switch at size_at size (expr_view selector) (cases_of cases)) old
switch-code s t u node at size_at size first end base bodies selector cases all r inner own old c0 c1 c2 c3 type typed af ae ab abodies reg ts us labels in_bodies in_own m0 m1 m2 m3 =
    let p = node.place in
    let b = p.base in
    let l = suc (suc (suc b)) in
    let e = expr_view selector in
    let rows = cases_of cases in
    let table = switch_labels l rows 0 size in
    let y = type_of (scoped_names s) (Switch at size_at size e rows) in
    let x = fresh_register (suc b) (type_of (scoped_names s) e) in
    let count : length cases ≡ count_cases rows = sym (count-cases cases) in
    let from : base ≡ l + count_cases rows = ab ∙ ap (λ n. l + n) count in
    let behind : bodies ≡ l + count_cases rows + width e = abodies ∙ ap (λ n. n + width e) from in
    let all_is : all ≡ table = labels ∙ ap (λ k. switch_labels k rows 0 size) af in
    let held : r ≡ x = reg ∙ ap (fresh_register (suc b)) typed.type in
    let chosen : LexicalScope → Place → List ℕ → ℕ → ℕ → List Instr → List Instr = λ v q labels k n c.
    select_cases v.names v.labels q.valued q.tail q.dest labels k n q.base rows c in
    let part_at : Ty → ℕ → Place = λ z n. record { valued = inner_valued p.valued z; tail = p.tail; dest = inner_dest z b p.dest; base = n } in
    let last : c0 ≡ bare_mark (mark.End (suc (suc b))) ∷ old = m0 ∙ ap (λ k. bare_mark (mark.End k) ∷ old) ae in
    let inside : c1 ≡ chosen s (part_at y (l + count_cases rows + width e)) table (suc (suc b)) l (bare_mark (mark.End (suc (suc b))) ∷ old) =
    m1
    ∙ ap (λ v. chosen v inner all end first c0) ts
    ∙ ap (λ q. chosen s q all end first c0) in_bodies
    ∙ ap (λ z. chosen s (part_at z bodies) all end first c0) type
    ∙ ap (λ n. chosen s (part_at y n) all end first c0) behind
    ∙ ap (λ k. chosen s (part_at y (l + count_cases rows + width e)) k end first c0) all_is
    ∙ ap (λ k. chosen s (part_at y (l + count_cases rows + width e)) table k first c0) ae
    ∙ ap (λ k. chosen s (part_at y (l + count_cases rows + width e)) table (suc (suc b)) k c0) af
    ∙ ap (chosen s (part_at y (l + count_cases rows + width e)) table (suc (suc b)) l) last in
    m3
    ∙ ap (λ v. selected_code v own selector c2) us
    ∙ ap (λ q. selected_code s q selector c2) in_own
    ∙ ap (λ q. selected_code s (operand_place q base) selector c2) held
    ∙ ap (λ n. selected_code s (operand_place x n) selector c2) from
    ∙ ap (λ c. selected_code s (operand_place x (l + count_cases rows)) selector c)
    (m2 ∙ ap (λ k. emit.choose k r ∷ c1) all_is ∙ ap (λ q. emit.choose table q ∷ c1) held ∙ ap (λ c. emit.choose table x ∷ c) inside)

-- ---- a catch

pub catch-code : (s t u : LexicalScope) (node : Node) (at first end base inner : ℕ) (body : Expr) (handlers : List Handler) (in_body in_handler : Place) (old c0 c1 c2 c3 : List Instr)
    → node.ty ≡ type_of (scoped_names s) (Catch at (expr_view body) (handlers_of handlers))
    → first ≡ suc (suc node.place.base)
    → end ≡ suc node.place.base
    → base ≡ first + width_labels (handlers_of handlers)
    → inner ≡ base + width (expr_view body)
    → t ≡ record s { labels = in_handlers (labels_from first (handlers_of handlers)) ++ s.labels }
    → u ≡ record s { labels = labels_from first (handlers_of handlers) ++ s.labels }
    → in_handler ≡ part_place node inner
    → in_body ≡ part_place node base
    → c0 ≡ bare_mark (mark.End end) ∷ old
    → c1 ≡ select_handlers t.names t.labels in_handler.valued in_handler.tail in_handler.dest end first in_handler.base (handlers_of handlers) c0
    → c2 ≡ selected_code u in_body body c1
    → c3 ≡ bare_mark mark.Catch ∷ c2
    → c3 ≡ node_code s node.place (Catch at (expr_view body) (handlers_of handlers)) old
catch-code s t u node at first end base inner body handlers in_body in_handler old c0 c1 c2 c3 type af ae ab ai ts us at_handler at_body m0 m1 m2 m3 =
    let p = node.place in
    let b = p.base in
    let e = expr_view body in
    let rows = handlers_of handlers in
    let one = suc (suc b) in
    let own = labels_from one rows in
    let y = type_of (scoped_names s) (Catch at e rows) in
    let from : base ≡ one + width_labels rows = ab ∙ ap (λ k. k + width_labels rows) af in
    let behind : inner ≡ one + width_labels rows + width e = ai ∙ ap (λ k. k + width e) from in
    let outside : t ≡ record s { labels = in_handlers own ++ s.labels } = ts ∙ ap (λ k. record s { labels = in_handlers (labels_from k rows) ++ s.labels }) af in
    let inside : u ≡ record s { labels = own ++ s.labels } = us ∙ ap (λ k. record s { labels = labels_from k rows ++ s.labels }) af in
    let part_at : Ty → ℕ → Place = λ z n. record { valued = inner_valued p.valued z; tail = p.tail; dest = inner_dest z b p.dest; base = n } in
    let handled : LexicalScope → Place → ℕ → ℕ → List Instr → List Instr = λ v q k n c.
    select_handlers v.names v.labels q.valued q.tail q.dest k n q.base rows c in
    let last : c0 ≡ bare_mark (mark.End (suc b)) ∷ old = m0 ∙ ap (λ k. bare_mark (mark.End k) ∷ old) ae in
    let there : c1 ≡ handled (record s { labels = in_handlers own ++ s.labels }) (part_at y (one + width_labels rows + width e)) (suc b) one (bare_mark (mark.End (suc b)) ∷ old) =
    m1
    ∙ ap (λ v. handled v in_handler end first c0) outside
    ∙ ap (λ q. handled (record s { labels = in_handlers own ++ s.labels }) q end first c0) at_handler
    ∙ ap (λ z. handled (record s { labels = in_handlers own ++ s.labels }) (part_at z inner) end first c0) type
    ∙ ap (λ n. handled (record s { labels = in_handlers own ++ s.labels }) (part_at y n) end first c0) behind
    ∙ ap (λ k. handled (record s { labels = in_handlers own ++ s.labels }) (part_at y (one + width_labels rows + width e)) k first c0) ae
    ∙ ap (λ k. handled (record s { labels = in_handlers own ++ s.labels }) (part_at y (one + width_labels rows + width e)) (suc b) k c0) af
    ∙ ap (handled (record s { labels = in_handlers own ++ s.labels }) (part_at y (one + width_labels rows + width e)) (suc b) one) last in
    m3
    ∙ ap (λ c. bare_mark mark.Catch ∷ c)
    (m2
    ∙ ap (λ v. selected_code v in_body body c1) inside
    ∙ ap (λ q. selected_code (record s { labels = own ++ s.labels }) q body c1) at_body
    ∙ ap (λ z. selected_code (record s { labels = own ++ s.labels }) (part_at z base) body c1) type
    ∙ ap (λ n. selected_code (record s { labels = own ++ s.labels }) (part_at y n) body c1) from
    ∙ ap (selected_code (record s { labels = own ++ s.labels }) (part_at y (one + width_labels rows)) body) there)

-- ---- a try

pub try-code : (s t u : LexicalScope) (node : Node) (at name_at label end base inner : ℕ) (name : List ℕ) (body handler : Expr) (register seated : Reg) (in_body in_handler : Place) (old c0 c1 c2 c3 c4 c5 c6 : List Instr)
    → node.ty ≡ type_of (scoped_names s) (Try at (expr_view body) name_at name (expr_view handler))
    → label ≡ suc node.place.base
    → end ≡ suc (suc node.place.base)
    → register ≡ fresh_register (suc (suc (suc node.place.base))) ty.Val
    → seated ≡ seat 0 (suc (suc (suc (suc node.place.base)))) comp.Val
    → base ≡ suc (suc (suc (suc (suc node.place.base))))
    → inner ≡ suc (suc (suc (suc (suc node.place.base)))) + width (expr_view body)
    → t ≡ s → u ≡ s
    → in_handler ≡ part_place node inner
    → in_body ≡ record (part_place node base) { tail = false }
    → c0 ≡ bare_mark (mark.End end) ∷ old
    → c1 ≡ select (record { scoped = record { name = name; type = ty.Val; mutable = false }; reg = register } ∷ t.names) t.labels in_handler.valued in_handler.tail in_handler.dest in_handler.base (expr_view handler) c0
    → c2 ≡ emit.move seated register ∷ c1
    → c3 ≡ emit.handler label seated ∷ c2
    → c4 ≡ bare_mark (mark.Leave label end) ∷ c3
    → c5 ≡ select u.names (labels_within_try u.labels) in_body.valued in_body.tail in_body.dest in_body.base (expr_view body) c4
    → c6 ≡ bare_mark (mark.Try label) ∷ c5
    → c6 ≡ node_code s node.place (Try at (expr_view body) name_at name (expr_view handler)) old
try-code s t u node at name_at label end base inner name body handler register seated in_body in_handler old c0 c1 c2 c3 c4 c5 c6 type al ae ar ay ab ai ts us at_handler at_body m0 m1 m2 m3 m4 m5 m6 =
    let p = node.place in
    let b = p.base in
    let e = expr_view body in
    let h = expr_view handler in
    let l = suc b in
    let after = suc (suc b) in
    let x = fresh_register (suc (suc (suc b))) ty.Val in
    let z = seat 0 (suc (suc (suc (suc b)))) comp.Val in
    let from = suc (suc (suc (suc (suc b)))) in
    let y = type_of (scoped_names s) (Try at e name_at name h) in
    let part_at : Ty → ℕ → Place = λ k n. record { valued = inner_valued p.valued k; tail = p.tail; dest = inner_dest k b p.dest; base = n } in
    let handled : LexicalScope → Place → Reg → List Instr → List Instr = λ v q r c.
    select (record { scoped = record { name = name; type = ty.Val; mutable = false }; reg = r } ∷ v.names) v.labels q.valued q.tail q.dest q.base h c in
    let tried : LexicalScope → Place → List Instr → List Instr = λ v q c. select v.names (labels_within_try v.labels) q.valued q.tail q.dest q.base e c in
    let last : c0 ≡ bare_mark (mark.End after) ∷ old = m0 ∙ ap (λ k. bare_mark (mark.End k) ∷ old) ae in
    let k1 = handled s (part_at y (from + width e)) x (bare_mark (mark.End after) ∷ old) in
    let there : c1 ≡ k1 =
    m1
    ∙ ap (λ v. handled v in_handler register c0) ts
    ∙ ap (λ q. handled s q register c0) at_handler
    ∙ ap (λ k. handled s (part_at k inner) register c0) type
    ∙ ap (λ n. handled s (part_at y n) register c0) ai
    ∙ ap (λ r. handled s (part_at y (from + width e)) r c0) ar
    ∙ ap (handled s (part_at y (from + width e)) x) last in
    let moved : c2 ≡ emit.move z x ∷ k1 =
    m2 ∙ ap (λ r. emit.move r register ∷ c1) ay ∙ ap (λ r. emit.move z r ∷ c1) ar ∙ ap (λ c. emit.move z x ∷ c) there in
    let entered : c3 ≡ emit.handler l z ∷ emit.move z x ∷ k1 =
    m3 ∙ ap (λ k. emit.handler k seated ∷ c2) al ∙ ap (λ r. emit.handler l r ∷ c2) ay ∙ ap (λ c. emit.handler l z ∷ c) moved in
    let left : c4 ≡ bare_mark (mark.Leave l after) ∷ emit.handler l z ∷ emit.move z x ∷ k1 =
    m4 ∙ ap (λ k. bare_mark (mark.Leave k end) ∷ c3) al ∙ ap (λ k. bare_mark (mark.Leave l k) ∷ c3) ae ∙ ap (λ c. bare_mark (mark.Leave l after) ∷ c) entered in
    m6
    ∙ ap (λ k. bare_mark (mark.Try k) ∷ c5) al
    ∙ ap (λ c. bare_mark (mark.Try l) ∷ c)
    (m5
    ∙ ap (λ v. tried v in_body c4) us
    ∙ ap (λ q. tried s q c4) at_body
    ∙ ap (λ k. tried s (record (part_at k base) { tail = false }) c4) type
    ∙ ap (λ n. tried s (record (part_at y n) { tail = false }) c4) ab
    ∙ ap (tried s (record (part_at y from) { tail = false })) left)
