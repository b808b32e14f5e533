-- What a loop over a row, from its end on, does at the last part that is left.
use Rattle.std.proofs.Common.{◌≡◌, ℕ, suc, ◌+◌, false, List, [], ◌∷◌, ◌++◌, length, refl, ap, sym, ◌∙◌, subst, arith}
use Rattle.std.proofs.lemmas.List.{length-append}
use Rattle.cmm_tree.specs.Rows.{expressions_of, cases_of, handlers_of}
use Rattle.cmm_tree.specs.Tree.{Seq}
use Rattle.cmm_tree.specs.View.{expr_view, params_view}
use Rattle.cmm_tree.specs.declared.expr.Case.{Case}
use Rattle.cmm_tree.specs.declared.expr.Expr.{Expr}
use Rattle.cmm_tree.specs.declared.expr.Handler.{Handler}
use Rattle.cmm_tree.specs.declared.file.Param.{Param}
use Rattle.cmm_types.specs.Annotated.{IsAnnotated}
use Rattle.cmm_types.specs.Lists.{AreAnnotated, AreCasesAnnotated, AreHandlersAnnotated}
use Rattle.cmm_types.specs.Types.{Scoped, type_of}
use Rattle.mach_ir.specs.Formed.{indexes_to_label}
use Rattle.mach_ir.specs.declared.mach.Instr.{Instr}
use Rattle.mach_ir.specs.declared.mach.Mark.TheVariants as mark
use Rattle.mach_ir.specs.declared.reg.Reg.{Reg}
use Rattle.selection_rules.specs.Instructions.{bare_mark}
use Rattle.selection_rules.specs.Select.{fresh_register, inner_dest, inner_valued, select, select_seq, select_cases, select_handlers, width, width_row, width_cases, width_handlers, width_labels, with_params, params_from}
use Rattle.selection_control.proofs.Ends.{typed-last, width-last, dropped-last, seq-last, cases-typed-last, cases-width-last, cases-last, HandlerTyped, handlers-typed-last, handlers-width-last, labels-width-last, handlers-last}
use Rattle.selection_operands.specs.Below.{selected_code, node_code}
use Rattle.selection_control.specs.Rows.{select_dropped}
use Rattle.selection_scope.specs.Scoping.{LexicalScope, scoped_names}
use Rattle.selection_scope.specs.declared.place.Node.{Node}
use Rattle.selection_scope.specs.declared.place.Place.{Place}

-- where the value of an operand goes
abbrev pub operand_place : Reg → ℕ → Place
operand_place r b = record { valued = false; tail = false; dest = r; base = b }

-- where the value of a part of a node goes
abbrev pub part_place : Node → ℕ → Place
part_place node b =
    record {
      valued = inner_valued node.place.valued node.ty;
      tail = node.place.tail;
      dest = inner_dest node.ty node.place.base node.place.dest;
      base = b;
    }

-- ---- rows

pub row-typed : (ns : List Scoped) (rest others : List Expr) (e : Expr) → rest ≡ others ++ e ∷ [] → AreAnnotated ns rest → AreAnnotated ns others × IsAnnotated ns e
row-typed ns rest others e is typed =
    let P : List Expr → Type 0 = λ l. AreAnnotated ns l in
    typed-last ns others e (subst P is typed)

-- the names in scope are the same
pub row-typed-in : (s t : LexicalScope) (es : List Expr) → t ≡ s → AreAnnotated (scoped_names t) es → AreAnnotated (scoped_names s) es
row-typed-in s t es same typed =
    let P : LexicalScope → Type 0 = λ v. AreAnnotated (scoped_names v) es in
    subst P same typed

pub typed-in : (s t : LexicalScope) (e : Expr) → t ≡ s → IsAnnotated (scoped_names t) e → IsAnnotated (scoped_names s) e
typed-in s t e same typed =
    let P : LexicalScope → Type 0 = λ v. IsAnnotated (scoped_names v) e in
    subst P same typed

pub row-end : (b end : ℕ) (rest others : List Expr) (e : Expr) → rest ≡ others ++ e ∷ [] → end ≡ b + width_row (expressions_of rest)
    → end ≡ b + width_row (expressions_of others) + width (expr_view e) + 1
row-end b end rest others e is at =
    let all : width_row (expressions_of rest) ≡ width_row (expressions_of others) + suc (width (expr_view e)) =
    ap (λ l. width_row (expressions_of l)) is ∙ width-last others e in
    omega (arith, at, all)

pub dropped-code : (s t : LexicalScope) (b m k : ℕ) (rest others : List Expr) (e : Expr) (place : Place) (r : Reg) (old new : List Instr)
    → rest ≡ others ++ e ∷ []
    → t ≡ s
    → IsAnnotated (scoped_names t) e
    → m ≡ b + width_row (expressions_of others)
    → k ≡ suc (b + width_row (expressions_of others))
    → r ≡ fresh_register m e.ty
    → place ≡ operand_place r k
    → new ≡ selected_code t place e old
    → select_dropped s.names s.labels b (expressions_of others) new ≡ select_dropped s.names s.labels b (expressions_of rest) old
dropped-code s t b m k rest others e place r old new is ts typed number behind reg at made =
    let n = b + width_row (expressions_of others) in
    let held : e.ty ≡ type_of (scoped_names s) (expr_view e) = typed.type ∙ ap (λ v. type_of (scoped_names v) (expr_view e)) ts in
    let own : r ≡ fresh_register n (type_of (scoped_names s) (expr_view e)) = reg ∙ ap (λ x. fresh_register x e.ty) number ∙ ap (fresh_register n) held in
    ap (λ c. select_dropped s.names s.labels b (expressions_of others) c)
    (made
    ∙ ap (λ x. selected_code x place e old) ts
    ∙ ap (λ p. selected_code s p e old) at
    ∙ ap (λ q. selected_code s (operand_place q k) e old) own
    ∙ ap (λ x. selected_code s (operand_place (fresh_register n (type_of (scoped_names s) (expr_view e))) x) e old) behind)
    ∙ sym (dropped-last s.names s.labels b others e old)
    ∙ ap (λ l. select_dropped s.names s.labels b (expressions_of l) old) (sym is)

pub seq-code : (s t : LexicalScope) (node : Node) (at first base : ℕ) (elements others : List Expr) (e : Expr) (place : Place) (old mid new : List Instr)
    → elements ≡ others ++ e ∷ []
    → t ≡ s
    → node.ty ≡ type_of (scoped_names s) (Seq at (expressions_of elements))
    → first ≡ suc node.place.base
    → base ≡ suc (suc node.place.base + width_row (expressions_of others))
    → place ≡ part_place node base
    → mid ≡ selected_code s place e old
    → new ≡ select_dropped t.names t.labels first (expressions_of others) mid
    → new ≡ node_code s node.place (Seq at (expressions_of elements)) old
seq-code s t node at first base elements others e place old mid new is ts type one behind part made dropped =
    let v = node.place.valued in
    let d = node.place.dest in
    let b = node.place.base in
    let n = suc (suc b + width_row (expressions_of others)) in
    dropped
    ∙ ap (λ (x : LexicalScope). select_dropped x.names x.labels first (expressions_of others) mid) ts
    ∙ ap (λ k. select_dropped s.names s.labels k (expressions_of others) mid) one
    ∙ ap (λ c. select_dropped s.names s.labels (suc b) (expressions_of others) c)
    (made ∙ ap (λ p. selected_code s p e old) part ∙ ap (λ k. selected_code s (part_place node k) e old) behind)
    ∙ sym (seq-last s.names s.labels (inner_valued v node.ty) node.place.tail (inner_dest node.ty b d) (suc b) others e old)
    ∙ ap (λ l. select_seq s.names s.labels (inner_valued v node.ty) node.place.tail (inner_dest node.ty b d) (suc b) (expressions_of l) old) (sym is)
    ∙ ap (λ y. select_seq s.names s.labels (inner_valued v y) node.place.tail (inner_dest y b d) (suc b) (expressions_of elements) old) type

pub no-elements : (s : LexicalScope) (node : Node) (at : ℕ) (elements : List Expr) (old : List Instr) → elements ≡ [] → old ≡ node_code s node.place (Seq at (expressions_of elements)) old
no-elements s node at elements old is = sym (ap (λ l. node_code s node.place (Seq at (expressions_of l)) old) is)

-- ---- cases

pub cases-typed : (ns : List Scoped) (rest others : List Case) (c : Case) → rest ≡ others ++ c ∷ [] → AreCasesAnnotated ns rest → AreCasesAnnotated ns others × IsAnnotated ns c.body
cases-typed ns rest others c is typed =
    let P : List Case → Type 0 = λ l. AreCasesAnnotated ns l in
    cases-typed-last ns others c (subst P is typed)

pub cases-typed-in : (s t : LexicalScope) (cs : List Case) → t ≡ s → AreCasesAnnotated (scoped_names t) cs → AreCasesAnnotated (scoped_names s) cs
cases-typed-in s t cs same typed =
    let P : LexicalScope → Type 0 = λ v. AreCasesAnnotated (scoped_names v) cs in
    subst P same typed

pub cases-behind : (b base : ℕ) (rest others : List Case) (c : Case) → rest ≡ others ++ c ∷ [] → base ≡ b + width_cases (cases_of rest)
    → base ≡ b + width_cases (cases_of others) + width (expr_view c.body)
cases-behind b base rest others c is at =
    let all : width_cases (cases_of rest) ≡ width_cases (cases_of others) + width (expr_view c.body) =
    ap (λ l. width_cases (cases_of l)) is ∙ cases-width-last others c in
    omega (arith, at, all)

pub count-behind : {A : Type 0} (l label : ℕ) (rest others : List A) (c : A) → rest ≡ others ++ c ∷ [] → label ≡ l + length rest → label ≡ l + length others + 1
count-behind l label rest others c is at =
    let all : length rest ≡ length (others ++ c ∷ []) = ap length is in
    let sum = length-append others (c ∷ []) in
    omega (arith, at, all, sum)

pub case-code : (s t : LexicalScope) (place inner : Place) (all indexes : List ℕ) (end l label base : ℕ) (rest others : List Case) (c : Case) (old mid new : List Instr)
    → rest ≡ others ++ c ∷ []
    → t ≡ s
    → label ≡ l + length others
    → base ≡ place.base + width_cases (cases_of others)
    → inner ≡ record place { base = base }
    → mid ≡ selected_code t inner c.body old
    → indexes ≡ indexes_to_label label 0 all
    → new ≡ bare_mark (mark.Case indexes label end) ∷ mid
    → select_cases s.names s.labels place.valued place.tail place.dest all end l place.base (cases_of others) new
    ≡ select_cases s.names s.labels place.valued place.tail place.dest all end l place.base (cases_of rest) old
case-code s t place inner all indexes end l label base rest others c old mid new is ts number behind at made named put =
    let front : List Instr → List Instr = λ x. select_cases s.names s.labels place.valued place.tail place.dest all end l place.base (cases_of others) x in
    let body : ℕ → List Instr = λ k. select s.names s.labels place.valued place.tail place.dest k (expr_view c.body) old in
    ap front
    (put
    ∙ ap (λ i. bare_mark (mark.Case i label end) ∷ mid) named
    ∙ ap (λ k. bare_mark (mark.Case (indexes_to_label k 0 all) k end) ∷ mid) number
    ∙ ap (λ m. bare_mark (mark.Case (indexes_to_label (l + length others) 0 all) (l + length others) end) ∷ m)
    (made ∙ ap (λ x. selected_code x inner c.body old) ts ∙ ap (λ p. selected_code s p c.body old) at ∙ ap body behind))
    ∙ sym (cases-last s.names s.labels place.valued place.tail place.dest all end l place.base others c old)
    ∙ ap (λ x. select_cases s.names s.labels place.valued place.tail place.dest all end l place.base (cases_of x) old) (sym is)

-- ---- handlers

pub handlers-typed : (ns : List Scoped) (rest others : List Handler) (h : Handler) → rest ≡ others ++ h ∷ [] → AreHandlersAnnotated ns rest → AreHandlersAnnotated ns others × HandlerTyped ns h
handlers-typed ns rest others h is typed =
    let P : List Handler → Type 0 = λ l. AreHandlersAnnotated ns l in
    handlers-typed-last ns others h (subst P is typed)

pub handlers-typed-in : (s t : LexicalScope) (hs : List Handler) → t ≡ s → AreHandlersAnnotated (scoped_names t) hs → AreHandlersAnnotated (scoped_names s) hs
handlers-typed-in s t hs same typed =
    let P : LexicalScope → Type 0 = λ v. AreHandlersAnnotated (scoped_names v) hs in
    subst P same typed

pub handlers-behind : (b base : ℕ) (rest others : List Handler) (h : Handler) → rest ≡ others ++ h ∷ [] → base ≡ b + width_handlers (handlers_of rest)
    → base ≡ b + width_handlers (handlers_of others) + width (expr_view h.body)
handlers-behind b base rest others h is at =
    let all : width_handlers (handlers_of rest) ≡ width_handlers (handlers_of others) + width (expr_view h.body) =
    ap (λ l. width_handlers (handlers_of l)) is ∙ handlers-width-last others h in
    omega (arith, at, all)

params-length : (ps : List Param) → length (params_view ps) ≡ length ps
params-length [] = refl
params-length (p ∷ ps) = ap suc (params-length ps)

pub labels-behind : (b base : ℕ) (rest others : List Handler) (h : Handler) → rest ≡ others ++ h ∷ [] → base ≡ b + width_labels (handlers_of rest)
    → base ≡ b + width_labels (handlers_of others) + length h.params.items + 1
labels-behind b base rest others h is at =
    let all : width_labels (handlers_of rest) ≡ width_labels (handlers_of others) + suc (length (params_view h.params.items)) =
    ap (λ l. width_labels (handlers_of l)) is ∙ labels-width-last others h in
    let same = params-length h.params.items in
    omega (arith, at, all, same)

pub handler-code : (s t : LexicalScope) (place inner : Place) (end l label params base : ℕ) (rest others : List Handler) (h : Handler) (old mid new : List Instr)
    → rest ≡ others ++ h ∷ []
    → t ≡ s
    → label ≡ l + width_labels (handlers_of others)
    → params ≡ suc label
    → base ≡ place.base + width_handlers (handlers_of others)
    → inner ≡ record place { base = base }
    → mid ≡ select (with_params (params_view h.params.items) (params_from params (params_view h.params.items)) t.names) t.labels inner.valued inner.tail inner.dest inner.base (expr_view h.body) old
    → new ≡ bare_mark (mark.With label end) ∷ mid
    → select_handlers s.names s.labels place.valued place.tail place.dest end l place.base (handlers_of others) new
    ≡ select_handlers s.names s.labels place.valued place.tail place.dest end l place.base (handlers_of rest) old
handler-code s t place inner end l label params base rest others h old mid new is ts number first behind at made put =
    let ps = params_view h.params.items in
    let front : List Instr → List Instr = λ x. select_handlers s.names s.labels place.valued place.tail place.dest end l place.base (handlers_of others) x in
    let body : LexicalScope → Place → ℕ → List Instr = λ x p k. select (with_params ps (params_from k ps) x.names) x.labels p.valued p.tail p.dest p.base (expr_view h.body) old in
    let there : mid ≡ body s (record place { base = place.base + width_handlers (handlers_of others) }) (suc label) =
    made
    ∙ ap (λ x. body x inner params) ts
    ∙ ap (λ p. body s p params) at
    ∙ ap (λ k. body s (record place { base = k }) params) behind
    ∙ ap (body s (record place { base = place.base + width_handlers (handlers_of others) })) first in
    ap front
    (put
    ∙ ap (λ m. bare_mark (mark.With label end) ∷ m) there
    ∙ ap (λ k. bare_mark (mark.With k end) ∷ body s (record place { base = place.base + width_handlers (handlers_of others) }) (suc k)) number)
    ∙ sym (handlers-last s.names s.labels place.valued place.tail place.dest end l place.base others h old)
    ∙ ap (λ x. select_handlers s.names s.labels place.valued place.tail place.dest end l place.base (handlers_of x) old) (sym is)
