-- The code of loads, stores and bound tests, where each part of it is given by an equation.
use Rattle.std.proofs.Common.{◌≡◌, ℕ, suc, ◌+◌, ◌-◌, Bool, true, false, List, ◌∷◌, refl, ap, sym, ◌∙◌, arith}
use Rattle.bs_words.specs.declared.types.Chunk.{Chunk}
use Rattle.bs_words.specs.declared.types.Ty.{Ty}
use Rattle.cmm_tree.specs.Tree.{Expression, Load, Store, Checkbound}
use Rattle.cmm_tree.specs.View.{expr_view}
use Rattle.cmm_tree.specs.declared.expr.Expr.{Expr}
use Rattle.cmm_types.specs.Annotated.{IsAnnotated}
use Rattle.cmm_types.specs.Types.{type_of}
use Rattle.cmm_meaning.specs.Evaluation.{is_left_first}
use Rattle.mach_ir.specs.declared.mach.Instr.{Instr}
use Rattle.mach_ir.specs.declared.op.Right.{Right}
use Rattle.mach_ir.specs.declared.reg.Reg.{Reg}
use Rattle.selection_rules.specs.Instructions as emit
use Rattle.selection_rules.specs.Select.{NamedRegister, Label, Code, fresh_register, inner_dest, select, base_of, offset_of, bound_test_operand, bound_test, ordered, only_when, width}
use Rattle.selection_operands.proofs.Addresses.{based}
use Rattle.selection_operands.proofs.Ordered.{ordered_same, constant_needed}
use Rattle.selection_operands.proofs.Steps.{based-by}
use Rattle.selection_operands.specs.Below.{node_code}
use Rattle.selection_scope.specs.Scoping.{LexicalScope, scoped_names}
use Rattle.selection_code.specs.Shapes.{is_register_operand}
use Rattle.selection_scope.specs.declared.place.Place.{Place}

-- an expression, where its register, its first number and its tree are given by equations
pub put-same : (env : List NamedRegister) (labels : List Label) (r x : Reg) (first b : ℕ) (e other : Expression) (next : List Instr)
    → r ≡ x
    → first ≡ b
    → e ≡ other
    → select env labels false false r first e next ≡ select env labels false false x b other next
put-same env labels r x first b e other next p q s =
    ap (λ k. select env labels false false k first e next) p
    ∙ ap (λ k. select env labels false false x k e next) q
    ∙ ap (λ k. select env labels false false x b k next) s

pub fresh-is : (scope : LexicalScope) (number n : ℕ) (e : Expr) (r : Reg)
    → number ≡ n
    → IsAnnotated (scoped_names scope) e
    → r ≡ fresh_register number e.ty
    → r ≡ fresh_register n (type_of (scoped_names scope) (expr_view e))
fresh-is scope number n e r p t f = f ∙ ap (λ k. fresh_register k e.ty) p ∙ ap (fresh_register n) t.type

pub load-is : (scope : LexicalScope) (place : Place) (ty : Ty) (chunk : Chunk) (address base : Expr) (offset first : ℕ) (r d : Reg) (next loaded made : List Instr) (at : ℕ)
    → first ≡ place.base + 2
    → expr_view base ≡ base_of (expr_view address)
    → offset ≡ offset_of (expr_view address)
    → IsAnnotated (scoped_names scope) base
    → ty ≡ type_of (scoped_names scope) (Load at chunk (expr_view address))
    → r ≡ fresh_register (first - 1) base.ty
    → d ≡ inner_dest ty place.base place.dest
    → loaded ≡ emit.load chunk offset r d ∷ next
    → made ≡ select scope.names scope.labels false false r first (expr_view base) loaded
    → made ≡ node_code scope place (Load at chunk (expr_view address)) next
load-is scope place ty chunk address base offset first r d next loaded made at f be o typed t re de l m =
    let env = scope.names in
    let labels = scope.labels in
    let a = expr_view address in
    let own : Reg = inner_dest (type_of (scoped_names scope) (Load at chunk a)) place.base place.dest in
    let follows : Reg → List Instr = λ x. emit.load chunk (offset_of a) x own ∷ next in
    let number : first - 1 ≡ suc place.base = omega arith in
    let first-is : first ≡ suc (suc place.base) = omega arith in
    let same : loaded ≡ follows r =
    l
    ∙ ap (λ k. emit.load chunk k r d ∷ next) o
    ∙ ap (λ x. emit.load chunk (offset_of a) r x ∷ next) (de ∙ ap (λ k. inner_dest k place.base place.dest) t) in
    based-by env labels (suc place.base) (suc (suc place.base)) (first - 1) first a (expr_view base) r made follows number first-is be (re ∙ ap (fresh_register (first - 1)) typed.type)
    (m ∙ ap (select env labels false false r first (expr_view base)) same)

pub store-is : (scope : LexicalScope) (place : Place) (chunk : Chunk) (address base value : Expr) (offset first second : ℕ) (x y : Reg) (left : Bool) (next stored made : List Instr) (at : ℕ)
    → first ≡ place.base + 3
    → second ≡ first + width (expr_view address)
    → expr_view base ≡ base_of (expr_view address)
    → offset ≡ offset_of (expr_view address)
    → IsAnnotated (scoped_names scope) base
    → IsAnnotated (scoped_names scope) value
    → x ≡ fresh_register (first - 2) base.ty
    → y ≡ fresh_register (first - 1) value.ty
    → left ≡ is_left_first (scoped_names scope) (expr_view address) (expr_view value)
    → stored ≡ emit.store chunk offset x y ∷ next
    → made
    ≡ ordered left (only_when true (select scope.names scope.labels false false x first (expr_view base)))
    (only_when true (select scope.names scope.labels false false y second (expr_view value))) stored
    → made ≡ node_code scope place (Store at chunk (expr_view address) (expr_view value)) next
store-is scope place chunk address base value offset first second x y left next stored made at f s be o bt vt xe ye le st m =
    let env = scope.names in
    let labels = scope.labels in
    let b = place.base in
    let a = expr_view address in
    let v = expr_view value in
    let X : Reg = fresh_register (suc b) (type_of (scoped_names scope) (base_of a)) in
    let Y : Reg = fresh_register (suc (suc b)) (type_of (scoped_names scope) v) in
    let first-is : first ≡ suc (suc (suc b)) = omega arith in
    let second-is : second ≡ suc (suc (suc b)) + width a = omega arith in
    let x-number : first - 2 ≡ suc b = omega arith in
    let y-number : first - 1 ≡ suc (suc b) = omega arith in
    let x-is : x ≡ X = fresh-is scope (first - 2) (suc b) base x x-number bt xe ∙ ap (λ k. fresh_register (suc b) (type_of (scoped_names scope) k)) be in
    let y-is : y ≡ Y = fresh-is scope (first - 1) (suc (suc b)) value y y-number vt ye in
    let L : Code = only_when true (select env labels false false x first (expr_view base)) in
    let R : Code = only_when true (select env labels false false y second v) in
    let stored-is : stored ≡ emit.store chunk (offset_of a) X Y ∷ next =
    st ∙ ap (λ k. emit.store chunk k x y ∷ next) o ∙ ap (λ k. emit.store chunk (offset_of a) k y ∷ next) x-is ∙ ap (λ k. emit.store chunk (offset_of a) X k ∷ next) y-is in
    m
    ∙ ap (λ z. ordered z L R stored) le
    ∙ ap (ordered (is_left_first (scoped_names scope) a v) L R) stored-is
    ∙ ordered_same (is_left_first (scoped_names scope) a v) L _ R _ _
    (λ n. put-same env labels x X first (suc (suc (suc b))) (expr_view base) (base_of a) n x-is first-is be ∙ sym (based env labels (suc b) (suc (suc (suc b))) a n))
    (λ n. put-same env labels y Y second (suc (suc (suc b)) + width a) v v n y-is second-is refl)

pub checkbound-is : (scope : LexicalScope) (place : Place) (bound index : Expr) (first second : ℕ) (r : Right) (x y : Reg) (left needed : Bool) (next tested made : List Instr) (at : ℕ)
    → first ≡ place.base + 3
    → second ≡ first + width (expr_view bound)
    → r ≡ bound_test_operand bound_test (expr_view index)
    → needed ≡ is_register_operand r
    → IsAnnotated (scoped_names scope) bound
    → IsAnnotated (scoped_names scope) index
    → x ≡ fresh_register (first - 2) bound.ty
    → y ≡ fresh_register (first - 1) index.ty
    → left ≡ is_left_first (scoped_names scope) (expr_view bound) (expr_view index)
    → tested ≡ emit.checkbound_instr r x y ∷ next
    → made
    ≡ ordered left (only_when true (select scope.names scope.labels false false x first (expr_view bound)))
    (only_when needed (select scope.names scope.labels false false y second (expr_view index))) tested
    → made ≡ node_code scope place (Checkbound at (expr_view bound) (expr_view index)) next
checkbound-is scope place bound index first second r x y left needed next tested made at f s re ne bt it xe ye le te m =
    let env = scope.names in
    let labels = scope.labels in
    let b = place.base in
    let v = expr_view bound in
    let i = expr_view index in
    let X : Reg = fresh_register (suc b) (type_of (scoped_names scope) v) in
    let Y : Reg = fresh_register (suc (suc b)) (type_of (scoped_names scope) i) in
    let K : Right = bound_test_operand bound_test i in
    let first-is : first ≡ suc (suc (suc b)) = omega arith in
    let second-is : second ≡ suc (suc (suc b)) + width v = omega arith in
    let x-number : first - 2 ≡ suc b = omega arith in
    let y-number : first - 1 ≡ suc (suc b) = omega arith in
    let x-is : x ≡ X = fresh-is scope (first - 2) (suc b) bound x x-number bt xe in
    let y-is : y ≡ Y = fresh-is scope (first - 1) (suc (suc b)) index y y-number it ye in
    let L : Code = only_when true (select env labels false false x first v) in
    let R : Code = only_when needed (select env labels false false y second i) in
    let R' : Code = select env labels false false Y (suc (suc (suc b)) + width v) i in
    let tested-is : tested ≡ emit.checkbound_instr K X Y ∷ next =
    te ∙ ap (λ k. emit.checkbound_instr k x y ∷ next) re ∙ ap (λ k. emit.checkbound_instr K k y ∷ next) x-is ∙ ap (λ k. emit.checkbound_instr K X k ∷ next) y-is in
    m
    ∙ ap (λ z. ordered z L R tested) le
    ∙ ap (ordered (is_left_first (scoped_names scope) v i) L R) tested-is
    ∙ ordered_same (is_left_first (scoped_names scope) v i) L _ R _ _
    (λ n. put-same env labels x X first (suc (suc (suc b))) v v n x-is first-is refl)
    (λ n.
    ap (λ k. only_when needed (select env labels false false k second i) n) y-is
    ∙ ap (λ k. only_when needed (select env labels false false Y k i) n) second-is
    ∙ ap (λ z. only_when z R' n) (ne ∙ ap is_register_operand re)
    ∙ constant_needed K R' n)
