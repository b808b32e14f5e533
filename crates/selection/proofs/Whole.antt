-- The code of a whole function, where each part of it is given by an equation.
use Rattle.std.proofs.Common.{◌≡◌, ℕ, suc, ◌+◌, true, not, List, [], length, ap, sym, ◌∙◌, subst, arith}
use Rattle.std.proofs.lemmas.List.{length-map}
use Rattle.bs_words.specs.Contents.{contents}
use Rattle.bs_words.specs.declared.types.Ret.{Ret}
use Rattle.bs_words.specs.declared.types.Ty.{Ty}
use Rattle.cmm_tree.specs.Tree.{Parameter}
use Rattle.cmm_tree.specs.View.{expr_view, function_view, param_view, params_view}
use Rattle.cmm_tree.specs.declared.file.Param.{Param}
use Rattle.cmm_tree.specs.declared.file.Function.{Function}
use Rattle.cmm_types.specs.Annotated.{IsAnnotated}
use Rattle.cmm_types.specs.Types.{Scoped, type_of, with_parameters, result_of}
use Rattle.cmm_types.specs.Typing.{IsFunctionAnnotated}
use Rattle.mach_ir.specs.Placed.{colour_numbers}
use Rattle.mach_ir.specs.declared.mach.Instr.{Instr}
use Rattle.mach_ir.specs.declared.mach.Mach.{Mach}
use Rattle.mach_ir.specs.declared.reg.Reg.{Reg}
use Rattle.selection_rules.specs.Select.{scopes, fresh_register, is_no_value, select, seats, with_params, params_from, moves_all, return_code, colour_regs, selected, width}
use Rattle.selection.specs.Whole.{numbers_in, body_code}
use Rattle.selection.specs.declared.function.Numbers.{Numbers}
use Rattle.selection_control.proofs.Bindings.{scopes-params}
use Rattle.selection_scope.specs.Scoping.{LexicalScope, scoped_names}

abbrev record_of : ℕ → ℕ → ℕ → ℕ → ℕ → Numbers
record_of moved value given base labels = record { moved = moved; value = value; given = given; base = base; labels = labels }

-- so many parameters
pub count-params : (f : Function) (params : List Param) (n : ℕ) → n ≡ length params → params ≡ contents f.params → n ≡ length (params_view (contents f.params))
count-params f params n p q = p ∙ ap length q ∙ sym (length-map (contents f.params) param_view)

-- the numbers, where each is given by an equation
pub numbers-are : (f : Function) (params : List Param) (count moved value given base labels : ℕ)
    → params ≡ contents f.params
    → count ≡ length params
    → moved ≡ 21 + count
    → value ≡ moved + count
    → given ≡ value + 1
    → base ≡ given + 1
    → labels ≡ base + width (expr_view f.body)
    → record_of moved value given base labels ≡ numbers_in (function_view f)
numbers-are f params count moved value given base labels p c me ve ge be le =
    let size : count ≡ length (params_view (contents f.params)) = count-params f params count c p in
    let M : ℕ = 21 + length (params_view (contents f.params)) in
    let V : ℕ = M + length (params_view (contents f.params)) in
    let moved-is : moved ≡ M = omega (arith, size) in
    let value-is : value ≡ V = omega (arith, size) in
    let given-is : given ≡ suc V = omega (arith, size) in
    let base-is : base ≡ suc (suc V) = omega (arith, size) in
    let labels-is : labels ≡ suc (suc V) + width (expr_view f.body) = omega (arith, le, base-is) in
    ap (λ k. record_of k value given base labels) moved-is
    ∙ ap (λ k. record_of M k given base labels) value-is
    ∙ ap (λ k. record_of M V k base labels) given-is
    ∙ ap (λ k. record_of M V (suc V) k labels) base-is
    ∙ ap (record_of M V (suc V) (suc (suc V))) labels-is

-- the scope of the parameters
pub scope-is : (f : Function) (moved : ℕ) (params : List Param) (new scope : LexicalScope)
    → params ≡ contents f.params
    → new ≡ record { names = []; labels = [] }
    → scope ≡ record new { names = with_params (params_view params) (params_from moved (params_view params)) new.names }
    → scope ≡ record { names = with_params (params_view (contents f.params)) (params_from moved (params_view (contents f.params))) []; labels = [] }
scope-is f moved params new scope p n e =
    e
    ∙ ap (λ (v : LexicalScope). record v { names = with_params (params_view params) (params_from moved (params_view params)) v.names }) n
    ∙ ap (λ (l : List Param). record { names = with_params (params_view l) (params_from moved (params_view l)) []; labels = [] }) p

-- the names of the parameters hold the types that the tree was annotated in
pub typed-body : (f : Function) (moved : ℕ) (scope : LexicalScope)
    → scope.names ≡ with_params (params_view (contents f.params)) (params_from moved (params_view (contents f.params))) []
    → IsFunctionAnnotated f
    → IsAnnotated (scoped_names scope) f.body
typed-body f moved scope e typed =
    let ps : List Parameter = params_view (contents f.params) in
    let P : List Scoped → Type 0 = λ ns. IsAnnotated ns f.body in
    subst P (sym (ap scopes e ∙ scopes-params [] moved ps)) typed

-- the body, where each part of it is given by an equation
pub body-is : (f : Function) (numbers : Numbers) (value : Reg) (scope : LexicalScope) (returned body : List Instr)
    → IsFunctionAnnotated f
    → numbers ≡ numbers_in (function_view f)
    → value ≡ fresh_register numbers.value f.body.ty
    → scope ≡ record { names = with_params (params_view (contents f.params)) (params_from numbers.moved (params_view (contents f.params))) []; labels = [] }
    → returned ≡ return_code value numbers.given (result_of f.body.ty)
    → body ≡ select scope.names scope.labels (not (is_no_value f.body.ty)) true value numbers.base (expr_view f.body) returned
    → body ≡ body_code (function_view f)
body-is f numbers value scope returned body typed ne ve se re bo =
    let ps : List Parameter = params_view (contents f.params) in
    let e = expr_view f.body in
    let T : Ty = type_of (with_parameters ps []) e in
    let type-is : f.body.ty ≡ T = typed.type in
    let ended : Reg → ℕ → Ty → List Instr = λ v k t. return_code v k (result_of t) in
    let inside : LexicalScope → Ty → Reg → ℕ → List Instr → List Instr = λ s t v k rest. select s.names s.labels (not (is_no_value t)) true v k e rest in
    let scoped : ℕ → LexicalScope = λ k. record { names = with_params ps (params_from k ps) []; labels = [] } in
    let made : Numbers → Ty → List Instr = λ n t. inside (scoped n.moved) t (fresh_register n.value t) n.base (ended (fresh_register n.value t) n.given t) in
    bo
    ∙ ap (λ s. inside s f.body.ty value numbers.base returned) se
    ∙ ap (inside (scoped numbers.moved) f.body.ty value numbers.base) re
    ∙ ap (λ v. inside (scoped numbers.moved) f.body.ty v numbers.base (ended v numbers.given f.body.ty)) ve
    ∙ ap (λ n. made n f.body.ty) ne
    ∙ ap (made (numbers_in (function_view f))) type-is

-- the function that is made, part by part
abbrev pub made_mach : List ℕ → List Reg → Ret → ℕ → List Reg → List Instr → Mach
made_mach name params result labels placed code = record { name = name; params = params; result = result; labels = labels; colours = placed; code = code }

pub mach-is : (f : Function) (numbers : Numbers) (params : List Param) (name : List ℕ) (placed : List Reg) (result : Ret) (colour : List Reg) (body code made : List Instr)
    → IsFunctionAnnotated f
    → numbers ≡ numbers_in (function_view f)
    → params ≡ contents f.params
    → name ≡ f.name
    → placed ≡ seats 0 21 (params_from numbers.moved (params_view params))
    → result ≡ result_of f.body.ty
    → colour ≡ colour_regs 0 colour_numbers
    → body ≡ body_code (function_view f)
    → code ≡ moves_all (seats 0 21 (params_from numbers.moved (params_view params))) (params_from numbers.moved (params_view params)) body
    → made ≡ code
    → made_mach name placed result numbers.labels colour made ≡ selected (function_view f)
mach-is f numbers params name placed result colour body code made typed ne pe n p r l bo m e =
    let ps : List Parameter = params_view (contents f.params) in
    let T : Ty = type_of (with_parameters ps []) (expr_view f.body) in
    let type-is : f.body.ty ≡ T = typed.type in
    let own : Numbers → List Param → List Reg = λ k x. params_from k.moved (params_view x) in
    let whole : Numbers → List Param → Mach = λ k x. made_mach f.name (seats 0 21 (own k x)) (result_of T) k.labels (colour_regs 0 colour_numbers) (moves_all (seats 0 21 (own k x)) (own k x) (body_code (function_view f))) in
    ap (λ a. made_mach a placed result numbers.labels colour made) n
    ∙ ap (λ b. made_mach f.name b result numbers.labels colour made) p
    ∙ ap (λ t. made_mach f.name (seats 0 21 (own numbers params)) t numbers.labels colour made) (r ∙ ap result_of type-is)
    ∙ ap (λ d. made_mach f.name (seats 0 21 (own numbers params)) (result_of T) numbers.labels d made) l
    ∙ ap (made_mach f.name (seats 0 21 (own numbers params)) (result_of T) numbers.labels (colour_regs 0 colour_numbers))
    (e ∙ m ∙ ap (moves_all (seats 0 21 (own numbers params)) (own numbers params)) bo)
    ∙ ap (whole numbers) pe
    ∙ ap (λ k. whole k (contents f.params)) ne
