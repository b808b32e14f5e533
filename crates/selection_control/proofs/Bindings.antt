-- Bindings, by the last of them, and the names after them.
use Rattle.std.proofs.Common.{◌≡◌, ℕ, zero, suc, ◌+◌, false, List, [], ◌∷◌, ◌++◌, length, drop, option_map, refl, ap, ◌∙◌, arith}
use Rattle.cmm_tree.specs.Rows.{bindings_of}
use Rattle.cmm_tree.specs.Tree.{Parameter, Bindings, NoBinding, Bind}
use Rattle.cmm_tree.specs.View.{expr_view, declared_view}
use Rattle.cmm_tree.specs.declared.expr.Binding.{Binding}
use Rattle.cmm_types.specs.Annotated.{IsAnnotated}
use Rattle.cmm_types.specs.Lists.{AreBindingsAnnotated, with_binding}
use Rattle.cmm_types.specs.Types.{Scoped, with_bindings, with_parameters}
use Rattle.mach_ir.specs.declared.mach.Instr.{Instr}
use Rattle.mach_ir.specs.declared.reg.Reg.{Reg}
use Rattle.selection_rules.specs.Select.{NamedRegister, Label, scopes, bound_name, env_after, select, select_bound, width, width_bound, with_params, params_from}

-- ---- the types of the names

pub scopes-after : (env : List NamedRegister) (b : ℕ) (bs : Bindings) → scopes (env_after env b bs) ≡ with_bindings (scopes env) bs
scopes-after env b NoBinding = refl
scopes-after env b (Bind at name declared e rest) = scopes-after (bound_name env b name declared e ∷ env) (suc (b + width e)) rest

pub scopes-params : (env : List NamedRegister) (b : ℕ) (ps : List Parameter) → scopes (with_params ps (params_from b ps) env) ≡ with_parameters ps (scopes env)
scopes-params env b [] = refl
scopes-params env b (p ∷ ps) = scopes-params _ (suc b) ps

grown : {A : Type 0} (front : List A) (x : A) (rest : List A) → front ++ x ∷ rest ≡ (front ++ x ∷ []) ++ rest
grown [] x rest = refl
grown (y ∷ front) x rest = ap (λ l. y ∷ l) (grown front x rest)

-- parameters are before the names that were there
pub params-front : (ps : List Parameter) (rs : List Reg) (env : List NamedRegister) → (front : List NamedRegister) × (with_params ps rs env ≡ front ++ env)
params-front [] rs env = ([], refl)
params-front (p ∷ ps) [] env = ([], refl)
params-front (p ∷ ps) (r ∷ rs) env =
    let more = params-front ps rs (_ ∷ env) in
    (more.0 ++ _ ∷ [], more.1 ∙ grown more.0 _ env)

-- ---- the last binding

-- the name of a binding
abbrev pub name_of : List NamedRegister → ℕ → Binding → NamedRegister
name_of env b x = bound_name env b x.name (option_map declared_view x.declared) (expr_view x.value)

pub after-last : (env : List NamedRegister) (b : ℕ) (xs : List Binding) (x : Binding)
    → env_after env b (bindings_of (xs ++ x ∷ [])) ≡ name_of (env_after env b (bindings_of xs)) (b + width_bound (bindings_of xs)) x ∷ env_after env b (bindings_of xs)
after-last env b [] x =
    let none : b ≡ b + 0 = omega arith in
    ap (λ n. name_of env n x ∷ env) none
after-last env b (y ∷ xs) x =
    let w = width (expr_view y.value) in
    let inner = name_of env b y ∷ env in
    let same : suc (b + w) + width_bound (bindings_of xs) ≡ b + width_bound (bindings_of (y ∷ xs)) = omega arith in
    after-last inner (suc (b + w)) xs x
    ∙ ap (λ n. name_of (env_after inner (suc (b + w)) (bindings_of xs)) n x ∷ env_after inner (suc (b + w)) (bindings_of xs)) same

pub bound-last : (env : List NamedRegister) (labels : List Label) (b : ℕ) (xs : List Binding) (x : Binding) (next : List Instr)
    → select_bound env labels b (bindings_of (xs ++ x ∷ [])) next
    ≡ select_bound env labels b (bindings_of xs)
    (select (env_after env b (bindings_of xs)) labels false false (name_of (env_after env b (bindings_of xs)) (b + width_bound (bindings_of xs)) x).reg (suc (b + width_bound (bindings_of xs))) (expr_view x.value) next)
bound-last env labels b [] x next =
    let none : b ≡ b + 0 = omega arith in
    ap (λ n. select env labels false false (name_of env n x).reg (suc n) (expr_view x.value) next) none
bound-last env labels b (y ∷ xs) x next =
    let w = width (expr_view y.value) in
    let inner = name_of env b y ∷ env in
    let after = env_after inner (suc (b + w)) (bindings_of xs) in
    let same : suc (b + w) + width_bound (bindings_of xs) ≡ b + width_bound (bindings_of (y ∷ xs)) = omega arith in
    ap (λ rest. select env labels false false (name_of env b y).reg (suc b) (expr_view y.value) rest)
    (bound-last inner labels (suc (b + w)) xs x next
    ∙ ap (λ n. select_bound inner labels (suc (b + w)) (bindings_of xs) (select after labels false false (name_of after n x).reg (suc n) (expr_view x.value) next)) same)

pub bindings-typed-last : (names : List Scoped) (xs : List Binding) (x : Binding) → AreBindingsAnnotated names (xs ++ x ∷ [])
    → AreBindingsAnnotated names xs × IsAnnotated (with_bindings names (bindings_of xs)) x.value
bindings-typed-last names [] x t = (tt, t.0)
bindings-typed-last names (y ∷ xs) x t = let more = bindings-typed-last (with_binding names y) xs x t.1 in ((t.0, more.0), more.1)

-- ---- the names that were there before

drop-next : {A : Type 0} (n : ℕ) (l : List A) → drop (suc n) l ≡ drop 1 (drop n l)
drop-next zero l = refl
drop-next (suc n) [] = refl
drop-next (suc n) (x ∷ l) = drop-next n l

pub before : (env : List NamedRegister) (b : ℕ) (xs : List Binding) → drop (length xs) (env_after env b (bindings_of xs)) ≡ env
before env b [] = refl
before env b (y ∷ xs) =
    let inner = name_of env b y ∷ env in
    let n = suc (b + width (expr_view y.value)) in
    drop-next (length xs) (env_after inner n (bindings_of xs)) ∙ ap (drop 1) (before inner n xs)
