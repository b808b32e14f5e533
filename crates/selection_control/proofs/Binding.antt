-- The names of a let, bound one after the other, and left again from the last one on.
use Rattle.std.proofs.Common.{◌≡◌, ℕ, suc, ◌+◌, Bool, false, List, [], ◌∷◌, ◌++◌, option_map, length, drop, ap, sym, ◌∙◌, subst}
use Rattle.bs_words.specs.declared.types.Ty.{Ty}
use Rattle.cmm_tree.specs.Rows.{bindings_of}
use Rattle.cmm_tree.specs.Tree.{Let}
use Rattle.cmm_tree.specs.View.{expr_view, declared_view, params_view}
use Rattle.cmm_tree.specs.declared.expr.Binding.{Binding}
use Rattle.cmm_tree.specs.declared.expr.Expr.{Expr}
use Rattle.cmm_tree.specs.declared.file.Param.{Param}
use Rattle.cmm_types.specs.Annotated.{IsAnnotated}
use Rattle.cmm_types.specs.Lists.{AreBindingsAnnotated}
use Rattle.cmm_types.specs.Types.{Scoped, type_of, type_bound, is_mutable, with_bindings, with_parameters}
use Rattle.mach_ir.specs.declared.mach.Instr.{Instr}
use Rattle.mach_ir.specs.declared.reg.Reg.{Reg}
use Rattle.selection_rules.specs.Select.{NamedRegister, Label, scopes, fresh_register, env_after, select, select_bound, width, width_bound, inner_valued, inner_dest, with_params, params_from}
use Rattle.selection_control.proofs.Bindings.{name_of, after-last, bound-last, bindings-typed-last, scopes-after, scopes-params, before}
use Rattle.selection_control.proofs.LastParts.{part_place}
use Rattle.selection_operands.specs.Below.{selected_code, node_code}
use Rattle.selection_scope.specs.Scoping.{LexicalScope, scoped_names}
use Rattle.selection_scope.specs.declared.place.Node.{Node}
use Rattle.selection_scope.specs.declared.place.Place.{Place}

-- the names and labels are all that is in scope
pub visible-is : (old new : LexicalScope) (ns : List NamedRegister) → new.names ≡ ns → new.labels ≡ old.labels → new ≡ record old { names = ns }
visible-is old new ns n l =
    let at : List NamedRegister → List Label → LexicalScope = λ x y. record { names = x; labels = y } in
    ap (λ x. at x new.labels) n ∙ ap (at ns) l

-- a name is bound as the definition binds it
pub bound-is : (old new : LexicalScope) (b : ℕ) (x : Binding) (ty : Ty) (mutable : Bool) (r : Reg)
    → ty ≡ type_bound (option_map declared_view x.declared) x.value.ty
    → mutable ≡ is_mutable (option_map declared_view x.declared)
    → r ≡ fresh_register b ty
    → IsAnnotated (scoped_names old) x.value
    → new ≡ record old { names = record { scoped = record { name = x.name; type = ty; mutable = mutable }; reg = r } ∷ old.names }
    → new ≡ record old { names = name_of old.names b x ∷ old.names }
bound-is old new b x ty mutable r type changes reg typed put =
    let made : Bool → Reg → Ty → LexicalScope = λ m q t. record old { names = record { scoped = record { name = x.name; type = t; mutable = m }; reg = q } ∷ old.names } in
    let held : ty ≡ type_bound (option_map declared_view x.declared) (type_of (scoped_names old) (expr_view x.value)) =
    type ∙ ap (type_bound (option_map declared_view x.declared)) typed.type in
    put
    ∙ ap (λ m. made m r ty) changes
    ∙ ap (λ q. made (is_mutable (option_map declared_view x.declared)) q ty) reg
    ∙ ap (λ t. made (is_mutable (option_map declared_view x.declared)) (fresh_register b t) t) held

pub more-names : (old new : LexicalScope) (b n : ℕ) (x : Binding) (xs : List Binding)
    → new ≡ record old { names = name_of old.names b x ∷ old.names }
    → n ≡ suc (b + width (expr_view x.value))
    → env_after new.names n (bindings_of xs) ≡ env_after old.names b (bindings_of (x ∷ xs))
more-names old new b n x xs put number =
    ap (λ (s : LexicalScope). env_after s.names n (bindings_of xs)) put
    ∙ ap (λ k. env_after (name_of old.names b x ∷ old.names) k (bindings_of xs)) number

pub more-typed : (old new : LexicalScope) (b : ℕ) (x : Binding) (xs : List Binding)
    → new ≡ record old { names = name_of old.names b x ∷ old.names }
    → AreBindingsAnnotated (scoped_names old) (x ∷ xs)
    → AreBindingsAnnotated (scoped_names new) xs
more-typed old new b x xs put typed =
    let P : LexicalScope → Type 0 = λ s. AreBindingsAnnotated (scoped_names s) xs in
    subst P (sym put) typed.1

-- ---- the last name, whose scope is left

-- the names before the last binding
abbrev pub names_before : List NamedRegister → ℕ → List Binding → List NamedRegister
names_before outer b others = env_after outer b (bindings_of others)

abbrev pub last_name : List NamedRegister → ℕ → List Binding → Binding → NamedRegister
last_name outer b others x = name_of (names_before outer b others) (b + width_bound (bindings_of others)) x

pub names-last : (names outer : List NamedRegister) (b : ℕ) (rest others : List Binding) (x : Binding) → rest ≡ others ++ x ∷ []
    → names ≡ env_after outer b (bindings_of rest)
    → names ≡ last_name outer b others x ∷ names_before outer b others
names-last names outer b rest others x is e =
    e ∙ ap (λ l. env_after outer b (bindings_of l)) is ∙ after-last outer b others x

pub value-typed : (outer : List NamedRegister) (names : List NamedRegister) (b : ℕ) (rest others : List Binding) (x : Binding) → rest ≡ others ++ x ∷ []
    → names ≡ names_before outer b others
    → AreBindingsAnnotated (scopes outer) rest
    → IsAnnotated (scopes names) x.value
value-typed outer names b rest others x is e typed =
    let P : List Binding → Type 0 = λ l. AreBindingsAnnotated (scopes outer) l in
    let Q : List Scoped → Type 0 = λ s. IsAnnotated s x.value in
    let last = bindings-typed-last (scopes outer) others x (subst P is typed) in
    subst Q (sym (scopes-after outer b (bindings_of others)) ∙ ap scopes (sym e)) last.1

pub others-typed : (outer : List NamedRegister) (rest others : List Binding) (x : Binding) → rest ≡ others ++ x ∷ []
    → AreBindingsAnnotated (scopes outer) rest
    → AreBindingsAnnotated (scopes outer) others
others-typed outer rest others x is typed =
    let P : List Binding → Type 0 = λ l. AreBindingsAnnotated (scopes outer) l in
    (bindings-typed-last (scopes outer) others x (subst P is typed)).0

pub value-code : (outer names : List NamedRegister) (labels held : List Label) (b base : ℕ) (rest others : List Binding) (x : Binding) (r : Reg) (old new : List Instr)
    → rest ≡ others ++ x ∷ []
    → names ≡ names_before outer b others
    → held ≡ labels
    → r ≡ (last_name outer b others x).reg
    → base ≡ suc (b + width_bound (bindings_of others))
    → new ≡ select names held false false r base (expr_view x.value) old
    → select_bound outer labels b (bindings_of others) new ≡ select_bound outer labels b (bindings_of rest) old
value-code outer names labels held b base rest others x r old new is ns ls reg number made =
    let inner = names_before outer b others in
    let e = expr_view x.value in
    ap (λ n. select_bound outer labels b (bindings_of others) n)
    (made
    ∙ ap (λ n. select n held false false r base e old) ns
    ∙ ap (λ n. select inner n false false r base e old) ls
    ∙ ap (λ n. select inner labels false false n base e old) reg
    ∙ ap (λ n. select inner labels false false (last_name outer b others x).reg n e old) number)
    ∙ sym (bound-last outer labels b others x old)
    ∙ ap (λ l. select_bound outer labels b (bindings_of l) old) (sym is)

-- ---- a let as a whole

pub let-code : (s s1 s2 : LexicalScope) (node : Node) (at first base : ℕ) (bs : List Binding) (body : Expr) (place : Place) (old mid new : List Instr)
    → s1 ≡ record s { names = env_after s.names first (bindings_of bs) }
    → s2 ≡ s1
    → node.ty ≡ type_of (scoped_names s) (Let at (bindings_of bs) (expr_view body))
    → first ≡ suc node.place.base
    → base ≡ first + width_bound (bindings_of bs)
    → place ≡ part_place node base
    → mid ≡ selected_code s1 place body old
    → new ≡ select_bound (drop (length bs) s2.names) s2.labels first (bindings_of bs) mid
    → new ≡ node_code s node.place (Let at (bindings_of bs) (expr_view body)) old
let-code s s1 s2 node at first base bs body place old mid new bound left type one behind part made values =
    let p = node.place in
    let inner : LexicalScope = record s { names = env_after s.names first (bindings_of bs) } in
    let code : ℕ → ℕ → Ty → List Instr = λ k m y.
    select_bound s.names s.labels k (bindings_of bs)
    (select (env_after s.names k (bindings_of bs)) s.labels (inner_valued p.valued y) p.tail (inner_dest y p.base p.dest) m (expr_view body) old) in
    let whole : mid ≡ selected_code inner (part_place node base) body old =
    made ∙ ap (λ x. selected_code x place body old) bound ∙ ap (λ q. selected_code inner q body old) part in
    values
    ∙ ap (λ (x : LexicalScope). select_bound (drop (length bs) x.names) x.labels first (bindings_of bs) mid) (left ∙ bound)
    ∙ ap (λ env. select_bound env s.labels first (bindings_of bs) mid) (before s.names first bs)
    ∙ ap (λ m. select_bound s.names s.labels first (bindings_of bs) m) whole
    ∙ ap (λ m. code first m node.ty) behind
    ∙ ap (λ k. code k (k + width_bound (bindings_of bs)) node.ty) one
    ∙ ap (code (suc p.base) (suc p.base + width_bound (bindings_of bs))) type

-- the body is in the scope of all of the names
pub body-typed : (s s1 : LexicalScope) (first : ℕ) (bs : List Binding) (body : Expr)
    → s1 ≡ record s { names = env_after s.names first (bindings_of bs) }
    → IsAnnotated (with_bindings (scoped_names s) (bindings_of bs)) body
    → IsAnnotated (scoped_names s1) body
body-typed s s1 first bs body bound typed =
    let Q : List Scoped → Type 0 = λ x. IsAnnotated x body in
    subst Q (sym (scopes-after s.names first (bindings_of bs)) ∙ ap scoped_names (sym bound)) typed

-- all of them are left again
pub names-again : (s s1 s2 : LexicalScope) (first : ℕ) (bs : List Binding)
    → s1 ≡ record s { names = env_after s.names first (bindings_of bs) }
    → s2 ≡ s1
    → drop (length bs) s2.names ≡ s.names
names-again s s1 s2 first bs bound left =
    ap (λ (x : LexicalScope). drop (length bs) x.names) (left ∙ bound) ∙ before s.names first bs

-- ---- parameters

pub in-params : (s s1 : LexicalScope) (number : ℕ) (ps items : List Param) (body : Expr)
    → ps ≡ items
    → s1 ≡ record s { names = with_params (params_view ps) (params_from number (params_view ps)) s.names }
    → IsAnnotated (with_parameters (params_view items) (scoped_names s)) body
    → IsAnnotated (scoped_names s1) body
in-params s s1 number ps items body is put typed =
    let Q : List Scoped → Type 0 = λ x. IsAnnotated x body in
    subst Q
    (ap (λ l. with_parameters (params_view l) (scoped_names s)) (sym is)
    ∙ sym (scopes-params s.names number (params_view ps))
    ∙ ap scoped_names (sym put))
    typed
