-- One turn of a loop over the parts of a node: the part at the index is replaced by one of the same view.
use Rattle.std.proofs.Common.{◌≡◌, ℕ, zero, suc, ◌+◌, ◌<◌, List, [], ◌∷◌, ◌++◌, length, get_or, take, drop, set, map, option_map, Option, Bool, ◌||◌, refl, ap, sym, ◌∙◌, subst, arith}
use Rattle.std.proofs.lemmas.List.{drop-set-lt, take_more_set}
use Rattle.cmm_tree.specs.Tree.{Expression, Expressions, NoMore, More, NoBinding, Bind, Choose, Handle}
use Rattle.cmm_tree.specs.View.{expr_view, params_view, label_view, declared_view, index_view}
use Rattle.cmm_tree.specs.declared.expr.Expr.{Expr}
use Rattle.cmm_tree.specs.declared.expr.Binding.{Binding}
use Rattle.cmm_tree.specs.declared.expr.Case.{Case}
use Rattle.cmm_tree.specs.declared.expr.Handler.{Handler}
use Rattle.bs_words.specs.declared.types.Ty.{Ty}
use Rattle.bs_words.specs.declared.types.Ty.TheVariants.{Never, NoValue, Int, Val, Addr}
use Rattle.cmm_types.specs.declared.role.Role.{Role}
use Rattle.cmm_types.specs.declared.role.Role.TheVariants as roles
use Rattle.cmm_types.specs.declared.checker.Checker.{Checker}
use Rattle.cmm_tree.specs.Symbols.{DefinedSymbol}
use Rattle.cmm_types.specs.Types.{Scoped, with_parameters, with_bindings, holds_float, row_holds_float, bindings_hold_float, cases_hold_float, handlers_hold_float, is_declared_float, has_float_parameter, type_without_float, type_of_last, type_of_cases, type_of_handlers, join}
use Rattle.cmm_types.specs.Gathered.{used_as, faults_in, row_faults, bindings_faults, cases_faults, handlers_faults, params_faults, declared_faults}
use Rattle.bs_fault.specs.Reported.{Faults, noted_all}
use Rattle.cmm_types.proofs.Loops.{Noting, last_or}
use Rattle.cmm_types.proofs.Joining.{join_assoc}
use Rattle.std.proofs.Math.Bool.{or_assoc}
use Rattle.cmm_types.specs.Annotated.{IsAnnotated}
use Rattle.cmm_tree.specs.Rows.{expressions_of, bindings_of, cases_of, handlers_of}
use Rattle.cmm_types.specs.Lists.{AreAnnotated, AreBindingsAnnotated, AreCasesAnnotated, AreHandlersAnnotated, with_binding}
use Rattle.bs_words.proofs.Lists.{drop_step}

-- what is left begins with the item at the index, and the rest stays as it is

pub drop_behind : {A : Type 0} → (xs : List A) (i : ℕ) (y : A) → drop (i + 1) (set xs i y) ≡ drop (i + 1) xs
drop_behind xs i y = drop-set-lt (i + 1) xs i y (omega arith)

-- ---- expressions

pub row_of-set : (xs : List Expr) (i : ℕ) (x e : Expr) → i < length xs → x ≡ get_or xs i x → expr_view e ≡ expr_view x → expressions_of (set xs i e) ≡ expressions_of xs
row_of-set [] i x e lt at v = absurd (omega arith)
row_of-set (y ∷ ys) zero x e lt at v = ap (λ w. More w (expressions_of ys)) (v ∙ ap (λ (p : Expr). expr_view p) at)
row_of-set (y ∷ ys) (suc i) x e lt at v = ap (More (expr_view y)) (row_of-set ys i x e (omega arith) at v)

annotated_push : (names : List Scoped) (xs : List Expr) (e : Expr) → AreAnnotated names xs → IsAnnotated names e → AreAnnotated names (xs ++ e ∷ [])
annotated_push names [] e all own = (own, tt)
annotated_push names (x ∷ xs) e all own = (all.0, annotated_push names xs e all.1 own)

pub annotated-set : (names : List Scoped) (xs : List Expr) (i : ℕ) (e : Expr) → i < length xs → AreAnnotated names (take i xs) → IsAnnotated names e → AreAnnotated names (take (i + 1) (set xs i e))
annotated-set names xs i e lt all own =
    let P : List Expr → Type 0 = λ l. AreAnnotated names l in
    subst P (sym (take_more_set xs i e lt)) (annotated_push names (take i xs) e all own)

-- ---- cases

pub cases_of-set : (xs : List Case) (i : ℕ) (x e : Case) → i < length xs → x ≡ get_or xs i x → e.indexes ≡ x.indexes → expr_view e.body ≡ expr_view x.body → cases_of (set xs i e) ≡ cases_of xs
cases_of-set [] i x e lt at same v = absurd (omega arith)
cases_of-set (y ∷ ys) zero x e lt at same v =
    ap (λ w. Choose (map index_view w.items) (expr_view e.body) (cases_of ys)) (same ∙ ap (λ (p : Case). p.indexes) at)
    ∙ ap (λ w. Choose (map index_view y.indexes.items) w (cases_of ys)) (v ∙ ap (λ (p : Case). expr_view p.body) at)
cases_of-set (y ∷ ys) (suc i) x e lt at same v =
    ap (Choose (map index_view y.indexes.items) (expr_view y.body)) (cases_of-set ys i x e (omega arith) at same v)

cases_push : (names : List Scoped) (xs : List Case) (e : Case) → AreCasesAnnotated names xs → IsAnnotated names e.body → AreCasesAnnotated names (xs ++ e ∷ [])
cases_push names [] e all own = (own, tt)
cases_push names (x ∷ xs) e all own = (all.0, cases_push names xs e all.1 own)

pub cases-set : (names : List Scoped) (xs : List Case) (i : ℕ) (e : Case) → i < length xs → AreCasesAnnotated names (take i xs) → IsAnnotated names e.body → AreCasesAnnotated names (take (i + 1) (set xs i e))
cases-set names xs i e lt all own =
    let P : List Case → Type 0 = λ l. AreCasesAnnotated names l in
    subst P (sym (take_more_set xs i e lt)) (cases_push names (take i xs) e all own)

-- ---- handlers

pub handlers_of-set : (xs : List Handler) (i : ℕ) (x e : Handler) → i < length xs → x ≡ get_or xs i x → e ≡ record x { body = e.body } → expr_view e.body ≡ expr_view x.body → handlers_of (set xs i e) ≡ handlers_of xs
handlers_of-set [] i x e lt at same v = absurd (omega arith)
handlers_of-set (y ∷ ys) zero x e lt at same v =
    ap (λ (p : Handler). Handle p.at (label_view p.label) (params_view p.params.items) (expr_view p.body) (handlers_of ys)) same
    ∙ ap (λ w. Handle x.at (label_view x.label) (params_view x.params.items) w (handlers_of ys)) v
    ∙ ap (λ (p : Handler). Handle p.at (label_view p.label) (params_view p.params.items) (expr_view p.body) (handlers_of ys)) at
handlers_of-set (y ∷ ys) (suc i) x e lt at same v =
    ap (Handle y.at (label_view y.label) (params_view y.params.items) (expr_view y.body)) (handlers_of-set ys i x e (omega arith) at same v)

handlers_push : (names : List Scoped) (xs : List Handler) (e : Handler) → AreHandlersAnnotated names xs → IsAnnotated (with_parameters (params_view e.params.items) names) e.body → AreHandlersAnnotated names (xs ++ e ∷ [])
handlers_push names [] e all own = (own, tt)
handlers_push names (x ∷ xs) e all own = (all.0, handlers_push names xs e all.1 own)

pub handlers-set : (names : List Scoped) (xs : List Handler) (i : ℕ) (e : Handler) → i < length xs → AreHandlersAnnotated names (take i xs) → IsAnnotated (with_parameters (params_view e.params.items) names) e.body → AreHandlersAnnotated names (take (i + 1) (set xs i e))
handlers-set names xs i e lt all own =
    let P : List Handler → Type 0 = λ l. AreHandlersAnnotated names l in
    subst P (sym (take_more_set xs i e lt)) (handlers_push names (take i xs) e all own)

-- ---- bindings

pub bindings_of-set : (xs : List Binding) (i : ℕ) (x e : Binding) → i < length xs → x ≡ get_or xs i x → e ≡ record x { value = e.value } → expr_view e.value ≡ expr_view x.value → bindings_of (set xs i e) ≡ bindings_of xs
bindings_of-set [] i x e lt at same v = absurd (omega arith)
bindings_of-set (y ∷ ys) zero x e lt at same v =
    ap (λ (p : Binding). Bind p.at p.name (option_map declared_view p.declared) (expr_view p.value) (bindings_of ys)) same
    ∙ ap (λ w. Bind x.at x.name (option_map declared_view x.declared) w (bindings_of ys)) v
    ∙ ap (λ (p : Binding). Bind p.at p.name (option_map declared_view p.declared) (expr_view p.value) (bindings_of ys)) at
bindings_of-set (y ∷ ys) (suc i) x e lt at same v =
    ap (Bind y.at y.name (option_map declared_view y.declared) (expr_view y.value)) (bindings_of-set ys i x e (omega arith) at same v)

bindings_push : (names : List Scoped) (xs : List Binding) (e : Binding) → AreBindingsAnnotated names xs → IsAnnotated (with_bindings names (bindings_of xs)) e.value → AreBindingsAnnotated names (xs ++ e ∷ [])
bindings_push names [] e all own = (own, tt)
bindings_push names (x ∷ xs) e all own = (all.0, bindings_push (with_binding names x) xs e all.1 own)

pub bindings-set : (names : List Scoped) (xs : List Binding) (i : ℕ) (e : Binding) → i < length xs → AreBindingsAnnotated names (take i xs) → IsAnnotated (with_bindings names (bindings_of (take i xs))) e.value → AreBindingsAnnotated names (take (i + 1) (set xs i e))
bindings-set names xs i e lt all own =
    let P : List Binding → Type 0 = λ l. AreBindingsAnnotated names l in
    subst P (sym (take_more_set xs i e lt)) (bindings_push names (take i xs) e all own)

names_push : (names : List Scoped) (xs : List Binding) (e : Binding) → with_bindings names (bindings_of (xs ++ e ∷ [])) ≡ with_binding (with_bindings names (bindings_of xs)) e
names_push names [] e = refl
names_push names (x ∷ xs) e = names_push (with_binding names x) xs e

-- the names after one binding more
pub names-set : (names : List Scoped) (xs : List Binding) (i : ℕ) (e : Binding) → i < length xs → with_bindings names (bindings_of (take (i + 1) (set xs i e))) ≡ with_binding (with_bindings names (bindings_of (take i xs))) e
names-set names xs i e lt = ap (λ (l : List Binding). with_bindings names (bindings_of l)) (take_more_set xs i e lt) ∙ names_push names (take i xs) e

-- ---- what is noted, and what the nodes come to

pub row_turn : (role : Role) (d : List ℕ → Option DefinedSymbol) (xs : List Expr) (i : ℕ) (x : Expr) (before now after : Checker) (all : Faults) → i < length xs → x ≡ get_or xs i x
    → Noting before now (row_faults role d before.names before.labels (expressions_of (drop i xs))) all
    → after.names ≡ now.names → after.labels ≡ now.labels
    → after.found ≡ noted_all (used_as role now.names (expr_view x) (faults_in d now.names now.labels (expr_view x))) now.found
    → Noting before after (row_faults role d before.names before.labels (expressions_of (drop (i + 1) xs))) all
row_turn role d xs i x before now after all lt at noting names labels found =
    let n = before.names in
    let l = before.labels in
    record {
      names = names ∙ noting.names;
      labels = labels ∙ noting.labels;
      found =
          ap (noted_all (row_faults role d n l (expressions_of (drop (i + 1) xs))))
          (found
          ∙ ap (λ p. noted_all (used_as role p (expr_view x) (faults_in d p now.labels (expr_view x))) now.found) noting.names
          ∙ ap (λ q. noted_all (used_as role n (expr_view x) (faults_in d n q (expr_view x))) now.found) noting.labels)
          ∙ sym (ap (λ k. noted_all (row_faults role d n l (expressions_of k)) now.found) (drop_step xs i x lt at))
          ∙ noting.found;
    }

pub row_float_turn : (xs : List Expr) (i : ℕ) (x : Expr) (float held : Bool) → i < length xs → x ≡ get_or xs i x → held ≡ holds_float (expr_view x) → ((float || held) || row_holds_float (expressions_of (drop (i + 1) xs))) ≡ (float || row_holds_float (expressions_of (drop i xs)))
row_float_turn xs i x float held lt at is =
    ap (λ h. (float || h) || row_holds_float (expressions_of (drop (i + 1) xs))) is
    ∙ or_assoc float (holds_float (expr_view x)) (row_holds_float (expressions_of (drop (i + 1) xs)))
    ∙ sym (ap (λ k. float || row_holds_float (expressions_of k)) (drop_step xs i x lt at))

pub last_turn : (names : List Scoped) (xs : List Expr) (i : ℕ) (x : Expr) (before plain : Ty) → i < length xs → x ≡ get_or xs i x → plain ≡ type_without_float names (expr_view x) → last_or names plain (expressions_of (drop (i + 1) xs)) ≡ last_or names before (expressions_of (drop i xs))
last_turn names xs i x before plain lt at is =
    ap (λ p. last_or names p (expressions_of (drop (i + 1) xs))) is
    ∙ sym (ap (λ k. last_or names before (expressions_of k)) (drop_step xs i x lt at))

pub last_is : (names : List Scoped) (row : Expressions) → last_or names NoValue row ≡ type_of_last names row
last_is names NoMore = refl
last_is names (More e rest) = after e rest
  where
    after : (e : Expression) (rest : Expressions) → last_or names (type_without_float names e) rest ≡ type_of_last names (More e rest)
    after e NoMore = refl
    after e (More f rest) = after f rest

pub cases_turn : (d : List ℕ → Option DefinedSymbol) (xs : List Case) (i : ℕ) (x : Case) (before now after : Checker) (all : Faults) → i < length xs → x ≡ get_or xs i x
    → Noting before now (cases_faults d before.names before.labels (cases_of (drop i xs))) all
    → after.names ≡ now.names → after.labels ≡ now.labels
    → after.found ≡ noted_all (faults_in d now.names now.labels (expr_view x.body)) now.found
    → Noting before after (cases_faults d before.names before.labels (cases_of (drop (i + 1) xs))) all
cases_turn d xs i x before now after all lt at noting names labels found =
    let n = before.names in
    let l = before.labels in
    record {
      names = names ∙ noting.names;
      labels = labels ∙ noting.labels;
      found =
          ap (noted_all (cases_faults d n l (cases_of (drop (i + 1) xs))))
          (found
          ∙ ap (λ p. noted_all (faults_in d p now.labels (expr_view x.body)) now.found) noting.names
          ∙ ap (λ q. noted_all (faults_in d n q (expr_view x.body)) now.found) noting.labels)
          ∙ sym (ap (λ k. noted_all (cases_faults d n l (cases_of k)) now.found) (drop_step xs i x lt at))
          ∙ noting.found;
    }

pub cases_float_turn : (xs : List Case) (i : ℕ) (x : Case) (float held : Bool) → i < length xs → x ≡ get_or xs i x → held ≡ holds_float (expr_view x.body) → ((float || held) || cases_hold_float (cases_of (drop (i + 1) xs))) ≡ (float || cases_hold_float (cases_of (drop i xs)))
cases_float_turn xs i x float held lt at is =
    ap (λ h. (float || h) || cases_hold_float (cases_of (drop (i + 1) xs))) is
    ∙ or_assoc float (holds_float (expr_view x.body)) (cases_hold_float (cases_of (drop (i + 1) xs)))
    ∙ sym (ap (λ k. float || cases_hold_float (cases_of k)) (drop_step xs i x lt at))

pub cases_join_turn : (names : List Scoped) (xs : List Case) (i : ℕ) (x : Case) (before plain : Ty) → i < length xs → x ≡ get_or xs i x → plain ≡ type_without_float names (expr_view x.body) → join (join before plain) (type_of_cases names (cases_of (drop (i + 1) xs))) ≡ join before (type_of_cases names (cases_of (drop i xs)))
cases_join_turn names xs i x before plain lt at is =
    ap (λ p. join (join before p) (type_of_cases names (cases_of (drop (i + 1) xs)))) is
    ∙ join_assoc before (type_without_float names (expr_view x.body)) (type_of_cases names (cases_of (drop (i + 1) xs)))
    ∙ sym (ap (λ k. join before (type_of_cases names (cases_of k))) (drop_step xs i x lt at))

pub handlers_turn : (d : List ℕ → Option DefinedSymbol) (xs : List Handler) (i : ℕ) (x : Handler) (before now after : Checker) (all : Faults) → i < length xs → x ≡ get_or xs i x
    → Noting before now (handlers_faults d before.names before.labels (handlers_of (drop i xs))) all
    → after.names ≡ now.names → after.labels ≡ now.labels
    → after.found ≡ noted_all (faults_in d (with_parameters (params_view x.params.items) now.names) now.labels (expr_view x.body)) (noted_all (params_faults (params_view x.params.items)) now.found)
    → Noting before after (handlers_faults d before.names before.labels (handlers_of (drop (i + 1) xs))) all
handlers_turn d xs i x before now after all lt at noting names labels found =
    let n = before.names in
    let l = before.labels in
    let ps = params_view x.params.items in
    record {
      names = names ∙ noting.names;
      labels = labels ∙ noting.labels;
      found =
          ap (noted_all (handlers_faults d n l (handlers_of (drop (i + 1) xs))))
          (found
          ∙ ap (λ p. noted_all (faults_in d (with_parameters ps p) now.labels (expr_view x.body)) (noted_all (params_faults ps) now.found)) noting.names
          ∙ ap (λ q. noted_all (faults_in d (with_parameters ps n) q (expr_view x.body)) (noted_all (params_faults ps) now.found)) noting.labels)
          ∙ sym (ap (λ k. noted_all (handlers_faults d n l (handlers_of k)) now.found) (drop_step xs i x lt at))
          ∙ noting.found;
    }

pub handlers_float_turn : (xs : List Handler) (i : ℕ) (x : Handler) (float held : Bool) → i < length xs → x ≡ get_or xs i x → held ≡ (has_float_parameter (params_view x.params.items) || holds_float (expr_view x.body)) → ((float || held) || handlers_hold_float (handlers_of (drop (i + 1) xs))) ≡ (float || handlers_hold_float (handlers_of (drop i xs)))
handlers_float_turn xs i x float held lt at is =
    ap (λ h. (float || h) || handlers_hold_float (handlers_of (drop (i + 1) xs))) is
    ∙ or_assoc float (has_float_parameter (params_view x.params.items) || holds_float (expr_view x.body)) (handlers_hold_float (handlers_of (drop (i + 1) xs)))
    ∙ sym (ap (λ k. float || handlers_hold_float (handlers_of k)) (drop_step xs i x lt at))

pub handlers_join_turn : (names : List Scoped) (xs : List Handler) (i : ℕ) (x : Handler) (before plain : Ty) → i < length xs → x ≡ get_or xs i x → plain ≡ type_without_float (with_parameters (params_view x.params.items) names) (expr_view x.body) → join (join before plain) (type_of_handlers names (handlers_of (drop (i + 1) xs))) ≡ join before (type_of_handlers names (handlers_of (drop i xs)))
handlers_join_turn names xs i x before plain lt at is =
    ap (λ p. join (join before p) (type_of_handlers names (handlers_of (drop (i + 1) xs)))) is
    ∙ join_assoc before (type_without_float (with_parameters (params_view x.params.items) names) (expr_view x.body)) (type_of_handlers names (handlers_of (drop (i + 1) xs)))
    ∙ sym (ap (λ k. join before (type_of_handlers names (handlers_of k))) (drop_step xs i x lt at))

-- the names after the bindings that are left, after one of them
pub names_turn : (xs : List Binding) (i : ℕ) (x : Binding) (now after : List Scoped) → i < length xs → x ≡ get_or xs i x → after ≡ with_binding now x → with_bindings after (bindings_of (drop (i + 1) xs)) ≡ with_bindings now (bindings_of (drop i xs))
names_turn xs i x now after lt at names =
    ap (λ n. with_bindings n (bindings_of (drop (i + 1) xs))) names
    ∙ sym (ap (λ k. with_bindings now (bindings_of k)) (drop_step xs i x lt at))

pub bindings_turn : (d : List ℕ → Option DefinedSymbol) (xs : List Binding) (i : ℕ) (x : Binding) (now after : Checker) → i < length xs → x ≡ get_or xs i x
    → after.names ≡ with_binding now.names x → after.labels ≡ now.labels
    → after.found ≡ noted_all (used_as roles.Taken now.names (expr_view x.value) (faults_in d now.names now.labels (expr_view x.value))) (noted_all (declared_faults (option_map declared_view x.declared)) now.found)
    → noted_all (bindings_faults d after.names after.labels (bindings_of (drop (i + 1) xs))) after.found ≡ noted_all (bindings_faults d now.names now.labels (bindings_of (drop i xs))) now.found
bindings_turn d xs i x now after lt at names labels found =
    ap (λ n. noted_all (bindings_faults d n after.labels (bindings_of (drop (i + 1) xs))) after.found) names
    ∙ ap (λ l. noted_all (bindings_faults d (with_binding now.names x) l (bindings_of (drop (i + 1) xs))) after.found) labels
    ∙ ap (noted_all (bindings_faults d (with_binding now.names x) now.labels (bindings_of (drop (i + 1) xs)))) found
    ∙ sym (ap (λ k. noted_all (bindings_faults d now.names now.labels (bindings_of k)) now.found) (drop_step xs i x lt at))

pub bindings_float_turn : (xs : List Binding) (i : ℕ) (x : Binding) (float held : Bool) → i < length xs → x ≡ get_or xs i x → held ≡ (is_declared_float (option_map declared_view x.declared) || holds_float (expr_view x.value)) → ((float || held) || bindings_hold_float (bindings_of (drop (i + 1) xs))) ≡ (float || bindings_hold_float (bindings_of (drop i xs)))
bindings_float_turn xs i x float held lt at is =
    ap (λ h. (float || h) || bindings_hold_float (bindings_of (drop (i + 1) xs))) is
    ∙ or_assoc float (is_declared_float (option_map declared_view x.declared) || holds_float (expr_view x.value)) (bindings_hold_float (bindings_of (drop (i + 1) xs)))
    ∙ sym (ap (λ k. float || bindings_hold_float (bindings_of k)) (drop_step xs i x lt at))

-- ---- where a loop ends

pub join_never : (t : Ty) → join t Never ≡ t
join_never Never = refl
join_never NoValue = refl
join_never Int = refl
join_never Val = refl
join_never Addr = refl

-- ---- a part with another value

pub handler_typed : (old new : Handler) (names : List Scoped) → new ≡ record old { body = new.body } → IsAnnotated (with_parameters (params_view old.params.items) names) new.body → IsAnnotated (with_parameters (params_view new.params.items) names) new.body
handler_typed old new names same typed =
    let P : Handler → Type 0 = λ h. IsAnnotated (with_parameters (params_view h.params.items) names) new.body in
    subst P (sym same) typed

pub with_binding-same : (names : List Scoped) (old new : Binding) → new ≡ record old { value = new.value } → expr_view new.value ≡ expr_view old.value → with_binding names new ≡ with_binding names old
with_binding-same names old new same v =
    ap (λ (b : Binding). with_bindings names (Bind b.at b.name (option_map declared_view b.declared) (expr_view new.value) NoBinding)) same
    ∙ ap (λ (w : Expression). with_bindings names (Bind old.at old.name (option_map declared_view old.declared) w NoBinding)) v
