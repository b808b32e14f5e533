-- The open registers of selected code are no more than the values and names of the tree, where the front finds no fault.
use Rattle.std.proofs.Common.{◌≡◌, ℕ, suc, ◌+◌, ◌-◌, ◌*◌, ◌<◌, ◌≤◌, Bool, true, false, List, [], ◌∷◌, ◌++◌, length, Option, refl, sym, subst, arith}
use Rattle.bs_fault.specs.Reported.{Faultless, here}
use Rattle.bs_fault.specs.declared.fault.Fault.TheVariants as fault
use Rattle.bs_words.specs.declared.types.Ty.{Ty}
use Rattle.bs_words.specs.declared.types.Ty.TheVariants as ty
use Rattle.cmm_tree.specs.Measures.{values_in, all_tries, row_total, bindings_total, cases_total, handlers_total, own_values, names_in, params_in, count_of}
use Rattle.cmm_tree.specs.Place.{place_of}
use Rattle.cmm_tree.specs.Symbols.{DefinedSymbol}
use Rattle.cmm_tree.specs.Tree.{FunctionTree, Expression, Integer, Pointer, Symbol, Name, Nothing, Float, Let, Assign, Operator, Load, Store, Alloc, App, Extcall, Checkbound, Raise, Seq, If, Switch, Catch, Exit, Try, Expressions, NoMore, More, Bindings, NoBinding, Bind, Cases, NoCase, Choose, Handlers, NoHandler, Handle}
use Rattle.cmm_types.specs.Gathered.{role_faults, function_faults, faults_in, row_faults, bindings_faults, cases_faults, handlers_faults}
use Rattle.cmm_types.specs.Standing.{Visible, labels_of, lasting_labels_of}
use Rattle.cmm_types.specs.Types.{type_of}
use Rattle.cmm_types.specs.declared.role.Role.TheVariants as role
use Rattle.mach_ir.specs.Sizes.{OpenAtMost}
use Rattle.selection_rules.specs.Select.{NamedRegister, scopes, params_from, with_params, width, width_bound, width_labels, bound_name, env_after, count_cases, raised_name, is_based, selected}
use Rattle.selection_laws.specs.Fits.{FunctionFits}
use Rattle.selection_laws.proofs.Accepting.{left as former, right as latter}
use Rattle.selection_rules.proofs.Exits.{scopes_params, scopes_after}
use Rattle.selection_places.proofs.Owned.{dropped, kept, kept_of, either, opens, base_opens, row_opens, bound_opens, seq_opens, cases_opens, handlers_opens, count_params}
use Rattle.selection_places.proofs.Small.{selected_open}
use Rattle.selection_places.proofs.Whole.{opens_of, moved_at, value_at, env_of}

-- either a value is kept, or it is dropped
one_of : (type : Ty) (b c : ℕ) → length (dropped type b) + length (kept type c) ≡ 1
one_of ty.NoValue b c = refl
one_of type b c = refl

-- one register for the value of an expression, and none where it has no value
abbrev keeps : List NamedRegister → Expression → ℕ
keeps env e = length (kept (type_of (scopes env) e) 0)

own : (env : List NamedRegister) (b : ℕ) (e : Expression) → length (dropped (type_of (scopes env) e) b) + keeps env e ≡ 1
own env b e = one_of (type_of (scopes env) e) b 0

-- an exit leaves none, whatever its type
kept_few : (env : List NamedRegister) (b : ℕ) (e : Expression) → length (kept_of env b e) ≤ keeps env e
kept_few env b (Exit at label_at label arguments) = omega arith
kept_few env b e = by (type_of (scopes env) e)
  where
    by : (type : Ty) → length (kept type b) ≤ length (kept type 0)
    by ty.NoValue = omega arith
    by type = omega arith

-- an operand has a value
taken_value : (at : ℕ) (t : Ty) → Faultless (role_faults role.Taken at t) → length (kept t 0) ≡ 1
taken_value at ty.NoValue none = absurd (none (fault.NoValue at) here)
taken_value at t none = refl

outer_value : (at : ℕ) (t : Ty) → Faultless (role_faults role.Outer at t) → length (kept t 0) ≡ 1
outer_value at ty.NoValue none = absurd (none (fault.NoValue at) here)
outer_value at t none = refl

-- with one register for its value, where it leaves one
abbrev Few : List NamedRegister → ℕ → Expression → Type 0
Few env b e = opens env b e + keeps env e ≤ values_in e

-- as an operand
abbrev AsOperand : List NamedRegister → ℕ → Expression → Type 0
AsOperand env b e = opens env b e + 1 ≤ values_in e

taken : (env : List NamedRegister) (b : ℕ) (e : Expression) → Faultless (role_faults role.Taken (place_of e) (type_of (scopes env) e)) → Few env b e → AsOperand env b e
taken env b e none few = let one = taken_value (place_of e) (type_of (scopes env) e) none in omega (arith, few, one)

outer : (env : List NamedRegister) (b : ℕ) (e : Expression) → Faultless (role_faults role.Outer (place_of e) (type_of (scopes env) e)) → Few env b e → AsOperand env b e
outer env b e none few = let one = outer_value (place_of e) (type_of (scopes env) e) none in omega (arith, few, one)

chosen : (q : Bool) (j k n : ℕ) → j + 1 ≤ n → k + 1 ≤ n → either q j k + 1 ≤ n
chosen true j k n x y = x
chosen false j k n x y = y

module _ (d : List ℕ → Option DefinedSymbol) where
  mutual
    few : (env : List NamedRegister) (labels : List Visible) (b : ℕ) (e : Expression) → Faultless (faults_in d (scopes env) labels e) → Few env b e
    few env labels b (Integer at w) none = let one = own env b (Integer at w) in omega (arith, one)
    few env labels b (Pointer at w) none = let one = own env b (Pointer at w) in omega (arith, one)
    few env labels b (Symbol at name) none = let one = own env b (Symbol at name) in omega (arith, one)
    few env labels b (Name at x) none = let one = own env b (Name at x) in omega (arith, one)
    few env labels b (Nothing at) none = omega arith
    few env labels b (Float at word_at operands) none = let one = own env b (Float at word_at operands) in omega (arith, one)
    few env labels b (Let at bindings body) none =
        let one = own env b (Let at bindings body) in
        let x = few_bound env labels (suc b) bindings (former none) in
        let inside = subst (λ names. Faultless (faults_in d names labels body)) (sym (scopes_after env (suc b) bindings)) (latter none) in
        let y = few (env_after env (suc b) bindings) labels (suc b + width_bound bindings) body inside in
        omega (arith, one, x, y)
    few env labels b (Assign at name_at name e) none =
        let one = own env b (Assign at name_at name e) in
        let x = taken env (suc (suc b)) e (latter (latter none)) (few env labels (suc (suc b)) e (former (latter none))) in
        omega (arith, one, x)
    few env labels b (Operator at op e g) none =
        let one = own env b (Operator at op e g) in
        let x = taken env (suc (suc (suc b))) e (latter (former none)) (few env labels (suc (suc (suc b))) e (former (former none))) in
        let y = taken env (suc (suc (suc b)) + width e) g (latter (latter none)) (few env labels (suc (suc (suc b)) + width e) g (former (latter none))) in
        omega (arith, one, x, y)
    few env labels b (App at callee arguments result result_at) none =
        let one = own env b (App at callee arguments result result_at) in
        let from = suc (suc (suc b) + count_of arguments + count_of arguments) in
        let x = taken env from callee (latter (former (latter none))) (few env labels from callee (former (former (latter none)))) in
        let y = few_row env labels (from + width callee) arguments (latter (latter none)) in
        omega (arith, one, x, y)
    few env labels b (Extcall at frame name arguments result result_at) none =
        let one = own env b (Extcall at frame name arguments result result_at) in
        let y = few_outer env labels (suc (suc b + count_of arguments + count_of arguments)) arguments (latter none) in
        omega (arith, one, y)
    few env labels b (Seq at elements) none =
        let one = own env b (Seq at elements) in
        let y = few_seq env labels (suc b) elements none in
        omega (arith, one, y)
    few env labels b (If at condition e g) none =
        let one = own env b (If at condition e g) in
        let from = suc (suc (suc (suc b))) in
        let x = taken env from condition (latter (former none)) (few env labels from condition (former (former none))) in
        let y = few env labels (from + width condition) e (former (latter none)) in
        let z = few env labels (from + width condition + width e) g (latter (latter none)) in
        omega (arith, one, x, y, z)
    few env labels b (Catch at body handlers) none =
        let one = own env b (Catch at body handlers) in
        let from = suc (suc b) + width_labels handlers in
        let x = few env (labels_of handlers ++ labels) from body (former (latter none)) in
        let y = few_handlers env (lasting_labels_of handlers ++ labels) (suc (suc b)) (from + width body) handlers (latter (latter none)) in
        omega (arith, one, x, y)
    few env labels b (Exit at label_at label arguments) none =
        let one = own env b (Exit at label_at label arguments) in
        let y = few_row env labels (suc b + count_of arguments) arguments (latter none) in
        omega (arith, one, y)
    few env labels b (Load at chunk address) none =
        let one = own env b (Load at chunk address) in
        let x = few_base env labels (suc (suc b)) address (former none)
        (taken env (suc (suc b)) address (latter none) (few env labels (suc (suc b)) address (former none))) in
        omega (arith, one, x)
    few env labels b (Store at chunk address e) none =
        let one = own env b (Store at chunk address e) in
        let from = suc (suc (suc b)) in
        let x = few_base env labels from address (former (former none))
        (taken env from address (latter (former none)) (few env labels from address (former (former none)))) in
        let y = taken env (from + width address) e (latter (latter none)) (few env labels (from + width address) e (former (latter none))) in
        omega (arith, one, x, y)
    few env labels b (Checkbound at e g) none =
        let one = own env b (Checkbound at e g) in
        let x = taken env (suc (suc (suc b))) e (latter (former none)) (few env labels (suc (suc (suc b))) e (former (former none))) in
        let y = taken env (suc (suc (suc b)) + width e) g (latter (latter none)) (few env labels (suc (suc (suc b)) + width e) g (former (latter none))) in
        omega (arith, one, x, y)
    few env labels b (Raise at e) none =
        let one = own env b (Raise at e) in
        let x = taken env (suc (suc (suc b))) e (latter none) (few env labels (suc (suc (suc b))) e (former none)) in
        omega (arith, one, x)
    few env labels b (Switch at size_at size selector cases) none =
        let one = own env b (Switch at size_at size selector cases) in
        let from = suc (suc (suc b)) + count_cases cases in
        let x = taken env from selector (latter (former none)) (few env labels from selector (former (former none))) in
        let y = few_cases env labels (from + width selector) cases (latter none) in
        omega (arith, one, x, y)
    few env labels b (Try at body name_at name handler) none =
        let one = own env b (Try at body name_at name handler) in
        let from = suc (suc (suc (suc (suc b)))) in
        let x = few env labels from body (former none) in
        let y = few (raised_name name (suc (suc (suc b))) ∷ env) labels (from + width body) handler (latter none) in
        omega (arith, one, x, y)
    few env labels b (Alloc at header_at header operands) none =
        let one = own env b (Alloc at header_at header operands) in
        let y = few_row env labels (suc (suc (suc b)) + count_of operands) operands (latter none) in
        omega (arith, one, y)

    few_base : (env : List NamedRegister) (labels : List Visible) (b : ℕ) (e : Expression) → Faultless (faults_in d (scopes env) labels e) → AsOperand env b e →
        base_opens env b e (opens env b e) + 1 ≤ values_in e
    few_base env labels b (Operator at op base (Integer at' w)) none whole =
        let x = few env labels b base (former (former none)) in
        chosen (is_based op w) (opens env b base) (opens env b (Operator at op base (Integer at' w))) _ (omega (arith, x)) whole
    few_base env labels b e none whole = whole

    few_row : (env : List NamedRegister) (labels : List Visible) (b : ℕ) (es : Expressions) → Faultless (row_faults role.Taken d (scopes env) labels es) →
        count_of es + row_opens env b es ≤ row_total own_values es
    few_row env labels b NoMore none = omega arith
    few_row env labels b (More e rest) none =
        let x = taken env b e (latter (former none)) (few env labels b e (former (former none))) in
        let y = few_row env labels (b + width e) rest (latter none) in
        omega (arith, x, y)

    few_outer : (env : List NamedRegister) (labels : List Visible) (b : ℕ) (es : Expressions) → Faultless (row_faults role.Outer d (scopes env) labels es) →
        count_of es + row_opens env b es ≤ row_total own_values es
    few_outer env labels b NoMore none = omega arith
    few_outer env labels b (More e rest) none =
        let x = outer env b e (latter (former none)) (few env labels b e (former (former none))) in
        let y = few_outer env labels (b + width e) rest (latter none) in
        omega (arith, x, y)

    few_bound : (env : List NamedRegister) (labels : List Visible) (b : ℕ) (bs : Bindings) → Faultless (bindings_faults d (scopes env) labels bs) →
        bound_opens env b bs ≤ names_in bs + bindings_total own_values bs
    few_bound env labels b NoBinding none = omega arith
    few_bound env labels b (Bind at name declared e rest) none =
        let x = few env labels (suc b) e (former (latter (former none))) in
        let y = few_bound (bound_name env b name declared e ∷ env) labels (suc (b + width e)) rest (latter none) in
        omega (arith, x, y)

    few_seq : (env : List NamedRegister) (labels : List Visible) (b : ℕ) (es : Expressions) → Faultless (row_faults role.Visited d (scopes env) labels es) →
        seq_opens env b es ≤ row_total own_values es
    few_seq env labels b NoMore none = omega arith
    few_seq env labels b (More e rest) none =
        let most = kept_few env b e in
        let x = few env labels (suc b) e (former (former none)) in
        let y = few_seq env labels (suc (b + width e)) rest (latter none) in
        omega (arith, most, x, y)

    few_cases : (env : List NamedRegister) (labels : List Visible) (b : ℕ) (cs : Cases) → Faultless (cases_faults d (scopes env) labels cs) →
        cases_opens env b cs ≤ cases_total own_values cs
    few_cases env labels b NoCase none = omega arith
    few_cases env labels b (Choose indexes body rest) none =
        let x = few env labels b body (former none) in
        let y = few_cases env labels (b + width body) rest (latter none) in
        omega (arith, x, y)

    few_handlers : (env : List NamedRegister) (labels : List Visible) (l b : ℕ) (hs : Handlers) → Faultless (handlers_faults d (scopes env) labels hs) →
        count_params hs + handlers_opens env l b hs ≤ params_in hs + handlers_total own_values hs
    few_handlers env labels l b NoHandler none = omega arith
    few_handlers env labels l b (Handle at label params body rest) none =
        let inside = subst (λ names. Faultless (faults_in d names labels body)) (sym (scopes_params (suc l) params env)) (latter (former none)) in
        let x = few (with_params params (params_from (suc l) params) env) labels b body inside in
        let y = few_handlers env labels (suc l + length params) (b + width body) rest (latter none) in
        omega (arith, x, y)

  -- The open registers of selected code are no more than the values and names of its tree.
  pub opens_by_values : (f : FunctionTree) → Faultless (function_faults d f) → opens_of f ≤ 1 + length f.params + values_in f.body
  opens_by_values f none =
      let inside = subst (λ names. Faultless (faults_in d names [] f.body)) (sym (scopes_params (moved_at f) f.params [])) (former (latter none)) in
      let x = few (env_of f) [] (suc (suc (value_at f))) f.body inside in
      omega (arith, x)

fewer : (f : FunctionTree) {k n : ℕ} → k ≤ n → OpenAtMost (selected f) k → OpenAtMost (selected f) n
fewer f le o = record { numbers = o.numbers; few = let x = o.few in omega (arith, x, le); all = o.all }

-- Of a function without faults whose tokens cover its values: at most two for each token but those of tries.
pub selected_open_by_tokens : (d : List ℕ → Option DefinedSymbol) (f : FunctionTree) → FunctionFits f → Faultless (function_faults d f) →
    12 + 6 * length f.params + (values_in f.body + 2 * all_tries f.body) < 2 * f.tokens → OpenAtMost (selected f) (2 * (f.tokens - all_tries f.body))
selected_open_by_tokens d f fits none cover =
    fewer f (within (opens_of f) (length f.params) (values_in f.body) (all_tries f.body) f.tokens cover (opens_by_values d f none)) (selected_open f fits)
  where
    within : (k n v t tokens : ℕ) → 12 + 6 * n + (v + 2 * t) < 2 * tokens → k ≤ 1 + n + v → k ≤ 2 * (tokens - t)
    within k n v t tokens c m = omega (arith, c, m)
