-- Each fault that is gathered is a fault of a node that is in the function.
use Rattle.std.proofs.Common.{◌≡◌, ℕ, Bool, true, false, not, ◌==◌, List, [], ◌∷◌, ◌++◌, Option, Some, None, is_none, refl, ap, sym, subst}
use Rattle.std.specs.List.{Contains}
use Rattle.bs_words.specs.declared.types.Comp.{Comp}
use Rattle.bs_words.specs.declared.types.Comp.TheVariants as comp
use Rattle.bs_words.specs.declared.types.Ret.{Ret}
use Rattle.bs_words.specs.declared.types.Ret.TheVariants as ret
use Rattle.bs_words.specs.declared.types.Ty.{Ty}
use Rattle.bs_words.specs.declared.types.Ty.TheVariants as ty
use Rattle.bs_fault.specs.declared.fault.Fault.{Fault}
use Rattle.bs_fault.specs.declared.fault.Fault.TheVariants as fault
use Rattle.cmm_tree.specs.Tree.{Expression, Integer, Pointer, Symbol, Name, Nothing, Float, Let, Assign, Operator, Load, Store, Alloc, App, Extcall, Checkbound, Raise, Seq, If, Switch, Catch, Exit, Try, Expressions, NoMore, More, Bindings, NoBinding, Bind, Declaration, Cases, NoCase, Choose, Handlers, NoHandler, Handle, Parameter, FunctionTree, LabelTree, same_label}
use Rattle.cmm_tree.specs.Place.{place_of}
use Rattle.cmm_types.specs.Types.{Scoped, binding_of, is_float, with_parameters, with_bindings, type_of}
use Rattle.cmm_types.specs.Standing
use Rattle.cmm_types.specs.Standing.{Visible, Stands, Takes, InRow, InCases, InHandlers, InBindings, handler_of, labels_of, lasting_labels_of}
use Rattle.cmm_tree.specs.Symbols.{DefinedSymbol, definition_of}
use Rattle.cmm_types.specs.Faults
use Rattle.cmm_types.specs.Faults.{FaultOf, Labelled, Repeated, DeclaresFloat, row_length, is_header}
use Rattle.cmm_types.specs.Gathered.{role_faults, target_faults, arity_faults, parameters_of, call_faults, exit_faults, result_faults, declared_faults, params_faults, labelled_faults, repeated_faults, used_as, faults_in, row_faults, bindings_faults, cases_faults, handlers_faults}
use Rattle.bs_fault.specs.Reported.{One, one_if}
use Rattle.cmm_types.specs.declared.role.Role.{Role}
use Rattle.cmm_types.specs.declared.role.Role.TheVariants as role
use Rattle.cmm_types.proofs.Containing.{contains_head, contains_tail}
use Rattle.cmm_types.proofs.Among.{Among, here, first, second, one_if-from, one-from}

-- ---- what a test knows

pub none-from : {A : Type 0} (o : Option A) → is_none o ≡ true → o ≡ None
none-from None e = refl
none-from (Some x) e = cc

false-from : (b : Bool) → not b ≡ true → b ≡ false
false-from true e = sym e
false-from false e = refl

float-from : (c : Comp) → is_float c ≡ true → c ≡ comp.Float
float-from comp.Float e = refl
float-from comp.Int e = cc
float-from comp.Val e = cc
float-from comp.Addr e = cc

-- a part that has no value, or that is an address
pub data RoleFault (r : Role) (at : ℕ) (type : Ty) (told : Fault) : Type 0 where
  no_value : type ≡ ty.NoValue → told ≡ fault.NoValue at → RoleFault r at type told
  is_address : r ≡ role.Outer → type ≡ ty.Addr → told ≡ fault.AddrArgument at → RoleFault r at type told

role-from : (r : Role) (at : ℕ) (type : Ty) (told : Fault) → Among told (role_faults r at type) → RoleFault r at type told
role-from role.Visited at type told m = elim m [ ]
role-from role.Taken at ty.NoValue told here = no_value refl refl
role-from role.Taken at ty.Never told m = elim m [ ]
role-from role.Taken at ty.Int told m = elim m [ ]
role-from role.Taken at ty.Val told m = elim m [ ]
role-from role.Taken at ty.Addr told m = elim m [ ]
role-from role.Outer at ty.NoValue told here = no_value refl refl
role-from role.Outer at ty.Addr told here = is_address refl refl refl
role-from role.Outer at ty.Never told m = elim m [ ]
role-from role.Outer at ty.Int told m = elim m [ ]
role-from role.Outer at ty.Val told m = elim m [ ]

-- ---- parts that are not nodes

-- one of the parameters is a float
pub record FloatParameter (params : List Parameter) (told : Fault) : Type 0 where
  pub param : Parameter
  pub within : Contains params param
  pub float : param.comp ≡ comp.Float
  pub is : told ≡ fault.Float param.comp_at

pub params-from : (params : List Parameter) (told : Fault) → Among told (params_faults params) → FloatParameter params told
params-from [] told m = elim m [ ]
params-from (p ∷ params) told (first m) =
    let both = one_if-from (is_float p.comp) (fault.Float p.comp_at) told m in
    record { param = p; within = contains_head p params; float = float-from p.comp both.0; is = both.1 }
params-from (p ∷ params) told (second m) =
    let f = params-from params told m in
    record { param = f.param; within = contains_tail p params f.param f.within; float = f.float; is = f.is }

-- a fault of this kind is at a place with this property
pub record Placed (kind : ℕ → Fault) (P : ℕ → Type 0) (told : Fault) : Type 0 where
  pub there : ℕ
  pub holds : P there
  pub is : told ≡ kind there

labelled-from : (label : LabelTree) (handlers : Handlers) (told : Fault) → Among told (labelled_faults label handlers) → Placed (λ at. fault.DuplicateSymbol at) (Labelled label handlers) told
labelled-from label NoHandler told m = elim m [ ]
labelled-from label (Handle at other params body rest) told (first m) =
    let both = one_if-from (same_label label other) (fault.DuplicateSymbol at) told m in
    record { there = at; holds = Faults.first at other params body rest both.0; is = both.1 }
labelled-from label (Handle at other params body rest) told (second m) =
    let p = labelled-from label rest told m in
    record { there = p.there; holds = Faults.later at other params body rest p.there p.holds; is = p.is }

repeated-from : (handlers : Handlers) (told : Fault) → Among told (repeated_faults handlers) → Placed (λ at. fault.DuplicateSymbol at) (Repeated handlers) told
repeated-from NoHandler told m = elim m [ ]
repeated-from (Handle at label params body rest) told (first m) =
    let p = labelled-from label rest told m in
    record { there = p.there; holds = Faults.first at label params body rest p.there p.holds; is = p.is }
repeated-from (Handle at label params body rest) told (second m) =
    let p = repeated-from rest told m in
    record { there = p.there; holds = Faults.later at label params body rest p.there p.holds; is = p.is }

-- ---- nodes

module _ (told : Fault) (defined : List DefinedSymbol) (f : FunctionTree) (Goal : Type 0)
    -- what a fault of a node that is in the function comes to
    (of : (names : List Scoped) (labels : List Visible) (e : Expression) → Stands f names labels e → FaultOf defined names labels e told → Goal) where
  abbrev d : List ℕ → Option DefinedSymbol
  d = definition_of defined

  abbrev Node : List Scoped → List Visible → Expression → Type 0
  Node names labels e = Stands f names labels e

  fault_of : (names : List Scoped) (labels : List Visible) (e : Expression) (other : Fault) → Node names labels e → told ≡ other → FaultOf defined names labels e other → Goal
  fault_of names labels e other s same x =
      let F : Fault → Type 0 = λ g. FaultOf defined names labels e g in
      of names labels e s (subst F (sym same) x)

  taken : (names : List Scoped) (labels : List Visible) (node e : Expression) → Node names labels node → Takes node e → Among told (role_faults role.Taken (place_of e) (type_of names e)) → Goal
  taken names labels node e s t m = go (role-from role.Taken (place_of e) (type_of names e) told m)
    where
      go : RoleFault role.Taken (place_of e) (type_of names e) told → Goal
      go (no_value n same) = fault_of names labels node (fault.NoValue (place_of e)) s same (Faults.no_value node e t n)
      go (is_address r a same) = cc

  at_name : (names : List Scoped) (labels : List Visible) (at : ℕ) (name : List ℕ) → Node names labels (Name at name) → (is_none (binding_of names name) ≡ true) × (told ≡ fault.Unbound at) → Goal
  at_name names labels at name s (e, same) = fault_of names labels _ _ s same (Faults.unbound at name (none-from _ e))

  at_target : (names : List Scoped) (labels : List Visible) (at name_at : ℕ) (name : List ℕ) (value : Expression) (o : Option Scoped) → binding_of names name ≡ o → Node names labels (Assign at name_at name value) → Among told (target_faults o name_at) → Goal
  at_target names labels at name_at name value None e s m = fault_of names labels (Assign at name_at name value) (fault.Unbound name_at) s (one-from told _ m) (Faults.unbound_target at name_at name value e)
  at_target names labels at name_at name value (Some b) e s m =
      let both = one_if-from (not b.mutable) (fault.NotMutable name_at) told m in
      fault_of names labels (Assign at name_at name value) (fault.NotMutable name_at) s both.1 (Faults.not_mutable at name_at name value b e (false-from _ both.0))

  at_exit : (names : List Scoped) (labels : List Visible) (at label_at : ℕ) (label : LabelTree) (arguments : Expressions) (o : Option Visible) → handler_of labels label ≡ o → Node names labels (Exit at label_at label arguments) → Among told (exit_faults o at label_at (row_length arguments)) → Goal
  at_exit names labels at label_at label arguments None e s m = fault_of names labels (Exit at label_at label arguments) (fault.UnknownLabel label_at) s (one-from told _ m) (Faults.unknown_label at label_at label arguments e)
  at_exit names labels at label_at label arguments (Some v) e s m =
      let both = one_if-from (not (v.parameters == row_length arguments)) (fault.Arity at) told m in
      fault_of names labels (Exit at label_at label arguments) (fault.Arity at) s both.1 (Faults.exit_arity at label_at label arguments v e (false-from _ both.0))

  at_arity : (names : List Scoped) (labels : List Visible) (at symbol_at : ℕ) (name : List ℕ) (arguments : Expressions) (result : Ret) (result_at : ℕ) (s : DefinedSymbol) (p : Option ℕ) → definition_of defined name ≡ Some s → s.parameters ≡ p → Node names labels (App at (Symbol symbol_at name) arguments result result_at) → Among told (arity_faults p at (row_length arguments)) → Goal
  at_arity names labels at symbol_at name arguments result result_at s None e q n m = elim m [ ]
  at_arity names labels at symbol_at name arguments result result_at s (Some parameters) e q n m =
      let both = one_if-from (not (parameters == row_length arguments)) (fault.Arity at) told m in
      fault_of names labels (App at (Symbol symbol_at name) arguments result result_at) (fault.Arity at) n both.1 (Faults.call_arity at symbol_at name arguments result result_at s parameters e q (false-from _ both.0))

  at_symbol_call : (names : List Scoped) (labels : List Visible) (at symbol_at : ℕ) (name : List ℕ) (arguments : Expressions) (result : Ret) (result_at : ℕ) (o : Option DefinedSymbol) → definition_of defined name ≡ o → Node names labels (App at (Symbol symbol_at name) arguments result result_at) → Among told (arity_faults (parameters_of o) at (row_length arguments)) → Goal
  at_symbol_call names labels at symbol_at name arguments result result_at None e n m = elim m [ ]
  at_symbol_call names labels at symbol_at name arguments result result_at (Some s) e n m = at_arity names labels at symbol_at name arguments result result_at s s.parameters e refl n m

  at_call : (names : List Scoped) (labels : List Visible) (at : ℕ) (callee : Expression) (arguments : Expressions) (result : Ret) (result_at : ℕ) → Node names labels (App at callee arguments result result_at) → Among told (call_faults d callee at (row_length arguments)) → Goal
  at_call names labels at (Symbol symbol_at name) arguments result result_at n m = at_symbol_call names labels at symbol_at name arguments result result_at (definition_of defined name) refl n m
  at_call names labels at _ arguments result result_at n m = elim m [ ]

  at_result : (names : List Scoped) (labels : List Visible) (at : ℕ) (callee : Expression) (arguments : Expressions) (result : Ret) (result_at : ℕ) → Node names labels (App at callee arguments result result_at) → Among told (result_faults result result_at) → Goal
  at_result names labels at callee arguments ret.Unit result_at n m = elim m [ ]
  at_result names labels at callee arguments (ret.Comp comp.Float) result_at n m = fault_of names labels (App at callee arguments (ret.Comp comp.Float) result_at) (fault.Float result_at) n (one-from told _ m) (Faults.float_result at callee arguments result_at)
  at_result names labels at callee arguments (ret.Comp comp.Int) result_at n m = elim m [ ]
  at_result names labels at callee arguments (ret.Comp comp.Val) result_at n m = elim m [ ]
  at_result names labels at callee arguments (ret.Comp comp.Addr) result_at n m = elim m [ ]

  at_outer_result : (names : List Scoped) (labels : List Visible) (at : ℕ) (frame : Bool) (name : List ℕ) (arguments : Expressions) (result : Ret) (result_at : ℕ) → Node names labels (Extcall at frame name arguments result result_at) → Among told (result_faults result result_at) → Goal
  at_outer_result names labels at frame name arguments ret.Unit result_at n m = elim m [ ]
  at_outer_result names labels at frame name arguments (ret.Comp comp.Float) result_at n m = fault_of names labels (Extcall at frame name arguments (ret.Comp comp.Float) result_at) (fault.Float result_at) n (one-from told _ m) (Faults.outer_float_result at frame name arguments result_at)
  at_outer_result names labels at frame name arguments (ret.Comp comp.Int) result_at n m = elim m [ ]
  at_outer_result names labels at frame name arguments (ret.Comp comp.Val) result_at n m = elim m [ ]
  at_outer_result names labels at frame name arguments (ret.Comp comp.Addr) result_at n m = elim m [ ]

  at_outer : (names : List Scoped) (labels : List Visible) (at : ℕ) (frame : Bool) (name : List ℕ) (arguments : Expressions) (result : Ret) (result_at : ℕ) → Node names labels (Extcall at frame name arguments result result_at) → (e : Expression) → InRow e arguments → Among told (role_faults role.Outer (place_of e) (type_of names e)) → Goal
  at_outer names labels at frame name arguments result result_at n e i m = go (role-from role.Outer (place_of e) (type_of names e) told m)
    where
      go : RoleFault role.Outer (place_of e) (type_of names e) told → Goal
      go (no_value v same) = fault_of names labels _ (fault.NoValue (place_of e)) n same (Faults.no_value (Extcall at frame name arguments result result_at) e (Standing.outer_argument at frame name arguments result result_at e i) v)
      go (is_address r a same) = fault_of names labels (Extcall at frame name arguments result result_at) (fault.AddrArgument (place_of e)) n same (Faults.address_argument at frame name arguments result result_at e i a)

  declared_in : (at : ℕ) (name : List ℕ) (declared : Option Declaration) (value : Expression) (rest : Bindings) → Among told (declared_faults declared) → Placed (λ w. fault.Float w) (DeclaresFloat (Bind at name declared value rest)) told
  declared_in at name None value rest m = elim m [ ]
  declared_in at name (Some w) value rest m =
      let both = one_if-from (is_float w.comp) (fault.Float w.at) told m in
      let same : w ≡ record { at = w.at; comp = comp.Float } = ap (λ (c : Comp). record { at = w.at; comp = c }) (float-from w.comp both.0) in
      let P : Declaration → Type 0 = λ x. DeclaresFloat (Bind at name (Some x) value rest) w.at in
      record { there = w.at; holds = subst P (sym same) (Faults.first at name w.at value rest); is = both.1 }

  float_word : (names : List Scoped) (labels : List Visible) (at word_at : ℕ) (operands : Expressions) → Node names labels (Float at word_at operands) → Among told (One (fault.Float word_at)) → Goal
  float_word names labels at word_at operands n m = fault_of names labels (Float at word_at operands) (fault.Float word_at) n (one-from told _ m) (Faults.float_form at word_at operands)

  at_header : (names : List Scoped) (labels : List Visible) (at header_at header : ℕ) (operands : Expressions) → Node names labels (Alloc at header_at header operands) → Among told (one_if (not (is_header header (row_length operands))) (fault.AllocHeader header_at)) → Goal
  at_header names labels at header_at header operands n m =
      let both = one_if-from (not (is_header header (row_length operands))) (fault.AllocHeader header_at) told m in
      fault_of names labels (Alloc at header_at header operands) (fault.AllocHeader header_at) n both.1 (Faults.misfit_header at header_at header operands (false-from _ both.0))

  at_repeated : (names : List Scoped) (labels : List Visible) (at : ℕ) (body : Expression) (handlers : Handlers) → Node names labels (Catch at body handlers) → Among told (repeated_faults handlers) → Goal
  at_repeated names labels at body handlers n m =
      let p = repeated-from handlers told m in
      fault_of names labels (Catch at body handlers) (fault.DuplicateSymbol p.there) n p.is (Faults.repeated_label at body handlers p.there p.holds)

  at_declared : (names : List Scoped) (labels : List Visible) (at : ℕ) (bindings : Bindings) (body : Expression) → Node names labels (Let at bindings body) → Placed (λ w. fault.Float w) (DeclaresFloat bindings) told → Goal
  at_declared names labels at bindings body n p = fault_of names labels (Let at bindings body) (fault.Float p.there) n p.is (Faults.declared_float at bindings body p.there p.holds)

  at_bound : (names : List Scoped) (labels : List Visible) (at : ℕ) (bindings : Bindings) (body : Expression) → Node names labels (Let at bindings body) → (inner : List Scoped) (value : Expression) → InBindings value inner names bindings → Among told (role_faults role.Taken (place_of value) (type_of inner value)) → Goal
  at_bound names labels at bindings body n inner value i m = go (role-from role.Taken (place_of value) (type_of inner value) told m)
    where
      go : RoleFault role.Taken (place_of value) (type_of inner value) told → Goal
      go (no_value v same) = fault_of names labels (Let at bindings body) (fault.NoValue (place_of value)) n same (Faults.no_bound_value at bindings body inner value i v)
      go (is_address r a same) = cc

  at_params : (names : List Scoped) (labels : List Visible) (at : ℕ) (body : Expression) (handlers : Handlers) → Node names labels (Catch at body handlers) → (params : List Parameter) (e : Expression) → InHandlers params e handlers → Among told (params_faults params) → Goal
  at_params names labels at body handlers n params e i m =
      let p = params-from params told m in
      fault_of names labels (Catch at body handlers) (fault.Float p.param.comp_at) n p.is (Faults.float_parameter at body handlers params e p.param i p.within p.float)

  taken_node : (names : List Scoped) (labels : List Visible) (node e : Expression) → Node names labels node → Takes node e → Node names labels e
  taken_node names labels node e n t = Standing.part names labels node e n (Standing.taken node e t)

  taken_from : (names : List Scoped) (labels : List Visible) (node e : Expression) → Node names labels node → Takes node e → (Among told (faults_in d names labels e) → Goal) → Among told (used_as role.Taken names e (faults_in d names labels e)) → Goal
  taken_from names labels node e n t below (first m) = below m
  taken_from names labels node e n t below (second m) = taken names labels node e n t m

  -- ---- the whole

  mutual
    pub node_from : (names : List Scoped) (labels : List Visible) (e : Expression) → Node names labels e → Among told (faults_in d names labels e) → Goal
    node_from names labels (Integer at word) n m = elim m [ ]
    node_from names labels (Pointer at word) n m = elim m [ ]
    node_from names labels (Symbol at name) n m =
        let both = one_if-from (is_none (d name)) (fault.UnknownSymbol at) told m in
        fault_of names labels (Symbol at name) (fault.UnknownSymbol at) n both.1 (Faults.unknown_symbol at name (none-from _ both.0))
    node_from names labels (Name at name) n m = at_name names labels at name n (one_if-from (is_none (binding_of names name)) (fault.Unbound at) told m)
    node_from names labels (Nothing at) n m = elim m [ ]
    node_from names labels (Float at word_at operands) n (first m) = float_word names labels at word_at operands n m
    node_from names labels (Float at word_at operands) n (second m) =
        visited_from names labels operands (λ e i. Standing.part names labels (Float at word_at operands) e n (Standing.float_operand at word_at operands e i)) m
    node_from names labels (Let at bindings body) n (first m) =
        bindings_from names labels bindings (λ inner value i. Standing.binding names labels at bindings body inner value n i) (at_declared names labels at bindings body n) (at_bound names labels at bindings body n) m
    node_from names labels (Let at bindings body) n (second m) = node_from (with_bindings names bindings) labels body (Standing.let_body names labels at bindings body n) m
    node_from names labels (Assign at name_at name value) n (first m) = at_target names labels at name_at name value (binding_of names name) refl n m
    node_from names labels (Assign at name_at name value) n (second m) = taken_from names labels (Assign at name_at name value) value n (Standing.assigned at name_at name value) (node_from names labels value (taken_node names labels (Assign at name_at name value) value n (Standing.assigned at name_at name value))) m
    node_from names labels (Operator at op a b) n (first m) = taken_from names labels (Operator at op a b) a n (Standing.left at op a b) (node_from names labels a (taken_node names labels (Operator at op a b) a n (Standing.left at op a b))) m
    node_from names labels (Operator at op a b) n (second m) = taken_from names labels (Operator at op a b) b n (Standing.right at op a b) (node_from names labels b (taken_node names labels (Operator at op a b) b n (Standing.right at op a b))) m
    node_from names labels (Load at chunk address) n m = taken_from names labels (Load at chunk address) address n (Standing.loaded at chunk address) (node_from names labels address (taken_node names labels (Load at chunk address) address n (Standing.loaded at chunk address))) m
    node_from names labels (Store at chunk to value) n (first m) = taken_from names labels (Store at chunk to value) to n (Standing.address at chunk to value) (node_from names labels to (taken_node names labels (Store at chunk to value) to n (Standing.address at chunk to value))) m
    node_from names labels (Store at chunk to value) n (second m) = taken_from names labels (Store at chunk to value) value n (Standing.stored at chunk to value) (node_from names labels value (taken_node names labels (Store at chunk to value) value n (Standing.stored at chunk to value))) m
    node_from names labels (Alloc at header_at header operands) n (first m) = at_header names labels at header_at header operands n m
    node_from names labels (Alloc at header_at header operands) n (second m) =
        row_from names labels (Alloc at header_at header operands) operands n (λ e i. Standing.cell at header_at header operands e i) m
    node_from names labels (App at callee arguments result result_at) n (first (first m)) = at_call names labels at callee arguments result result_at n m
    node_from names labels (App at callee arguments result result_at) n (first (second m)) = at_result names labels at callee arguments result result_at n m
    node_from names labels (App at callee arguments result result_at) n (second (first m)) =
        taken_from names labels (App at callee arguments result result_at) callee n (Standing.callee at callee arguments result result_at) (node_from names labels callee (taken_node names labels (App at callee arguments result result_at) callee n (Standing.callee at callee arguments result result_at))) m
    node_from names labels (App at callee arguments result result_at) n (second (second m)) =
        row_from names labels (App at callee arguments result result_at) arguments n (λ e i. Standing.argument at callee arguments result result_at e i) m
    node_from names labels (Extcall at frame name arguments result result_at) n (first m) = at_outer_result names labels at frame name arguments result result_at n m
    node_from names labels (Extcall at frame name arguments result result_at) n (second m) =
        outer_from names labels arguments
        (λ e i. Standing.part names labels (Extcall at frame name arguments result result_at) e n (Standing.taken (Extcall at frame name arguments result result_at) e (Standing.outer_argument at frame name arguments result result_at e i)))
        (at_outer names labels at frame name arguments result result_at n) m
    node_from names labels (Checkbound at a b) n (first m) = taken_from names labels (Checkbound at a b) a n (Standing.bound at a b) (node_from names labels a (taken_node names labels (Checkbound at a b) a n (Standing.bound at a b))) m
    node_from names labels (Checkbound at a b) n (second m) = taken_from names labels (Checkbound at a b) b n (Standing.index at a b) (node_from names labels b (taken_node names labels (Checkbound at a b) b n (Standing.index at a b))) m
    node_from names labels (Raise at value) n m = taken_from names labels (Raise at value) value n (Standing.raised at value) (node_from names labels value (taken_node names labels (Raise at value) value n (Standing.raised at value))) m
    node_from names labels (Seq at elements) n m =
        visited_from names labels elements (λ e i. Standing.part names labels (Seq at elements) e n (Standing.element at elements e i)) m
    node_from names labels (If at test a b) n (first m) = taken_from names labels (If at test a b) test n (Standing.condition at test a b) (node_from names labels test (taken_node names labels (If at test a b) test n (Standing.condition at test a b))) m
    node_from names labels (If at test a b) n (second (first m)) = node_from names labels a (Standing.part names labels (If at test a b) a n (Standing.on_true at test a b)) m
    node_from names labels (If at test a b) n (second (second m)) = node_from names labels b (Standing.part names labels (If at test a b) b n (Standing.on_false at test a b)) m
    node_from names labels (Switch at size_at size chosen cases) n (first m) = taken_from names labels (Switch at size_at size chosen cases) chosen n (Standing.selector at size_at size chosen cases) (node_from names labels chosen (taken_node names labels (Switch at size_at size chosen cases) chosen n (Standing.selector at size_at size chosen cases))) m
    node_from names labels (Switch at size_at size chosen cases) n (second m) =
        cases_from names labels cases (λ e i. Standing.part names labels (Switch at size_at size chosen cases) e n (Standing.case at size_at size chosen cases e i)) m
    node_from names labels (Catch at body handlers) n (first m) = at_repeated names labels at body handlers n m
    node_from names labels (Catch at body handlers) n (second (first m)) = node_from names (labels_of handlers ++ labels) body (Standing.catch_body names labels at body handlers n) m
    node_from names labels (Catch at body handlers) n (second (second m)) =
        handlers_from names (lasting_labels_of handlers ++ labels) handlers (λ params e i. Standing.handler names labels at body handlers params e n i) (at_params names labels at body handlers n) m
    node_from names labels (Exit at label_at label arguments) n (first m) = at_exit names labels at label_at label arguments (handler_of labels label) refl n m
    node_from names labels (Exit at label_at label arguments) n (second m) =
        row_from names labels (Exit at label_at label arguments) arguments n (λ e i. Standing.exit_argument at label_at label arguments e i) m
    node_from names labels (Try at body name_at name handler) n (first m) = node_from names labels body (Standing.part names labels (Try at body name_at name handler) body n (Standing.tried at body name_at name handler)) m
    node_from names labels (Try at body name_at name handler) n (second m) =
        node_from (record { name = name; type = ty.Val; mutable = false } ∷ names) labels handler (Standing.try_handler names labels at body name_at name handler n) m

    row_from : (names : List Scoped) (labels : List Visible) (node : Expression) (row : Expressions) → Node names labels node → ((e : Expression) → InRow e row → Takes node e) → Among told (row_faults role.Taken d names labels row) → Goal
    row_from names labels node NoMore n t m = elim m [ ]
    row_from names labels node (More e rest) n t (first m) = taken_from names labels node e n (t e Standing.first) (node_from names labels e (taken_node names labels node e n (t e Standing.first))) m
    row_from names labels node (More e rest) n t (second m) = row_from names labels node rest n (λ x i. t x (Standing.later i)) m

    visited_from : (names : List Scoped) (labels : List Visible) (row : Expressions) → ((e : Expression) → InRow e row → Node names labels e) → Among told (row_faults role.Visited d names labels row) → Goal
    visited_from names labels NoMore s m = elim m [ ]
    visited_from names labels (More e rest) s (first (first m)) = node_from names labels e (s e Standing.first) m
    visited_from names labels (More e rest) s (first (second m)) = elim m [ ]
    visited_from names labels (More e rest) s (second m) = visited_from names labels rest (λ x i. s x (Standing.later i)) m

    outer_from : (names : List Scoped) (labels : List Visible) (row : Expressions) → ((e : Expression) → InRow e row → Node names labels e) → ((e : Expression) → InRow e row → Among told (role_faults role.Outer (place_of e) (type_of names e)) → Goal) → Among told (row_faults role.Outer d names labels row) → Goal
    outer_from names labels NoMore s o m = elim m [ ]
    outer_from names labels (More e rest) s o (first (first m)) = node_from names labels e (s e Standing.first) m
    outer_from names labels (More e rest) s o (first (second m)) = o e Standing.first m
    outer_from names labels (More e rest) s o (second m) = outer_from names labels rest (λ x i. s x (Standing.later i)) (λ x i. o x (Standing.later i)) m

    bindings_from : (names : List Scoped) (labels : List Visible) (bindings : Bindings) → ((inner : List Scoped) (value : Expression) → InBindings value inner names bindings → Node inner labels value) → (Placed (λ w. fault.Float w) (DeclaresFloat bindings) told → Goal) → ((inner : List Scoped) (value : Expression) → InBindings value inner names bindings → Among told (role_faults role.Taken (place_of value) (type_of inner value)) → Goal) → Among told (bindings_faults d names labels bindings) → Goal
    bindings_from names labels NoBinding s f v m = elim m [ ]
    bindings_from names labels (Bind at name declared value rest) s f v (first (first m)) = f (declared_in at name declared value rest m)
    bindings_from names labels (Bind at name declared value rest) s f v (first (second (first m))) = node_from names labels value (s names value Standing.first) m
    bindings_from names labels (Bind at name declared value rest) s f v (first (second (second m))) = v names value Standing.first m
    bindings_from names labels (Bind at name declared value rest) s f v (second m) =
        bindings_from (with_bindings names (Bind at name declared value NoBinding)) labels rest
        (λ inner x i. s inner x (Standing.later i))
        (λ p. f (record { there = p.there; holds = Faults.later at name declared value rest p.there p.holds; is = p.is }))
        (λ inner x i. v inner x (Standing.later i)) m

    cases_from : (names : List Scoped) (labels : List Visible) (cases : Cases) → ((e : Expression) → InCases e cases → Node names labels e) → Among told (cases_faults d names labels cases) → Goal
    cases_from names labels NoCase s m = elim m [ ]
    cases_from names labels (Choose indexes e rest) s (first m) = node_from names labels e (s e Standing.first) m
    cases_from names labels (Choose indexes e rest) s (second m) = cases_from names labels rest (λ x i. s x (Standing.later i)) m

    handlers_from : (names : List Scoped) (labels : List Visible) (handlers : Handlers) → ((params : List Parameter) (e : Expression) → InHandlers params e handlers → Node (with_parameters params names) labels e) → ((params : List Parameter) (e : Expression) → InHandlers params e handlers → Among told (params_faults params) → Goal) → Among told (handlers_faults d names labels handlers) → Goal
    handlers_from names labels NoHandler s p m = elim m [ ]
    handlers_from names labels (Handle at label params e rest) s p (first (first m)) = p params e Standing.first m
    handlers_from names labels (Handle at label params e rest) s p (first (second m)) = node_from (with_parameters params names) labels e (s params e Standing.first) m
    handlers_from names labels (Handle at label params e rest) s p (second m) = handlers_from names labels rest (λ ps x i. s ps x (Standing.later i)) (λ ps x i. p ps x (Standing.later i)) m
