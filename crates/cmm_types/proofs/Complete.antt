-- Each fault of a node that is in a function is gathered.
use Rattle.std.proofs.Common.{◌≡◌, ℕ, Bool, true, false, not, List, [], ◌∷◌, Option, None, is_none, ◌⊎◌, inl, inr, refl, ap}
use Rattle.std.specs.List.{Contains}
use Rattle.bs_words.specs.declared.types.Comp.TheVariants as comp
use Rattle.bs_words.specs.declared.types.Ty.{Ty}
use Rattle.bs_words.specs.declared.types.Ty.TheVariants as ty
use Rattle.bs_fault.specs.declared.fault.Fault.{Fault}
use Rattle.bs_fault.specs.declared.fault.Fault.TheVariants as fault
use Rattle.cmm_tree.specs.Tree.{Expression, Expressions, NoMore, More, Bindings, NoBinding, Bind, Cases, NoCase, Choose, Handlers, NoHandler, Handle, Parameter, FunctionTree, LabelTree}
use Rattle.cmm_tree.specs.Place.{place_of}
use Rattle.cmm_types.specs.Types.{Scoped, is_float, with_parameters, with_bindings, type_of}
use Rattle.cmm_types.specs.Standing
use Rattle.cmm_types.specs.Standing.{Visible, Stands, Takes, PartOf, InRow, InCases, InHandlers, InBindings}
use Rattle.cmm_tree.specs.Symbols.{DefinedSymbol, definition_of}
use Rattle.cmm_types.specs.Faults
use Rattle.cmm_types.specs.Faults.{FaultOf, Labelled, Repeated, DeclaresFloat}
use Rattle.cmm_types.specs.Gathered.{role_faults, comp_faults, params_faults, labelled_faults, repeated_faults, used_as, faults_in, row_faults, bindings_faults, cases_faults, handlers_faults}
use Rattle.bs_fault.specs.Reported.{Faults, Both}
use Rattle.cmm_types.specs.declared.role.Role.{Role}
use Rattle.cmm_types.specs.declared.role.Role.TheVariants as role
use Rattle.cmm_types.proofs.Containing.{contains_none, contains_cases}
use Rattle.cmm_types.proofs.Among.{Among, here, first, second, one_if-among}

-- ---- rows

module _ (told : Fault) (d : List ℕ → Option DefinedSymbol) where
  pub row_below : (r : Role) (names : List Scoped) (labels : List Visible) (e : Expression) (row : Expressions) → InRow e row → Among told (used_as r names e (faults_in d names labels e)) → Among told (row_faults r d names labels row)
  row_below r names labels e (More x rest) Standing.first m = first m
  row_below r names labels e (More other rest) (Standing.later i) m = second (row_below r names labels e rest i m)
  row_below r names labels e NoMore i m = elim i [ ]

  pub cases_below : (names : List Scoped) (labels : List Visible) (e : Expression) (cases : Cases) → InCases e cases → Among told (faults_in d names labels e) → Among told (cases_faults d names labels cases)
  cases_below names labels e (Choose indexes x rest) Standing.first m = first m
  cases_below names labels e (Choose indexes other rest) (Standing.later i) m = second (cases_below names labels e rest i m)
  cases_below names labels e NoCase i m = elim i [ ]

  pub handlers_below : (names : List Scoped) (labels : List Visible) (params : List Parameter) (e : Expression) (handlers : Handlers) → InHandlers params e handlers → Among told (Both (params_faults params) (faults_in d (with_parameters params names) labels e)) → Among told (handlers_faults d names labels handlers)
  handlers_below names labels params e (Handle at label ps x rest) Standing.first m = first m
  handlers_below names labels params e (Handle at label others other rest) (Standing.later i) m = second (handlers_below names labels params e rest i m)
  handlers_below names labels params e NoHandler i m = elim i [ ]

  pub bindings_below : (value : Expression) (inner names : List Scoped) (labels : List Visible) (bindings : Bindings) → InBindings value inner names bindings → Among told (used_as role.Taken inner value (faults_in d inner labels value)) → Among told (bindings_faults d names labels bindings)
  bindings_below value inner names labels (Bind at name declared x rest) Standing.first m = first (second m)
  bindings_below value inner names labels (Bind at name declared other rest) (Standing.later i) m = second (bindings_below value inner (with_bindings names (Bind at name declared other NoBinding)) labels rest i m)
  bindings_below value inner names labels NoBinding i m = elim i [ ]

  -- ---- parts

  pub takes_below : (names : List Scoped) (labels : List Visible) (node e : Expression) → Takes node e → Among told (used_as role.Taken names e (faults_in d names labels e)) → Among told (faults_in d names labels node)
  takes_below names labels _ _ (Standing.assigned at name_at name value) m = second m
  takes_below names labels _ _ (Standing.left at op a b) m = first m
  takes_below names labels _ _ (Standing.right at op a b) m = second m
  takes_below names labels _ _ (Standing.loaded at chunk address) m = m
  takes_below names labels _ _ (Standing.address at chunk to value) m = first m
  takes_below names labels _ _ (Standing.stored at chunk to value) m = second m
  takes_below names labels _ _ (Standing.cell at header_at header operands e i) m = second (row_below role.Taken names labels e operands i m)
  takes_below names labels _ _ (Standing.callee at called arguments result result_at) m = second (first m)
  takes_below names labels _ _ (Standing.argument at called arguments result result_at e i) m = second (second (row_below role.Taken names labels e arguments i m))
  takes_below names labels _ _ (Standing.outer_argument at frame name arguments result result_at e i) m = second (row_below role.Outer names labels e arguments i (outer m))
    where
      outer_role : (t : Ty) → Among told (role_faults role.Taken (place_of e) t) → Among told (role_faults role.Outer (place_of e) t)
      outer_role ty.NoValue m = m
      outer_role ty.Addr m = elim m [ ]
      outer_role ty.Never m = elim m [ ]
      outer_role ty.Int m = elim m [ ]
      outer_role ty.Val m = elim m [ ]

      outer : Among told (used_as role.Taken names e (faults_in d names labels e)) → Among told (used_as role.Outer names e (faults_in d names labels e))
      outer (first m) = first m
      outer (second m) = second (outer_role (type_of names e) m)
  takes_below names labels _ _ (Standing.bound at a b) m = first m
  takes_below names labels _ _ (Standing.index at a b) m = second m
  takes_below names labels _ _ (Standing.raised at value) m = m
  takes_below names labels _ _ (Standing.condition at test a b) m = first m
  takes_below names labels _ _ (Standing.selector at size_at size chosen cases) m = first m
  takes_below names labels _ _ (Standing.exit_argument at label_at label arguments e i) m = second (row_below role.Taken names labels e arguments i m)

  pub part_below : (names : List Scoped) (labels : List Visible) (node e : Expression) → PartOf node e → Among told (faults_in d names labels e) → Among told (faults_in d names labels node)
  part_below names labels _ _ (Standing.taken node e t) m = takes_below names labels node e t (first m)
  part_below names labels _ _ (Standing.float_operand at word_at operands e i) m = second (row_below role.Visited names labels e operands i (first m))
  part_below names labels _ _ (Standing.element at elements e i) m = row_below role.Visited names labels e elements i (first m)
  part_below names labels _ _ (Standing.on_true at test a b) m = second (first m)
  part_below names labels _ _ (Standing.on_false at test a b) m = second (second m)
  part_below names labels _ _ (Standing.case at size_at size chosen cases e i) m = second (cases_below names labels e cases i m)
  part_below names labels _ _ (Standing.tried at body name_at name handler) m = first m

  -- what is gathered below a node that is in a function is gathered of its body
  pub stands_below : (f : FunctionTree) (names : List Scoped) (labels : List Visible) (e : Expression) → Stands f names labels e → Among told (faults_in d names labels e) → Among told (faults_in d (with_parameters f.params []) [] f.body)
  stands_below f _ _ _ Standing.the_body m = m
  stands_below f _ _ _ (Standing.part names labels node e s p) m = stands_below f names labels node s (part_below names labels node e p m)
  stands_below f _ _ _ (Standing.binding names labels at bindings body inner value s i) m = stands_below f names labels _ s (first (bindings_below value inner names labels bindings i (first m)))
  stands_below f _ _ _ (Standing.let_body names labels at bindings body s) m = stands_below f names labels _ s (second m)
  stands_below f _ _ _ (Standing.catch_body names labels at body handlers s) m = stands_below f names labels _ s (second (first m))
  stands_below f _ _ _ (Standing.handler names labels at body handlers params e s i) m = stands_below f names labels _ s (second (second (handlers_below names _ params e handlers i (second m))))
  stands_below f _ _ _ (Standing.try_handler names labels at body name_at name e s) m = stands_below f names labels _ s (second m)

-- ---- the faults of a node

labelled_below : (label : LabelTree) (handlers : Handlers) (there : ℕ) → Labelled label handlers there → Among (fault.DuplicateSymbol there) (labelled_faults label handlers)
labelled_below label _ _ (Faults.first at other params body rest e) = first (one_if-among _ _ e)
labelled_below label _ _ (Faults.later at other params body rest there l) = second (labelled_below label rest there l)

repeated_below : (handlers : Handlers) (there : ℕ) → Repeated handlers there → Among (fault.DuplicateSymbol there) (repeated_faults handlers)
repeated_below _ _ (Faults.first at label params body rest there l) = first (labelled_below label rest there l)
repeated_below _ _ (Faults.later at label params body rest there l) = second (repeated_below rest there l)

-- an option that a test knows
pub is_none-of : {A : Type 0} (o : Option A) → o ≡ None → is_none o ≡ true
is_none-of o e = rw e refl

not-false : (b : Bool) → b ≡ false → not b ≡ true
not-false b e = rw e refl

float_word : (told : ℕ) → Among (fault.Float told) (comp_faults comp.Float told)
float_word told = here

comp_below : (c : _) (at : ℕ) → c ≡ comp.Float → Among (fault.Float at) (comp_faults c at)
comp_below c at e = one_if-among (is_float c) (fault.Float at) (ap is_float e)

module _ (d : List ℕ → Option DefinedSymbol) where
  declared_below : (names : List Scoped) (labels : List Visible) (bindings : Bindings) (there : ℕ) → DeclaresFloat bindings there → Among (fault.Float there) (bindings_faults d names labels bindings)
  declared_below names labels _ _ (Faults.first at name there value rest) = first (first here)
  declared_below names labels _ _ (Faults.later at name declared value rest there l) = second (declared_below (with_bindings names (Bind at name declared value NoBinding)) labels rest there l)

  no_value_below : (names : List Scoped) (e : Expression) (own : Faults) → type_of names e ≡ ty.NoValue → Among (fault.NoValue (place_of e)) (used_as role.Taken names e own)
  no_value_below names e own t = second (rw t here)

  address_below : (names : List Scoped) (e : Expression) (own : Faults) → type_of names e ≡ ty.Addr → Among (fault.AddrArgument (place_of e)) (used_as role.Outer names e own)
  address_below names e own t = second (rw t here)

  pub params_below : (params : List Parameter) (p : Parameter) → Contains params p → p.comp ≡ comp.Float → Among (fault.Float p.comp_at) (params_faults params)
  params_below [] p c e = absurd (contains_none p c)
  params_below (q ∷ params) p c e = go (contains_cases q params p c) (λ c. params_below params p c e)
    where
      go : (q ≡ p) ⊎ Contains params p → (Contains params p → Among (fault.Float p.comp_at) (params_faults params)) → Among (fault.Float p.comp_at) (params_faults (q ∷ params))
      go (inl same) rest = first (rw same (comp_below p.comp p.comp_at e))
      go (inr c) rest = second (rest c)

  outer_no_value : (names : List Scoped) (labels : List Visible) (node e : Expression) → Takes node e → type_of names e ≡ ty.NoValue → Among (fault.NoValue (place_of e)) (faults_in d names labels node)
  outer_no_value names labels node e t n = takes_below (fault.NoValue (place_of e)) d names labels node e t (no_value_below names e _ n)

module _ (defined : List DefinedSymbol) where
  -- each fault of a node is gathered of it
  pub fault_below : (names : List Scoped) (labels : List Visible) (e : Expression) (told : Fault) → FaultOf defined names labels e told → Among told (faults_in (definition_of defined) names labels e)
  fault_below names labels _ _ (Faults.unbound at name e) = one_if-among _ _ (is_none-of _ e)
  fault_below names labels _ _ (Faults.unbound_target at name_at name value e) = first (rw e here)
  fault_below names labels _ _ (Faults.unknown_symbol at name e) = one_if-among _ _ (is_none-of _ e)
  fault_below names labels _ _ (Faults.repeated_label at body handlers there r) = first (repeated_below handlers there r)
  fault_below names labels _ _ (Faults.call_arity at symbol_at name arguments result result_at s parameters e p n) = first (first (rw e (rw p (one_if-among _ _ (not-false _ n)))))
  fault_below names labels _ _ (Faults.exit_arity at label_at label arguments v e n) = first (rw e (one_if-among _ _ (not-false _ n)))
  fault_below names labels _ _ (Faults.no_value node e t n) = outer_no_value (definition_of defined) names labels node e t n
  fault_below names labels _ _ (Faults.no_bound_value at bindings body inner value i n) = first (bindings_below (fault.NoValue (place_of value)) (definition_of defined) value inner names labels bindings i (no_value_below (definition_of defined) inner value _ n))
  fault_below names labels _ _ (Faults.not_mutable at name_at name value s e m) = first (rw e (one_if-among _ _ (not-false _ m)))
  fault_below names labels _ _ (Faults.misfit_header at header_at header operands e) = first (one_if-among _ _ (not-false _ e))
  fault_below names labels _ _ (Faults.unknown_label at label_at label arguments e) = first (rw e here)
  fault_below names labels _ _ (Faults.float_form at word_at operands) = first here
  fault_below names labels _ _ (Faults.declared_float at bindings body there l) = first (declared_below (definition_of defined) names labels bindings there l)
  fault_below names labels _ _ (Faults.float_parameter at body handlers params e p i c f) = second (second (handlers_below (fault.Float p.comp_at) (definition_of defined) names _ params e handlers i (first (params_below (definition_of defined) params p c f))))
  fault_below names labels _ _ (Faults.float_result at called arguments result_at) = first (second here)
  fault_below names labels _ _ (Faults.outer_float_result at frame name arguments result_at) = first here
  fault_below names labels _ _ (Faults.address_argument at frame name arguments result result_at e i a) = second (row_below (fault.AddrArgument (place_of e)) (definition_of defined) role.Outer names labels e arguments i (address_below (definition_of defined) names e _ a))
