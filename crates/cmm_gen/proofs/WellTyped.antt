-- What is drawn has no fault of types or symbols.
use Rattle.std.proofs.Common.{◌≡◌, ℕ, zero, suc, ◌+◌, ◌<◌, ◌≤◌, ◌^◌, Bool, true, false, cond, List, [], ◌∷◌, ◌++◌, Option, Some, None, is_some, is_none, length, codes, bytes_eq, refl, ap, sym, ◌∙◌, subst, arith}
use Rattle.std.specs.Option.{option_or}
use Rattle.bs_fault.specs.declared.fault.Fault.{Fault}
use Rattle.bs_words.specs.declared.operators.CmpOp.TheVariants.{Lt}
use Rattle.bs_words.specs.declared.operators.IntOp.TheVariants.{Cmp}
use Rattle.bs_words.specs.declared.types.Comp.TheVariants as comp
use Rattle.bs_words.specs.declared.types.Ret.TheVariants as ret
use Rattle.bs_words.specs.declared.types.Ty.{Ty}
use Rattle.bs_words.specs.declared.types.Ty.TheVariants as ty
use Rattle.cmm_tree.specs.Place.{place_of}
use Rattle.cmm_tree.specs.Tree.{Expression, Symbol, Name, App, Operator, Alloc, More, NoMore, NoBinding, Bind, Let, FunctionTree, ItemTree, FileTree}
use Rattle.cmm_types.specs.Types.{Scoped, binding_of, type_bound_by, type_named, unless_float, type_of, is_address}
use Rattle.cmm_types.specs.Standing.{Visible}
use Rattle.cmm_tree.specs.Symbols.{DefinedSymbol, built_in, symbols_among, definition_of}
use Rattle.cmm_types.specs.Faults.{TypeFault}
use Rattle.cmm_types.specs.Gathered.{arity_faults, parameters_of, role_faults, used_as, faults_in, function_faults, items_faults, symbol_faults, first_symbols, file_faults}
use Rattle.bs_fault.specs.Reported.{Faults, NoFault, Both, one_if}
use Rattle.cmm_types.specs.declared.role.Role.TheVariants as role
use Rattle.cmm_types.proofs.Among.{Among, first, second}
use Rattle.cmm_types.proofs.Exact.{below}
use Rattle.cmm_types.proofs.FirstSymbols.{definition_of-append, with_symbols-all}
use Rattle.cmm_gen.specs.Drawn.{Drawn, DrawnFunction, symbol_of}
use Rattle.cmm_gen.proofs.Trees
use Rattle.cmm_gen.proofs.Trees.{IsTreeOf, IsBodyOf, IsFunctionTreeOf, AreItemsOf, number, variable, sum, difference, product, choice, cell, attempt}
use Rattle.cmm_gen.proofs.Typed.{HasInts, raised, bound_int, is_int, ints_below, test_is_int, pair_without_float, inner_let, whole_is_int}
use Rattle.cmm_gen.proofs.Symbols.{other_symbol, same_symbol, name_is, two_parameters}

-- no fault is gathered
pub record IsClean (faults : Faults) : Type 0 where
  pub none : (told : Fault) → Among told faults → ⊥

nothing : IsClean NoFault
nothing = record { none = λ told m. elim m [ ] }

both : (a b : Faults) → IsClean a → IsClean b → IsClean (Both a b)
both a b p q =
    record { none = λ told m. go told m }
  where
    go : (told : Fault) → Among told (Both a b) → ⊥
    go told (first m) = p.none told m
    go told (second m) = q.none told m

unless : (b : Bool) (told : Fault) → b ≡ false → IsClean (one_if b told)
unless b told e =
    let P : Bool → Type 0 = λ c. IsClean (one_if c told) in
    subst P (sym e) nothing

-- a part with a value
of_value : (at : ℕ) (t : Ty) → t ≡ ty.Int → IsClean (role_faults role.Taken at t)
of_value at t e =
    let P : Ty → Type 0 = λ u. IsClean (role_faults role.Taken at u) in
    subst P (sym e) nothing

-- a name that has type int is bound
is_bound : (names : List Scoped) (name : List ℕ) → type_named names name ≡ ty.Int → is_none (binding_of names name) ≡ false
is_bound names name e = by (binding_of names name) e
  where
    by : (o : Option Scoped) → type_bound_by o ≡ ty.Int → is_none o ≡ false
    by None e = cc e
    by (Some s) e = refl

-- a function of two parameters is defined
pub data HasTwo : Option DefinedSymbol → Type 0 where
  with_two : (s : DefinedSymbol) → s.parameters ≡ Some 2 → HasTwo (Some s)

module _ (d : List ℕ → Option DefinedSymbol) where
  used : (names : List Scoped) (e : Expression) (own : Faults) → type_of names e ≡ ty.Int → IsClean own → IsClean (used_as role.Taken names e own)
  used names e own int clean = both own (role_faults role.Taken (place_of e) (type_of names e)) clean (of_value (place_of e) (type_of names e) int)

  used_val : (names : List Scoped) (e : Expression) (own : Faults) → type_of names e ≡ ty.Val → IsClean own → IsClean (used_as role.Taken names e own)
  used_val names e own val clean =
      let P : Ty → Type 0 = λ u. IsClean (role_faults role.Taken (place_of e) u) in
      both own (role_faults role.Taken (place_of e) (type_of names e)) clean (subst P (sym val) nothing)

  -- what is drawn
  drawn_clean : (a : Drawn) (e : Expression) (names : List Scoped) (labels : List Visible) → IsTreeOf a e → HasInts names → IsClean (faults_in d names labels e)
  drawn_clean _ _ names labels (number draw at) i = nothing
  drawn_clean _ _ names labels (variable true at) i = unless _ _ (is_bound names (codes "x") i.x)
  drawn_clean _ _ names labels (variable false at) i = unless _ _ (is_bound names (codes "y") i.y)
  drawn_clean _ _ names labels (sum a b at left right l r) i =
      both _ _
      (used names left _ (is_int a left names l i) (drawn_clean a left names labels l i))
      (used names right _ (is_int b right names r i) (drawn_clean b right names labels r i))
  drawn_clean _ _ names labels (difference a b at left right l r) i =
      both _ _
      (used names left _ (is_int a left names l i) (drawn_clean a left names labels l i))
      (used names right _ (is_int b right names r i) (drawn_clean b right names labels r i))
  drawn_clean _ _ names labels (product a b at left right l r) i =
      both _ _
      (used names left _ (is_int a left names l i) (drawn_clean a left names labels l i))
      (used names right _ (is_int b right names r i) (drawn_clean b right names labels r i))
  drawn_clean _ _ names labels (choice a b c f at test_at left right on_true on_false l r t g) i =
      both _ _
      (used names (Operator test_at (Cmp Lt) left right) _ (test_is_int a b test_at left right names l r)
      (both _ _
      (used names left _ (is_int a left names l i) (drawn_clean a left names labels l i))
      (used names right _ (is_int b right names r i) (drawn_clean b right names labels r i))))
      (both _ _ (drawn_clean c on_true names labels t i) (drawn_clean f on_false names labels g i))
  drawn_clean _ _ names labels (cell a b at alloc_at header_at one two l r) i =
      used_val names (Alloc alloc_at header_at 2299 (More one (More two NoMore))) _ (ap (λ x. unless_float x ty.Val) (pair_without_float a b alloc_at header_at one two l r))
      (both _ _ nothing
      (both _ _ (used names one _ (is_int a one names l i) (drawn_clean a one names labels l i))
      (both _ _ (used names two _ (is_int b two names r i) (drawn_clean b two names labels r i)) nothing)))
  drawn_clean _ _ names labels (attempt a b c f at if_at test_at raise_at one_at name_at left right on_false handler l r g h) i =
      both _ _
      (both _ _
      (used names (Operator test_at (Cmp Lt) left right) _ (test_is_int a b test_at left right names l r)
      (both _ _
      (used names left _ (is_int a left names l i) (drawn_clean a left names labels l i))
      (used names right _ (is_int b right names r i) (drawn_clean b right names labels r i))))
      (both _ _ (both _ _ nothing nothing) (drawn_clean c on_false names labels g i)))
      (drawn_clean f handler (raised ∷ names) labels h (record { x = i.x; y = i.y }))

  -- a function that is called has two parameters
  named : (o : Option DefinedSymbol) → HasTwo o → (at : ℕ) → IsClean (arity_faults (parameters_of o) at 2)
  named _ (with_two s e) at =
      let P : Option ℕ → Type 0 = λ x. IsClean (arity_faults x at 2) in
      subst P (sym e) nothing

  known : (o : Option DefinedSymbol) → HasTwo o → is_none o ≡ false
  known _ (with_two s e) = refl

  body_clean : (j : ℕ) (b : Drawn) (e : Expression) (names : List Scoped) (labels : List Visible) → IsBodyOf j b e → ((i : ℕ) → suc i ≡ j → HasTwo (d (symbol_of i))) → HasInts names → type_named names (codes "p") ≡ ty.Int → type_named names (codes "q") ≡ ty.Int → IsClean (faults_in d names labels e)
  body_clean _ _ _ names labels (Trees.first b e t) has i p q = drawn_clean b e names labels t i
  body_clean _ _ _ names labels (Trees.later k b at app_at symbol_at p_at q_at result_at e t) has i p q =
      both _ _
      (used names (App app_at (Symbol symbol_at (symbol_of k)) (More (Name p_at (codes "p")) (More (Name q_at (codes "q")) NoMore)) (ret.Comp comp.Int) result_at) _ refl
      (both _ _
      (both _ _ (named (d (symbol_of k)) (has k refl) app_at) nothing)
      (both _ _
      (both _ _ (unless _ _ (known (d (symbol_of k)) (has k refl))) nothing)
      (both _ _
      (used names (Name p_at (codes "p")) _ p (unless _ _ (is_bound names (codes "p") p)))
      (both _ _ (used names (Name q_at (codes "q")) _ q (unless _ _ (is_bound names (codes "q") q))) nothing)))))
      (used names e _ (is_int b e names t i) (drawn_clean b e names labels t i))

  -- a let whose value is an int
  let_clean : (at name_at : ℕ) (name : List ℕ) (value body : Expression) (names : List Scoped) (labels : List Visible) → type_of names value ≡ ty.Int → IsClean (faults_in d names labels value) → IsClean (faults_in d (bound_int name ∷ names) labels body) → IsClean (faults_in d names labels (Let at (Bind name_at name None value NoBinding) body))
  let_clean at name_at name value body names labels int p q =
      let P : Ty → Type 0 = λ t. IsClean (faults_in d (record { name = name; type = t; mutable = false } ∷ names) labels body) in
      both _ _ (both _ _ (both _ _ nothing (used names value _ int p)) nothing) (subst P (sym int) q)

  function_clean : (j : ℕ) (f : DrawnFunction) (tree : FunctionTree) → IsFunctionTreeOf j f tree → ((i : ℕ) → suc i ≡ j → HasTwo (d (symbol_of i))) → IsClean (function_faults d tree)
  function_clean _ _ _ (Trees.function j f at name_at x_at x_comp_at y_at y_comp_at let_at p_at inner_at q_at tokens p q b pt qt bt) has =
      let scope : List Scoped = bound_int (codes "y") ∷ bound_int (codes "x") ∷ [] in
      let i : HasInts scope = record { x = refl; y = refl } in
      let i_p : HasInts (bound_int (codes "p") ∷ scope) = ints_below (codes "p") scope refl refl i in
      let i_q : HasInts (bound_int (codes "q") ∷ bound_int (codes "p") ∷ scope) = ints_below (codes "q") (bound_int (codes "p") ∷ scope) refl refl i_p in
      both _ _ (both _ _ nothing (both _ _ nothing nothing))
      (both _ _
      (let_clean let_at p_at (codes "p") p (inner_let inner_at q_at q b) scope [] (is_int f.p p scope pt i) (drawn_clean f.p p scope [] pt i)
      (let_clean inner_at q_at (codes "q") q b (bound_int (codes "p") ∷ scope) [] (is_int f.q q (bound_int (codes "p") ∷ scope) qt i_p) (drawn_clean f.q q (bound_int (codes "p") ∷ scope) [] qt i_p)
      (body_clean j f.b b (bound_int (codes "q") ∷ bound_int (codes "p") ∷ scope) [] bt has i_q refl refl)))
      (unless _ _ (ap is_address (whole_is_int j f let_at p_at inner_at q_at p q b pt qt bt scope i))))

  items_clean : (k : ℕ) (fs : List DrawnFunction) (items : List ItemTree) → AreItemsOf k fs items → ((i : ℕ) → i < k + length fs → HasTwo (d (symbol_of i))) → IsClean (items_faults d items)
  items_clean _ _ _ (Trees.none k) has = nothing
  items_clean _ _ _ (Trees.more k f fs tree items is rest) has =
      both _ _ (function_clean k f tree is (λ i before. has i (omega arith))) (items_clean (suc k) fs items rest (λ i less. has i (omega arith)))

-- ---- symbols

found_first : (b : Bool) (s : DefinedSymbol) (others : Option DefinedSymbol) → b ≡ true → s.parameters ≡ Some 2 → HasTwo (cond b (Some s) others)
found_first true s others e p = with_two s p
found_first false s others e p = cc e

found_later : (b : Bool) (s : DefinedSymbol) (others : Option DefinedSymbol) → b ≡ false → HasTwo others → HasTwo (cond b (Some s) others)
found_later false s others e h = h
found_later true s others e h = cc e

-- each function is defined
defined : (k : ℕ) (fs : List DrawnFunction) (items : List ItemTree) → AreItemsOf k fs items → (j n : ℕ) → j < length fs → n ≡ k + j → n < 2 ^ 64 → HasTwo (definition_of (symbols_among items) (symbol_of n))
defined _ _ _ (Trees.none k) j n less e small = absurd (omega arith)
defined _ _ _ (Trees.more k f fs tree items is rest) zero n less e small =
    let own : DefinedSymbol = record { name = tree.name; at = tree.name_at; parameters = Some (length tree.params) } in
    let here : k ≡ n = omega arith in
    found_first (bytes_eq tree.name (symbol_of n)) own (definition_of (symbols_among items) (symbol_of n))
    (ap (λ name. bytes_eq name (symbol_of n)) (name_is k f tree is) ∙ same_symbol k n here)
    (ap Some (two_parameters k f tree is))
defined _ _ _ (Trees.more k f fs tree items is rest) (suc j) n less e small =
    let own : DefinedSymbol = record { name = tree.name; at = tree.name_at; parameters = Some (length tree.params) } in
    let before : k < n = omega arith in
    found_later (bytes_eq tree.name (symbol_of n)) own (definition_of (symbols_among items) (symbol_of n))
    (ap (λ name. bytes_eq name (symbol_of n)) (name_is k f tree is) ∙ other_symbol k n before small)
    (defined (suc k) fs items rest j n (omega arith) (omega arith) small)

-- a symbol that one more does not define either
still_none : (before : List DefinedSymbol) (s : DefinedSymbol) (name : List ℕ) → definition_of before name ≡ None → bytes_eq s.name name ≡ false → definition_of (before ++ s ∷ []) name ≡ None
still_none before s name e other =
    definition_of-append before (s ∷ []) name
    ∙ ap (λ (o : Option DefinedSymbol). option_or o (definition_of (s ∷ []) name)) e
    ∙ ap (λ (b : Bool). cond b (Some s) None) other

-- no symbol is defined twice
symbols_clean : (k : ℕ) (fs : List DrawnFunction) (items : List ItemTree) (before : List DefinedSymbol) → AreItemsOf k fs items → k + length fs < 2 ^ 64 → ((n : ℕ) → k ≤ n → n < 2 ^ 64 → definition_of before (symbol_of n) ≡ None) → IsClean (symbol_faults before (symbols_among items))
symbols_clean _ _ _ before (Trees.none k) few new = nothing
symbols_clean _ _ _ before (Trees.more k f fs tree items is rest) few new =
    let own : DefinedSymbol = record { name = tree.name; at = tree.name_at; parameters = Some (length tree.params) } in
    let fresh : is_some (definition_of before tree.name) ≡ false =
    ap (λ name. is_some (definition_of before name)) (name_is k f tree is) ∙ ap is_some (new k (omega arith) (omega arith)) in
    let P : Bool → Type 0 = λ b. IsClean (symbol_faults (cond b before (before ++ own ∷ [])) (symbols_among items)) in
    both _ _ (unless _ _ fresh)
    (subst P (sym fresh)
    (symbols_clean (suc k) fs items (before ++ own ∷ []) rest (omega arith)
    (λ n least small.
    let earlier : k < n = omega arith in
    still_none before own (symbol_of n) (new n (omega arith) small)
    (ap (λ name. bytes_eq name (symbol_of n)) (name_is k f tree is) ∙ other_symbol k n earlier small))))

module _ (fs : List DrawnFunction) (file : FileTree) (are : AreItemsOf 0 fs file.items) (few : length fs < 2 ^ 64) where
  no_symbol_twice : IsClean (symbol_faults (built_in ∷ []) (symbols_among file.items))
  no_symbol_twice =
      symbols_clean 0 fs file.items (built_in ∷ []) are (omega arith) (λ n least small. refl)

  all_symbols : first_symbols file ≡ built_in ∷ symbols_among file.items
  all_symbols = with_symbols-all (built_in ∷ []) (symbols_among file.items) no_symbol_twice.none

  two_of : (i : ℕ) → i < length fs → HasTwo (definition_of (first_symbols file) (symbol_of i))
  two_of i less =
      let P : List DefinedSymbol → Type 0 = λ known. HasTwo (definition_of known (symbol_of i)) in
      subst P (sym all_symbols)
      (found_later (bytes_eq (codes "caml_bound_error") (symbol_of i)) built_in (definition_of (symbols_among file.items) (symbol_of i)) refl (defined 0 fs file.items are i i less (omega arith) (omega arith)))

  -- the file has no fault of types or symbols
  pub well_typed : (told : Fault) → ¬ TypeFault file told
  well_typed told fault =
      let clean : IsClean (file_faults file) =
      both _ _ no_symbol_twice
      (items_clean (definition_of (first_symbols file)) 0 fs file.items are (λ i less. two_of i (omega arith))) in
      clean.none told (below file told fault)
