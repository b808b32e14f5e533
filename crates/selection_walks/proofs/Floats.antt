-- An expression without faults holds no float.
use Rattle.std.proofs.Common.{◌≡◌, ℕ, Bool, true, false, ◌||◌, List, [], ◌∷◌, Option, Some, None, refl, ap, ◌∙◌}
use Rattle.bs_words.specs.declared.types.Comp.{Comp}
use Rattle.bs_words.specs.declared.types.Ret.{Ret}
use Rattle.bs_words.specs.declared.types.Ret.TheVariants as ret
use Rattle.bs_words.specs.declared.types.Ty.TheVariants as ty
use Rattle.bs_fault.specs.declared.fault.Fault.{Fault}
use Rattle.bs_fault.specs.Reported.{Faultless, here, one_if}
use Rattle.cmm_tree.specs.Symbols.{DefinedSymbol}
use Rattle.cmm_tree.specs.Tree.{Declaration, Parameter, Expression, Integer, Pointer, Symbol, Name, Nothing, Float, Let, Assign, Operator, Load, Store, Alloc, App, Extcall, Checkbound, Raise, Seq, If, Switch, Catch, Exit, Try, Expressions, NoMore, More, Bindings, NoBinding, Bind, Cases, NoCase, Choose, Handlers, NoHandler, Handle}
use Rattle.cmm_types.specs.Gathered.{comp_faults, result_faults, declared_faults, params_faults, faults_in, row_faults, bindings_faults, cases_faults, handlers_faults}
use Rattle.cmm_types.specs.Standing.{Visible}
use Rattle.cmm_types.specs.Types.{Scoped, with_parameters, with_bindings, type_of, type_without_float, unless_float, is_float, is_float_result, is_declared_float, has_float_parameter, holds_float, row_holds_float, bindings_hold_float, cases_hold_float, handlers_hold_float}
use Rattle.cmm_types.specs.declared.role.Role.{Role}
use Rattle.cmm_types.specs.declared.role.Role.TheVariants as role
use Rattle.selection_laws.proofs.Accepting.{left, right}

or : (a b : Bool) → a ≡ false → b ≡ false → (a || b) ≡ false
or true b e f = e
or false b e f = f

not_one : (b : Bool) (f : Fault) → Faultless (one_if b f) → b ≡ false
not_one true f none = absurd (none f here)
not_one false f none = refl

comp_false : (c : Comp) (at : ℕ) → Faultless (comp_faults c at) → is_float c ≡ false
comp_false c at f = not_one (is_float c) _ f

result_false : (r : Ret) (at : ℕ) → Faultless (result_faults r at) → is_float_result r ≡ false
result_false ret.Unit at f = refl
result_false (ret.Comp c) at f = comp_false c at f

declared_false : (o : Option Declaration) → Faultless (declared_faults o) → is_declared_float o ≡ false
declared_false None f = refl
declared_false (Some d) f = comp_false d.comp d.at f

params_false : (ps : List Parameter) → Faultless (params_faults ps) → has_float_parameter ps ≡ false
params_false [] f = refl
params_false (p ∷ ps) f = or (is_float p.comp) (has_float_parameter ps) (comp_false p.comp p.comp_at (left f)) (params_false ps (right f))

module _ (d : List ℕ → Option DefinedSymbol) where
  mutual
    pub no_float : (sc : List Scoped) (vis : List Visible) (e : Expression) → Faultless (faults_in d sc vis e) → holds_float e ≡ false
    no_float sc vis (Integer at word) f = refl
    no_float sc vis (Pointer at word) f = refl
    no_float sc vis (Symbol at name) f = refl
    no_float sc vis (Name at name) f = refl
    no_float sc vis (Nothing at) f = refl
    no_float sc vis (Float at word_at operands) f = absurd (left f _ here)
    no_float sc vis (Let at bindings body) f = or (bindings_hold_float bindings) (holds_float body) (no_bound sc vis bindings (left f)) (no_float _ vis body
        (right f))
    no_float sc vis (Assign at name_at name value) f = no_float sc vis value (left (right f))
    no_float sc vis (Operator at op a b) f = or (holds_float a) (holds_float b) (no_float sc vis a (left (left f))) (no_float sc vis b (left (right f)))
    no_float sc vis (Load at chunk a) f = no_float sc vis a (left f)
    no_float sc vis (Store at chunk a b) f = or (holds_float a) (holds_float b) (no_float sc vis a (left (left f))) (no_float sc vis b (left (right f)))
    no_float sc vis (Alloc at header_at header operands) f = no_row sc vis role.Taken operands (right f)
    no_float sc vis (App at callee arguments result result_at) f =
        or (holds_float callee || row_holds_float arguments) (is_float_result result)
        (or (holds_float callee) (row_holds_float arguments) (no_float sc vis callee (left (left (right f))))
        (no_row sc vis role.Taken arguments (right (right f))))
        (result_false result result_at (right (left f)))
    no_float sc vis (Extcall at frame name arguments result result_at) f =
        or (row_holds_float arguments) (is_float_result result) (no_row sc vis role.Outer arguments (right f)) (result_false result result_at (left f))
    no_float sc vis (Checkbound at a b) f = or (holds_float a) (holds_float b) (no_float sc vis a (left (left f))) (no_float sc vis b (left (right f)))
    no_float sc vis (Raise at value) f = no_float sc vis value (left f)
    no_float sc vis (Seq at elements) f = no_row sc vis role.Visited elements f
    no_float sc vis (If at c a b) f =
        or (holds_float c || holds_float a) (holds_float b) (or (holds_float c) (holds_float a) (no_float sc vis c (left (left f)))
        (no_float sc vis a (left (right f)))) (no_float sc vis b (right (right f)))
    no_float sc vis (Switch at size_at size selector cases) f =
        or (holds_float selector) (cases_hold_float cases) (no_float sc vis selector (left (left f))) (no_cases sc vis cases (right f))
    no_float sc vis (Catch at body handlers) f = or (holds_float body) (handlers_hold_float handlers) (no_float sc _ body (left (right f)))
        (no_handlers sc _ handlers (right (right f)))
    no_float sc vis (Exit at label_at label arguments) f = no_row sc vis role.Taken arguments (right f)
    no_float sc vis (Try at body name_at name handler) f = or (holds_float body) (holds_float handler) (no_float sc vis body (left f)) (no_float _ vis handler
        (right f))

    no_row : (sc : List Scoped) (vis : List Visible) (r : Role) (es : Expressions) → Faultless (row_faults r d sc vis es) → row_holds_float es ≡ false
    no_row sc vis r NoMore f = refl
    no_row sc vis r (More e rest) f = or (holds_float e) (row_holds_float rest) (no_float sc vis e (left (left f))) (no_row sc vis r rest (right f))

    no_bound : (sc : List Scoped) (vis : List Visible) (bs : Bindings) → Faultless (bindings_faults d sc vis bs) → bindings_hold_float bs ≡ false
    no_bound sc vis NoBinding f = refl
    no_bound sc vis (Bind at name declared value rest) f =
        or (is_declared_float declared || holds_float value) (bindings_hold_float rest)
        (or (is_declared_float declared) (holds_float value) (declared_false declared (left (left f))) (no_float sc vis value (left (right (left f)))))
        (no_bound (with_bindings sc (Bind at name declared value NoBinding)) vis rest (right f))

    no_cases : (sc : List Scoped) (vis : List Visible) (cs : Cases) → Faultless (cases_faults d sc vis cs) → cases_hold_float cs ≡ false
    no_cases sc vis NoCase f = refl
    no_cases sc vis (Choose indexes body rest) f = or (holds_float body) (cases_hold_float rest) (no_float sc vis body (left f)) (no_cases sc vis rest
        (right f))

    no_handlers : (sc : List Scoped) (vis : List Visible) (hs : Handlers) → Faultless (handlers_faults d sc vis hs) → handlers_hold_float hs ≡ false
    no_handlers sc vis NoHandler f = refl
    no_handlers sc vis (Handle at label params body rest) f =
        or (has_float_parameter params || holds_float body) (handlers_hold_float rest)
        (or (has_float_parameter params) (holds_float body) (params_false params (left (left f)))
        (no_float (with_parameters params sc) vis body (right (left f))))
        (no_handlers sc vis rest (right f))

  -- what has a value has one
  pub has_one : (sc : List Scoped) (vis : List Visible) (e : Expression) → Faultless (faults_in d sc vis e) → (type_of sc e ≡ ty.NoValue → ⊥) →
      type_without_float sc e ≡ ty.NoValue → ⊥
  has_one sc vis e f value q = value (ap (λ b. unless_float b (type_without_float sc e)) (no_float sc vis e f) ∙ q)
