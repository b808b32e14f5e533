-- What the check of a part of a function gives and keeps. Private contracts cite it.
use Rattle.std.specs.Prelude.{◌≡◌, ℕ, Bool, List, Option}
use Rattle.bs_words.specs.declared.types.Ty.{Ty}
use Rattle.bs_fault.specs.Reported.{Faults, noted_all}
use Rattle.cmm_tree.specs.Rows.{expressions_of, bindings_of, cases_of, handlers_of}
use Rattle.cmm_tree.specs.Symbols.{DefinedSymbol}
use Rattle.cmm_tree.specs.View.{expr_view, form_view}
use Rattle.cmm_tree.specs.declared.expr.Binding.{Binding}
use Rattle.cmm_tree.specs.declared.expr.Case.{Case}
use Rattle.cmm_tree.specs.declared.expr.Expr.{Expr}
use Rattle.cmm_tree.specs.declared.expr.Form.{Form}
use Rattle.cmm_tree.specs.declared.expr.Handler.{Handler}
use Rattle.cmm_types.specs.Annotated.{IsAnnotated, PartsTyped}
use Rattle.cmm_types.specs.Gathered.{faults_in, row_faults, bindings_faults, cases_faults, handlers_faults}
use Rattle.cmm_types.specs.Lists.{AreAnnotated, AreBindingsAnnotated, AreCasesAnnotated, AreHandlersAnnotated}
use Rattle.cmm_types.specs.Types.{with_bindings, type_without_float, holds_float, type_of_last, row_holds_float, bindings_hold_float}
use Rattle.cmm_types.specs.Types.{type_of_cases, cases_hold_float, type_of_handlers, handlers_hold_float}
use Rattle.cmm_types.specs.declared.checker.Checker.{Checker}
use Rattle.cmm_types.specs.declared.role.Role.{Role}
use Rattle.cmm_types.specs.declared.seen.Seen.{Seen}

-- The part reads as before, and all nodes in it hold their types. What is in scope is as before, and the faults of the
-- part are noted. What was seen is its type, if no float is in it, and whether one is.
pub record IsChecked (ReadsAsBefore Typed : Type 0) (faults : Faults) (type : Ty) (holds : Bool) (before after : Checker) (seen : Seen) : Type 0 where
  pub view : ReadsAsBefore
  pub typed : Typed
  pub names : after.names ≡ before.names
  pub labels : after.labels ≡ before.labels
  pub found : after.found ≡ noted_all faults before.found
  pub plain : seen.plain ≡ type
  pub float : seen.float ≡ holds

-- a node, which has these faults where it stands
abbrev pub IsExprChecked : Faults → Checker → Checker → Expr → Expr → Seen → Type 0
IsExprChecked faults before after old new seen =
    IsChecked (expr_view new ≡ expr_view old) (IsAnnotated before.names new) faults
    (type_without_float before.names (expr_view old)) (holds_float (expr_view old)) before after seen

-- what is below a node at this place
abbrev pub IsFormChecked : (List ℕ → Option DefinedSymbol)
    → ℕ
    → Checker
    → Checker
    → Form
    → Form
    → Seen
    → Type 0
IsFormChecked definition at before after old new seen =
    IsChecked (form_view at new ≡ form_view at old) (PartsTyped before.names new)
    (faults_in definition before.names before.labels (form_view at old))
    (type_without_float before.names (form_view at old)) (holds_float (form_view at old)) before after seen

-- nodes in a row, each in this role; the type is that of the last
abbrev pub AreExprsChecked : Role
    → (List ℕ → Option DefinedSymbol)
    → Checker
    → Checker
    → List Expr
    → List Expr
    → Seen
    → Type 0
AreExprsChecked role definition before after old new seen =
    IsChecked (expressions_of new ≡ expressions_of old) (AreAnnotated before.names new)
    (row_faults role definition before.names before.labels (expressions_of old))
    (type_of_last before.names (expressions_of old)) (row_holds_float (expressions_of old)) before after seen

-- the bodies of cases; the type is what they come to
abbrev pub AreCasesChecked : (List ℕ → Option DefinedSymbol)
    → Checker
    → Checker
    → List Case
    → List Case
    → Seen
    → Type 0
AreCasesChecked definition before after old new seen =
    IsChecked (cases_of new ≡ cases_of old) (AreCasesAnnotated before.names new)
    (cases_faults definition before.names before.labels (cases_of old))
    (type_of_cases before.names (cases_of old)) (cases_hold_float (cases_of old)) before after seen

-- handlers; the type is what their bodies come to
abbrev pub AreHandlersChecked : (List ℕ → Option DefinedSymbol)
    → Checker
    → Checker
    → List Handler
    → List Handler
    → Seen
    → Type 0
AreHandlersChecked definition before after old new seen =
    IsChecked (handlers_of new ≡ handlers_of old) (AreHandlersAnnotated before.names new)
    (handlers_faults definition before.names before.labels (handlers_of old))
    (type_of_handlers before.names (handlers_of old)) (handlers_hold_float (handlers_of old)) before after seen

-- bindings, whose names are in scope after them; whether a float is in them was found
pub record AreBindingsChecked (definition : List ℕ → Option DefinedSymbol) (before after : Checker) (old new : List Binding) (held : Bool) : Type 0 where
  pub view : bindings_of new ≡ bindings_of old
  pub typed : AreBindingsAnnotated before.names new
  pub names : after.names ≡ with_bindings before.names (bindings_of old)
  pub labels : after.labels ≡ before.labels
  pub found : after.found ≡ noted_all (bindings_faults definition before.names before.labels (bindings_of old)) before.found
  pub float : held ≡ bindings_hold_float (bindings_of old)
