-- What the front accepts fits.
use Rattle.std.proofs.Common.{◌≡◌, ℕ, ◌<◌, ◌≤◌, Bool, true, false, not, List, [], ◌++◌, length, get_or, Option, Some, None, refl, arith}
use Rattle.std.proofs.lemmas.List.{length-map}
use Rattle.std.proofs.lemmas.Option.{slice_get-get_or}
use Rattle.std.specs.List.{slice_get}
use Rattle.bs_fault.specs.declared.fault.Fault.{Fault}
use Rattle.bs_fault.specs.declared.fault.Fault.TheVariants as fault
use Rattle.bs_fault.specs.Limits.{most_params}
use Rattle.bs_fault.specs.Reported.{Faults, Both, here, first, second, one_if, Faultless}
use Rattle.bs_words.specs.declared.types.Ty.{Ty}
use Rattle.bs_words.specs.declared.types.Ty.TheVariants as ty
use Rattle.cmm_limits.specs.Limits.{too_many_at, too_many, places}
use Rattle.cmm_limits.specs.Limits as limits
use Rattle.cmm_tree.specs.Measures.{IntegersFit, RowFits as RowWords, BindingsFit as BoundWords, CasesFit as CaseWords, HandlersFit as HandlerWords}
use Rattle.cmm_tree.specs.Place.{place_of}
use Rattle.cmm_tree.specs.Symbols.{DefinedSymbol}
use Rattle.cmm_tree.specs.Tree.{Parameter, FunctionTree, Expression, Integer, Pointer, Symbol, Name, Nothing, Float, Let, Assign, Operator, Load, Store, Alloc, App, Extcall, Checkbound, Raise, Seq, If, Switch, Catch, Exit, Try, Expressions, NoMore, More, Bindings, NoBinding, Bind, Cases, NoCase, Choose, Handlers, NoHandler, Handle}
use Rattle.cmm_types.specs.Faults.{row_length, is_header}
use Rattle.cmm_types.specs.Gathered.{role_faults, faults_in, row_faults, bindings_faults, cases_faults, handlers_faults}
use Rattle.cmm_types.specs.Standing.{Visible, labels_of, lasting_labels_of}
use Rattle.cmm_types.specs.Types.{Scoped, type_of, with_bindings, with_parameters, is_address}
use Rattle.cmm_types.specs.declared.role.Role.{Role}
use Rattle.cmm_types.specs.declared.role.Role.TheVariants as role
use Rattle.selection_laws.specs.Accepted.{HaveCases, RowHaveCases, BoundHaveCases, CasesHaveCases, HandlersHaveCases, Accepted}
use Rattle.selection_laws.specs.Fits.{HasFew, NoAddress, Fits, RowFits, BindingsFit, CasesFit, HandlersFit, FunctionFits}

pub left : {a b : Faults} → Faultless (Both a b) → Faultless a
left {a} {b} none f among = none f (first a b among)

pub right : {a b : Faults} → Faultless (Both a b) → Faultless b
right {a} {b} none f among = none f (second a b among)

few_places : (ps : List ℕ) → Faultless (too_many ps) → length ps ≤ most_params
few_places ps none = at_most (length ps) most_params (λ less. some (slice_get ps most_params) (get_or ps most_params 0) (slice_get-get_or ps most_params 0 less) none)
  where
    at_most : (a b : ℕ) → (b < a → ⊥) → a ≤ b
    at_most a b h = omega (arith, h)

    some : (o : Option ℕ) (at : ℕ) → o ≡ Some at → Faultless (too_many_at o) → ⊥
    some None at e none = cc
    some (Some x) at e none = none (fault.TooManyParams x) here

places_length : (es : Expressions) → length (places es) ≡ row_length es
places_length NoMore = refl
places_length (More e rest) = let others = places_length rest in omega (arith, others)

few : (es : Expressions) → Faultless (too_many (places es)) → HasFew es
few es none = let less = few_places (places es) none in let same = places_length es in omega (arith, less, same)

pub holds_if : (b : Bool) (f : Fault) → Faultless (one_if (not b) f) → b ≡ true
holds_if true f none = refl
holds_if false f none = absurd (none f here)

no_address : (at : ℕ) (t : Ty) → Faultless (role_faults role.Outer at t) → is_address t ≡ false
no_address at ty.Addr none = absurd (none (fault.AddrArgument at) here)
no_address at t none = refl

module _ (d : List ℕ → Option DefinedSymbol) where
  outer : (names : List Scoped) (labels : List Visible) (es : Expressions) → Faultless (row_faults role.Outer d names labels es) → NoAddress names es
  outer names labels NoMore none = tt
  outer names labels (More e rest) none = (no_address (place_of e) (type_of names e) (right (left none)), outer names labels rest (right none))

  mutual
    fits_in : (names : List Scoped) (labels : List Visible) (e : Expression) → Faultless (limits.faults_in e) → Faultless (faults_in d names labels e) → IntegersFit e → HaveCases e → Fits names e
    fits_in names labels (Integer at word) l t w c = w
    fits_in names labels (Pointer at word) l t w c = w
    fits_in names labels (Symbol at name) l t w c = tt
    fits_in names labels (Name at name) l t w c = tt
    fits_in names labels (Nothing at) l t w c = tt
    fits_in names labels (Float at word_at operands) l t w c = fits_row names labels role.Visited operands l (right t) w c
    fits_in names labels (Let at bindings body) l t w c = (fits_bound names labels bindings (left l) (left t) w.0 c.0, fits_in _ labels body (right l) (right t) w.1 c.1)
    fits_in names labels (Assign at name_at name value) l t w c = fits_in names labels value l (left (right t)) w c
    fits_in names labels (Operator at op a b) l t w c = (fits_in names labels a (left l) (left (left t)) w.0 c.0, fits_in names labels b (right l) (left (right t)) w.1 c.1)
    fits_in names labels (Load at chunk address) l t w c = fits_in names labels address l (left t) w c
    fits_in names labels (Store at chunk address value) l t w c = (fits_in names labels address (left l) (left (left t)) w.0 c.0, fits_in names labels value (right l) (left (right t)) w.1 c.1)
    fits_in names labels (Alloc at header_at header operands) l t w c =
        (w.0, (holds_if (is_header header (row_length operands)) _ (left t), fits_row names labels role.Taken operands l (right t) w.1 c))
    fits_in names labels (App at callee arguments result result_at) l t w c =
        (few arguments (left l), (fits_in names labels callee (left (right l)) (left (left (right t))) w.0 c.0, fits_row names labels role.Taken arguments (right (right l)) (right (right t)) w.1 c.1))
    fits_in names labels (Extcall at frame name arguments result result_at) l t w c =
        (few arguments (left l), (outer names labels arguments (right t), fits_row names labels role.Outer arguments (right l) (right t) w c))
    fits_in names labels (Checkbound at a b) l t w c = (fits_in names labels a (left l) (left (left t)) w.0 c.0, fits_in names labels b (right l) (left (right t)) w.1 c.1)
    fits_in names labels (Raise at value) l t w c = fits_in names labels value l (left t) w c
    fits_in names labels (Seq at elements) l t w c = fits_row names labels role.Visited elements l t w c
    fits_in names labels (If at condition a b) l t w c = (
      fits_in names labels condition (left l) (left (left t)) w.0 c.0,
      (fits_in names labels a (left (right l)) (left (right t)) w.1.0 c.1.0, fits_in names labels b (right (right l)) (right (right t)) w.1.1 c.1.1),
    )
    fits_in names labels (Switch at size_at size selector cases) l t w c =
        (c.0, (fits_in names labels selector (left (right l)) (left (left t)) w.1.0 c.1.0, fits_cases names labels size cases (right (right l)) (right t) w.1.1 c.1.1))
    fits_in names labels (Catch at body handlers) l t w c = (
      fits_in names (labels_of handlers ++ labels) body (left l) (left (right t)) w.0 c.0,
      fits_handlers names (lasting_labels_of handlers ++ labels) handlers (right l) (right (right t)) w.1 c.1,
    )
    fits_in names labels (Exit at label_at label arguments) l t w c = fits_row names labels role.Taken arguments l (right t) w c
    fits_in names labels (Try at body name_at name handler) l t w c = (fits_in names labels body (left l) (left t) w.0 c.0, fits_in _ labels handler (right l) (right t) w.1 c.1)

    fits_row : (names : List Scoped) (labels : List Visible) (how : Role) (es : Expressions) → Faultless (limits.row_faults es) → Faultless (row_faults how d names labels es) → RowWords es → RowHaveCases es → RowFits names es
    fits_row names labels how NoMore l t w c = tt
    fits_row names labels how (More e rest) l t w c = (fits_in names labels e (left l) (left (left t)) w.0 c.0, fits_row names labels how rest (right l) (right t) w.1 c.1)

    fits_bound : (names : List Scoped) (labels : List Visible) (bs : Bindings) → Faultless (limits.binding_faults bs) → Faultless (bindings_faults d names labels bs) → BoundWords bs → BoundHaveCases bs → BindingsFit names bs
    fits_bound names labels NoBinding l t w c = tt
    fits_bound names labels (Bind at name declared value rest) l t w c =
        (fits_in names labels value (left l) (left (right (left t))) w.0 c.0, fits_bound (with_bindings names (Bind at name declared value NoBinding)) labels rest (right l) (right t) w.1 c.1)

    fits_cases : (names : List Scoped) (labels : List Visible) (size : ℕ) (cs : Cases) → Faultless (limits.case_faults size cs) → Faultless (cases_faults d names labels cs) → CaseWords cs → CasesHaveCases cs → CasesFit names cs
    fits_cases names labels size NoCase l t w c = tt
    fits_cases names labels size (Choose indexes body rest) l t w c = (fits_in names labels body (left (right l)) (left t) w.1.0 c.0, fits_cases names labels size rest (right (right l)) (right t) w.1.1 c.1)

    fits_handlers : (names : List Scoped) (labels : List Visible) (hs : Handlers) → Faultless (limits.handler_faults hs) → Faultless (handlers_faults d names labels hs) → HandlerWords hs → HandlersHaveCases hs → HandlersFit names hs
    fits_handlers names labels NoHandler l t w c = tt
    fits_handlers names labels (Handle at label params body rest) l t w c =
        (fits_in (with_parameters params names) labels body (left l) (right (left t)) w.0 c.0, fits_handlers names labels rest (right l) (right t) w.1 c.1)

-- A function that the front accepts fits.
pub accepted_fits : (d : List ℕ → Option DefinedSymbol) (f : FunctionTree) → Accepted d f → FunctionFits f
accepted_fits d f a =
    let params = few_places (limits.parameter_places f.params) (left a.limits_kept) in
    record {
      params = omega (arith, params, length-map f.params (λ (p : Parameter). p.at));
      body = fits_in d (with_parameters f.params []) [] f.body (right (right a.limits_kept)) (left (right a.typed)) a.integers_fit a.have_cases;
    }
