-- The external calls of accepted functions keep the rules of images; what a tree names is defined, and is among the
-- calls of its file.
use Rattle.std.proofs.Common.{◌≡◌, ℕ, ◌≤◌, false, List, [], ◌∷◌, ◌++◌, length, Option, Some, None, is_none, refl, sym, subst, inl, inr, arith}
use Rattle.std.specs.Prelude.{IsSome, Contains}
use Rattle.std.specs.List.{AllByRecursion}
use Rattle.std.proofs.lemmas.List.Elements.{Contains-append_left, Contains-append_right}
use Rattle.bs_fault.specs.declared.fault.Fault.{Fault}
use Rattle.bs_fault.specs.declared.fault.Fault.TheVariants as fault
use Rattle.bs_fault.specs.Reported.{here, one_if, Faultless}
use Rattle.bs_words.specs.External.{External}
use Rattle.bs_words.specs.declared.types.Comp.TheVariants as comp
use Rattle.bs_words.specs.declared.types.Ret.{Ret}
use Rattle.bs_words.specs.declared.types.Ret.TheVariants as ret
use Rattle.bs_words.specs.declared.types.Ty.{Ty}
use Rattle.bs_words.specs.declared.types.Ty.TheVariants as ty
use Rattle.cmm_meaning.specs.Evaluation.{comps_of_arguments, row_of_call}
use Rattle.cmm_tree.specs.Symbols.{DefinedSymbol}
use Rattle.cmm_tree.specs.Tree.{Expression, Integer, Pointer, Symbol, Name, Nothing, Float, Let, Assign, Operator, Load, Store, Alloc, App, Extcall, Checkbound, Raise, Seq, If, Switch, Catch, Exit, Try, Expressions, NoMore, More, Bindings, NoBinding, Bind, Cases, NoCase, Choose, Handlers, NoHandler, Handle}
use Rattle.cmm_types.specs.Faults.{row_length}
use Rattle.cmm_types.specs.Gathered.{faults_in, row_faults, bindings_faults, cases_faults, handlers_faults, result_faults}
use Rattle.cmm_types.specs.Standing.{Visible, labels_of, lasting_labels_of}
use Rattle.cmm_types.specs.Types.{Scoped, type_of, with_bindings, with_parameters, comp_of_argument}
use Rattle.cmm_types.specs.declared.role.Role.{Role}
use Rattle.cmm_types.specs.declared.role.Role.TheVariants as role
use Rattle.cmm_types.proofs.Containing.{contains_head, contains_tail}
use Rattle.image_form.specs.Image.{IsArgument, IsExtResult, IsExt}
use Rattle.rv_layout_rules.specs.Externals.{calls_in, calls_in_row, calls_in_bindings, calls_in_cases, calls_in_handlers}
use Rattle.rv_layout_rules.proofs.Rules.{all_append}
use Rattle.selection_laws.specs.Fits.{Fits, RowFits, BindingsFit, CasesFit, HandlersFit}
use Rattle.selection_accepted.specs.Known.{ASymbol, ACall, Names, RowNames, BoundNames, CasesName, HandlersName}
use Rattle.selection_laws.proofs.Accepting.{left, right}
use Rattle.accepted_files.specs.Named.{CallsSymbols, RowCallsSymbols, BoundCallsSymbols, CasesCallSymbols, HandlersCallSymbols}

-- ---- rows

argument : (t : Ty) → IsArgument (comp_of_argument t)
argument ty.Val = tt
argument _ = tt

arguments_are : (names : List Scoped) (es : Expressions) → AllByRecursion IsArgument (comps_of_arguments names es)
arguments_are names NoMore = tt
arguments_are names (More e rest) = (argument (type_of names e), arguments_are names rest)

comps_many : (names : List Scoped) (es : Expressions) → length (comps_of_arguments names es) ≡ row_length es
comps_many names NoMore = refl
comps_many names (More e rest) = let n = comps_many names rest in omega (arith, n)

result_is : (r : Ret) (at : ℕ) → Faultless (result_faults r at) → IsExtResult r
result_is ret.Unit at none = tt
result_is (ret.Comp comp.Int) at none = tt
result_is (ret.Comp comp.Val) at none = tt
result_is (ret.Comp comp.Addr) at none = tt
result_is (ret.Comp comp.Float) at none = absurd (none (fault.Float at) here)

pub AreLaid : List External → Type 0
AreLaid es = AllByRecursion IsExt es

pub both : (xs ys : List External) → AreLaid xs → AreLaid ys → AreLaid (xs ++ ys)
unfolding AreLaid
both xs ys p q = all_append IsExt xs ys p q

pub nothing_laid : AreLaid []
unfolding AreLaid
nothing_laid = tt

one_laid : (x : External) (xs : List External) → IsExt x → AreLaid xs → AreLaid (x ∷ xs)
unfolding AreLaid
one_laid x xs p q = (p, q)

pub laid_all : (xs : List External) → AreLaid xs → AllByRecursion IsExt xs
unfolding AreLaid
laid_all xs p = p

module _ (d : List ℕ → Option DefinedSymbol) where
  mutual
    pub calls_laid : (names : List Scoped) (labels : List Visible) (e : Expression) → CallsSymbols e → Fits names e → Faultless (faults_in d names labels e) → AreLaid (calls_in names e)
    calls_laid names labels (Integer at word) c f none = nothing_laid
    calls_laid names labels (Pointer at word) c f none = nothing_laid
    calls_laid names labels (Symbol at name) c f none = nothing_laid
    calls_laid names labels (Name at name) c f none = nothing_laid
    calls_laid names labels (Nothing at) c f none = nothing_laid
    calls_laid names labels (Float at word_at operands) c f none = row_laid names labels role.Visited operands c f (right none)
    calls_laid names labels (Let at bindings body) c f none =
        both _ _ (bindings_laid names labels bindings c.0 f.0 (left none)) (calls_laid (with_bindings names bindings) labels body c.1 f.1 (right none))
    calls_laid names labels (Assign at name_at name value) c f none = calls_laid names labels value c f (left (right none))
    calls_laid names labels (Operator at op a b) c f none =
        both _ _ (calls_laid names labels a c.0 f.0 (left (left none))) (calls_laid names labels b c.1 f.1 (left (right none)))
    calls_laid names labels (Load at chunk address) c f none = calls_laid names labels address c f (left none)
    calls_laid names labels (Store at chunk address value) c f none =
        both _ _ (calls_laid names labels address c.0 f.0 (left (left none))) (calls_laid names labels value c.1 f.1 (left (right none)))
    calls_laid names labels (Alloc at header_at header operands) c f none = row_laid names labels role.Taken operands c f.1.1 (right none)
    calls_laid names labels (App at callee arguments result result_at) c f none =
        both _ _ (calls_laid names labels callee c.0 f.1.0 (left (left (right none)))) (row_laid names labels role.Taken arguments c.1 f.1.1 (right (right none)))
    calls_laid names labels (Extcall at frame name arguments result result_at) c f none =
        let few : row_length arguments ≤ 16 = f.0 in
        one_laid (row_of_call names name arguments result) (calls_in_row names arguments)
        (record {
          name = c.0;
          few = omega (arith, few, comps_many names arguments);
          params = arguments_are names arguments;
          result = result_is result result_at (left none);
        })
        (row_laid names labels role.Outer arguments c.1 f.1.1 (right none))
    calls_laid names labels (Checkbound at bound index) c f none =
        both _ _ (calls_laid names labels bound c.0 f.0 (left (left none))) (calls_laid names labels index c.1 f.1 (left (right none)))
    calls_laid names labels (Raise at value) c f none = calls_laid names labels value c f (left none)
    calls_laid names labels (Seq at elements) c f none = row_laid names labels role.Visited elements c f none
    calls_laid names labels (If at condition on_true on_false) c f none =
        both _ _ (calls_laid names labels condition c.0 f.0 (left (left none)))
        (both _ _ (calls_laid names labels on_true c.1.0 f.1.0 (left (right none))) (calls_laid names labels on_false c.1.1 f.1.1 (right (right none))))
    calls_laid names labels (Switch at size_at size selector cases) c f none =
        both _ _ (calls_laid names labels selector c.0 f.1.0 (left (left none))) (cases_laid names labels cases c.1 f.1.1 (right none))
    calls_laid names labels (Catch at body handlers) c f none =
        both _ _ (calls_laid names (labels_of handlers ++ labels) body c.0 f.0 (left (right none)))
        (handlers_laid names (lasting_labels_of handlers ++ labels) handlers c.1 f.1 (right (right none)))
    calls_laid names labels (Exit at label_at label arguments) c f none = row_laid names labels role.Taken arguments c f (right none)
    calls_laid names labels (Try at body name_at name handler) c f none =
        both _ _ (calls_laid names labels body c.0 f.0 (left none))
        (calls_laid (record { name = name; type = ty.Val; mutable = false } ∷ names) labels handler c.1 f.1 (right none))

    row_laid : (names : List Scoped) (labels : List Visible) (how : Role) (es : Expressions) → RowCallsSymbols es → RowFits names es → Faultless (row_faults how d names labels es) → AreLaid (calls_in_row names es)
    row_laid names labels how NoMore c f none = nothing_laid
    row_laid names labels how (More e rest) c f none =
        both _ _ (calls_laid names labels e c.0 f.0 (left (left none))) (row_laid names labels how rest c.1 f.1 (right none))

    bindings_laid : (names : List Scoped) (labels : List Visible) (bs : Bindings) → BoundCallsSymbols bs → BindingsFit names bs → Faultless (bindings_faults d names labels bs) → AreLaid (calls_in_bindings names bs)
    bindings_laid names labels NoBinding c f none = nothing_laid
    bindings_laid names labels (Bind at name declared value rest) c f none =
        both _ _ (calls_laid names labels value c.0 f.0 (left (right (left none))))
        (bindings_laid (with_bindings names (Bind at name declared value NoBinding)) labels rest c.1 f.1 (right none))

    cases_laid : (names : List Scoped) (labels : List Visible) (cs : Cases) → CasesCallSymbols cs → CasesFit names cs → Faultless (cases_faults d names labels cs) → AreLaid (calls_in_cases names cs)
    cases_laid names labels NoCase c f none = nothing_laid
    cases_laid names labels (Choose indexes body rest) c f none =
        both _ _ (calls_laid names labels body c.0 f.0 (left none)) (cases_laid names labels rest c.1 f.1 (right none))

    handlers_laid : (names : List Scoped) (labels : List Visible) (hs : Handlers) → HandlersCallSymbols hs → HandlersFit names hs → Faultless (handlers_faults d names labels hs) → AreLaid (calls_in_handlers names hs)
    handlers_laid names labels NoHandler c f none = nothing_laid
    handlers_laid names labels (Handle at label params body rest) c f none =
        both _ _ (calls_laid (with_parameters params names) labels body c.0 f.0 (right (left none))) (handlers_laid names labels rest c.1 f.1 (right none))

  -- ---- symbols

  is_known : (o : Option DefinedSymbol) (f : Fault) → Faultless (one_if (is_none o) f) → IsSome o
  is_known None f none = absurd (none f here)
  is_known (Some s) f none = refl

  mutual
    -- each symbol that an accepted tree names is defined
    pub named_defined : (names : List Scoped) (labels : List Visible) (e : Expression) (name : List ℕ) → Faultless (faults_in d names labels e) → Names names e (ASymbol name) → IsSome (d name)
    named_defined names labels (Symbol at other) name none n = let same : name ≡ other = cc in subst (λ x. IsSome (d x)) (sym same) (is_known (d other) (fault.UnknownSymbol at) none)
    named_defined names labels (Integer at word) name none n = absurd n
    named_defined names labels (Pointer at word) name none n = absurd n
    named_defined names labels (Name at other) name none n = absurd n
    named_defined names labels (Nothing at) name none n = absurd n
    named_defined names labels (Float at word_at operands) name none n = row_defined names labels role.Visited operands name (right none) n
    named_defined names labels (Let at bindings body) name none (inl n) = bindings_defined names labels bindings name (left none) n
    named_defined names labels (Let at bindings body) name none (inr n) = named_defined (with_bindings names bindings) labels body name (right none) n
    named_defined names labels (Assign at name_at other value) name none n = named_defined names labels value name (left (right none)) n
    named_defined names labels (Operator at op a b) name none (inl n) = named_defined names labels a name (left (left none)) n
    named_defined names labels (Operator at op a b) name none (inr n) = named_defined names labels b name (left (right none)) n
    named_defined names labels (Load at chunk address) name none n = named_defined names labels address name (left none) n
    named_defined names labels (Store at chunk address value) name none (inl n) = named_defined names labels address name (left (left none)) n
    named_defined names labels (Store at chunk address value) name none (inr n) = named_defined names labels value name (left (right none)) n
    named_defined names labels (Alloc at header_at header operands) name none n = row_defined names labels role.Taken operands name (right none) n
    named_defined names labels (App at callee arguments result result_at) name none (inl n) = named_defined names labels callee name (left (left (right none))) n
    named_defined names labels (App at callee arguments result result_at) name none (inr n) = row_defined names labels role.Taken arguments name (right (right none)) n
    named_defined names labels (Extcall at frame other arguments result result_at) name none (inl n) = absurd (cc)
    named_defined names labels (Extcall at frame other arguments result result_at) name none (inr n) = row_defined names labels role.Outer arguments name (right none) n
    named_defined names labels (Checkbound at bound index) name none (inl n) = named_defined names labels bound name (left (left none)) n
    named_defined names labels (Checkbound at bound index) name none (inr n) = named_defined names labels index name (left (right none)) n
    named_defined names labels (Raise at value) name none n = named_defined names labels value name (left none) n
    named_defined names labels (Seq at elements) name none n = row_defined names labels role.Visited elements name none n
    named_defined names labels (If at condition on_true on_false) name none (inl n) = named_defined names labels condition name (left (left none)) n
    named_defined names labels (If at condition on_true on_false) name none (inr (inl n)) = named_defined names labels on_true name (left (right none)) n
    named_defined names labels (If at condition on_true on_false) name none (inr (inr n)) = named_defined names labels on_false name (right (right none)) n
    named_defined names labels (Switch at size_at size selector cases) name none (inl n) = named_defined names labels selector name (left (left none)) n
    named_defined names labels (Switch at size_at size selector cases) name none (inr n) = cases_defined names labels cases name (right none) n
    named_defined names labels (Catch at body handlers) name none (inl n) = named_defined names (labels_of handlers ++ labels) body name (left (right none)) n
    named_defined names labels (Catch at body handlers) name none (inr n) = handlers_defined names (lasting_labels_of handlers ++ labels) handlers name (right (right none)) n
    named_defined names labels (Exit at label_at label arguments) name none n = row_defined names labels role.Taken arguments name (right none) n
    named_defined names labels (Try at body name_at other handler) name none (inl n) = named_defined names labels body name (left none) n
    named_defined names labels (Try at body name_at other handler) name none (inr n) =
        named_defined (record { name = other; type = ty.Val; mutable = false } ∷ names) labels handler name (right none) n

    row_defined : (names : List Scoped) (labels : List Visible) (how : Role) (es : Expressions) (name : List ℕ) → Faultless (row_faults how d names labels es) → RowNames names es (ASymbol name) → IsSome (d name)
    row_defined names labels how NoMore name none n = absurd n
    row_defined names labels how (More e rest) name none (inl n) = named_defined names labels e name (left (left none)) n
    row_defined names labels how (More e rest) name none (inr n) = row_defined names labels how rest name (right none) n

    bindings_defined : (names : List Scoped) (labels : List Visible) (bs : Bindings) (name : List ℕ) → Faultless (bindings_faults d names labels bs) → BoundNames names bs (ASymbol name) → IsSome (d name)
    bindings_defined names labels NoBinding name none n = absurd n
    bindings_defined names labels (Bind at other declared value rest) name none (inl n) = named_defined names labels value name (left (right (left none))) n
    bindings_defined names labels (Bind at other declared value rest) name none (inr n) =
        bindings_defined (with_bindings names (Bind at other declared value NoBinding)) labels rest name (right none) n

    cases_defined : (names : List Scoped) (labels : List Visible) (cs : Cases) (name : List ℕ) → Faultless (cases_faults d names labels cs) → CasesName names cs (ASymbol name) → IsSome (d name)
    cases_defined names labels NoCase name none n = absurd n
    cases_defined names labels (Choose indexes body rest) name none (inl n) = named_defined names labels body name (left none) n
    cases_defined names labels (Choose indexes body rest) name none (inr n) = cases_defined names labels rest name (right none) n

    handlers_defined : (names : List Scoped) (labels : List Visible) (hs : Handlers) (name : List ℕ) → Faultless (handlers_faults d names labels hs) → HandlersName names hs (ASymbol name) → IsSome (d name)
    handlers_defined names labels NoHandler name none n = absurd n
    handlers_defined names labels (Handle at label params body rest) name none (inl n) = named_defined (with_parameters params names) labels body name (right (left none)) n
    handlers_defined names labels (Handle at label params body rest) name none (inr n) = handlers_defined names labels rest name (right none) n

-- ---- calls

first_in : (xs ys : List External) (x : External) → Contains xs x → Contains (xs ++ ys) x
first_in xs ys x c = Contains-append_left xs ys x c

later_in : (xs ys : List External) (x : External) → Contains ys x → Contains (xs ++ ys) x
later_in xs ys x c = Contains-append_right xs ys x c

mutual
  -- each external call that a tree names is among its calls
  pub named_called : (names : List Scoped) (e : Expression) (x : External) → Names names e (ACall x) → Contains (calls_in names e) x
  named_called names (Symbol at other) x n = absurd (cc)
  named_called names (Integer at word) x n = absurd n
  named_called names (Pointer at word) x n = absurd n
  named_called names (Name at other) x n = absurd n
  named_called names (Nothing at) x n = absurd n
  named_called names (Float at word_at operands) x n = row_called names operands x n
  named_called names (Let at bindings body) x (inl n) = first_in _ _ x (bindings_called names bindings x n)
  named_called names (Let at bindings body) x (inr n) = later_in _ _ x (named_called (with_bindings names bindings) body x n)
  named_called names (Assign at name_at other value) x n = named_called names value x n
  named_called names (Operator at op a b) x (inl n) = first_in _ _ x (named_called names a x n)
  named_called names (Operator at op a b) x (inr n) = later_in _ _ x (named_called names b x n)
  named_called names (Load at chunk address) x n = named_called names address x n
  named_called names (Store at chunk address value) x (inl n) = first_in _ _ x (named_called names address x n)
  named_called names (Store at chunk address value) x (inr n) = later_in _ _ x (named_called names value x n)
  named_called names (Alloc at header_at header operands) x n = row_called names operands x n
  named_called names (App at callee arguments result result_at) x (inl n) = first_in _ _ x (named_called names callee x n)
  named_called names (App at callee arguments result result_at) x (inr n) = later_in _ _ x (row_called names arguments x n)
  named_called names (Extcall at frame other arguments result result_at) x (inl n) =
      let same : row_of_call names other arguments result ≡ x = cc in
      subst (λ y. Contains (row_of_call names other arguments result ∷ calls_in_row names arguments) y) same (contains_head (row_of_call names other arguments result) (calls_in_row names arguments))
  named_called names (Extcall at frame other arguments result result_at) x (inr n) = contains_tail (row_of_call names other arguments result) _ x (row_called names arguments x n)
  named_called names (Checkbound at bound index) x (inl n) = first_in _ _ x (named_called names bound x n)
  named_called names (Checkbound at bound index) x (inr n) = later_in _ _ x (named_called names index x n)
  named_called names (Raise at value) x n = named_called names value x n
  named_called names (Seq at elements) x n = row_called names elements x n
  named_called names (If at condition on_true on_false) x (inl n) = first_in _ _ x (named_called names condition x n)
  named_called names (If at condition on_true on_false) x (inr (inl n)) = later_in (calls_in names condition) _ x (first_in _ _ x (named_called names on_true x n))
  named_called names (If at condition on_true on_false) x (inr (inr n)) = later_in (calls_in names condition) _ x (later_in (calls_in names on_true) _ x (named_called names on_false x n))
  named_called names (Switch at size_at size selector cases) x (inl n) = first_in _ _ x (named_called names selector x n)
  named_called names (Switch at size_at size selector cases) x (inr n) = later_in _ _ x (cases_called names cases x n)
  named_called names (Catch at body handlers) x (inl n) = first_in _ _ x (named_called names body x n)
  named_called names (Catch at body handlers) x (inr n) = later_in _ _ x (handlers_called names handlers x n)
  named_called names (Exit at label_at label arguments) x n = row_called names arguments x n
  named_called names (Try at body name_at other handler) x (inl n) = first_in _ _ x (named_called names body x n)
  named_called names (Try at body name_at other handler) x (inr n) =
      later_in _ _ x (named_called (record { name = other; type = ty.Val; mutable = false } ∷ names) handler x n)

  row_called : (names : List Scoped) (es : Expressions) (x : External) → RowNames names es (ACall x) → Contains (calls_in_row names es) x
  row_called names NoMore x n = absurd n
  row_called names (More e rest) x (inl n) = first_in _ _ x (named_called names e x n)
  row_called names (More e rest) x (inr n) = later_in _ _ x (row_called names rest x n)

  bindings_called : (names : List Scoped) (bs : Bindings) (x : External) → BoundNames names bs (ACall x) → Contains (calls_in_bindings names bs) x
  bindings_called names NoBinding x n = absurd n
  bindings_called names (Bind at other declared value rest) x (inl n) = first_in _ _ x (named_called names value x n)
  bindings_called names (Bind at other declared value rest) x (inr n) =
      later_in _ _ x (bindings_called (with_bindings names (Bind at other declared value NoBinding)) rest x n)

  cases_called : (names : List Scoped) (cs : Cases) (x : External) → CasesName names cs (ACall x) → Contains (calls_in_cases names cs) x
  cases_called names NoCase x n = absurd n
  cases_called names (Choose indexes body rest) x (inl n) = first_in _ _ x (named_called names body x n)
  cases_called names (Choose indexes body rest) x (inr n) = later_in _ _ x (cases_called names rest x n)

  handlers_called : (names : List Scoped) (hs : Handlers) (x : External) → HandlersName names hs (ACall x) → Contains (calls_in_handlers names hs) x
  handlers_called names NoHandler x n = absurd n
  handlers_called names (Handle at label params body rest) x (inl n) = first_in _ _ x (named_called (with_parameters params names) body x n)
  handlers_called names (Handle at label params body rest) x (inr n) = later_in _ _ x (handlers_called names rest x n)
