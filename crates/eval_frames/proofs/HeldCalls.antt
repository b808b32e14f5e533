-- A call of a function whose nodes hold their types, and so the run of one.
use Rattle.std.proofs.Common.{◌≡◌, ◌∙◌, ℕ, zero, suc, ◌+◌, ◌&&◌, Bool, true, false, cond, List, [], ◌∷◌, Option, Some, None, length, map, refl, ap, subst, sym}
use Rattle.std.specs.Prelude.{slice_get, slice_index, option_map}
use Rattle.std.proofs.lemmas.List.{length-map}
use Rattle.std.proofs.lemmas.Option.{slice_get-map}
use Rattle.bs_words.specs.Contents.{contents}
use Rattle.bs_words.specs.Fits.{fits, type_of_comp}
use Rattle.bs_words.specs.declared.types.Comp.{Comp}
use Rattle.bs_words.specs.declared.types.Ret.{Ret}
use Rattle.bs_words.specs.declared.values.Kind.TheVariants.{BadCall}
use Rattle.bs_words.specs.declared.values.Value.{Value}
use Rattle.bs_words.specs.declared.values.Value.TheVariants as value
use Rattle.bs_words.specs.declared.values.Value.TheVariants.{Word}
use Rattle.cmm_tree.specs.Tree.{Parameter, FunctionTree, functions_among, functions, comps_of}
use Rattle.cmm_tree.specs.View.{file_view, function_view, item_view, params_view}
use Rattle.cmm_tree.specs.declared.file.File.{File}
use Rattle.cmm_tree.specs.declared.file.Function.{Function}
use Rattle.cmm_tree.specs.declared.file.Item.{Item}
use Rattle.cmm_tree.specs.declared.file.Item.TheVariants as item
use Rattle.cmm_data.specs.Placement.{data_end}
use Rattle.cmm_types.specs.Types.{with_parameters}
use Rattle.cmm_types.specs.Typing.{IsFunctionAnnotated, AreItemsAnnotated}
use Rattle.cmm_meaning.specs.Layout.{Layout}
use Rattle.cmm_meaning.specs.State.{World, Here, Called, bound, deepened}
use Rattle.cmm_meaning.specs.Evaluation.{NotProper, Evaluation, Stops, Surroundings, and_then, fit_parameters, back_from_call, as_written, stack_below, call_from, called_with, applied, scoped_parameter}
use Rattle.cmm_meaning.specs.Run.{activated, first_world, finished, cmm_run}
use Rattle.meaning_fuel.proofs.Depth.{whole_call, whole_run}
use Rattle.eval_frames.specs.Annotated.{IsTyped, FitsFunction, FitsEntry}
use Rattle.eval_frames.specs.Around.{functions_in, activated_held, surroundings_of_file}
use Rattle.eval_frames.proofs.Same.{scope_bound}
use Rattle.eval_frames.proofs.HeldSame.{same_held}

-- ---- the functions of a file

-- the functions of the code stand for those of the tree
pub functions_seen : (items : List Item) → functions_among (map item_view items) ≡ map function_view (functions_in items)
functions_seen [] = refl
functions_seen (item.Function f ∷ items) = ap (λ l. function_view f ∷ l) (functions_seen items)
functions_seen (item.Data d ∷ items) = functions_seen items

-- the function of a number
pub function_seen : (file : File) (k : ℕ) →
    slice_get (functions (file_view file)) k ≡ option_map function_view (slice_get (functions_in (contents file.items)) k)
function_seen file k =
    ap (λ (l : List FunctionTree). slice_get l k) (functions_seen (contents file.items))
    ∙ slice_get-map function_view (functions_in (contents file.items)) k

abbrev IsOptionAnnotated : Option Function → Type 0
IsOptionAnnotated None = Unit {0}
IsOptionAnnotated (Some f) = IsFunctionAnnotated f

option_typed : (items : List Item) → AreItemsAnnotated items → (k : ℕ) → IsOptionAnnotated (slice_get (functions_in items) k)
option_typed [] t k = tt
option_typed (item.Function f ∷ items) t zero = t.0
option_typed (item.Function f ∷ items) t (suc k) = option_typed items t.1 k
option_typed (item.Data d ∷ items) t k = option_typed items t.1 k

-- each function of a file that is typed holds its types
pub function_typed : (items : List Item) → AreItemsAnnotated items → (k : ℕ) (f : Function) → slice_get (functions_in items) k ≡ Some f →
    IsFunctionAnnotated f
function_typed items t k f e = subst IsOptionAnnotated e (option_typed items t k)

-- ---- arguments that fit

and_right : (a b : Bool) → (a && b) ≡ true → b ≡ true
and_right true b e = e
and_right false b e = cc

-- there are as many as parameters
pub fit_length : (end : ℕ) (comps : List Comp) (values : List Value) → fit_parameters end comps values ≡ true → length comps ≡ length values
fit_length end [] [] e = refl
fit_length end [] (v ∷ values) e = cc
fit_length end (c ∷ comps) [] e = cc
fit_length end (c ∷ comps) (v ∷ values) e =
    ap suc (fit_length end comps values (and_right (fits end (type_of_comp c) v) (fit_parameters end comps values) e))

-- ---- activations

-- an activation of a function on arguments that fit it
pub activated_same : (s : Surroundings) (frame : ℕ) (f : Function) → IsFunctionAnnotated f → (end : ℕ) (arguments : List Value) →
    fit_parameters end (comps_of (function_view f)) arguments ≡ true → (below : ℕ) (w : World) →
    activated_held s frame (Some f) arguments below w ≡ activated s frame (Some (function_view f)) arguments below w
activated_same s frame f t end arguments e below w =
    let params : List Parameter = params_view (contents f.params) in
    let here : Here = record { names = bound (map scoped_parameter params) arguments []; below = below; frame = frame; tries = 0 } in
    let as_many : length params ≡ length arguments =
    sym (length-map params (λ (p : Parameter). p.comp)) ∙ fit_length end (comps_of (function_view f)) arguments e in
    let same = same_held s (with_parameters params []) f.body.form t.below f.body.at f.body.ty t.type true here (deepened (below + frame) w)
    (scope_bound params arguments [] as_many) in
    same.is

-- ---- calls

-- a call of a function of the file on arguments that fit it
pub whole_call_held : (file : File) (layout : Layout) → IsTyped file → (call : Called) (f : Function) →
    slice_get (functions_in (contents file.items)) call.function ≡ Some f → (end : ℕ) →
    fit_parameters end (comps_of (function_view f)) call.arguments ≡ true → (w : World) →
    (surroundings_of_file file layout).call call w
    ≡ activated_held (surroundings_of_file file layout) (slice_index layout.frames call.function) (Some f) call.arguments call.below w
whole_call_held file layout t call f e end fit w =
    let s : Surroundings = surroundings_of_file file layout in
    let k : ℕ = call.function in
    let frame : ℕ = slice_index layout.frames k in
    whole_call (file_view file) layout call w
    ∙ ap (λ (o : Option FunctionTree). activated s frame o call.arguments call.below w) (function_seen file k ∙ ap (option_map function_view) e)
    ∙ sym (activated_same s frame f (function_typed (contents file.items) t k f e) end call.arguments fit call.below w)

-- a call of this function by the types that its nodes hold
abbrev pub called_held : Surroundings → ℕ → Option Function → List Value → Ret → Bool → Here → World → Evaluation
called_held s frame None arguments result tail h w = Stops (NotProper BadCall) w
called_held s frame (Some f) arguments result tail h w =
    cond (fit_parameters s.end (comps_of (function_view f)) arguments)
    (and_then (back_from_call h (activated_held s frame (Some f) arguments (stack_below tail h) w)) (λ v h w. as_written result v h w))
    (Stops (NotProper BadCall) w)

cond_where : {A : Type 0} (b : Bool) (x y z : A) → (b ≡ true → x ≡ y) → cond b x z ≡ cond b y z
cond_where true x y z p = p refl
cond_where false x y z p = refl

called_option : (file : File) (layout : Layout) → IsTyped file → (k : ℕ) (o : Option Function) → slice_get (functions_in (contents file.items)) k ≡ o →
    (arguments : List Value) (result : Ret) (tail : Bool) (h : Here) (w : World) →
    called_with (surroundings_of_file file layout) (option_map comps_of (option_map function_view o)) k arguments result tail h w
    ≡ called_held (surroundings_of_file file layout) (slice_index layout.frames k) o arguments result tail h w
called_option file layout t k None e arguments result tail h w = refl
called_option file layout t k (Some f) e arguments result tail h w =
    let s : Surroundings = surroundings_of_file file layout in
    let frame : ℕ = slice_index layout.frames k in
    let written : Evaluation → Evaluation = λ x. and_then (back_from_call h x) (λ v h w. as_written result v h w) in
    cond_where (fit_parameters s.end (comps_of (function_view f)) arguments)
    (written (s.call (call_from k arguments tail h) w)) (written (activated_held s frame (Some f) arguments (stack_below tail h) w))
    (Stops (NotProper BadCall) w)
    (λ fit. ap written (whole_call_held file layout t (call_from k arguments tail h) f e s.end fit w))

-- a call of the function of a number, whether it is there and the arguments fit it or not
pub applied_held : (file : File) (layout : Layout) → IsTyped file → (k : ℕ) (arguments : List Value) (result : Ret) (tail : Bool)
    (h : Here) (w : World) →
    applied (surroundings_of_file file layout) (value.Function k) arguments result tail h w
    ≡ called_held (surroundings_of_file file layout) (slice_index layout.frames k) (slice_get (functions_in (contents file.items)) k) arguments result tail h w
applied_held file layout t k arguments result tail h w =
    ap (λ (o : Option (List Comp)). called_with (surroundings_of_file file layout) o k arguments result tail h w)
    (slice_get-map comps_of (functions (file_view file)) k ∙ ap (option_map comps_of) (function_seen file k))
    ∙ called_option file layout t k (slice_get (functions_in (contents file.items)) k) refl arguments result tail h w

-- ---- runs

-- the run of a function on arguments that fit it
entry_held : (file : File) (layout : Layout) → IsTyped file → (k : ℕ) (o : Option Function) → slice_get (functions_in (contents file.items)) k ≡ o →
    (arguments : List ℕ) → FitsFunction (data_end (file_view file)) (option_map function_view o) arguments → (below : ℕ) (w : World) →
    activated (surroundings_of_file file layout) (slice_index layout.frames k) (option_map function_view o) (map Word arguments) below w
    ≡ activated_held (surroundings_of_file file layout) (slice_index layout.frames k) o (map Word arguments) below w
entry_held file layout t k None e arguments fit below w = refl
entry_held file layout t k (Some f) e arguments fit below w =
    sym (activated_same (surroundings_of_file file layout) (slice_index layout.frames k) f (function_typed (contents file.items) t k f e) (data_end (file_view file))
    (map Word arguments) fit below w)

pub run_held : (file : File) (layout : Layout) → IsTyped file → (entry : ℕ) (arguments answers : List ℕ) (n : ℕ) →
    FitsEntry (file_view file) entry arguments →
    cmm_run (file_view file) layout entry arguments answers n
    ≡ finished layout
    (activated_held (surroundings_of_file file layout) (slice_index layout.frames entry) (slice_get (functions_in (contents file.items)) entry) (map Word arguments) 0
    (first_world (file_view file) answers n))
run_held file layout t entry arguments answers n fit =
    let s : Surroundings = surroundings_of_file file layout in
    let frame : ℕ = slice_index layout.frames entry in
    let w : World = first_world (file_view file) answers n in
    let seen = function_seen file entry in
    whole_run (file_view file) layout entry arguments answers n
    ∙ ap (finished layout)
    (ap (λ (o : Option FunctionTree). activated s frame o (map Word arguments) 0 w) seen
    ∙ entry_held file layout t entry (slice_get (functions_in (contents file.items)) entry) refl arguments
    (subst (λ o. FitsFunction (data_end (file_view file)) o arguments) seen fit) 0 w)
