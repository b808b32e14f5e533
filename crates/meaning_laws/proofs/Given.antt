-- What a function gives fits its result: in the run of a whole file, and alone.
use Rattle.std.proofs.Common.{◌≡◌, ℕ, zero, suc, ◌+◌, Bool, true, false, cond, List, [], Option, Some, None, map, refl, sym, subst}
use Rattle.std.specs.Prelude.{slice_get, slice_index}
use Rattle.bs_words.specs.Fits.{fits, misfit}
use Rattle.bs_words.specs.Memory.{Memory}
use Rattle.bs_words.specs.declared.types.Comp.{Comp}
use Rattle.bs_words.specs.declared.types.Ty.{Ty}
use Rattle.bs_words.specs.declared.types.Ty.TheVariants as ty
use Rattle.bs_words.specs.declared.values.Value.{Value}
use Rattle.bs_words.specs.declared.values.Value.TheVariants as value
use Rattle.cmm_data.specs.Placement.{data_end}
use Rattle.cmm_tree.specs.Tree.{FunctionTree, FileTree, functions, comps_of, Expression, Integer, Pointer, Symbol, Name, Nothing, Float, Let, Assign, Operator, Load, Store, Alloc, App, Extcall, Checkbound, Raise, Seq, If, Switch, Catch, Exit, Try}
use Rattle.cmm_types.specs.Types.{Scoped, type_of, body_type, result_of}
use Rattle.cmm_meaning.specs.Alone.{lone_world, alone}
use Rattle.cmm_meaning.specs.Layout.{Layout}
use Rattle.cmm_meaning.specs.Run.{activated, callees}
use Rattle.cmm_meaning.specs.State.{Doing, Called, World, Here, scope, bound, deepened}
use Rattle.cmm_meaning.specs.Evaluation.{NotProper, Evaluation, Gives, Exits, Raises, Stops, Surroundings, spend, of_type, typed, looked_up, node, evaluated, scoped_parameter, fit_parameters}
use Rattle.meaning_laws.specs.Fitting.{GivesFit, gives_fit, exit_fits, raise_fits, stop_fits}
use Rattle.meaning_laws.specs.Links.{lonely}
use Rattle.meaning_laws.proofs.AgreementRuns.{nested}
use Rattle.meaning_laws.proofs.LawfulForms.{parameters_scope}
use Rattle.meaning_laws.proofs.LawfulParts.{ends_value, ends_nothing}

tested_gives : (end : ℕ) (t : Ty) (v : Value) (h : Here) (w : World) (b : Bool) → fits end t v ≡ b →
    GivesFit end (result_of t) (cond b (Gives (Some v) h w) (Stops (NotProper (misfit t)) w))
tested_gives end t v h w true e = gives_fit (ends_value end t v e)
tested_gives end t v h w false e = stop_fits

type_gives : (end : ℕ) (t : Ty) (v : Option Value) (h : Here) (w : World) → GivesFit end (result_of t) (of_type end t v h w)
type_gives end ty.NoValue v h w = gives_fit (ends_nothing end ty.NoValue refl)
type_gives end ty.Int (Some v) h w = tested_gives end ty.Int v h w (fits end ty.Int v) refl
type_gives end ty.Val (Some v) h w = tested_gives end ty.Val v h w (fits end ty.Val v) refl
type_gives end ty.Addr (Some v) h w = tested_gives end ty.Addr v h w (fits end ty.Addr v) refl
type_gives end ty.Never (Some v) h w = tested_gives end ty.Never v h w (fits end ty.Never v) refl
type_gives end ty.Int None h w = stop_fits
type_gives end ty.Val None h w = stop_fits
type_gives end ty.Addr None h w = stop_fits
type_gives end ty.Never None h w = stop_fits

typed_gives : (end : ℕ) (t : Ty) (e : Evaluation) → GivesFit end (result_of t) (typed end t e)
typed_gives end t (Gives v h w) = type_gives end t v h w
typed_gives end t (Exits label values h w) = exit_fits
typed_gives end t (Raises v h w) = raise_fits
typed_gives end t (Stops why w) = stop_fits

spend_gives : (end : ℕ) (t : Ty) (n : ℕ) (w : World) (go : World → Evaluation) → GivesFit end (result_of t) (spend n w (λ w. typed end t (go w)))
spend_gives end t zero w go = stop_fits
spend_gives end t (suc n) w go = typed_gives end t (go (record w { left = n }))

node_gives : (s : Surroundings) (e : Expression) (h : Here) (w : World) (go : World → Evaluation) → GivesFit s.end (result_of (type_of (scope h) e)) (node s e h w go)
node_gives s e h w go = spend_gives s.end (type_of (scope h) e) w.left w go

evaluated_gives : (s : Surroundings) (e : Expression) (tail : Bool) (h : Here) (w : World) → GivesFit s.end (result_of (type_of (scope h) e)) (evaluated s e tail h w)
evaluated_gives s (Integer at n) tail h w = node_gives s (Integer at n) h w (λ w. Gives (Some (value.Word n)) h w)
evaluated_gives s (Pointer at n) tail h w = node_gives s (Pointer at n) h w (λ w. Gives (Some (value.Word n)) h w)
evaluated_gives s (Symbol at name) tail h w = node_gives s (Symbol at name) h w (λ w. looked_up (s.symbol name) h w)
evaluated_gives s (Name at x) tail h w = node_gives s (Name at x) h w _
evaluated_gives s (Nothing at) tail h w = node_gives s (Nothing at) h w (λ w. Gives None h w)
evaluated_gives s (Float at word_at operands) tail h w = stop_fits
evaluated_gives s (Let at bindings body) tail h w = node_gives s (Let at bindings body) h w _
evaluated_gives s (Assign at name_at name e) tail h w = node_gives s (Assign at name_at name e) h w _
evaluated_gives s (Operator at op left right) tail h w = node_gives s (Operator at op left right) h w _
evaluated_gives s (Load at chunk address) tail h w = node_gives s (Load at chunk address) h w _
evaluated_gives s (Store at chunk address e) tail h w = node_gives s (Store at chunk address e) h w _
evaluated_gives s (Alloc at header_at header operands) tail h w = node_gives s (Alloc at header_at header operands) h w _
evaluated_gives s (App at callee arguments result result_at) tail h w = node_gives s (App at callee arguments result result_at) h w _
evaluated_gives s (Extcall at frame name arguments result result_at) tail h w = node_gives s (Extcall at frame name arguments result result_at) h w _
evaluated_gives s (Checkbound at bound index) tail h w = node_gives s (Checkbound at bound index) h w _
evaluated_gives s (Raise at e) tail h w = node_gives s (Raise at e) h w _
evaluated_gives s (Seq at elements) tail h w = node_gives s (Seq at elements) h w _
evaluated_gives s (If at condition on_true on_false) tail h w = node_gives s (If at condition on_true on_false) h w _
evaluated_gives s (Switch at size_at size selector cases) tail h w = node_gives s (Switch at size_at size selector cases) h w _
evaluated_gives s (Catch at body handlers) tail h w = node_gives s (Catch at body handlers) h w _
evaluated_gives s (Exit at label_at label arguments) tail h w = node_gives s (Exit at label_at label arguments) h w _
evaluated_gives s (Try at body name_at name handler) tail h w = node_gives s (Try at body name_at name handler) h w _

-- an activation, on arguments that fit
pub activated_gives : (s : Surroundings) (frame : ℕ) (f : FunctionTree) (arguments : List Value) (below : ℕ) (w : World) →
    fit_parameters s.end (comps_of f) arguments ≡ true → GivesFit s.end (result_of (body_type f)) (activated s frame (Some f) arguments below w)
activated_gives s frame f arguments below w fit =
    let here : Here = record { names = bound (map scoped_parameter f.params) arguments []; below = below; frame = frame; tries = 0 } in
    subst (λ (names : List Scoped). GivesFit s.end (result_of (type_of names f.body)) (evaluated s f.body true here (deepened (below + frame) w)))
    (parameters_scope s.end f.params arguments [] fit)
    (evaluated_gives s f.body true here (deepened (below + frame) w))

-- What a function gives in the run of a whole file fits its result.
pub callees_give : (file : FileTree) (layout : Layout) (depth : ℕ) (call : Called) (tree : FunctionTree) (w : World) →
    slice_get (functions file) call.function ≡ Some tree → fit_parameters (data_end file) (comps_of tree) call.arguments ≡ true →
    GivesFit (data_end file) (result_of (body_type tree)) (callees file layout depth call w)
callees_give file layout zero call tree w is fit = stop_fits
callees_give file layout (suc depth) call tree w is fit =
    let frame : ℕ = slice_index layout.frames call.function in
    subst (λ (o : Option FunctionTree). GivesFit (data_end file) (result_of (body_type tree)) (activated (nested file layout depth) frame o call.arguments call.below w)) (sym is)
    (activated_gives (nested file layout depth) frame tree call.arguments call.below w fit)

-- So does what it gives alone, whatever is handed in.
pub alone_gives : (end : ℕ) (symbol : List ℕ → Option Value) (parameters : List (List Comp)) (frame : ℕ) (f : FunctionTree) (arguments : List Value) (below : ℕ)
    (memory : Memory) (doings : List Doing) (n : ℕ) → fit_parameters end (comps_of f) arguments ≡ true →
    GivesFit end (result_of (body_type f)) (alone end symbol parameters frame f arguments below memory doings n)
alone_gives end symbol parameters frame f arguments below memory doings n fit =
    activated_gives (lonely end symbol parameters) frame f arguments below (lone_world memory doings n) fit
