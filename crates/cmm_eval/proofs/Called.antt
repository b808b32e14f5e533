-- Calls: of functions of the file, and of what lies outside.
use Rattle.std.proofs.Common.{◌≡◌, ◌∙◌, ℕ, zero, suc, ◌+◌, ◌<◌, drop, get_or, Bool, true, false, List, [], ◌∷◌, ◌++◌, Option, Some, None, length, map, refl, ap, sym, subst, arith}
use Rattle.std.specs.Prelude.{◌↔◌, IsTrue, option_copied, option_map, slice_get}
use Rattle.std.proofs.lemmas.List.{map-append}
use Rattle.std.proofs.lemmas.Option.{slice_get-map}
use Rattle.bs_words.specs.Contents.{contents}
use Rattle.bs_words.specs.Observed.{Made}
use Rattle.bs_words.specs.declared.types.Ret.{Ret}
use Rattle.bs_words.specs.declared.types.Ret.TheVariants as ret
use Rattle.bs_words.specs.declared.types.Comp.{Comp}
use Rattle.bs_words.specs.declared.values.Call.{Call}
use Rattle.bs_words.specs.declared.values.Obs.{Obs}
use Rattle.bs_words.specs.declared.values.Value.{Value}
use Rattle.bs_words.specs.declared.values.Value.TheVariants.{Word}
use Rattle.cmm_meaning.specs.Layout.{Layout, observed}
use Rattle.cmm_tree.specs.Tree.{FunctionTree, comps_of}
use Rattle.cmm_tree.specs.View.{file_view, function_view, params_view}
use Rattle.cmm_tree.specs.declared.file.File.{File}
use Rattle.cmm_data.specs.Placement.{data_end}
use Rattle.cmm_tree.specs.declared.expr.Form.{Form}
use Rattle.cmm_tree.specs.declared.file.Function.{Function}
use Rattle.cmm_tree.specs.declared.file.DataList.{DataList}
use Rattle.cmm_tree.specs.declared.file.Item.{Item}
use Rattle.cmm_tree.specs.declared.file.Item.TheVariants as item
use Rattle.std.specs.Borrow.{Bor}
use Rattle.cmm_meaning.specs.State.{World, Here, bound, deepened}
use Rattle.cmm_meaning.specs.Evaluation.{NoAnswer, Evaluation, Gives, Stops, Surroundings, back_from_call, as_written, stack_below, fit_parameters, scoped_parameter}
use Rattle.cmm_meaning.specs.Run.{nobody, answered, frame_answered, answered_as, with_call_made}
use Rattle.eval_frames.specs.Outside.{call_seen, returned}
use Rattle.eval_frames.specs.Passing.{ComesBack, TakesPlace}
use Rattle.eval_frames.specs.Views.{call_view, here_view}
use Rattle.eval_frames.specs.Filled.{evaluated_expression, resume}
use Rattle.eval_frames.specs.Annotated.{FitsFunction, FitsEntry}
use Rattle.eval_frames.specs.Around.{functions_in, activated_held}
use Rattle.eval_frames.specs.declared.frame.Frame.{Frame}
use Rattle.eval_frames.specs.declared.frame.Step.TheVariants as step
use Rattle.eval_frames.specs.declared.here.Here as here
use Rattle.eval_frames.proofs.HeldCalls.{function_seen}
use Rattle.eval_frames.specs.declared.tests.Tests.{Tests}
use Rattle.cmm_eval.proofs.Turns.{pushed}
use Rattle.cmm_eval.proofs.Passing.{Meets, returns_none, returns_written}
use Rattle.bs_words.proofs.Lists.{drop_step}

-- ---- what lies outside

pub none_left : (xs : List ℕ) → length xs ≡ 0 → xs ≡ []
none_left [] e = refl
none_left (x ∷ xs) e = cc

-- the call of the code is the one that is observed
pub call_is : (c : Call) (layout : Layout) (name : List ℕ) (arguments : List Value) → c.name ≡ name →
    contents c.args ≡ map (observed layout) arguments → call_view c ≡ call_seen layout name arguments
call_is c layout name arguments p q =
    let of : List ℕ → List Obs → Made = λ n l. record { name = n; shown = l } in ap (λ (n : List ℕ). of n (contents c.args)) p ∙ ap (of name) q

-- a call that is made comes last
pub calls_more : (calls new : List Call) (c : Call) → new ≡ calls ++ c ∷ [] → map call_view new ≡ map call_view calls ++ call_view c ∷ []
calls_more calls new c p = ap (map call_view) p ∙ map-append call_view calls (c ∷ [])

-- an external call without a result takes no answer
pub answered_none : (s : Surroundings) (frames : List Frame) (end : ℕ) (written : Ret) (call : Made) (h : Here) (w : World)
    (calls : List Made) → written ≡ ret.Unit → calls ≡ w.made ++ call ∷ [] →
    resume s frames (Gives None h (record w { made = calls }))
    ≡ resume s frames (returned written h (answered_as false end written call w.answers w))
answered_none s frames end ret.Unit call h w calls p q = ap (λ (m : List Made). resume s frames (Gives None h (record w { made = m }))) q
answered_none s frames end (ret.Comp c) call h w calls p q = cc

-- each other one takes the next
pub answered_word : (s : Surroundings) (frames : List Frame) (end : ℕ) (written : Ret) (c : Comp) (call : Made) (h : Here) (w : World)
    (calls : List Made) (a : ℕ) (left : List ℕ) → written ≡ ret.Comp c → w.answers ≡ a ∷ left → calls ≡ w.made ++ call ∷ [] →
    resume s frames (Gives (Some (Word a)) h (record w { made = calls; answers = left }))
    ≡ resume s frames (returned written h (answered_as false end written call w.answers w))
answered_word s frames end ret.Unit c call h w calls a left p e q = cc
answered_word s frames end (ret.Comp d) c call h w calls a left p e q =
    ap (λ (m : List Made). resume s frames (Gives (Some (Word a)) h (record w { made = m; answers = left }))) q
    ∙ sym (ap (λ (l : List ℕ). resume s frames (returned (ret.Comp d) h (answered (ret.Comp d) call l w))) e)

-- where none is left it asks
pub answered_asks : (s : Surroundings) (frames : List Frame) (end : ℕ) (written : Ret) (c : Comp) (call : Made) (h : Here) (w : World) →
    written ≡ ret.Comp c → w.answers ≡ [] →
    resume s frames (Stops (NoAnswer call) w) ≡ resume s frames (returned written h (answered_as false end written call w.answers w))
answered_asks s frames end ret.Unit c call h w p e = cc
answered_asks s frames end (ret.Comp d) c call h w p e =
    sym (ap (λ (l : List ℕ). resume s frames (returned (ret.Comp d) h (answered (ret.Comp d) call l w))) e)

-- a frame call takes two answers, or asks
pub frame_asks : (s : Surroundings) (frames : List Frame) (end : ℕ) (written : Ret) (call : Made) (h : Here) (w : World) →
    w.answers ≡ [] → resume s frames (Stops (NoAnswer call) w) ≡ resume s frames (returned written h (answered_as true end written call w.answers w))
frame_asks s frames end written call h w e =
    sym (ap (λ (l : List ℕ). resume s frames (returned written h (frame_answered end written call l w))) e)

one_asks : (end : ℕ) (written : Ret) (call : Made) (a : ℕ) (w : World) → frame_answered end written call (a ∷ []) w ≡ Stops (NoAnswer call) w
one_asks end written call zero w = refl
one_asks end written call (suc n) w = refl

pub frame_asks_one : (s : Surroundings) (frames : List Frame) (end : ℕ) (written : Ret) (call : Made) (h : Here) (w : World) (a : ℕ) (left : List ℕ) →
    w.answers ≡ a ∷ left → left ≡ [] →
    resume s frames (Stops (NoAnswer call) w) ≡ resume s frames (returned written h (answered_as true end written call w.answers w))
frame_asks_one s frames end written call h w a left e none =
    sym (ap (λ (l : List ℕ). resume s frames (returned written h (frame_answered end written call l w))) (e ∙ ap (λ l. a ∷ l) none)
    ∙ ap (λ x. resume s frames (returned written h x)) (one_asks end written call a w))

-- the call has been made, and what it gives or raises is there
pub frame_taken : (s : Surroundings) (frames : List Frame) (end : ℕ) (written : Ret) (call : Made) (h : Here) (w : World) (first second : ℕ)
    (rest left : List ℕ) (calls : List Made) (now : World → Evaluation) → w.answers ≡ first ∷ rest → rest ≡ second ∷ left →
    calls ≡ w.made ++ call ∷ [] →
    now (with_call_made call left w) ≡ returned written h (frame_answered end written call (first ∷ second ∷ left) w) →
    resume s frames (now (record w { made = calls; answers = left })) ≡ resume s frames (returned written h (answered_as true end written call w.answers w))
frame_taken s frames end written call h w first second rest left calls now e f q is =
    ap (λ (m : List Made). resume s frames (now (record w { made = m; answers = left }))) q
    ∙ ap (resume s frames) is
    ∙ sym (ap (λ (l : List ℕ). resume s frames (returned written h (frame_answered end written call l w))) (e ∙ ap (λ l. first ∷ l) f))

-- ---- functions of the file

-- the activation of a callee, which comes back to its caller
pub activated_is : (s : Surroundings) (frames new : List Frame) (tail : Bool) (written : Ret) (f : Function) (frame : ℕ) (arguments : List Value)
    (below : ℕ) (h inner : Here) (w world : World) → ComesBack frames written h new → below ≡ stack_below tail h →
    inner ≡ record { names = bound (map scoped_parameter (params_view (contents f.params))) arguments []; below = below; frame = frame; tries = 0 } →
    world ≡ deepened (below + frame) w →
    resume s new (evaluated_expression s f.body true inner world)
    ≡ resume s frames (returned written h (activated_held s frame (Some f) arguments (stack_below tail h) w))
activated_is s frames new tail written f frame arguments below h inner w world back is-below is-inner is-world =
    let here : ℕ → Here =
    λ b. record { names = bound (map scoped_parameter (params_view (contents f.params))) arguments []; below = b; frame = frame; tries = 0 } in
    let body : ℕ → Evaluation = λ b. evaluated_expression s f.body true (here b) (deepened (b + frame) w) in
    let one : evaluated_expression s f.body true inner world ≡ body below =
    ap (λ (i : Here). evaluated_expression s f.body true i world) is-inner ∙ ap (λ (v : World). evaluated_expression s f.body true (here below) v) is-world in
    back s (evaluated_expression s f.body true inner world) ∙ ap (λ (e : Evaluation). resume s frames (returned written h e)) (one ∙ ap body is-below)

-- the frame of a callee is added, or it takes the place of its caller
pub back_pushed : (frames new : List Frame) (form : Bor Form) (tail : Bool) (kept : here.Here) (written : Ret) (tests : Tests) →
    Meets tests (λ end v h w. as_written written v h w) → new ≡ frames ++ record { form = form; tail = tail; step = step.Return kept tests } ∷ [] →
    ComesBack frames written (here_view kept) new
back_pushed frames new form tail kept written tests m is-new s e =
    pushed s frames new (record { form = form; tail = tail; step = step.Return kept tests }) e (returned written (here_view kept) e) is-new
    (returns_written s tests written m (here_view kept) e)

pub back_replaced : (frames new : List Frame) (h : Here) (written : Ret) (tests : Tests) →
    Meets tests (λ end v h w. as_written written v h w) → TakesPlace frames tests new → ComesBack frames written h new
back_replaced frames new h written tests m place s e = place s h e ∙ ap (resume s frames) (returns_written s tests written m h e)

-- the first activation of a run, which returns to nobody
pub first_stands : (s : Surroundings) (frames new : List Frame) (form : Bor Form) (tail : Bool) (kept : here.Here) (tests : Tests) (f : Function) (frame : ℕ)
    (arguments : List Value) (here : Here) (world w : World) → frames ≡ [] →
    new ≡ frames ++ record { form = form; tail = tail; step = step.Return kept tests } ∷ [] →
    here_view kept ≡ nobody → Meets tests (λ end v h w. Gives v h w) →
    here ≡ record { names = bound (map scoped_parameter (params_view (contents f.params))) arguments []; below = 0; frame = frame; tries = 0 } →
    world ≡ deepened frame w →
    resume s new (evaluated_expression s f.body true here world) ≡ back_from_call nobody (activated_held s frame (Some f) arguments 0 w)
first_stands s frames new form tail kept tests f frame arguments here world w is-frames is-new is-kept m is-here is-world =
    let at : Here = record { names = bound (map scoped_parameter (params_view (contents f.params))) arguments []; below = 0; frame = frame; tries = 0 } in
    let whole : frame ≡ 0 + frame = omega arith in
    let body : Evaluation = evaluated_expression s f.body true here world in
    pushed s frames new (record { form = form; tail = tail; step = step.Return kept tests }) body (back_from_call nobody body) is-new
    (returns_none s tests m (here_view kept) body ∙ ap (λ (i : Here). back_from_call i body) is-kept)
    ∙ ap (λ (l : List Frame). resume s l (back_from_call nobody body)) is-frames
    ∙ ap (back_from_call nobody)
    (ap (λ (i : Here). evaluated_expression s f.body true i world) is-here
    ∙ ap (λ (v : World). evaluated_expression s f.body true at v) is-world
    ∙ ap (λ (t : ℕ). evaluated_expression s f.body true at (deepened t w)) whole)

copied_is : {X : Type 0} (o : Option (Bor X)) → option_copied o ≡ option_map (λ x. x.now) o
copied_is None = refl
copied_is (Some x) = refl

-- the item of a list of references
pub copied_get : {X : Type 0} (xs : List (Bor X)) (k : ℕ) → option_copied (slice_get xs k) ≡ slice_get (map (λ x. x.now) xs) k
copied_get xs k = copied_is (slice_get xs k) ∙ sym (slice_get-map (λ x. x.now) xs k)

-- ---- the entry

-- there is no function of this number
pub entry_missing : (file : File) (k : ℕ) (arguments : List ℕ) → slice_get (functions_in (contents file.items)) k ≡ None →
    IsTrue false ↔ FitsEntry (file_view file) k arguments
entry_missing file k arguments e =
    subst (λ (o : Option FunctionTree). IsTrue false ↔ FitsFunction (data_end (file_view file)) o arguments) (sym (function_seen file k ∙ ap (option_map function_view) e))
    ((λ t. cc), (λ t. elim t [ ]))

-- the arguments fit it, or do not
pub entry_tested : (file : File) (k : ℕ) (f : Function) (arguments : List ℕ) (b : Bool) → slice_get (functions_in (contents file.items)) k ≡ Some f →
    b ≡ fit_parameters (data_end (file_view file)) (comps_of (function_view f)) (map Word arguments) → IsTrue b ↔ FitsEntry (file_view file) k arguments
entry_tested file k f arguments b e p =
    subst (λ (o : Option FunctionTree). IsTrue b ↔ FitsFunction (data_end (file_view file)) o arguments) (sym (function_seen file k ∙ ap (option_map function_view) e))
    ((λ t. sym p ∙ t), (λ t. p ∙ t))

-- ---- the functions among the items of a file

-- those of the first so many items, and then those of the others
abbrev pub AreFound : List Item → ℕ → List (Bor Function) → Type 0
AreFound items k fs = map (λ (f : Bor Function). f.now) fs ++ functions_in (drop k items) ≡ functions_in items

found_last : (fs : List (Bor Function)) (f : Bor Function) (rest : List Function) →
    map (λ (g : Bor Function). g.now) (fs ++ f ∷ []) ++ rest ≡ map (λ (g : Bor Function). g.now) fs ++ f.now ∷ rest
found_last [] f rest = refl
found_last (g ∷ fs) f rest = ap (λ (l : List Function). g.now ∷ l) (found_last fs f rest)

pub function_found : (items : List Item) (k : ℕ) (i : Item) (f : Bor Function) (fs gs : List (Bor Function)) →
    k < length items → i ≡ get_or items k i → i ≡ item.Function f.now → gs ≡ fs ++ f ∷ [] → AreFound items k fs → AreFound items (k + 1) gs
function_found items k i f fs gs less at is more so =
    let rest = functions_in (drop (k + 1) items) in
    let here : drop k items ≡ item.Function f.now ∷ drop (k + 1) items = drop_step items k i less at ∙ ap (λ (j : Item). j ∷ drop (k + 1) items) is in
    ap (λ (l : List (Bor Function)). map (λ (g : Bor Function). g.now) l ++ rest) more
    ∙ found_last fs f rest
    ∙ sym (ap (λ (l : List Item). map (λ (g : Bor Function). g.now) fs ++ functions_in l) here)
    ∙ so

pub data_passed : (items : List Item) (k : ℕ) (i : Item) (d : DataList) (fs gs : List (Bor Function)) →
    k < length items → i ≡ get_or items k i → i ≡ item.Data d → gs ≡ fs → AreFound items k fs → AreFound items (k + 1) gs
data_passed items k i d fs gs less at is same so =
    let here : drop k items ≡ item.Data d ∷ drop (k + 1) items = drop_step items k i less at ∙ ap (λ (j : Item). j ∷ drop (k + 1) items) is in
    ap (λ (l : List (Bor Function)). map (λ (g : Bor Function). g.now) l ++ functions_in (drop (k + 1) items)) same
    ∙ sym (ap (λ (l : List Item). map (λ (g : Bor Function). g.now) fs ++ functions_in l) here)
    ∙ so
