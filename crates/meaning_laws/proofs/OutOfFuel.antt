-- A run that is out of fuel has no units left: the run of a whole file, and of one function alone.
use Rattle.std.proofs.Common.{◌≡◌, ℕ, zero, suc, ◌+◌, ◌<◌, ◌≤◌, Bool, true, false, List, [], ◌∷◌, ◌++◌, Option, Some, None, map, refl, ap, sym, subst, ◌∙◌, arith}
use Rattle.std.specs.Prelude.{slice_index, slice_get}
use Rattle.bs_words.specs.External.{External}
use Rattle.bs_words.specs.Memory.{Memory}
use Rattle.bs_words.specs.Observed.{Made}
use Rattle.bs_words.specs.declared.types.Comp.{Comp}
use Rattle.bs_words.specs.declared.types.Ret.{Ret}
use Rattle.bs_words.specs.declared.types.Ret.TheVariants as ret
use Rattle.bs_words.specs.declared.types.Ty.TheVariants as ty
use Rattle.bs_words.specs.declared.values.Value.{Value}
use Rattle.bs_words.specs.declared.values.Value.TheVariants.{Word}
use Rattle.cmm_data.specs.Placement.{data_end}
use Rattle.cmm_tree.specs.Tree.{FunctionTree, FileTree, functions}
use Rattle.cmm_meaning.specs.Layout.{Layout, observed}
use Rattle.cmm_meaning.specs.State.{Doing, Gave, Threw, Called, Asked, asked_inside, asked_outside, World, Here, bound, deepened}
use Rattle.cmm_meaning.specs.Evaluation.{OutOfFuel, NotProper, NoAnswer, Asking, Evaluation, Gives, Exits, Raises, Stops, Surroundings, tested, scoped_parameter, evaluated}
use Rattle.cmm_meaning.specs.Run.{More, nobody, with_call_made, answered, frame_answered, answered_as, outside, activated, callees, first_world, first_call, finished, cmm_run}
use Rattle.cmm_meaning.specs.Alone.{done_inside, done_outside, lone_world, alone}
use Rattle.meaning_laws.specs.Does.{played}
use Rattle.cmm_meaning.specs.Setting.{setting_of}
use Rattle.meaning_laws.specs.Interaction.{function_does}
use Rattle.meaning_laws.specs.Links.{Linked, doing_of, lonely}
use Rattle.meaning_laws.specs.Units.{world_of}
use Rattle.meaning_fuel.specs.Whole.{file_surroundings}
use Rattle.meaning_fuel.proofs.Agreed.{same_evaluated}
use Rattle.meaning_laws.proofs.AgreementRuns.{function_plays, nested}
use Rattle.meaning_fuel.proofs.Alike.{AtMost, Below, Alike, Same, Agree, alike_tested, spends_pays}
use Rattle.meaning_fuel.proofs.Depth.{Spending}
use Rattle.meaning_laws.proofs.LinksCalls.{function_alone}

-- ---- an activation

-- calls that are out of units leave none, from worlds with fewer units than these
abbrev pub Drained : ℕ → Surroundings → Type 0
Drained n s = Agree true n s s.call

activated_drained : (s : Surroundings) (frame : ℕ) (o : Option FunctionTree) (arguments : List Value) (below : ℕ) (w : World) → Drained w.left s →
    Below true w.left (activated s frame o arguments below w)
activated_drained s frame None arguments below w a = tt
activated_drained s frame (Some f) arguments below w a =
    let here : Here = record { names = bound (map scoped_parameter f.params) arguments []; below = below; frame = frame; tries = 0 } in
    let e : Evaluation = evaluated s f.body true here (deepened (below + frame) w) in
    let p : Same true w.left e e = same_evaluated w.left s s.call a f.body true here (deepened (below + frame) w) (omega arith) in
    p.pays

empty_from : (n : ℕ) {e : Evaluation} {v : World} → Below true n e → e ≡ Stops OutOfFuel v → v.left ≡ 0
empty_from n p is = subst (λ (e : Evaluation). Below true n e) is p

-- Where what a function does is out of units, none are left.
pub function_empty : (s : Surroundings) → Spending s → (turns frame : ℕ) (f : FunctionTree) (arguments : List Value) (below : ℕ) (w : World) {v : World} →
    Drained w.left s → w.left ≤ turns →
    played s (function_does (setting_of s) turns frame f arguments below w.memory) w ≡ Stops OutOfFuel v → v.left ≡ 0
function_empty s spending turns frame f arguments below w drained enough is =
    empty_from w.left (activated_drained s frame (Some f) arguments below w drained)
    (sym (function_plays s spending turns frame f arguments below w enough) ∙ is)

-- ---- a whole file

answered_drained : (result : Ret) (call : Made) (answers : List ℕ) (w : World) → AtMost true w.left (answered result call answers w)
answered_drained ret.Unit call answers w = omega arith
answered_drained (ret.Comp c) call [] w = tt
answered_drained (ret.Comp c) call (a ∷ answers) w = omega arith

raise_drained : (end : ℕ) (v : Value) (w : World) → AtMost {A = Option Value} true w.left (tested end ty.Val v w (Raises v nobody w))
raise_drained end v w =
    let raised : Alike true w.left (Raises v nobody w) (Raises v nobody w) = record { is = refl; spends = omega arith } in
    let p : Alike true w.left (tested end ty.Val v w (Raises v nobody w)) (tested end ty.Val v w (Raises v nobody w)) = alike_tested end ty.Val v w raised in
    p.spends

frame_drained : (end : ℕ) (result : Ret) (call : Made) (answers : List ℕ) (w : World) → AtMost true w.left (frame_answered end result call answers w)
frame_drained end result call [] w = tt
frame_drained end result call (zero ∷ []) w = tt
frame_drained end result call (suc n ∷ []) w = tt
frame_drained end result call (zero ∷ a ∷ answers) w = omega arith
frame_drained end result call (suc n ∷ a ∷ answers) w = raise_drained end (Word a) (with_call_made call answers w)

as_drained : (frame : Bool) (end : ℕ) (result : Ret) (call : Made) (answers : List ℕ) (w : World) → AtMost true w.left (answered_as frame end result call answers w)
as_drained true end result call answers w = frame_drained end result call answers w
as_drained false end result call answers w = answered_drained result call answers w

outside_made_drained : (end : ℕ) (layout : Layout) (row : External) (frame : Bool) (arguments : List Value) (w : World) →
    AtMost true w.left (outside end layout row frame arguments w)
outside_made_drained end layout row frame arguments w =
    as_drained frame end row.result (record { name = row.name; shown = map (observed layout) arguments }) w.answers w

callees_drained : (file : FileTree) (layout : Layout) (depth : ℕ) (call : Called) (w : World) → w.left < depth →
    Below true w.left (callees file layout depth call w)
callees_drained file layout zero call w deep = absurd (omega arith)
callees_drained file layout (suc depth) call w deep =
    activated_drained (nested file layout depth) (slice_index layout.frames call.function) (slice_get (functions file) call.function)
    call.arguments call.below w
    (record {
      calls = λ other v less.
          record {
            is = refl;
            spends = spends_pays true v.left (callees file layout depth other v) (callees_drained file layout depth other v (omega arith));
          };
      outside = λ row frame arguments v less. outside_made_drained (data_end file) layout row frame arguments v;
    })

pub whole_drained : (n : ℕ) (file : FileTree) (layout : Layout) → Drained n (file_surroundings file layout)
whole_drained n file layout =
    record {
      calls = λ call w less.
          record {
            is = refl;
            spends = spends_pays true w.left (callees file layout (suc w.left) call w) (callees_drained file layout (suc w.left) call w (omega arith));
          };
      outside = λ row frame arguments w less. outside_made_drained (data_end file) layout row frame arguments w;
    }

-- Where a call of a function of the file is out of units, none are left.
pub callees_empty : (file : FileTree) (layout : Layout) (depth : ℕ) (call : Called) (w : World) {v : World} → w.left < depth →
    callees file layout depth call w ≡ Stops OutOfFuel v → v.left ≡ 0
callees_empty file layout depth call w deep is = empty_from w.left (callees_drained file layout depth call w deep) is

finished_empty : (layout : Layout) (n : ℕ) (e : Evaluation) → Below true n e → (finished layout e).outcome ≡ More → (finished layout e).left ≡ 0
finished_empty layout n (Gives v h w) p is = cc
finished_empty layout n (Exits label values h w) p is = cc
finished_empty layout n (Raises v h w) p is = cc
finished_empty layout n (Stops OutOfFuel w) p is = p
finished_empty layout n (Stops (NotProper kind) w) p is = cc
finished_empty layout n (Stops (NoAnswer call) w) p is = cc
finished_empty layout n (Stops (Asking call) w) p is = cc

-- A run that has not ended has no units left.
pub run_empty : (file : FileTree) (layout : Layout) (entry : ℕ) (arguments answers : List ℕ) (n : ℕ) →
    (cmm_run file layout entry arguments answers n).outcome ≡ More → (cmm_run file layout entry arguments answers n).left ≡ 0
run_empty file layout entry arguments answers n =
    finished_empty layout n (callees file layout (suc n) (first_call entry arguments) (first_world file answers n))
    (callees_drained file layout (suc n) (first_call entry arguments) (first_world file answers n) (omega arith))

-- ---- one function alone

inside_drained : (end : ℕ) (call : Asked) (doings : List Doing) (w : World) → AtMost true w.left (done_inside end call doings w)
inside_drained end call [] w = tt
inside_drained end call (Gave v memory ∷ doings) w = omega arith
inside_drained end call (Threw v memory ∷ doings) w =
    raise_drained end v (record w { memory = memory; asked = w.asked ++ call ∷ []; doings = doings })

outside_drained : (end : ℕ) (frame : Bool) (call : Asked) (doings : List Doing) (w : World) → AtMost true w.left (done_outside end frame call doings w)
outside_drained end frame call [] w = tt
outside_drained end frame call (Gave v memory ∷ doings) w = omega arith
outside_drained end true call (Threw v memory ∷ doings) w = raise_drained end v (record w { asked = w.asked ++ call ∷ []; doings = doings })
outside_drained end false call (Threw v memory ∷ doings) w = tt

pub lonely_drained : (n end : ℕ) (symbol : List ℕ → Option Value) (parameters : List (List Comp)) → Drained n (lonely end symbol parameters)
lonely_drained n end symbol parameters =
    record {
      calls = λ call w less. record { is = refl; spends = inside_drained end (asked_inside call w.memory) w.doings w };
      outside = λ row frame arguments w less. outside_drained end frame (asked_outside row frame arguments w.memory) w.doings w;
    }

-- Where one function alone is out of units, none are left.
pub alone_empty : (end : ℕ) (symbol : List ℕ → Option Value) (parameters : List (List Comp)) (frame : ℕ) (f : FunctionTree)
    (arguments : List Value) (below : ℕ) (memory : Memory) (doings : List Doing) (n : ℕ) {v : World} →
    alone end symbol parameters frame f arguments below memory doings n ≡ Stops OutOfFuel v → v.left ≡ 0
alone_empty end symbol parameters frame f arguments below memory doings n is =
    empty_from n
    (activated_drained (lonely end symbol parameters) frame (Some f) arguments below (lone_world memory doings n) (lonely_drained n end symbol parameters))
    is

-- So none are left in the last world of a linked run.
pub last_empty : {s : Surroundings} {bound : ℕ} (file : FileTree) (layout : Layout) (call : Called) (tree : FunctionTree) (w : World) {run : Evaluation}
    (l : Linked s bound (function_alone file layout call tree w.memory) w run) {v : World} → l.run ≡ Stops OutOfFuel v → l.last.left ≡ 0
last_empty file layout call tree w l out =
    let none = alone_empty _ _ _ (slice_index layout.frames call.function) tree call.arguments call.below w.memory (map doing_of l.calls) l.own (l.is ∙ out) in
    let left = ap (λ (e : Evaluation). (world_of e).left) out in
    omega (arith, l.left, none, left)
