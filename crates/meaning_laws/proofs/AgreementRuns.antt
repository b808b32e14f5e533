-- What a function does, played, is its activation: in a whole file, and alone.
use Rattle.std.proofs.Common.{◌≡◌, ◌∙◌, Bool, false, refl, sym, ap, le_refl, ℕ, suc, ◌+◌, ◌≤◌, true, List, [], Option, Some, map}
use Rattle.std.specs.Prelude.{slice_index, slice_get}
use Rattle.bs_words.specs.Memory.{Memory}
use Rattle.bs_words.specs.declared.types.Comp.{Comp}
use Rattle.bs_words.specs.declared.values.Value.{Value}
use Rattle.cmm_data.specs.Placement.{data_end, value_of_symbol}
use Rattle.cmm_tree.specs.Tree.{Expression, FunctionTree, FileTree, functions, comps_of}
use Rattle.cmm_meaning.specs.Layout.{Layout}
use Rattle.cmm_meaning.specs.State.{Doing, Called, World, Here, bound, deepened}
use Rattle.cmm_meaning.specs.Evaluation.{Evaluation, Gives, Exits, Raises, Stops, Surroundings, scoped_parameter, evaluated}
use Rattle.cmm_meaning.specs.Run.{outside, activated, callees}
use Rattle.cmm_meaning.specs.Alone.{lone_world, alone}
use Rattle.meaning_laws.specs.Does.{Leaves, Does, Ends, played}
use Rattle.cmm_meaning.specs.Setting.{setting_of}
use Rattle.meaning_laws.specs.Interaction.{does, function_does}
use Rattle.meaning_laws.specs.Links.{lonely}
use Rattle.meaning_fuel.specs.Whole.{file_surroundings}
use Rattle.meaning_fuel.proofs.Alike.{spends_pays}
use Rattle.meaning_fuel.proofs.Depth.{Spending, outside_spends, callees_pay, whole_call, whole_spending, alone_spending}
use Rattle.meaning_laws.proofs.Agreement.{Agrees, follow}
use Rattle.meaning_laws.proofs.AgreementForms.{agreed}

-- an expression, whatever the function does with how it is left
pub does_plays : (s : Surroundings) → Spending s → (turns : ℕ) (e : Expression) (tail : Bool) (h : Here) (w : World) → w.left ≤ turns → (k : Leaves (Option Value) → Does) →
    played s (does (setting_of s) turns e tail h w.memory k) w ≡ follow s k (evaluated s e tail h w)
does_plays s spending turns e tail h w enough k =
    let a : Agrees s turns (does (setting_of s) turns e tail h) w (evaluated s e tail h w) = agreed s spending turns e tail turns (le_refl turns) h w enough in
    a.same k

follow_ends : (s : Surroundings) (e : Evaluation) → follow s Ends e ≡ e
follow_ends s (Gives v h w) = refl
follow_ends s (Exits label values h w) = refl
follow_ends s (Raises v h w) = refl
follow_ends s (Stops why w) = refl

-- a function, from a world with no more units than turns
pub function_plays : (s : Surroundings) → Spending s → (turns frame : ℕ) (f : FunctionTree) (arguments : List Value) (below : ℕ) (w : World) → w.left ≤ turns →
    played s (function_does (setting_of s) turns frame f arguments below w.memory) w ≡ activated s frame (Some f) arguments below w
function_plays s spending turns frame f arguments below w enough =
    let here : Here = record { names = bound (map scoped_parameter f.params) arguments []; below = below; frame = frame; tries = 0 } in
    does_plays s spending turns f.body true here (deepened (below + frame) w) enough Ends ∙ follow_ends s (evaluated s f.body true here (deepened (below + frame) w))

-- what is round an expression where activations nest at most so deep
abbrev pub nested : FileTree → Layout → ℕ → Surroundings
nested file layout depth =
    record {
      end = data_end file;
      symbol = value_of_symbol file;
      parameters = map comps_of (functions file);
      call = callees file layout depth;
      external = outside (data_end file) layout;
    }

pub nested_spending : (file : FileTree) (layout : Layout) (depth : ℕ) → Spending (nested file layout depth)
nested_spending file layout depth =
    record {
      calls = λ call w. spends_pays false w.left (callees file layout depth call w) (callees_pay file layout depth call w);
      outside = outside_spends (data_end file) layout;
    }

-- a function of a file, where activations nest at most so deep
pub nested_plays : (file : FileTree) (layout : Layout) (depth turns : ℕ) (call : Called) (tree : FunctionTree) (w : World) →
    slice_get (functions file) call.function ≡ Some tree → w.left ≤ turns →
    let frame : ℕ = slice_index layout.frames call.function in
    played (nested file layout depth) (function_does (setting_of (nested file layout depth)) turns frame tree call.arguments call.below w.memory) w ≡
    callees file layout (suc depth) call w
nested_plays file layout depth turns call tree w is enough =
    let frame : ℕ = slice_index layout.frames call.function in
    function_plays (nested file layout depth) (nested_spending file layout depth) turns frame tree call.arguments call.below w enough ∙
    ap (λ o. activated (nested file layout depth) frame o call.arguments call.below w) (sym is)

-- a function of a file, where it is not asked how deep they nest
pub whole_plays : (file : FileTree) (layout : Layout) (turns : ℕ) (call : Called) (tree : FunctionTree) (w : World) →
    slice_get (functions file) call.function ≡ Some tree → w.left ≤ turns →
    let frame : ℕ = slice_index layout.frames call.function in
    played (file_surroundings file layout) (function_does (setting_of (file_surroundings file layout)) turns frame tree call.arguments call.below w.memory) w ≡
    callees file layout (suc w.left) call w
whole_plays file layout turns call tree w is enough =
    let frame : ℕ = slice_index layout.frames call.function in
    function_plays (file_surroundings file layout) (whole_spending file layout) turns frame tree call.arguments call.below w enough ∙
    ap (λ o. activated (file_surroundings file layout) frame o call.arguments call.below w) (sym is) ∙
    sym (whole_call file layout call w)

-- one function alone, on what is handed in for its calls
pub alone_plays : (end : ℕ) (symbol : List ℕ → Option Value) (parameters : List (List Comp)) (turns frame : ℕ) (f : FunctionTree) (arguments : List Value) (below : ℕ) (memory : Memory) (doings : List Doing) (n : ℕ) → n ≤ turns →
    played (lonely end symbol parameters) (function_does (record { end = end; symbol = symbol; parameters = parameters }) turns frame f arguments below memory) (lone_world memory doings n) ≡
    alone end symbol parameters frame f arguments below memory doings n
alone_plays end symbol parameters turns frame f arguments below memory doings n enough =
    function_plays (lonely end symbol parameters) (alone_spending end symbol parameters) turns frame f arguments below (lone_world memory doings n) enough
