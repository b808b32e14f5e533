-- How deep calls may nest does not matter, past the units that are left; and nothing adds units.
use Rattle.std.proofs.Common.{◌≡◌, ℕ, zero, suc, ◌+◌, ◌<◌, ◌≤◌, Bool, true, false, List, [], ◌∷◌, ◌++◌, Option, Some, None, map, refl, ap, subst, arith}
use Rattle.std.specs.Prelude.{slice_index, slice_get}
use Rattle.bs_words.specs.External.{External}
use Rattle.bs_words.specs.Observed.{Made}
use Rattle.bs_words.specs.declared.types.Comp.{Comp}
use Rattle.bs_words.specs.declared.types.Ret.{Ret}
use Rattle.bs_words.specs.declared.types.Ret.TheVariants as ret
use Rattle.bs_words.specs.declared.types.Ty.TheVariants as ty
use Rattle.bs_words.specs.declared.values.Value.{Value}
use Rattle.bs_words.specs.declared.values.Value.TheVariants.{Word}
use Rattle.cmm_meaning.specs.Known.{data_end, value_of_symbol}
use Rattle.cmm_tree.specs.Tree.{Expression, FunctionTree, FileTree, functions, comps_of}
use Rattle.cmm_meaning.specs.Layout.{Layout, observed}
use Rattle.cmm_meaning.specs.State.{Doing, Gave, Threw, Called, Asked, asked_inside, asked_outside, World, Here, bound, deepened}
use Rattle.cmm_meaning.specs.Evaluation.{Evaluation, Raises, Surroundings, tested, scoped_parameter, evaluated}
use Rattle.cmm_meaning.specs.Run.{nobody, with_call_made, answered, frame_answered, answered_as, outside, activated, callees, first_world, first_call, finished, cmm_run}
use Rattle.cmm_meaning.specs.Alone.{done_inside, done_outside, call_inside, call_outside}
use Rattle.meaning_fuel.specs.Whole.{file_surroundings}
use Rattle.meaning_fuel.proofs.Alike.{Spends, Pays, Alike, Same, Agree, with_calls, alike_tested, alike_same, spends_pays}
use Rattle.meaning_fuel.proofs.Agreed.{same_evaluated}

-- ---- evaluations in two surroundings

-- These surroundings differ in nothing but what calls do, and not in that where fewer units than so many are left.
pub record Agreeing (n : ℕ) (s t : Surroundings) : Type 0 where
  pub end : s.end ≡ t.end
  pub symbol : s.symbol ≡ t.symbol
  pub parameters : s.parameters ≡ t.parameters
  pub external : s.external ≡ t.external
  pub calls : Agree false n s t.call

pub agreeing_evaluated : (n : ℕ) (s t : Surroundings) → Agreeing n s t → (e : Expression) (tail : Bool) (h : Here) (w : World) → w.left ≤ n →
    Same false w.left (evaluated s e tail h w) (evaluated t e tail h w)
agreeing_evaluated n s t a e tail h w le =
    let with_end : ℕ → Surroundings = λ end. record (with_calls s t.call) { end = end } in
    let with_symbol : (List ℕ → Option Value) → Surroundings = λ symbol. record (with_end t.end) { symbol = symbol } in
    let with_parameters : List (List Comp) → Surroundings = λ parameters. record (with_symbol t.symbol) { parameters = parameters } in
    let with_external : (External → Bool → List Value → World → Evaluation) → Surroundings = λ external. record (with_parameters t.parameters) { external = external } in
    subst (λ external. Same false w.left (evaluated s e tail h w) (evaluated (with_external external) e tail h w)) a.external
    (subst (λ parameters. Same false w.left (evaluated s e tail h w) (evaluated (with_parameters parameters) e tail h w)) a.parameters
    (subst (λ symbol. Same false w.left (evaluated s e tail h w) (evaluated (with_symbol symbol) e tail h w)) a.symbol
    (subst (λ end. Same false w.left (evaluated s e tail h w) (evaluated (with_end end) e tail h w)) a.end
    (same_evaluated n s t.call a.calls e tail h w le))))

-- ---- units

-- calls of these surroundings add no units
pub record Spending (s : Surroundings) : Type 0 where
  pub calls : (call : Called) (w : World) → Spends w.left (s.call call w)
  pub outside : (row : External) (frame : Bool) (arguments : List Value) (w : World) → Spends w.left (s.external row frame arguments w)

spending_agrees : (s : Surroundings) → Spending s → (n : ℕ) → Agree false n s s.call
spending_agrees s p n =
    record {
      calls = λ call w less. record { is = refl; spends = p.calls call w };
      outside = λ row frame arguments w less. p.outside row frame arguments w;
    }

-- each node pays a unit, and nothing adds one
pub evaluated_pays : (s : Surroundings) → Spending s → (e : Expression) (tail : Bool) (h : Here) (w : World) →
    Pays w.left (evaluated s e tail h w)
evaluated_pays s p e tail h w =
    let q : Same false w.left (evaluated s e tail h w) (evaluated s e tail h w) =
    same_evaluated w.left s s.call (spending_agrees s p w.left) e tail h w (omega arith) in q.pays

pub activated_pays : (s : Surroundings) → Spending s → (frame : ℕ) (o : Option FunctionTree) (arguments : List Value) (below : ℕ) (w : World) →
    Pays w.left (activated s frame o arguments below w)
activated_pays s p frame None arguments below w = tt
activated_pays s p frame (Some f) arguments below w =
    let here : Here = record { names = bound (map scoped_parameter f.params) arguments []; below = below; frame = frame; tries = 0 } in
    evaluated_pays s p f.body true here (deepened (below + frame) w)

spends_answered : (result : Ret) (call : Made) (answers : List ℕ) (w : World) → Spends w.left (answered result call answers w)
spends_answered ret.Unit call answers w = omega arith
spends_answered (ret.Comp c) call [] w = tt
spends_answered (ret.Comp c) call (a ∷ answers) w = omega arith

raise_spends : (end : ℕ) (v : Value) (w : World) → Spends {A = Option Value} w.left (tested end ty.Val v w (Raises v nobody w))
raise_spends end v w =
    let raised : Alike false w.left (Raises v nobody w) (Raises v nobody w) = record { is = refl; spends = omega arith } in
    let p : Alike false w.left (tested end ty.Val v w (Raises v nobody w)) (tested end ty.Val v w (Raises v nobody w)) =
    alike_tested end ty.Val v w raised in p.spends

spends_frame : (end : ℕ) (result : Ret) (call : Made) (answers : List ℕ) (w : World) → Spends w.left (frame_answered end result call answers w)
spends_frame end result call [] w = tt
spends_frame end result call (zero ∷ []) w = tt
spends_frame end result call (suc n ∷ []) w = tt
spends_frame end result call (zero ∷ a ∷ answers) w = omega arith
spends_frame end result call (suc n ∷ a ∷ answers) w = raise_spends end (Word a) (with_call_made call answers w)

spends_as : (frame : Bool) (end : ℕ) (result : Ret) (call : Made) (answers : List ℕ) (w : World) →
    Spends w.left (answered_as frame end result call answers w)
spends_as true end result call answers w = spends_frame end result call answers w
spends_as false end result call answers w = spends_answered result call answers w

pub outside_spends : (end : ℕ) (layout : Layout) (row : External) (frame : Bool) (arguments : List Value) (w : World) →
    Spends w.left (outside end layout row frame arguments w)
outside_spends end layout row frame arguments w =
    spends_as frame end row.result (record { name = row.name; shown = map (observed layout) arguments }) w.answers w

-- what is round an expression where activations nest at most so deep
abbrev around : FileTree → Layout → ℕ → Surroundings
around file layout depth =
    record {
      end = data_end file;
      symbol = value_of_symbol file;
      parameters = map comps_of (functions file);
      call = callees file layout depth;
      external = outside (data_end file) layout;
    }

pub callees_pay : (file : FileTree) (layout : Layout) (depth : ℕ) (call : Called) (w : World) → Pays w.left (callees file layout depth call w)
callees_pay file layout zero call w = tt
callees_pay file layout (suc depth) call w =
    activated_pays (around file layout depth)
    (record {
      calls = λ other v. spends_pays false v.left (callees file layout depth other v) (callees_pay file layout depth other v);
      outside = outside_spends (data_end file) layout;
    })
    (slice_index layout.frames call.function) (slice_get (functions file) call.function) call.arguments call.below w

pub whole_spending : (file : FileTree) (layout : Layout) → Spending (file_surroundings file layout)
whole_spending file layout =
    record {
      calls = λ call w. spends_pays false w.left (callees file layout (suc w.left) call w) (callees_pay file layout (suc w.left) call w);
      outside = outside_spends (data_end file) layout;
    }

inside_spends : (end : ℕ) (call : Asked) (doings : List Doing) (w : World) → Spends w.left (done_inside end call doings w)
inside_spends end call [] w = tt
inside_spends end call (Gave v memory ∷ doings) w = omega arith
inside_spends end call (Threw v memory ∷ doings) w =
    raise_spends end v (record w { memory = memory; asked = w.asked ++ call ∷ []; doings = doings })

outside_done_spends : (end : ℕ) (frame : Bool) (call : Asked) (doings : List Doing) (w : World) → Spends w.left (done_outside end frame call doings w)
outside_done_spends end frame call [] w = tt
outside_done_spends end frame call (Gave v memory ∷ doings) w = omega arith
outside_done_spends end true call (Threw v memory ∷ doings) w = raise_spends end v (record w { asked = w.asked ++ call ∷ []; doings = doings })
outside_done_spends end false call (Threw v memory ∷ doings) w = tt

-- one function alone, too
pub alone_spending : (end : ℕ) (symbol : List ℕ → Option Value) (parameters : List (List Comp)) →
    Spending (record { end = end; symbol = symbol; parameters = parameters; call = call_inside end; external = call_outside end })
alone_spending end symbol parameters =
    record {
      calls = λ call w. inside_spends end (asked_inside call w.memory) w.doings w;
      outside = λ row frame arguments w. outside_done_spends end frame (asked_outside row frame arguments w.memory) w.doings w;
    }

-- ---- depth

same_activated : (s : Surroundings) (c : Called → World → Evaluation) (frame : ℕ) (o : Option FunctionTree) (arguments : List Value)
    (below : ℕ) (w : World) → Agree false w.left s c →
    Same false w.left (activated s frame o arguments below w) (activated (with_calls s c) frame o arguments below w)
same_activated s c frame None arguments below w a = record { is = refl; pays = tt }
same_activated s c frame (Some f) arguments below w a =
    let here : Here = record { names = bound (map scoped_parameter f.params) arguments []; below = below; frame = frame; tries = 0 } in
    same_evaluated w.left s c a f.body true here (deepened (below + frame) w) (omega arith)

same_depth : (file : FileTree) (layout : Layout) (n d e : ℕ) → n ≤ d → n ≤ e → (call : Called) (w : World) →
    w.left < n → Same false w.left (callees file layout d call w) (callees file layout e call w)
same_depth file layout zero d e p q call w small = absurd (omega arith)
same_depth file layout (suc n) zero e p q call w small = absurd (omega arith)
same_depth file layout (suc n) (suc d) zero p q call w small = absurd (omega arith)
same_depth file layout (suc n) (suc d) (suc e) p q call w small =
    same_activated (around file layout d) (callees file layout e) (slice_index layout.frames call.function) (slice_get (functions file) call.function)
    call.arguments call.below w
    (record {
      calls = λ other v less. alike_same (omega arith) (same_depth file layout n d e (omega arith) (omega arith) other v (omega arith));
      outside = λ row frame arguments v less. outside_spends (data_end file) layout row frame arguments v;
    })

-- any depth past the units that are left is as good as another
pub depth_free : (file : FileTree) (layout : Layout) (d e : ℕ) (call : Called) (w : World) → w.left < d → w.left < e →
    callees file layout d call w ≡ callees file layout e call w
depth_free file layout d e call w p q =
    let r : Same false w.left (callees file layout d call w) (callees file layout e call w) =
    same_depth file layout (suc w.left) d e (omega arith) (omega arith) call w (omega arith) in r.is

-- a call is the activation of a function in the surroundings of the whole file
pub whole_call : (file : FileTree) (layout : Layout) (call : Called) (w : World) →
    callees file layout (suc w.left) call w ≡
    activated (file_surroundings file layout) (slice_index layout.frames call.function) (slice_get (functions file) call.function) call.arguments call.below w
whole_call file layout call w =
    let frame : ℕ = slice_index layout.frames call.function in
    let found : Option FunctionTree = slice_get (functions file) call.function in
    let whole_calls : Called → World → Evaluation = λ other v. callees file layout (suc v.left) other v in
    let agrees : Agree false w.left (around file layout w.left) whole_calls =
    record {
      calls = λ other v less.
          alike_same (omega arith) (same_depth file layout (suc v.left) w.left (suc v.left) (omega arith) (omega arith) other v (omega arith));
      outside = λ row frame arguments v less. outside_spends (data_end file) layout row frame arguments v;
    } in
    let r : Same false w.left (activated (around file layout w.left) frame found call.arguments call.below w)
    (activated (file_surroundings file layout) frame found call.arguments call.below w) =
    same_activated (around file layout w.left) whole_calls frame found call.arguments call.below w agrees in
    r.is

-- and so is the run of a function of the file
pub whole_run : (file : FileTree) (layout : Layout) (entry : ℕ) (arguments answers : List ℕ) (n : ℕ) →
    cmm_run file layout entry arguments answers n ≡
    finished layout
    (activated (file_surroundings file layout) (slice_index layout.frames entry) (slice_get (functions file) entry) (map Word arguments) 0
    (first_world file answers n))
whole_run file layout entry arguments answers n =
    ap (finished layout) (whole_call file layout (first_call entry arguments) (first_world file answers n))
