-- An image whose lines are followed is assembled, and correct.
use Rattle.std.proofs.Common.{◌≡◌, ⊎_elim, ℕ, suc, ◌+◌, ◌-◌, ◌≤◌, Bool, true, false, cond, List, [], ◌∷◌, length, Option, Some, None, refl, sym, subst, ap, ◌∙◌, arith}
use Rattle.bs_words.specs.Memory.{Memory, heap_need}
use Rattle.bs_words.specs.declared.types.Loc.{Loc}
use Rattle.bs_words.specs.declared.values.Value.{Value}
use Rattle.cmm_tree.specs.Tree.{FileTree, functions}
use Rattle.cmm_meaning.specs.State.{Doing, Asked, Callee, Inside, Outside}
use Rattle.correctness.specs.Correct.{IsCorrect}
use Rattle.correctness.specs.InNeed.{AsksInNeed}
use Rattle.correctness.specs.Setting.{layout_of, AreRowsOf}
use Rattle.rv_emit_rules.specs.Units.{owed_before, tests_first}
use Rattle.guarded_machine.specs.Guarded.{guarded_of}
use Rattle.image_form.specs.Tables.{Tables}
use Rattle.lin_ir.specs.Meaning.{Locations, NamedAt, State, after_label, at_code, on_values, step, values}
use Rattle.lin_ir.specs.declared.lin.Flow.TheVariants as flow
use Rattle.lin_ir.specs.declared.lin.Lin.{Lin}
use Rattle.lin_ir.specs.declared.lin.Line.{Line}
use Rattle.lin_ir.specs.declared.lin.LinOp.{LinOp}
use Rattle.lin_ir.specs.declared.lin.LinOp.TheVariants as lin
use Rattle.lin_ir.specs.declared.lin.Spot.{Spot}
use Rattle.mach_ir.specs.Acts.{Around}
use Rattle.mach_ir.specs.Runs.{ActivationSetting, bytes_below, stack_in_use, Step, Continues, Pays, Deepens, Waits, FinishesBy, Finishes, FinishesRaising, IsStuck}
use Rattle.moving_laws.specs.Values.{HasFunctions}
use Rattle.rv_machine.specs.Loading.{IsRoom}
use Rattle.rv_machine.specs.Places.{stack_bottom}
use Rattle.rv_machine.specs.Run.{seen}
use Rattle.rv_machine.specs.Services.{Now}
use Rattle.rv_machine.specs.Sound.{IsStackBase}
use Rattle.lin_machine.specs.Arrival.{ArrivesIn}
use Rattle.lin_machine.specs.Follows.{FollowsAsked, FollowsStep, IsAt, needs_of, used}
use Rattle.lin_machine.specs.Relation.{Below, Laid, nothing_below}
use Rattle.lin_machine.specs.View.{View}
use Rattle.lin_machine.proofs.Arriving.{at_least, leads_in}
use Rattle.lin_machine.proofs.Following.{agrees_on}
use Rattle.lin_machine.proofs.Steps.{stays}
use Rattle.linking.specs.Assembled.{Setup, IsPassedOn, Assembled}
use Rattle.linking.specs.Carries.{Outer, EventuallyHolds, Near, CarriesAsked, Carries}
use Rattle.linking.specs.Keeps.{ProgramKeeps}
use Rattle.linking.specs.Pace.{Words, ProgramGoesForward}
use Rattle.linking.proofs.Image.{assembled_correct, assembled_in_need}
use Rattle.linking_stages.specs.Stages.{linear_program}
use Rattle.linking_stages.proofs.Regular.{linear_regular}
use Rattle.linking_stages.proofs.Walking.{reached_walks}
use Rattle.line_calls.specs.Calls.{IsCalled, CallsSo}
use Rattle.line_calls.specs.Known.{FollowsBranch}
use Rattle.linking_machine.specs.Emitted.{BeginsFree, FollowsLine, IsImageEmitted, service_in, service_of}
use Rattle.linking_machine.specs.Standing.{Shows, At, Entry, Back}
use Rattle.linking_machine.proofs.Answering.{outside_carried}
use Rattle.linking_machine.proofs.Starting.{starts}
use Rattle.linking_machine.proofs.Carrying.{AskedSo, code_asked, fixed, at_, entry_, back_, CarriesIt, place, stands_there, comes_free, tail_carried, call_carried, kept_back, seen_there}

-- ---- what is owed

at_most_one : (t : Bool) → cond t 1 0 ≤ 1
at_most_one true = omega arith
at_most_one false = omega arith

-- one unit at most
pub owed_once : (code : List Line) → owed_before code ≤ 1
owed_once code = at_most_one (tests_first code)

-- ---- an exit's step

-- it pays for a unit and goes there, or is stuck
data ExitsTo (u : State) : Step State → Type 0 where
  pays_so : ExitsTo u (Pays u)
  stuck_so : ExitsTo u IsStuck

exit_on : (c : ActivationSetting) (names : List Loc) (m : Lin) (args results : List Spot) (next : List Line) (f : Locations) (a : Around) (l : ℕ)
    (o : Option (List Value)) → ExitsTo (record { rest = after_label l m.code; file = f; around = a })
    (on_values c names m (record { op = lin.Flow (flow.Exit l); args = args; results = results }) next f a o)
exit_on c names m args results next f a l None = stuck_so
exit_on c names m args results next f a l (Some []) = pays_so
exit_on c names m args results next f a l (Some (v ∷ vs)) = stuck_so

exits : (c : ActivationSetting) (named : NamedAt) (m : Lin) (u : State) (i : Line) (next : List Line) → u.rest ≡ i ∷ next → (l : ℕ) → i.op ≡ lin.Flow (flow.Exit l) →
    ExitsTo (record { rest = after_label l m.code; file = u.file; around = u.around }) (step c named m u)
exits c named m u i next is l e =
    let there : State = record { rest = after_label l m.code; file = u.file; around = u.around } in
    subst (λ (code : List Line). ExitsTo there (at_code c named m code u.file u.around)) (sym is)
    (subst (λ (g : LinOp). ExitsTo there (at_code c named m (record { op = g; args = i.args; results = i.results } ∷ next) u.file u.around)) (sym e)
    (exit_on c (named (length next)) m i.args i.results next u.file u.around l (values c.setting.end u.file i.args)))

module _ (file : FileTree) (image : Tables) (lins : ℕ → Lin) (named : ℕ → NamedAt)
    (w : Words State) (laid : ℕ → Laid) (entry : ℕ → ℕ) (live : ℕ → List Line → Type 0)
    (has : HasFunctions image)
    (bases : (stack : ℕ) → IsRoom stack → IsStackBase (stack_bottom - stack))
    (emitted : IsImageEmitted file image lins named w laid entry live has bases) where
  owed_few : (f : ℕ) (u : State) → w.owed f u ≤ 1
  owed_few f u =
      let is = emitted.owed f u in
      let few = owed_once u.rest in
      omega (arith, is, few)

  module _ (run : Setup) (owed most f below : ℕ) (c : Below) (u : State) (o : Outer) (y : Now) {Q : View → Type 0}
      (sh : Shows (fixed file image lins named w laid entry live has bases emitted run) o Q y) (e : c.top + below ≡ stack_bottom) (n : ℕ) where
    abbrev Carried : Step State → Type 0
    Carried x = CarriesIt file image lins named w laid entry live has bases emitted run owed most f below c x o y

    asked_carried : (call : Asked) (go : Doing → Step State) (callee : Callee) → call.callee ≡ callee → n + service_of (Waits call go) ≤ most →
        call.below ≡ bytes_below call.callee false (place file image lins named w laid entry live has bases emitted run f below) u.around →
        (follow : FollowsAsked n (fixed file image lins named w laid entry live has bases emitted run) (laid f) (live f) entry c sh.view call go callee) →
        IsCalled n (fixed file image lins named w laid entry live has bases emitted run) (laid f) (live f) entry c sh.view (used (laid f) u) call go callee follow →
        CarriesAsked State (linear_program lins named) w file (layout_of image) Now (guarded_of run.schedule) seen run.stack run.heap Below
        (at_ file image lins named w laid entry live has bases emitted run) (entry_ file image lins named w laid entry live has bases emitted run)
        (back_ file image lins named w laid entry live has bases emitted run) most f below c call go callee o y
    asked_carried call go (Inside g) is few lies follow called =
        call_carried file image lins named w laid entry live has bases emitted run most f below c u o y sh e n call go g is (omega (arith, few)) lies
        follow called
    asked_carried call go (Outside row frame) is few lies follow called =
        let one : service_of (Waits call go) ≡ 1 = ap (λ q. service_in q) is in
        outside_carried file image lins named w laid entry live has bases emitted run most n f below c e call go row frame (omega (arith, few, one))
        called o y sh follow

    -- where it goes on: at least one instruction for what is owed, but for what is owed there
    goes_there : (z : State) (least : ℕ) → n ≤ most →
        ArrivesIn least n (fixed file image lins named w laid entry live has bases emitted run)
        (needs_of (laid f) c z) sh.view (IsAt (fixed file image lins named w laid entry live has bases emitted run) (laid f) (live f) c z) →
        (lower : ℕ) → lower ≤ least →
        EventuallyHolds Now (guarded_of run.schedule) seen run.stack run.heap
        (stack_in_use (place file image lins named w laid entry live has bases emitted run f below) z.around) (heap_need z.around.memory) o.made
        (Near lower most (at_ file image lins named w laid entry live has bases emitted run c f below z o)) y
    goes_there z least few arrives lower less =
        stands_there file image lins named w laid entry live has bases emitted run most f below c z o y few e sh
        (at_least least lower n n (fixed file image lins named w laid entry live has bases emitted run) sh.view
        (IsAt (fixed file image lins named w laid entry live has bases emitted run) (laid f) (live f) c z) less (omega arith) arrives)

    -- a branch takes an instruction for the unit that is owed
    branch_carried : (x : Step State) → n ≤ most → owed ≤ 1 →
        FollowsBranch n (fixed file image lins named w laid entry live has bases emitted run) (laid f) (live f) c sh.view x → Carried x
    branch_carried (Continues z) few small goes = goes_there z 1 few goes (owed - w.owed f z) (omega (arith, small))
    branch_carried (Pays z) few small goes = absurd goes
    branch_carried (Deepens bytes z) few small goes = absurd goes
    branch_carried (Waits call go) few small goes = absurd goes
    branch_carried (FinishesBy call kept) few small goes = absurd goes
    branch_carried (Finishes d) few small goes = absurd goes
    branch_carried (FinishesRaising d) few small goes = absurd goes
    branch_carried IsStuck few small goes = tt

    -- nothing is owed
    carried : (x : Step State) → n + service_of x ≤ most → owed ≡ 0 →
        AskedSo (place file image lins named w laid entry live has bases emitted run f below) 0 u.around x →
        (follow : FollowsStep n (fixed file image lins named w laid entry live has bases emitted run) (laid f) (live f) entry c sh.view x) →
        CallsSo n (fixed file image lins named w laid entry live has bases emitted run) (laid f) (live f) entry c sh.view (used (laid f) u) x follow → Carried x
    carried (Continues z) few none asks follow called = goes_there z 0 (omega (arith, few)) follow (owed - w.owed f z) (omega (arith, none))
    carried (Pays z) few none asks follow called = goes_there z 1 (omega (arith, few)) follow (suc owed - w.owed f z) (omega (arith, none))
    carried (Deepens bytes z) few none asks follow called = goes_there z 0 (omega (arith, few)) follow (owed - w.owed f z) (omega (arith, none))
    carried (Waits call go) few none asks follow called = (none, asked_carried call go call.callee refl few asks follow called)
    carried (FinishesBy call kept) few none asks follow called = (
      none,
      tail_carried file image lins named w laid entry live has bases emitted run most f below c u o y sh e n call call.callee refl
          (omega (arith, few)) asks follow,
    )
    carried (Finishes d) few none asks follow called =
        (none, comes_free file image lins named w laid entry live has bases emitted run most o y (omega (arith, few)) sh follow (λ z at. at))
    carried (FinishesRaising d) few none asks follow called =
        (none, comes_free file image lins named w laid entry live has bases emitted run most o y (omega (arith, few)) sh follow (λ z at. at))
    carried IsStuck few none asks follow called = tt

  -- An exit that has no words: no instruction is taken, and the branch where control is owes the unit.
  module _ (run : Setup) (f below : ℕ) (c : Below) (u : State) (o : Outer) (y : Now)
      (sh : Shows (fixed file image lins named w laid entry live has bases emitted run) o
      (IsAt (fixed file image lins named w laid entry live has bases emitted run) (laid f) (live f) c u) y) (e : c.top + below ≡ stack_bottom)
      (b : BeginsFree (laid f) (lins f) (live f) u.rest) where
    abbrev beyond : State
    beyond = record { rest = after_label b.free.label (lins f).code; file = u.file; around = u.around }

    owed_here : w.owed f u ≡ 0
    owed_here =
        emitted.owed f u ∙ ap (λ (code : List Line). owed_before code) b.is
        ∙ ap (λ (g : LinOp). owed_before (record { op = g; args = b.line.args; results = b.line.results } ∷ b.next)) b.free.is

    owed_there : w.owed f beyond ≡ 1
    owed_there = emitted.owed f beyond ∙ ap (λ t. cond t 1 0) b.free.tests

    is_beyond : IsAt (fixed file image lins named w laid entry live has bases emitted run) (laid f) (live f) c beyond sh.view
    is_beyond =
        let at = sh.holds in
        let d = at.3 in (
          at.0,
          at.1,
          agrees_on (live f u.rest) (live f beyond.rest) at.1 u.file b.passes at.2,
          record { place = d.place ∙ ap (λ (code : List Line). (laid f).part (length code)) b.is ∙ sym b.free.place; within = d.within },
        )

    exit_carried : (x : Step State) → ExitsTo beyond x →
        CarriesIt file image lins named w laid entry live has bases emitted run (w.owed f u) (w.cost f u) f below c x o y
    exit_carried x pays_so =
        let here = owed_here in
        let there = owed_there in
        goes_there run (w.owed f u) (w.cost f u) f below c u o y sh e 0 beyond 0 (omega arith)
        (leads_in 0 0 (fixed file image lins named w laid entry live has bases emitted run) 0 (omega arith) (omega arith) sh.view sh.view
        (IsAt (fixed file image lins named w laid entry live has bases emitted run) (laid f) (live f) c beyond)
        (stays (fixed file image lins named w laid entry live has bases emitted run) sh.view) is_beyond)
        (suc (w.owed f u) - w.owed f beyond) (omega (arith, here, there))
    exit_carried x stuck_so = tt

    pub free_carried : CarriesIt file image lins named w laid entry live has bases emitted run (w.owed f u) (w.cost f u) f below c
        (step (place file image lins named w laid entry live has bases emitted run f below) (named f) (lins f) u) o y
    free_carried =
        exit_carried _ (exits (place file image lins named w laid entry live has bases emitted run f below) (named f) (lins f) u b.line b.next b.is
        b.free.label b.free.is)

  -- The machine carries the Linear program out.
  pub carries : (run : Setup) → Carries State (linear_program lins named) w file (layout_of image) Now (guarded_of run.schedule) seen run.stack run.heap Below
      (At image has bases laid entry live run) (Entry image has bases laid entry live run) (Back image has bases laid entry live run)
  carries run =
      record {
        steps = λ c f below u o y reached at.
            let walk = reached_walks lins named f _ reached in
            ⊎_elim
            (λ (line : FollowsLine (w.owed f u) (w.cost f u) (fixed file image lins named w laid entry live has bases emitted run) (laid f) (live f) entry c
            at.0.view (used (laid f) u) (step (place file image lins named w laid entry live has bases emitted run f below) (named f) (lins f) u)).
            let few = line.few in
            let small = owed_few f u in
            ⊎_elim
            (λ none.
            carried run (w.owed f u) (w.cost f u) f below c u o y at.0 at.1 line.words
            (step (place file image lins named w laid entry live has bases emitted run f below) (named f) (lins f) u) line.few none
            (code_asked (place file image lins named w laid entry live has bases emitted run f below) (named f) (lins f) u.rest u.file u.around)
            line.so.follows line.so.calls)
            (λ goes.
            branch_carried run (w.owed f u) (w.cost f u) f below c u o y at.0 at.1 line.words
            (step (place file image lins named w laid entry live has bases emitted run f below) (named f) (lins f) u) (omega (arith, few)) small goes)
            line.takes)
            (λ (b : BeginsFree (laid f) (lins f) (live f) u.rest). free_carried run f below c u o y at.0 at.1 b)
            (emitted.lines run f below c at.0.view u reached walk at.1 at.0.holds);
        kept = λ c kept d o x back. kept_back file image lins named w laid entry live has bases emitted run c kept d o x back;
        enters = λ c f below arguments memory u o x starts at.
            stands_there file image lins named w laid entry live has bases emitted run (w.entry f) f below c u o x (omega arith) at.1 at.0
            (emitted.begins run f below c at.0.view arguments memory u starts at.1 at.0.holds);
        runs = λ c f below u o x at. seen_there file image lins named w laid entry live has bases emitted run x at.0;
      }

  -- An image whose lines are followed, and whose functions do what the text does, is assembled.
  pub emitted_assembled : (most words : ℕ) (IsGiven : List Value → Memory → Type 0) (IsDone : Doing → Type 0) → AreRowsOf (functions file) image.funcs →
      words + 1 ≤ length image.code →
      ProgramKeeps State (linear_program lins named) file (layout_of image) most IsGiven IsDone → IsPassedOn IsGiven IsDone file (layout_of image) →
      ProgramGoesForward State (linear_program lins named) w words →
      Assembled State (linear_program lins named) w most words file image IsGiven IsDone Below (At image has bases laid entry live)
      (Entry image has bases laid entry live)
      (Back image has bases laid entry live)
  emitted_assembled most words IsGiven IsDone rows fit keeps passed forward =
      record {
        rows = rows;
        words_fit = fit;
        keeps = keeps;
        passed = passed;
        regular = linear_regular lins named;
        forward = forward;
        bottom = nothing_below;
        start = λ run f args answers tree entered. (starts file image has bases entry emitted.entries run f args answers tree entered, refl);
        carries = carries;
        stub = emitted.stub;
      }

  pub emitted_correct : (most words : ℕ) (IsGiven : List Value → Memory → Type 0) (IsDone : Doing → Type 0) → AreRowsOf (functions file) image.funcs →
      words + 1 ≤ length image.code →
      ProgramKeeps State (linear_program lins named) file (layout_of image) most IsGiven IsDone → IsPassedOn IsGiven IsDone file (layout_of image) →
      ProgramGoesForward State (linear_program lins named) w words → IsCorrect file image
  emitted_correct most words IsGiven IsDone rows fit keeps passed forward =
      assembled_correct State (linear_program lins named) w most words file image IsGiven IsDone Below (At image has bases laid entry live)
      (Entry image has bases laid entry live)
      (Back image has bases laid entry live) (emitted_assembled most words IsGiven IsDone rows fit keeps passed forward)

  -- It asks for allocations only in need.
  pub emitted_in_need : (most words : ℕ) (IsGiven : List Value → Memory → Type 0) (IsDone : Doing → Type 0) → AreRowsOf (functions file) image.funcs →
      words + 1 ≤ length image.code →
      ProgramKeeps State (linear_program lins named) file (layout_of image) most IsGiven IsDone → IsPassedOn IsGiven IsDone file (layout_of image) →
      ProgramGoesForward State (linear_program lins named) w words → AsksInNeed file image
  emitted_in_need most words IsGiven IsDone rows fit keeps passed forward =
      assembled_in_need State (linear_program lins named) w most words file image IsGiven IsDone Below (At image has bases laid entry live)
      (Entry image has bases laid entry live)
      (Back image has bases laid entry live) (emitted_assembled most words IsGiven IsDone rows fit keeps passed forward)
