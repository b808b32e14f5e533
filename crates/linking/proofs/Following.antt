-- One function by the list of what its calls did is the function in the machine that carries out the program.
use Rattle.std.proofs.Common.{◌≡◌, ℕ, zero, suc, Bool, ◌+◌, ◌-◌, ◌*◌, ◌≤◌, ◌<◌, List, [], ◌∷◌, ◌++◌, max, map, refl, sym, ap, subst, ◌∙◌, append-nil, arith}
use Rattle.std.proofs.Math.Nat.{mul-le-mul_left}
use Rattle.std.proofs.lemmas.List.{append_cancel_left}
use Rattle.bs_words.specs.External.{External}
use Rattle.bs_words.specs.Memory.{Memory, heap_need}
use Rattle.bs_words.specs.Observed.{Made}
use Rattle.bs_words.specs.declared.types.Ret.{Ret}
use Rattle.bs_words.specs.declared.values.Value.{Value}
use Rattle.cmm_data.specs.Placement.{data_end}
use Rattle.cmm_tree.specs.Tree.{FileTree}
use Rattle.cmm_meaning.specs.Evaluation.{NoAnswer, Evaluation, Stops}
use Rattle.cmm_meaning.specs.Layout.{Layout}
use Rattle.cmm_meaning.specs.Run.{outside, callees}
use Rattle.cmm_meaning.specs.Setting.{setting_of}
use Rattle.cmm_meaning.specs.State.{Doing, Asked, Callee, Inside, Outside, Called, World}
use Rattle.correctness.specs.Setting.{AreWords}
use Rattle.mach_ir.specs.Runs.{ActivationSetting, Step, Continues, Pays, Deepens, Waits, FinishesBy, Finishes, FinishesRaising, IsStuck, Tally, RunProgress, Running, Asking, Ended, Wrong, units_of, kept_of, run_onward, runs}
use Rattle.meaning_fuel.specs.Whole.{file_surroundings}
use Rattle.meaning_laws.specs.Fitting.{memory_after, FitsCallee, Answered, answered, answered_raise, unfit, unanswered}
use Rattle.meaning_laws.specs.Links.{Call, OfFunction, OfOutside, asked_in, done_by, FitsCall, fits_function, CameBack, gave, threw, Came, asked_by, spent_by, OnItsOwn, CallsBetween, no_more, next}
use Rattle.meaning_laws.specs.Units.{IsPrefixOf, Later, world_of}
use Rattle.meaning_laws.proofs.Extends.{extends_need}
use Rattle.meaning_laws.proofs.LinksCalled.{called_later}
use Rattle.meaning_laws.proofs.LinksWhole.{whole_calls_fit}
use Rattle.meaning_laws.proofs.Units.{Begins-same}
use Rattle.rv_machine.specs.Run.{Seen}
use Rattle.rv_machine.specs.Services as machine
use Rattle.linking.specs.Program.{Program, activation_in, tally_of, IsMoving, unit_of, paid_by, IsRegularStep, IsRegularProgram}
use Rattle.linking.specs.Pace.{Words, left_behind, StepForward, StepLeadsTo, continues, pays, deepens, behind, IsReached, by_step, ProgramGoesForward}
use Rattle.linking.specs.Carries.{Outer, outer_of, EventuallyHolds, Near, Spends, DoesCall, IsAfterStep, CarriesOutside, CarriesAsked, CarriesTail, CarriesStep, Carries}
use Rattle.linking.proofs.Coming.{comes_on, comes_map, comes_now}
use Rattle.linking.proofs.Running.{units_called, top_heap, units_came, no_longer, runs_further, onward_further, matched, asked_memory, memory_back, tally, Facts, facts}

pub same_outer : {w v : World} → OnItsOwn w v → outer_of w ≡ outer_of v
same_outer {w} {v} o = let a = o.made in let b = o.answers in cc

own_begins : {w v : World} → OnItsOwn w v → IsPrefixOf w.made v.made
own_begins {w} {v} o = record { further = []; is = o.made ∙ sym (append-nil w.made) }

-- ---- arithmetic

enough_on : (most here there u1 unit unit2 theirs called : ℕ) → here ≤ most * (2 * u1 + unit) → there ≤ most * (2 * theirs + called) → unit2 ≡ unit →
    here + there ≤ most * (2 * (u1 + theirs) + (unit2 + called))
enough_on most here there u1 unit unit2 theirs called a b e =
    let f : most * unit2 ≡ most * unit = ap (λ n. most * n) e in
    omega (arith, a, b, f)

upper_on : (words c1 c2 spare units units2 unit unit2 cost left then ahead u1 theirs called total : ℕ) →
    c1 ≤ cost + words * (2 * u1 + unit) → (c2 + spare) + words * units2 ≤ then + words * (total + (2 * theirs + called)) → cost + left ≤ ahead →
    then ≤ left + words * unit → units2 ≡ unit + units → unit2 ≡ unit →
    ((c1 + c2) + spare) + words * units ≤ ahead + words * (total + (2 * (u1 + theirs) + (unit2 + called)))
upper_on words c1 c2 spare units units2 unit unit2 cost left then ahead u1 theirs called total a b room more e d =
    let f : words * unit2 ≡ words * unit = ap (λ n. words * n) d in
    let g : words * units2 ≡ words * (unit + units) = ap (λ n. words * n) e in
    omega (arith, a, b, room, more, f, g)

-- an external call takes no units
pub answered_left : {end : ℕ} {result : Ret} {frame : Bool} {w : World} {e : Evaluation} → Answered end result frame w e → (world_of e).left ≡ w.left
answered_left (answered h further answers is) = refl
answered_left (answered_raise v h further answers fit) = refl
answered_left (unfit kind further answers) = refl
answered_left (unanswered call) = refl

back_left : {e : Evaluation} {d : Doing} {u : World} → CameBack e d u → (world_of e).left ≡ u.left
back_left gave = refl
back_left threw = refl

-- how many instructions of a call that is asked last are the function's own
abbrev pub extra : {S : Type 0} → RunProgress S → ℕ
extra (Running s t) = 0
extra (Asking call t) = unit_of call.callee
extra (Ended d t) = 0
extra Wrong = 0

-- what a call of a function is given, in a run whose answers are words
module _ (IsGiven : List Value → Memory → Type 0) where
  abbrev pub IsGivenTo : Call → World → Type 0
  IsGivenTo (OfFunction call) v = IsGiven call.arguments v.memory × AreWords v.answers
  IsGivenTo (OfOutside row frame arguments) v = Unit {0}

  abbrev pub AllGiven : List Came → Type 0
  AllGiven [] = Unit {0}
  AllGiven (c ∷ calls) = IsGivenTo c.call c.before × AllGiven calls

module _ (S : Type 0) (p : Program S) (pace : Words S) (file : FileTree) (layout : Layout)
    (X : Type 0) (turn : X → X) (see : X → Seen) (stack heap : ℕ) (Below : Type 0)
    (At : Below → ℕ → ℕ → S → Outer → X → Type 0)
    (Entry : Below → ℕ → ℕ → List Value → Memory → Outer → X → Type 0)
    (Back : Below → Doing → Outer → X → Type 0) (most words : ℕ) (IsGiven : List Value → Memory → Type 0) where
  -- where nothing is handed in for a call, the machine is at the entry of its callee, or at the external call
  abbrev pub AskedAt : ℕ → Outer → X → Asked → Callee → Type 0
  AskedAt spare o x call (Inside callee) = (b : Below) × Entry b callee call.below call.arguments call.memory o x
  AskedAt spare o x call (Outside row frame) =
      (v : World) → v.memory ≡ call.memory → outer_of v ≡ o → (made : Made) (u : World) →
      outside (data_end file) layout row frame call.arguments v ≡ Stops (NoAnswer made) u →
      EventuallyHolds X turn see stack heap 0 (heap_need u.memory) u.made (Near 0 spare (λ y. see y ≡ record { calls = u.made; end = machine.Asks made })) x

  -- how a machine is where a function ends so
  abbrev pub EndAt : ℕ → Below → (f below : ℕ) → Outer → X → RunProgress S → Type 0
  EndAt spare a f below o x (Running s t) = At a f below s o x
  EndAt spare a f below o x (Asking call t) = AskedAt spare o x call call.callee
  EndAt spare a f below o x (Ended d t) = Back a d o x
  EndAt spare a f below o x Wrong = Unit {0}

  -- the units that may be owed where a run of the function is
  abbrev pub due : (f : ℕ) → RunProgress S → ℕ
  due f (Running s t) = pace.owed f s
  due f (Asking call t) = 0
  due f (Ended d t) = 0
  due f Wrong = 0

  -- What a function and its callees took, where it had paid so many units, of which so many were owed, and then paid so many without an
  -- instruction yet, and had so many instructions before the next one.
  pub record Took (f units owed paid ahead : ℕ) (r : RunProgress S) (calls : List Came) (P : ℕ → X → Type 0) (count : ℕ) (x : X) : Type 0 where
    -- the units of the callees
    pub theirs : ℕ
    pub no_more : theirs ≤ spent_by calls
    pub enough : spent_by calls ≤ most * (2 * theirs + units_called calls)
    pub lower : (((tally_of r).units + extra r) + theirs) + owed ≤ ((units + paid) + count) + due f r
    -- so many more would do
    pub spare : ℕ
    pub upper : (count + spare) + words * units ≤ ahead + words * ((tally_of r).units + (2 * theirs + units_called calls))
    pub at : P spare x

  abbrev pub Reaches : Below → (f below : ℕ) → World → List Came → (units owed paid ahead : ℕ) → RunProgress S → X → Type 0
  Reaches a f below last calls units owed paid ahead r x =
      EventuallyHolds X turn see stack heap (max (tally_of r).need last.stack_need) (max (top_heap p r) (heap_need last.memory)) last.made
      (Took f units owed paid ahead r calls (λ k y. EndAt k a f below (outer_of last) y r)) x

  abbrev pub Serves : ℕ → Type 0
  Serves bound =
      (a : Below) (call : Called) (v : World) (x : X) → v.left < bound → FitsCallee (setting_of (file_surroundings file layout)) call.function call.arguments →
      IsGivenTo IsGiven (OfFunction call) v → Entry a call.function call.below call.arguments v.memory (outer_of v) x →
      DoesCall X turn see stack heap most words (Back a) v x (callees file layout (suc v.left) call v)

  -- what the machine does for a call of a function that came back
  pub came_so : (a : Below) (w : World) (x : X) {u : World} {e : Evaluation} {d : Doing} → CameBack e d u →
      DoesCall X turn see stack heap most words (Back a) w x e →
      EventuallyHolds X turn see stack heap u.stack_need (heap_need u.memory) u.made (Spends 0 most words w.left u.left (Back a d (outer_of u))) x
  came_so a w x gave does = does
  came_so a w x threw does = does

  out_so : (f below cost : ℕ) (a : Below) (go : Doing → Step S) (x : X) {u : World} {e : Evaluation} {d : Doing} → CameBack e d u →
      CarriesOutside S p pace file layout X turn see stack heap Below At Entry Back cost f below a go x e →
      EventuallyHolds X turn see stack heap 0 (heap_need u.memory) u.made (Near 1 cost
      (IsAfterStep S p pace file layout X turn see stack heap Below At Entry Back a f below (go d) (outer_of u))) x
  out_so f below cost a go x gave c = c
  out_so f below cost a go x threw c = c

  module _ (regular : IsRegularProgram S p) (forward : ProgramGoesForward S p pace words)
      (carry : Carries S p pace file layout X turn see stack heap Below At Entry Back) (bound : ℕ) (serves : Serves bound)
      (a : Below) (f below : ℕ) where
    abbrev c : ActivationSetting
    c = activation_in file layout f below

    abbrev After : Step S → Outer → X → Type 0
    After x o y = IsAfterStep S p pace file layout X turn see stack heap Below At Entry Back a f below x o y

    abbrev CarriesThis : (owed cost : ℕ) → Step S → Outer → X → Type 0
    CarriesThis owed cost x o y = CarriesStep S p pace file layout X turn see stack heap Below At Entry Back owed cost f below a x o y

    abbrev AsksThis : ℕ → Asked → (Doing → Step S) → Outer → X → Type 0
    AsksThis cost call go o y = CarriesAsked S p pace file layout X turn see stack heap Below At Entry Back cost f below a call go call.callee o y

    abbrev TailsThis : ℕ → Asked → Outer → X → Type 0
    TailsThis cost call o y = CarriesTail S p pace file layout X turn see stack heap Below At Entry Back cost a call call.callee o y

    abbrev LinkOf : ℕ → Type 0
    LinkOf k =
        (s : S) (w last : World) (calls : List Came) (asked : List Asked) (units need : ℕ) (x : X) → CallsBetween (file_surroundings file layout) bound w calls last →
        AllGiven IsGiven calls →
        (tally_of (runs (p.step f c) k s (tally asked calls units need))).asked ≡ asked ++ map asked_by calls →
        IsMoving (runs (p.step f c) k s (tally asked calls units need)) → IsReached S p f c s → p.stack c s ≤ need → At a f below s (outer_of w) x →
        Reaches a f below last calls units (pace.owed f s) 0 (pace.ahead f s) (runs (p.step f c) k s (tally asked calls units need)) x

    facts_of : (k : ℕ) (s : S) (w last : World) (calls : List Came) (asked : List Asked) (units need : ℕ) →
        CallsBetween (file_surroundings file layout) bound w calls last →
        (tally_of (runs (p.step f c) k s (tally asked calls units need))).asked ≡ asked ++ map asked_by calls →
        IsMoving (runs (p.step f c) k s (tally asked calls units need)) →
        Facts S p (p.step f c) need (p.heap s) (units + units_called calls) (runs (p.step f c) k s (tally asked calls units need))
    facts_of k s w last calls asked units need between same m =
        facts S p (p.step f c) c (λ s. regular.step f c s) (file_surroundings file layout) bound k s w last calls asked units need between same m

    -- ---- what has been done, and makes no call, goes on

    at_end : (d : Doing) {w last : World} (units paid left : ℕ) (t : Tally) (y : X) → OnItsOwn w last → t.units ≡ units + paid → Back a d (outer_of w) y →
        Reaches a f below last [] units 0 paid left (Ended d t) y
    at_end d {w} {last} units paid left t y o e at =
        let more : words * units ≤ words * t.units = mul-le-mul_left words (omega (arith, e)) in
        comes_now X turn see stack heap y
        (record {
          theirs = 0;
          no_more = omega arith;
          enough = omega arith;
          lower = omega (arith, e);
          spare = 0;
          upper = omega (arith, more);
          at = subst (λ z. Back a d z y) (same_outer o) at;
        })

    -- the units that are owed where a step leads
    abbrev owed_after : Step S → ℕ
    owed_after (Continues u) = pace.owed f u
    owed_after (Pays u) = pace.owed f u
    owed_after (Deepens bytes u) = pace.owed f u
    owed_after (Waits call go) = 0
    owed_after (FinishesBy call kept) = 0
    owed_after (Finishes d) = 0
    owed_after (FinishesRaising d) = 0
    owed_after IsStuck = 0

    after_step : (k : ℕ) → LinkOf k → (x : Step S) (stack' heap' left : ℕ) → IsRegularStep S p c stack' heap' x → StepForward S words (pace.ahead f) left x →
        ((u : S) → StepLeadsTo S u x → IsReached S p f c u) → {w last : World} {calls : List Came} (asked : List Asked) (units need : ℕ) (y : X) → stack' ≤ need →
        CallsBetween (file_surroundings file layout) bound w calls last → AllGiven IsGiven calls →
        (tally_of (run_onward (runs (p.step f c) k) x (tally asked calls units need))).asked ≡ asked ++ map asked_by calls →
        IsMoving (run_onward (runs (p.step f c) k) x (tally asked calls units need)) → After x (outer_of w) y →
        Reaches a f below last calls units (owed_after x) (paid_by x) left (run_onward (runs (p.step f c) k) x (tally asked calls units need)) y
    after_step k ih (Continues u) stack' heap' left g forth reached {w} {last} {calls} asked units need y fits between given same m at =
        let fit = g.0 in
        comes_map X turn see stack heap y (omega arith) (omega arith) (Begins-same last.made)
        (ih u w last calls asked units need y between given same m (reached u continues) (omega (arith, fit, fits)) at)
        (λ n z took.
        let upper = took.upper in
        record {
          theirs = took.theirs;
          no_more = took.no_more;
          enough = took.enough;
          lower = took.lower;
          spare = took.spare;
          upper = omega
              (arith, upper, forth);
          at = took.at;
        })
    after_step k ih (Pays u) stack' heap' left g forth reached {w} {last} {calls} asked units need y fits between given same m at =
        let fit = g.0 in
        comes_map X turn see stack heap y (omega arith) (omega arith) (Begins-same last.made)
        (ih u w last calls asked (suc units) need y between given same m (reached u pays) (omega (arith, fit, fits)) at)
        (λ n z took.
        let upper = took.upper in
        let lower = took.lower in
        record {
          theirs = took.theirs;
          no_more = took.no_more;
          enough = took.enough;
          lower = omega (arith, lower);
          spare = took.spare;
          upper = omega
              (arith, upper, forth);
          at = took.at;
        })
    after_step k ih (Deepens bytes u) stack' heap' left g forth reached {w} {last} {calls} asked units need y fits between given same m at =
        let fit = g.0 in
        comes_map X turn see stack heap y (omega arith) (omega arith) (Begins-same last.made)
        (ih u w last calls asked units (max need bytes) y between given same m (reached u deepens) (omega (arith, fit, fits)) at)
        (λ n z took.
        let upper = took.upper in
        record {
          theirs = took.theirs;
          no_more = took.no_more;
          enough = took.enough;
          lower = took.lower;
          spare = took.spare;
          upper = omega
              (arith, upper, forth);
          at = took.at;
        })
    after_step k ih (Waits call go) stack' heap' left g forth reached asked units need y fits between given same m at = absurd at
    after_step k ih (FinishesBy call kept) stack' heap' left g forth reached asked units need y fits between given same m at = absurd at
    after_step k ih (Finishes d) stack' heap' left g forth reached asked units need y fits (no_more o) given same m at =
        at_end d units 0 left (tally asked [] units need) y o (omega arith) at
    after_step k ih (Finishes d) stack' heap' left g forth reached asked units need y fits (next {c = came} {calls = calls} o fewer fit did later rest)
        given same m at =
        absurd (no_longer asked (asked_by came) (map asked_by calls) same)
    after_step k ih (FinishesRaising d) stack' heap' left g forth reached asked units need y fits (no_more o) given same m at =
        at_end d units 1 left (tally asked [] (suc units) need) y o (omega arith) at
    after_step k ih (FinishesRaising d) stack' heap' left g forth reached asked units need y fits
        (next {c = came} {calls = calls} o fewer fit did later rest) given same m at =
        absurd (no_longer asked (asked_by came) (map asked_by calls) same)
    after_step k ih IsStuck stack' heap' left g forth reached asked units need y fits between given same m at = absurd m

    -- ---- a step that makes no call

    made_step : (k : ℕ) → LinkOf k → (x : Step S) (owed least : ℕ) → owed + paid_by x ≤ least + owed_after x →
        (stack' heap' cost left ahead : ℕ) → cost + left ≤ ahead → IsRegularStep S p c stack' heap' x →
        StepForward S words (pace.ahead f) left x → ((u : S) → StepLeadsTo S u x → IsReached S p f c u) →
        (w last : World) (calls : List Came) (asked : List Asked) (units need : ℕ)
        (y : X) → stack' ≤ need → CallsBetween (file_surroundings file layout) bound w calls last → AllGiven IsGiven calls →
        (tally_of (run_onward (runs (p.step f c) k) x (tally asked calls units need))).asked ≡ asked ++ map asked_by calls →
        IsMoving (run_onward (runs (p.step f c) k) x (tally asked calls units need)) → (s h : ℕ) →
        s ≤ (tally_of (run_onward (runs (p.step f c) k) x (tally asked calls units need))).need →
        h ≤ top_heap p (run_onward (runs (p.step f c) k) x (tally asked calls units need)) →
        EventuallyHolds X turn see stack heap s h w.made (Near least cost (After x (outer_of w))) y →
        Reaches a f below last calls units owed 0 ahead (run_onward (runs (p.step f c) k) x (tally asked calls units need)) y
    made_step k ih x owed least covers stack' heap' cost left ahead room g forth reached w last calls asked units need y fits between given same m s h st hp
        comes =
        let onto = called_later between in
        comes_on X turn see stack heap y (omega (arith, st)) (omega (arith, hp)) onto.onward.calls comes
        (λ n z near.
        comes_map X turn see stack heap z (omega arith) (omega arith) (Begins-same last.made)
        (after_step k ih x stack' heap' left g forth reached asked units need z fits between given same m near.at)
        (λ j z2 took.
        let upper = took.upper in
        let lower = took.lower in
        let less = near.lower in
        let few = near.upper in
        record {
          theirs = took.theirs;
          no_more = took.no_more;
          enough = took.enough;
          lower = omega (arith, lower, less, covers);
          spare = took.spare;
          upper = omega (arith, upper, few, room);
          at = took.at;
        }))

    -- ---- a call

    -- What the machine does for a call that came back, from where its caller asks for it.
    record Served (unit cost before after : ℕ) (P : X → Type 0) (count : ℕ) (x : X) : Type 0 where
      units : ℕ
      no_more : units ≤ before - after
      enough : before - after ≤ most * (2 * units + unit)
      lower : units + 1 ≤ count
      upper : count ≤ cost + words * (2 * units + unit)
      at : P x

    function_served : (cost : ℕ) (call : Called) (before : World) (x : X) (P : Doing → Outer → X → Type 0) (above : Below) →
        EventuallyHolds X turn see stack heap 0 0 before.made (Near 1 cost (Entry above call.function call.below call.arguments before.memory (outer_of before))) x →
        before.left < bound → FitsCallee (setting_of (file_surroundings file layout)) call.function call.arguments → IsGivenTo IsGiven (OfFunction call) before →
        {d : Doing} {after : World} → CameBack (callees file layout (suc before.left) call before) d after → Later before after →
        ((v : Outer) (y : X) → Back above d v y → P d v y) →
        EventuallyHolds X turn see stack heap after.stack_need (heap_need after.memory) after.made (Served 1 cost before.left after.left (P d (outer_of after))) x
    function_served cost call before x P above enters fewer fit known {d} {after} did later onto =
        comes_on X turn see stack heap x (omega arith) (omega arith) later.onward.calls enters
        (λ n y near.
        comes_map X turn see stack heap y (omega arith) (omega arith) (Begins-same after.made)
        (came_so above before y did (serves above call before y fewer fit known near.at))
        (λ j z spends.
        let less = near.lower in
        let few = near.upper in
        let no = spends.no_more in
        let en = spends.enough in
        let lo = spends.lower in
        let up = spends.upper in
        let on = later.units in
        record {
          units = spends.units;
          no_more = omega (arith, no);
          enough = omega (arith, en, on);
          lower = omega (arith, lo, less);
          upper = omega (arith, up, few);
          at = onto (outer_of after) z spends.at;
        }))

    outside_served : (cost : ℕ) (row : External) (frame : Bool) (arguments : List Value) (before : World) (x : X) (go : Doing → Step S) →
        CarriesOutside S p pace file layout X turn see stack heap Below At Entry Back cost f below a go x
        (outside (data_end file) layout row frame arguments before) →
        {d : Doing} {after : World} → CameBack (outside (data_end file) layout row frame arguments before) d after →
        EventuallyHolds X turn see stack heap after.stack_need (heap_need after.memory) after.made
        (Served 0 cost before.left after.left (After (go d) (outer_of after))) x
    outside_served cost row frame arguments before x go carries {d} {after} did =
        let e = answered_left ((whole_calls_fit file layout).answers row frame arguments before) in
        let b = back_left did in
        comes_map X turn see stack heap x (omega arith) (omega arith) (Begins-same after.made) (out_so f below cost a go x did carries)
        (λ n y near.
        let less = near.lower in
        let few = near.upper in
        record {
          units = 0;
          no_more = omega arith;
          enough = omega (arith, e, b);
          lower = less;
          upper = omega (arith, few);
          at = near.at;
        })

    asks_last : (cost ahead : ℕ) → cost ≤ ahead → {w last : World} (asked : List Asked) (units need : ℕ) (y : X) → OnItsOwn w last →
        (call : Asked) (go : Doing → Step S) (callee : Callee) →
        call.callee ≡ callee → CarriesAsked S p pace file layout X turn see stack heap Below At Entry Back cost f below a call go callee (outer_of w) y →
        Reaches a f below last [] units 0 0 ahead (Asking call (tally asked [] units need)) y
    asks_last cost ahead room {w} {last} asked units need y o call go (Inside callee) e carries =
        let same = same_outer o in
        let one : unit_of call.callee ≡ 1 = ap unit_of e in
        comes_map X turn see stack heap y (omega arith) (omega arith) (own_begins o) carries.enters
        (λ n z near.
        let less = near.lower in
        let few = near.upper in
        record {
          theirs = 0;
          no_more = omega arith;
          enough = omega arith;
          lower = omega (arith, less, one);
          spare = 0;
          upper = omega (arith, few, room);
          at = subst (AskedAt 0 (outer_of last) z call) (sym e)
              (carries.above, subst (λ q. Entry carries.above callee call.below call.arguments call.memory q z) same near.at);
        })
    asks_last cost ahead room {w} {last} asked units need y o call go (Outside row frame) e carries =
        let none : unit_of call.callee ≡ 0 = ap unit_of e in
        comes_now X turn see stack heap y
        (record {
          theirs = 0;
          no_more = omega arith;
          enough = omega arith;
          lower = omega (arith, none);
          spare = cost;
          upper = omega (arith, room);
          at = subst (AskedAt cost (outer_of last) y call) (sym e)
              (λ v em eo made u is.
              subst (CarriesOutside S p pace file layout X turn see stack heap Below At Entry Back cost f below a go y) is
              (carries v em (eo ∙ sym (same_outer o))));
        })

    behind_room : (callee : Callee) (left : ℕ) → left_behind S words (pace.ahead f) callee left ≤ left + words * unit_of callee
    behind_room (Inside callee) left = omega arith
    behind_room (Outside row frame) left = omega arith

    -- it goes on after a call that came back
    goes_on : (k : ℕ) → LinkOf k → (call : Asked) (go : Doing → Step S) (stack' heap' cost left ahead : ℕ) → cost + left ≤ ahead →
        IsRegularStep S p c stack' heap' (Waits call go) → StepForward S words (pace.ahead f) left (Waits call go) →
        ((u : S) → StepLeadsTo S u (Waits call go) → IsReached S p f c u) →
        (last : World) (came : Came) (calls : List Came) (asked : List Asked) (units need : ℕ) (y : X) →
        stack' ≤ need → CallsBetween (file_surroundings file layout) bound came.after calls last → AllGiven IsGiven calls →
        heap_need call.memory ≤ heap_need (memory_after came.doing) → call ≡ asked_by came →
        (tally_of (run_onward (runs (p.step f c) k) (go came.doing) (tally (asked ++ call ∷ []) calls (units_of call.callee units) need))).asked ≡
        (asked ++ call ∷ []) ++ map asked_by calls →
        IsMoving (run_onward (runs (p.step f c) k) (go came.doing) (tally (asked ++ call ∷ []) calls (units_of call.callee units) need)) →
        EventuallyHolds X turn see stack heap came.after.stack_need (heap_need came.after.memory) came.after.made
        (Served (unit_of call.callee) cost came.before.left came.after.left (After (go came.doing) (outer_of came.after))) y →
        Reaches a f below last (came ∷ calls) units 0 0 ahead (run_onward (runs (p.step f c) k) (go came.doing)
        (tally (asked ++ call ∷ []) calls (units_of call.callee units) need)) y
    goes_on k ih call go stack' heap' cost left ahead room g forth reached last came calls asked units need y fits rest given grown head same m comes =
        let onto = called_later rest in
        let unit_is : unit_of (asked_by came).callee ≡ unit_of call.callee = ap (λ (q : Asked). unit_of q.callee) (sym head) in
        let one = units_came call.callee units in
        let paid : paid_by (go came.doing) + unit_of call.callee ≤ 1 = g.1 came.doing in
        let more = behind_room call.callee left in
        comes_on X turn see stack heap y (let st = onto.onward.stack in omega (arith, st))
        (let hp = extends_need onto.onward.memory in omega (arith, hp)) onto.onward.calls comes
        (λ n z served.
        comes_map X turn see stack heap z (omega arith) (omega arith) (Begins-same last.made)
        (after_step k ih (go came.doing) stack' heap' (left_behind S words (pace.ahead f) call.callee left) (g.2 came.doing grown) (forth came.doing)
        (λ u to. reached u (behind came.doing to)) (asked ++ call ∷ []) (units_of call.callee units) need z fits rest given same m served.at)
        (λ j z2 took.
        let upper = took.upper in
        let lower = took.lower in
        let no = took.no_more in
        let en = took.enough in
        let su = served.upper in
        let sl = served.lower in
        let sn = served.no_more in
        let se = served.enough in
        record {
          theirs = served.units + took.theirs;
          no_more = omega (arith, no, sn);
          enough = enough_on most (came.before.left - came.after.left) (spent_by calls) served.units (unit_of call.callee)
              (unit_of (asked_by came).callee) took.theirs (units_called calls) se en unit_is;
          lower = omega (arith, lower, sl, paid, one);
          spare = took.spare;
          upper =
              upper_on words n j took.spare units (units_of call.callee units) (unit_of call.callee) (unit_of (asked_by came).callee) cost left
              (left_behind S words (pace.ahead f) call.callee left) ahead served.units took.theirs (units_called calls) _ su upper room more one unit_is;
          at = took.at;
        }))

    -- a call, whatever it is of
    asks : (k : ℕ) → LinkOf k → (call : Asked) (go : Doing → Step S) (stack' heap' cost left ahead : ℕ) → cost + left ≤ ahead →
        IsRegularStep S p c stack' heap' (Waits call go) → StepForward S words (pace.ahead f) left (Waits call go) →
        ((u : S) → StepLeadsTo S u (Waits call go) → IsReached S p f c u) → {w last : World} {calls : List Came} (asked : List Asked) (units need : ℕ) (y : X) →
        stack' ≤ need → CallsBetween (file_surroundings file layout) bound w calls last → AllGiven IsGiven calls →
        (tally_of (run_onward (runs (p.step f c) k) (Waits call go) (tally asked calls units need))).asked ≡ asked ++ map asked_by calls →
        IsMoving (run_onward (runs (p.step f c) k) (Waits call go) (tally asked calls units need)) →
        AsksThis cost call go (outer_of w) y →
        Reaches a f below last calls units 0 0 ahead (run_onward (runs (p.step f c) k) (Waits call go) (tally asked calls units need)) y
    asks k ih call go stack' heap' cost left ahead room g forth reached asked units need y fits (no_more o) given same m carries =
        asks_last cost ahead (omega (arith, room)) asked units need y o call go call.callee refl carries
    asks k ih call go stack' heap' cost left ahead room g forth reached {w} {last} asked units need y fits
        (next {c = came} {calls = calls} o fewer fit did onto rest) given same m carries =
        let further = onward_further S (runs (p.step f c) k) (λ s t m. runs_further (p.step f c) k s t m) (go came.doing)
        (tally (asked ++ call ∷ []) calls (units_of call.callee units) need) m in
        let at = matched asked call (asked_by came) (map asked_by calls) _ further same in
        let heap_is : heap_need call.memory ≡ heap_need came.before.memory = ap (λ (q : Asked). heap_need q.memory) at.head
        ∙ ap heap_need (asked_memory came) in
        let after_is : heap_need (memory_after came.doing) ≡ heap_need came.after.memory = ap heap_need (memory_back did) in
        let later_heap = extends_need onto.onward.memory in
        goes_on k ih call go stack' heap' cost left ahead room g forth reached last came calls asked units need y fits rest given.1
        (omega (arith, heap_is, after_is, later_heap)) at.head at.tail m
        (by came.call refl fit did given.0 (subst (λ q. AsksThis cost q go (outer_of w) y) at.head carries)
        (ap (λ (q : Asked). unit_of q.callee) at.head))
      where
        by : (q : Call) → came.call ≡ q → FitsCall (file_surroundings file layout) q → CameBack (done_by (file_surroundings file layout) q came.before) came.doing came.after →
            IsGivenTo IsGiven q came.before →
            AsksThis cost (asked_in came.before.memory q) go (outer_of w) y →
            unit_of call.callee ≡ unit_of (asked_in came.before.memory q).callee →
            EventuallyHolds X turn see stack heap came.after.stack_need (heap_need came.after.memory) came.after.made
            (Served (unit_of call.callee) cost came.before.left came.after.left (After (go came.doing) (outer_of came.after))) y
        by (OfFunction called) e (fits_function fit) did known carries unit =
            let same = same_outer o in
            subst (λ n. EventuallyHolds X turn see stack heap came.after.stack_need (heap_need came.after.memory) came.after.made
            (Served n cost came.before.left came.after.left (After (go came.doing) (outer_of came.after))) y) (sym unit)
            (function_served cost called came.before y (λ d v z. After (go d) v z) carries.above
            (subst (λ v. EventuallyHolds X turn see stack heap 0 0 v.made (Near 1 cost
            (Entry carries.above called.function called.below called.arguments came.before.memory v)) y) same carries.enters)
            fewer fit known did onto (λ v z back. carries.resumes came.doing v z back))
        by (OfOutside row frame arguments) e fit did known carries unit =
            subst (λ n. EventuallyHolds X turn see stack heap came.after.stack_need (heap_need came.after.memory) came.after.made
            (Served n cost came.before.left came.after.left (After (go came.doing) (outer_of came.after))) y) (sym unit)
            (outside_served cost row frame arguments came.before y go (carries came.before refl (sym (same_outer o))) did)

    -- a call that takes the function's place
    tail_last : (cost ahead : ℕ) → cost ≤ ahead → {w last : World} (asked : List Asked) (units need : ℕ) (y : X) → OnItsOwn w last →
        (call : Asked) (callee : Callee) →
        call.callee ≡ callee → CarriesTail S p pace file layout X turn see stack heap Below At Entry Back cost a call callee (outer_of w) y →
        Reaches a f below last [] units 0 0 ahead (Asking call (tally asked [] units need)) y
    tail_last cost ahead room {w} {last} asked units need y o call (Inside callee) e carries =
        let same = same_outer o in
        let one : unit_of call.callee ≡ 1 = ap unit_of e in
        comes_map X turn see stack heap y (omega arith) (omega arith) (own_begins o) carries
        (λ n z near.
        let less = near.lower in
        let few = near.upper in
        record {
          theirs = 0;
          no_more = omega arith;
          enough = omega arith;
          lower = omega (arith, less, one);
          spare = 0;
          upper = omega (arith, few, room);
          at = subst (AskedAt 0 (outer_of last) z call) (sym e)
              (a, subst (λ q. Entry a callee call.below call.arguments call.memory q z) same near.at);
        })
    tail_last cost ahead room asked units need y o call (Outside row frame) e carries = absurd carries

    tails : (k : ℕ) (call : Asked) (kept : Ret) (cost ahead : ℕ) → cost ≤ ahead →
        {w last : World} {calls : List Came} (asked : List Asked) (units need : ℕ) (y : X) →
        CallsBetween (file_surroundings file layout) bound w calls last → AllGiven IsGiven calls →
        (tally_of (run_onward (runs (p.step f c) k) (FinishesBy call kept) (tally asked calls units need))).asked ≡ asked ++ map asked_by calls →
        TailsThis cost call (outer_of w) y →
        Reaches a f below last calls units 0 0 ahead (run_onward (runs (p.step f c) k) (FinishesBy call kept) (tally asked calls units need)) y
    tails k call kept cost ahead room asked units need y (no_more o) given same carries =
        tail_last cost ahead room asked units need y o call call.callee refl carries
    tails k call kept cost ahead room {w} {last} asked units need y (next {c = came} o fewer fit did onto (no_more own)) given same carries =
        let at = matched asked call (asked_by came) [] _ (record { more = []; is = sym (append-nil (asked ++ call ∷ [])) }) same in
        let unit_is : unit_of (asked_by came).callee ≡ unit_of call.callee = ap (λ (q : Asked). unit_of q.callee) (sym at.head) in
        let one = units_came call.callee units in
        comes_map X turn see stack heap y (let st = own.stack in omega (arith, st)) (let hp = extends_need own.memory in omega (arith, hp)) (own_begins own)
        (by came.call refl fit did given.0 (subst (λ q. TailsThis cost q (outer_of w) y) at.head carries)
        (ap (λ (q : Asked). unit_of q.callee) at.head))
        (λ n z served.
        let su = served.upper in
        let sl = served.lower in
        let sn = served.no_more in
        let se = served.enough in
        record {
          theirs = served.units + 0;
          no_more = omega (arith, sn);
          enough = enough_on most (came.before.left - came.after.left) 0 served.units (unit_of call.callee) (unit_of (asked_by came).callee) 0 0 se
              (omega arith) unit_is;
          lower = omega (arith, sl, one, unit_at_most call.callee);
          spare = 0;
          upper = let q = upper_on words n 0 0 units (units_of call.callee units) (unit_of call.callee) (unit_of (asked_by came).callee) cost 0
              (words * unit_of call.callee) ahead served.units 0 0 (units_of call.callee units) su (omega arith) (omega (arith, room)) (omega arith) one
              unit_is in
              omega (arith, q);
          at = subst (λ q. Back a (kept_of kept came.doing) q z) (same_outer own) (carry.kept a kept came.doing (outer_of came.after) z served.at);
        })
      where
        unit_at_most : (callee : Callee) → unit_of callee ≤ 1
        unit_at_most (Inside callee) = omega arith
        unit_at_most (Outside row frame) = omega arith

        by : (q : Call) → came.call ≡ q → FitsCall (file_surroundings file layout) q → CameBack (done_by (file_surroundings file layout) q came.before) came.doing came.after →
            IsGivenTo IsGiven q came.before →
            TailsThis cost (asked_in came.before.memory q) (outer_of w) y →
            unit_of call.callee ≡ unit_of (asked_in came.before.memory q).callee →
            EventuallyHolds X turn see stack heap came.after.stack_need (heap_need came.after.memory) came.after.made
            (Served (unit_of call.callee) cost came.before.left came.after.left (Back a came.doing (outer_of came.after))) y
        by (OfFunction called) e (fits_function fit) did known carries unit =
            let same = same_outer o in
            subst (λ n. EventuallyHolds X turn see stack heap came.after.stack_need (heap_need came.after.memory) came.after.made
            (Served n cost came.before.left came.after.left (Back a came.doing (outer_of came.after))) y) (sym unit)
            (function_served cost called came.before y (λ d v z. Back a d v z) a
            (subst (λ v. EventuallyHolds X turn see stack heap 0 0 v.made (Near 1 cost
            (Entry a called.function called.below called.arguments came.before.memory v)) y) same carries)
            fewer fit known did onto (λ v z back. back))
        by (OfOutside row frame arguments) e fit did known carries unit = absurd carries
    tails k call kept cost ahead room asked units need y (next {c = came} o fewer fit did onto
        (next {c = other} {calls = calls} own fewer2 fit2 did2 onto2 rest)) given same carries =
        let e : call ∷ [] ≡ asked_by came ∷ asked_by other ∷ map asked_by calls = append_cancel_left asked _ _ same in
        absurd (cc)

    -- ---- every step

    -- where none is owed
    owing : (owed units ahead : ℕ) (last : World) (calls : List Came) (r : RunProgress S) (y : X) → owed ≡ 0 → Reaches a f below last calls units 0 0 ahead r y →
        Reaches a f below last calls units owed 0 ahead r y
    owing owed units ahead last calls r y none reaches = subst (λ n. Reaches a f below last calls units n 0 ahead r y) (sym none) reaches

    acts : (k : ℕ) → LinkOf k → (x : Step S) (owed stack' heap' cost left ahead : ℕ) → cost + left ≤ ahead → IsRegularStep S p c stack' heap' x →
        StepForward S words (pace.ahead f) left x → ((u : S) → StepLeadsTo S u x → IsReached S p f c u) →
        (w last : World) (calls : List Came) (asked : List Asked) (units need : ℕ)
        (y : X) → stack' ≤ need → CallsBetween (file_surroundings file layout) bound w calls last → AllGiven IsGiven calls →
        (tally_of (run_onward (runs (p.step f c) k) x (tally asked calls units need))).asked ≡ asked ++ map asked_by calls →
        IsMoving (run_onward (runs (p.step f c) k) x (tally asked calls units need)) → CarriesThis owed cost x (outer_of w) y →
        Reaches a f below last calls units owed 0 ahead (run_onward (runs (p.step f c) k) x (tally asked calls units need)) y
    acts k ih (Continues u) owed stack' heap' cost left ahead room g forth reached w last calls asked units need y fits between given same m carries =
        let on = facts_of k u w last calls asked units need between same m in
        let n = on.need in
        let fit = g.0 in
        made_step k ih (Continues u) owed (owed - pace.owed f u) (omega arith) stack' heap' cost left ahead room g forth reached w last calls asked
        units need y fits between given same m (p.stack c u) (p.heap u)
        (omega (arith, n, fit, fits)) on.heap carries
    acts k ih (Pays u) owed stack' heap' cost left ahead room g forth reached w last calls asked units need y fits between given same m carries =
        let on = facts_of k u w last calls asked (suc units) need between same m in
        let n = on.need in
        let fit = g.0 in
        made_step k ih (Pays u) owed (suc owed - pace.owed f u) (omega arith) stack' heap' cost left ahead room g forth reached w last calls asked
        units need y fits between given same m (p.stack c u) (p.heap u)
        (omega (arith, n, fit, fits)) on.heap carries
    acts k ih (Deepens bytes u) owed stack' heap' cost left ahead room g forth reached w last calls asked units need y fits between given same m carries =
        let on = facts_of k u w last calls asked units (max need bytes) between same m in
        let n = on.need in
        let fit = g.0 in
        made_step k ih (Deepens bytes u) owed (owed - pace.owed f u) (omega arith) stack' heap' cost left ahead room g forth reached w last calls asked
        units need y fits between given same m (p.stack c u) (p.heap u)
        (omega (arith, n, fit, fits)) on.heap carries
    acts k ih (Waits call go) owed stack' heap' cost left ahead room g forth reached w last calls asked units need y fits between given same m carries =
        owing owed units ahead last calls _ y carries.0
        (asks k ih call go stack' heap' cost left ahead room g forth reached asked units need y fits between given same m carries.1)
    acts k ih (FinishesBy call kept) owed stack' heap' cost left ahead room g forth reached w last calls asked units need y fits between given same m carries =
        owing owed units ahead last calls _ y carries.0
        (tails k call kept cost ahead (omega (arith, room)) asked units need y between given same carries.1)
    acts k ih (Finishes d) owed stack' heap' cost left ahead room g forth reached w last calls asked units need y fits between given same m carries =
        let none = carries.0 in
        made_step k ih (Finishes d) owed 0 (omega (arith, none)) stack' heap' cost left ahead room g forth reached w last calls asked units need y
        fits between given same m 0 0 (omega arith) (omega arith) carries.1
    acts k ih (FinishesRaising d) owed stack' heap' cost left ahead room g forth reached w last calls asked units need y fits between given same m carries =
        let none = carries.0 in
        made_step k ih (FinishesRaising d) owed 1 (omega (arith, none)) stack' heap' cost left ahead room g forth reached w last calls asked units need y
        fits between given same m 0 0 (omega arith) (omega arith) carries.1
    acts k ih IsStuck owed stack' heap' cost left ahead room g forth reached w last calls asked units need y fits between given same m carries = absurd m

    stands : (s : S) {w last : World} {calls : List Came} (asked : List Asked) (units need ahead : ℕ) (x : X) →
        CallsBetween (file_surroundings file layout) bound w calls last →
        asked ≡ asked ++ map asked_by calls → At a f below s (outer_of w) x →
        Reaches a f below last calls units (pace.owed f s) 0 ahead (Running s (tally asked calls units need)) x
    stands s {w} {last} asked units need ahead x (no_more o) same at =
        comes_now X turn see stack heap x
        (record {
          theirs = 0;
          no_more = omega arith;
          enough = omega arith;
          lower = omega arith;
          spare = 0;
          upper = omega arith;
          at = subst (λ z. At a f below s z x) (same_outer o) at;
        })
    stands s asked units need ahead x (next {c = came} {calls = calls} o fewer fit did onto rest) same at = absurd
        (no_longer asked (asked_by came) (map asked_by calls) same)

    -- What a function does by the list of what its calls did, the machine does where it is before it.
    pub link : (k : ℕ) → LinkOf k
    link zero s w last calls asked units need x between given same m reached fits at = stands s asked units need (pace.ahead f s) x between same at
    link (suc k) s w last calls asked units need x between given same m reached fits at =
        let cost = forward.cost f c s reached in
        acts k (λ s w last calls asked units need x between given same m reached fits at. link k s w last calls asked units need x between given same m
        reached fits at) (p.step f c s)
        (pace.owed f s) (p.stack c s) (p.heap s) (pace.cost f s) (pace.ahead f s - pace.cost f s) (pace.ahead f s) (omega (arith, cost)) (regular.step f c s)
        (forward.on f c s reached)
        (λ u to. by_step reached to) w last calls asked units need x fits between given same m (carry.steps a f below s (outer_of w) x reached at)
