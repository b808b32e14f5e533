-- Where each function does what the function of the text does alone, the machine does what the whole run does.
use Rattle.std.proofs.Common.{◌≡◌, ◌⊎◌, inl, inr, ℕ, zero, suc, ◌+◌, ◌*◌, ◌≤◌, ◌<◌, Bool, true, List, [], Option, Some, max, map, refl, sym, ap, subst, ◌∙◌, arith}
use Rattle.std.proofs.Math.Nat.{mul-le-mul_left}
use Rattle.std.specs.Prelude.{slice_get}
use Rattle.std.specs.List.{AllByRecursion}
use Rattle.bs_words.specs.External.{External}
use Rattle.bs_words.specs.Memory.{Memory, heap_need}
use Rattle.bs_words.specs.Observed.{Made}
use Rattle.bs_words.specs.declared.types.Ret.{Ret}
use Rattle.bs_words.specs.declared.values.Kind.TheVariants.{BadCall}
use Rattle.bs_words.specs.declared.values.Value.{Value}
use Rattle.cmm_data.specs.Placement.{data_end}
use Rattle.cmm_tree.specs.Tree.{FunctionTree, FileTree, functions, comps_of}
use Rattle.cmm_meaning.specs.Alone.{IsProperEnd}
use Rattle.cmm_meaning.specs.Layout.{Layout}
use Rattle.cmm_meaning.specs.Run.{callees, outside}
use Rattle.cmm_meaning.specs.Setting.{setting_of}
use Rattle.cmm_meaning.specs.State.{Doing, Gave, Threw, Asked, Called, World, Here}
use Rattle.cmm_meaning.specs.Evaluation.{Stop, OutOfFuel, NotProper, NoAnswer, Asking, Evaluation, Gives, Raises, Stops, fit_parameters}
use Rattle.correctness.specs.Setting.{AreWords}
use Rattle.mach_ir.specs.Runs.{ActivationSetting, RunProgress, runs, first_tally}
use Rattle.meaning_fuel.specs.Whole.{file_surroundings}
use Rattle.meaning_laws.specs.Fitting.{memory_after, FitsCallee, Answered, answered, answered_raise, unfit, unanswered}
use Rattle.meaning_laws.specs.Handed.{AreHanded}
use Rattle.meaning_laws.specs.Links.{Call, OfFunction, OfOutside, asked_in, done_by, FitsCall, fits_function, Came, asked_by, doing_of, spent_by, EndsSo, StoppedIn, stopped, left_by_exit, Linked}
use Rattle.meaning_laws.specs.Links as links
use Rattle.meaning_laws.specs.Pace.{pending_calls}
use Rattle.meaning_laws.specs.Units.{Later, world_of}
use Rattle.meaning_laws.proofs.Extends.{extends_need}
use Rattle.meaning_laws.proofs.Handed.{callee_of, linked_handed}
use Rattle.meaning_laws.proofs.LinksCalled.{called_later}
use Rattle.meaning_laws.proofs.LinksCalls.{function_alone, whole_call_linked}
use Rattle.meaning_laws.proofs.LinksWhole.{whole_calls_fit}
use Rattle.meaning_laws.proofs.Units.{Begins-same}
use Rattle.rv_machine.specs.Run.{Seen}
use Rattle.rv_machine.specs.Services.{Running as Runs_on}
use Rattle.rv_machine.specs.Services as machine
use Rattle.linking.specs.Program.{Program, activation_in, tally_of, IsMoving, unit_of, IsRegularProgram}
use Rattle.linking.specs.Pace.{Words, at_start, ProgramGoesForward}
use Rattle.linking.specs.Keeps.{ProgramEndsAs, Same, ProgramKeeps}
use Rattle.linking.specs.Keeps as keeps
use Rattle.linking.specs.Carries.{Outer, outer_of, EventuallyHolds, Spends, DoesCall, Carries}
use Rattle.linking.proofs.Coming.{comes_on, comes_map}
use Rattle.linking.proofs.Running.{units_called, top_heap, facts}
use Rattle.linking.proofs.Following.{answered_left, extra, due, IsGivenTo, AllGiven, AskedAt, EndAt, Serves, link}

-- ---- arithmetic

-- a function that came to its own end
enough_ended : (most n left own spent u theirs k : ℕ) → n ≡ own + spent → own ≤ left + most * suc u → spent ≤ most * (2 * theirs + k) → k ≤ u →
    n ≤ left + most * (2 * (u + theirs) + 1)
enough_ended most n left own spent u theirs k e a b le =
    let kk : most * k ≤ most * u = mul-le-mul_left most le in
    omega (arith, e, a, b, kk)

-- a function in whose callee the run stopped
enough_asking : (most n mid left own spent u theirs k z : ℕ) → n ≡ own + spent → own ≤ mid + most * suc u → spent ≤ most * (2 * theirs + k) →
    mid ≤ left + most * (2 * z + 1) → k ≤ u → n ≤ left + most * (2 * (((u + theirs) + z) + 1) + 1)
enough_asking most n mid left own spent u theirs k z e a b c le =
    let kk : most * k ≤ most * u = mul-le-mul_left most le in
    omega (arith, e, a, b, c, kk)

upper_ended : (words count u theirs k : ℕ) → count ≤ words + words * (u + (2 * theirs + k)) → k ≤ u → count ≤ words * (2 * (u + theirs) + 1)
upper_ended words count u theirs k a le =
    let kk : words * k ≤ words * u = mul-le-mul_left words le in
    omega (arith, a, kk)

upper_asking : (words c1 c2 u theirs k z : ℕ) → c1 ≤ words + words * (u + (2 * theirs + k)) → c2 ≤ words * (2 * z + 1) → k ≤ u →
    c1 + c2 ≤ words * (2 * (((u + theirs) + z) + 1) + 1)
upper_asking words c1 c2 u theirs k z a b le =
    let kk : words * k ≤ words * u = mul-le-mul_left words le in
    omega (arith, a, b, kk)

-- ---- ends

stopped_so : {e : Evaluation} {why : Stop} {v : World} → StoppedIn e why v → (e ≡ Stops why v) ⊎ (why ≡ NotProper BadCall)
stopped_so stopped = inl refl
stopped_so left_by_exit = inr refl

answers_in_time : {end : ℕ} {result : Ret} {frame : Bool} {w v : World} {e : Evaluation} → Answered end result frame w e → e ≡ Stops OutOfFuel v → ⊥
answers_in_time (answered h further answers is) e = cc
answers_in_time (answered_raise v h further answers fit) e = cc
answers_in_time (unfit kind further answers) e = cc
answers_in_time (unanswered call) e = cc

same_call : {c d : Asked} {z u : World} {e : Evaluation} → e ≡ Stops (Asking c) z → e ≡ Stops (Asking d) u → c ≡ d
same_call one two = cc

moving : {S : Type 0} (p : Program S) {e : Evaluation} {r : RunProgress S} → ProgramEndsAs S p e r → IsMoving r
moving p (keeps.gives e) = tt
moving p (keeps.raises e) = tt
moving p (keeps.out_of_units le) = tt
moving p (keeps.asks e) = tt

-- ---- a link of which something is known

module _ (file : FileTree) (layout : Layout) (IsGiven : List Value → Memory → Type 0) (IsDone : Doing → Type 0) where
  -- its calls are given what is known, and what they did is known
  pub record KnownLink {bound : ℕ} {lone : List Doing → ℕ → Evaluation} {w : World} {e : Evaluation}
      (l : Linked (file_surroundings file layout) bound lone w e) : Type 0 where
    pub given : AllGiven IsGiven l.calls
    pub done : AllByRecursion IsDone (map doing_of l.calls)
    pub last : (q : Call) (u : World) → l.run ≡ Stops (Asking (asked_in l.last.memory q)) u → IsGivenTo IsGiven q l.last

  abbrev pub AreKnown : Type 0
  AreKnown =
      (call : Called) (tree : FunctionTree) (is : slice_get (functions file) call.function ≡ Some tree) →
      fit_parameters (data_end file) (comps_of tree) call.arguments ≡ true → (w : World) → IsGiven call.arguments w.memory → AreWords w.answers →
      KnownLink (whole_call_linked file layout call tree is w)

module _ (S : Type 0) (p : Program S) (pace : Words S) (file : FileTree) (layout : Layout)
    (X : Type 0) (turn : X → X) (see : X → Seen) (stack heap : ℕ) (Below : Type 0)
    (At : Below → ℕ → ℕ → S → Outer → X → Type 0)
    (Entry : Below → ℕ → ℕ → List Value → Memory → Outer → X → Type 0)
    (Back : Below → Doing → Outer → X → Type 0) (most words : ℕ) (IsGiven : List Value → Memory → Type 0) (IsDone : Doing → Type 0)
    (regular : IsRegularProgram S p) (forward : ProgramGoesForward S p pace words)
    (carry : Carries S p pace file layout X turn see stack heap Below At Entry Back)
    (keep : ProgramKeeps S p file layout most IsGiven IsDone) (known : AreKnown file layout IsGiven IsDone) where
  abbrev pub ServesHere : ℕ → Type 0
  ServesHere bound = Serves S p pace file layout X turn see stack heap Below At Entry Back most words IsGiven bound

  abbrev pub DoesSo : Below → World → X → Evaluation → Type 0
  DoesSo a w x e = DoesCall X turn see stack heap most words (Back a) w x e

  abbrev Ends : ℕ → Below → (f below : ℕ) → Outer → X → RunProgress S → Type 0
  Ends k a f below o y r = EndAt S p pace file layout X turn see stack heap Below At Entry Back most words IsGiven k a f below o y r

  abbrev Due : ℕ → RunProgress S → ℕ
  Due f r = due S p pace file layout X turn see stack heap Below At Entry Back most words IsGiven f r

  -- what a function and its callees took
  record Total (f : ℕ) (r : RunProgress S) (calls : List Came) (P : ℕ → X → Type 0) (count : ℕ) (x : X) : Type 0 where
    theirs : ℕ
    no_more : theirs ≤ spent_by calls
    enough : spent_by calls ≤ most * (2 * theirs + units_called calls)
    lower : ((tally_of r).units + extra r) + theirs ≤ count + Due f r
    spare : ℕ
    upper : count + spare ≤ words + words * ((tally_of r).units + (2 * theirs + units_called calls))
    at : P spare x

  -- a function that ran alone as far as it does: in the machine
  record Reached (a : Below) (f below : ℕ) (w last : World) (calls : List Came) (own : ℕ) (e : Evaluation) (x : X) : Type 0 where
    r : RunProgress S
    same : Same S p most own e r
    counted : units_called calls ≤ (tally_of r).units
    comes : EventuallyHolds X turn see stack heap (max (tally_of r).need last.stack_need) (max (top_heap p r) (heap_need last.memory)) last.made
        (Total f r calls (λ k y. Ends k a f below (outer_of last) y r)) x

  reached : (call : Called) (tree : FunctionTree) (is : slice_get (functions file) call.function ≡ Some tree) →
      fit_parameters (data_end file) (comps_of tree) call.arguments ≡ true → (w : World) → ServesHere w.left → IsGiven call.arguments w.memory →
      (a : Below) (x : X) → Entry a call.function call.below call.arguments w.memory (outer_of w) x → {e : Evaluation}
      (l : Linked (file_surroundings file layout) w.left (function_alone file layout call tree w.memory) w e) → KnownLink file layout IsGiven IsDone l →
      IsProperEnd l.run →
      Reached a call.function call.below w l.last l.calls l.own l.run x
  reached call tree is fit w serves given a x entry l know ok =
      let c : ActivationSetting = activation_in file layout call.function call.below in
      let doings : List Doing = map doing_of l.calls in
      let lone : Evaluation = function_alone file layout call tree w.memory doings l.own in
      let handed : AreHanded file (world_of lone).asked doings = subst (λ (e : Evaluation). AreHanded file (world_of e).asked doings) (sym l.is)
      (linked_handed file layout l) in
      let runs_so = keep.runs call.function tree is call.arguments fit call.below w.memory doings l.own given know.done
      (subst IsProperEnd (sym l.is) ok) handed in
      let r : RunProgress S = runs (p.step call.function c) runs_so.steps runs_so.begun (first_tally c doings) in
      let same : Same S p most l.own l.run r = subst (λ (e : Evaluation). Same S p most l.own e r) l.is runs_so.same in
      let m : IsMoving r = moving p same.end in
      let calls : (tally_of r).asked ≡ map asked_by l.calls = same.calls ∙ l.asked in
      let fits = regular.start call.function c call.arguments w.memory runs_so.begun runs_so.begins in
      let fact = facts S p (p.step call.function c) c (λ s. regular.step call.function c s) (file_surroundings file layout) w.left runs_so.steps runs_so.begun w
      l.last l.calls [] 0 (c.below + c.frame) l.called calls m in
      let forth = forward.enter call.function c call.arguments w.memory runs_so.begun runs_so.begins in
      let onto = called_later l.called in
      let counted = fact.units in
      record {
        r = r;
        same = same;
        counted = omega (arith, counted);
        comes =
            comes_on X turn see stack heap x (let n = fact.need in omega (arith, n, fits)) (let h = fact.heap in omega (arith, h)) onto.onward.calls
            (carry.enters a call.function call.below call.arguments w.memory runs_so.begun (outer_of w) x runs_so.begins entry)
            (λ n y near.
            comes_map X turn see stack heap y (omega arith) (omega arith) (Begins-same l.last.made)
            (link S p pace file layout X turn see stack heap Below At Entry Back most words IsGiven regular forward carry w.left serves a call.function
            call.below runs_so.steps
            runs_so.begun w l.last l.calls [] 0 (c.below + c.frame) y l.called know.given calls m (at_start runs_so.begins) fits near.at)
            (λ d z took.
            let few = near.upper in
            let lo = took.lower in
            let up = took.upper in
            record {
              theirs = took.theirs;
              no_more = took.no_more;
              enough = took.enough;
              lower = omega (arith, lo);
              spare = took.spare;
              upper = omega (arith, up, few, forth);
              at = took.at;
            }));
      }

  -- ---- the ends

  -- the heap that a function has come to is that of the text
  heap_reached : (w last : World) (own : ℕ) (e : Evaluation) {r : RunProgress S} → ProgramEndsAs S p e r → (world_of e).memory ≡ last.memory →
      ((call : Asked) (u : World) → e ≡ Stops (Asking call) u → call.memory ≡ last.memory) → top_heap p r ≤ heap_need last.memory
  heap_reached w last own _ (keeps.gives {v = v} {h = h} {u = u} {d = d} is) same asked =
      let a : heap_need (memory_after d) ≡ heap_need u.memory = ap (λ (d : Doing). heap_need (memory_after d)) is in
      let b : heap_need u.memory ≡ heap_need last.memory = ap heap_need same in
      omega (arith, a, b)
  heap_reached w last own _ (keeps.raises {v = v} {h = h} {u = u} {d = d} is) same asked =
      let a : heap_need (memory_after d) ≡ heap_need u.memory = ap (λ (d : Doing). heap_need (memory_after d)) is in
      let b : heap_need u.memory ≡ heap_need last.memory = ap heap_need same in
      omega (arith, a, b)
  heap_reached w last own _ (keeps.out_of_units {u = u} le) same asked =
      let b : heap_need u.memory ≡ heap_need last.memory = ap heap_need same in
      omega (arith, b, le)
  heap_reached w last own _ (keeps.asks {u = u} {call = call} {asked = q} is) same asked =
      let a : heap_need call.memory ≡ heap_need q.memory = ap (λ (c : Asked). heap_need c.memory) is in
      let b : heap_need q.memory ≡ heap_need last.memory = ap heap_need (asked q u refl) in
      omega (arith, a, b)

  gave_back : (k f below : ℕ) (a : Below) (o : Outer) (y : X) {v : Option Value} {h : Here} {u : World} {r : RunProgress S} → ProgramEndsAs S p (Gives v h u) r →
      Ends k a f below o y r →
      Back a (Gave v u.memory) o y
  gave_back k f below a o y (keeps.gives e) at = subst (λ d. Back a d o y) e at

  threw_back : (k f below : ℕ) (a : Below) (o : Outer) (y : X) {v : Value} {h : Here} {u : World} {r : RunProgress S} → ProgramEndsAs S p (Raises v h u) r →
      Ends k a f below o y r →
      Back a (Threw v u.memory) o y
  threw_back k f below a o y (keeps.raises e) at = subst (λ d. Back a d o y) e at

  still_runs : (k f below : ℕ) (a : Below) (o : Outer) (y : X) {u : World} {r : RunProgress S} → ProgramEndsAs S p (Stops OutOfFuel u) r → Ends k a f below o y r →
      see y ≡ record { calls = o.made; end = Runs_on }
  still_runs k f below a o y (keeps.out_of_units {s = s} le) at = carry.runs a f below s o y at

  asked_there : (k f below : ℕ) (a : Below) (o : Outer) (y : X) {u : World} {asked : Asked} {r : RunProgress S} → ProgramEndsAs S p (Stops (Asking asked) u) r →
      Ends k a f below o y r →
      AskedAt S p pace file layout X turn see stack heap Below At Entry Back most words IsGiven k o y asked asked.callee
  asked_there k f below a o y (keeps.asks e) at =
      subst (λ (q : Asked). AskedAt S p pace file layout X turn see stack heap Below At Entry Back most words IsGiven k o y q q.callee) e at

  -- where it ends or asks, no unit is owed, and else one at most
  due_gives : (f : ℕ) {v : Option Value} {h : Here} {u : World} {r : RunProgress S} → ProgramEndsAs S p (Gives v h u) r → Due f r ≤ 0
  due_gives f (keeps.gives e) = omega arith

  due_raises : (f : ℕ) {v : Value} {h : Here} {u : World} {r : RunProgress S} → ProgramEndsAs S p (Raises v h u) r → Due f r ≤ 0
  due_raises f (keeps.raises e) = omega arith

  due_out : (f : ℕ) {u : World} {r : RunProgress S} → ProgramEndsAs S p (Stops OutOfFuel u) r → Due f r ≤ 1
  due_out f (keeps.out_of_units {s = s} le) = forward.owed f s

  due_asked : (f : ℕ) {u : World} {asked : Asked} {r : RunProgress S} → ProgramEndsAs S p (Stops (Asking asked) u) r → Due f r ≤ 0
  due_asked f (keeps.asks e) = omega arith

  extra_asked : {u : World} {asked : Asked} {r : RunProgress S} → ProgramEndsAs S p (Stops (Asking asked) u) r → extra r ≡ unit_of asked.callee
  extra_asked (keeps.asks e) = ap (λ (c : Asked). unit_of c.callee) e

  -- What is known of a run alone beside the whole run, where the last world of its own is `last`.
  record Stands (w last : World) (calls : List Came) (own : ℕ) (e : Evaluation) : Type 0 where
    units : w.left ≡ own + spent_by calls
    left : (world_of e).left ≡ last.left
    memory : (world_of e).memory ≡ last.memory
    stack_need : (world_of e).stack_need ≤ last.stack_need

  module _ (f below : ℕ) (a : Below) (w last : World) (calls : List Came) (own : ℕ) (e : Evaluation) (x : X) (s : Stands w last calls own e)
      (r : Reached a f below w last calls own e x) where
    stack_fits : max (tally_of r.r).need last.stack_need ≤ last.stack_need
    stack_fits = let st = r.same.stack in let more = s.stack_need in omega (arith, st, more)

    heap_fits : ((call : Asked) (u : World) → e ≡ Stops (Asking call) u → call.memory ≡ last.memory) →
        max (top_heap p r.r) (heap_need last.memory) ≤ heap_need last.memory
    heap_fits asked = let hp = heap_reached w last own e r.same.end s.memory asked in omega (arith, hp)

    -- the function ends
    finish : (P : X → Type 0) (owed : ℕ) → Due f r.r ≤ owed → pending_calls e ≡ 0 → ((call : Asked) (u : World) → e ≡ Stops (Asking call) u → ⊥) →
        ((k : ℕ) (y : X) → Ends k a f below (outer_of last) y r.r → P y) →
        EventuallyHolds X turn see stack heap last.stack_need (heap_need last.memory) last.made (Spends owed most words w.left last.left P) x
    finish P owed at_most none ends to =
        comes_map X turn see stack heap x stack_fits (heap_fits (λ call u is. absurd (ends call u is))) (Begins-same last.made) r.comes
        (λ n y took.
        let no = took.no_more in
        let own_no = r.same.no_more in
        let own_enough = r.same.enough in
        let units = s.units in
        let left = s.left in
        let lo = took.lower in
        let up = took.upper in
        record {
          units = (tally_of r.r).units + took.theirs;
          no_more = omega (arith, no, own_no, units, left);
          enough = enough_ended most w.left last.left own (spent_by calls) (tally_of r.r).units took.theirs (units_called calls) units
              (omega (arith, own_enough, left)) took.enough r.counted;
          lower = omega (arith, lo, at_most);
          upper = upper_ended words n (tally_of r.r).units took.theirs (units_called calls) (omega (arith, up)) r.counted;
          at = to took.spare y took.at;
        })

    -- the run stops in a callee
    onward : (call : Called) (u v : World) (P : X → Type 0) (owed : ℕ) → e ≡ Stops (Asking (asked_in last.memory (OfFunction call))) u → Later last v →
        ((b : Below) (y : X) → Entry b call.function call.below call.arguments last.memory (outer_of last) y →
        EventuallyHolds X turn see stack heap v.stack_need (heap_need v.memory) v.made (Spends owed most words last.left v.left P) y) →
        EventuallyHolds X turn see stack heap v.stack_need (heap_need v.memory) v.made (Spends owed most words w.left v.left P) x
    onward call u v P owed is later on =
        let st = stack_fits in
        let hp = heap_fits (λ c z ez. ap (λ (q : Asked). q.memory) (same_call ez is)) in
        let st2 = later.onward.stack in
        let hp2 = extends_need later.onward.memory in
        comes_on X turn see stack heap x (omega (arith, st, st2)) (omega (arith, hp, hp2)) later.onward.calls r.comes
        (λ n y took.
        let end : ProgramEndsAs S p (Stops (Asking (asked_in last.memory (OfFunction call))) u) r.r = subst (λ z. ProgramEndsAs S p z r.r) is r.same.end in
        let at = asked_there took.spare f below a (outer_of last) y end took.at in
        let one : extra r.r ≡ 1 = extra_asked end in
        let none_due : Due f r.r ≤ 0 = due_asked f end in
        let pend : pending_calls e ≡ 1 = ap pending_calls is in
        comes_map X turn see stack heap y (omega arith) (omega arith) (Begins-same v.made) (on at.0 y at.1)
        (λ d z spends.
        let no = took.no_more in
        let own_no = r.same.no_more in
        let own_enough = r.same.enough in
        let units = s.units in
        let left = s.left in
        let lo = took.lower in
        let up = took.upper in
        let cno = spends.no_more in
        let clo = spends.lower in
        record {
          units = (((tally_of r.r).units + took.theirs) + spends.units) + 1;
          no_more = omega (arith, no, own_no, units, left, cno, pend);
          enough =
              enough_asking most w.left last.left v.left own (spent_by calls) (tally_of r.r).units took.theirs (units_called calls) spends.units units
              (omega (arith, own_enough, left))
              took.enough spends.enough r.counted;
          lower = omega (arith, lo, clo, one, none_due);
          upper = upper_asking words n d (tally_of r.r).units took.theirs (units_called calls) spends.units (omega (arith, up)) spends.upper r.counted;
          at = spends.at;
        }))

    -- the run stops at an external call that wants an answer
    unanswered_there : (row : External) (frame : Bool) (arguments : List Value) (made : Made) (u v : World) →
        e ≡ Stops (Asking (asked_in last.memory (OfOutside row frame arguments))) u → Later last v →
        outside (data_end file) layout row frame arguments last ≡ Stops (NoAnswer made) v →
        EventuallyHolds X turn see stack heap v.stack_need (heap_need v.memory) v.made
        (Spends 0 most words w.left v.left (λ (y : X). see y ≡ record { calls = v.made; end = machine.Asks made })) x
    unanswered_there row frame arguments made u v is later no_answer =
        let st = stack_fits in
        let hp = heap_fits (λ c z ez. ap (λ (q : Asked). q.memory) (same_call ez is)) in
        let st2 = later.onward.stack in
        let hp2 = extends_need later.onward.memory in
        let same_left : v.left ≡ last.left = ap (λ z. (world_of z).left) (sym no_answer)
        ∙ answered_left ((whole_calls_fit file layout).answers row frame arguments last) in
        comes_on X turn see stack heap x (omega (arith, st, st2)) (omega (arith, hp, hp2)) later.onward.calls r.comes
        (λ n y took.
        let end : ProgramEndsAs S p (Stops (Asking (asked_in last.memory (OfOutside row frame arguments))) u) r.r = subst (λ z. ProgramEndsAs S p z r.r) is r.same.end in
        let at = asked_there took.spare f below a (outer_of last) y end took.at in
        comes_map X turn see stack heap y (omega arith) (omega arith) (Begins-same v.made) (at last refl refl made v no_answer)
        (λ d z near.
        let no = took.no_more in
        let own_no = r.same.no_more in
        let own_enough = r.same.enough in
        let units = s.units in
        let left = s.left in
        let lo = took.lower in
        let up = took.upper in
        let few = near.upper in
        let none_due : Due f r.r ≤ 0 = due_asked f end in
        record {
          units = (tally_of r.r).units + took.theirs;
          no_more = omega (arith, no, own_no, units, left, same_left);
          enough =
              enough_ended most w.left v.left own (spent_by calls) (tally_of r.r).units took.theirs (units_called calls) units
              (omega (arith, own_enough, left, same_left)) took.enough r.counted;
          lower = omega (arith, lo, none_due);
          upper = upper_ended words (n + d) (tally_of r.r).units took.theirs (units_called calls) (omega (arith, up, few)) r.counted;
          at = near.at;
        }))

  -- ---- the whole run of a function

  module _ (f below : ℕ) (a : Below) (w : World) (x : X) (serves : ServesHere w.left) where
    -- the run stops in a callee, so
    stopped_in : (last v : World) (calls : List Came) (own : ℕ) (q : Call) (u : World) (why : Stop) →
        Stands w last calls own (Stops (Asking (asked_in last.memory q)) u) →
        Reached a f below w last calls own (Stops (Asking (asked_in last.memory q)) u) x → Later last v → last.left < w.left →
        FitsCall (file_surroundings file layout) q → IsGivenTo IsGiven q last →
        StoppedIn (done_by (file_surroundings file layout) q last) why v → DoesSo a w x (Stops why v)
    stopped_in last v calls own (OfFunction call) u OutOfFuel s r later fewer (fits_function fit) given st =
        onward f below a w last calls own _ x s r call u v _ 1 refl later
        (λ b y entry. stops_so b y (stopped_so st) (serves b call last y fewer fit given entry))
      where
        stops_so : (b : Below) (y : X) {z : Evaluation} → (z ≡ Stops OutOfFuel v) ⊎ (OutOfFuel ≡ NotProper BadCall) → DoesSo b last y z →
            DoesSo b last y (Stops OutOfFuel v)
        stops_so b y (inl e) does = subst (DoesSo b last y) e does
        stops_so b y (inr e) does = absurd (cc)
    stopped_in last v calls own (OfFunction call) u (NoAnswer made) s r later fewer (fits_function fit) given st =
        onward f below a w last calls own _ x s r call u v _ 0 refl later
        (λ b y entry. stops_so b y (stopped_so st) (serves b call last y fewer fit given entry))
      where
        stops_so : (b : Below) (y : X) {z : Evaluation} → (z ≡ Stops (NoAnswer made) v) ⊎ (NoAnswer made ≡ NotProper BadCall) → DoesSo b last y z →
            DoesSo b last y (Stops (NoAnswer made) v)
        stops_so b y (inl e) does = subst (DoesSo b last y) e does
        stops_so b y (inr e) does = absurd (cc)
    stopped_in last v calls own (OfOutside row frame arguments) u OutOfFuel s r later fewer fit given st = in_time (stopped_so st)
      where
        in_time : (outside (data_end file) layout row frame arguments last ≡ Stops OutOfFuel v) ⊎ (OutOfFuel ≡ NotProper BadCall) →
            DoesSo a w x (Stops OutOfFuel v)
        in_time (inl e) = absurd (answers_in_time ((whole_calls_fit file layout).answers row frame arguments last) e)
        in_time (inr e) = absurd (cc)
    stopped_in last v calls own (OfOutside row frame arguments) u (NoAnswer made) s r later fewer fit given st = wants (stopped_so st)
      where
        wants : (outside (data_end file) layout row frame arguments last ≡ Stops (NoAnswer made) v) ⊎ (NoAnswer made ≡ NotProper BadCall) →
            DoesSo a w x (Stops (NoAnswer made) v)
        wants (inl e) = unanswered_there f below a w last calls own _ x s r row frame arguments made u v refl later e
        wants (inr e) = absurd (cc)
    stopped_in last v calls own q u (NotProper kind) s r later fewer fit given st = tt
    stopped_in last v calls own q u (Asking asked) s r later fewer fit given st = tt

    by_end : (last : World) (calls : List Came) (own : ℕ) (e all : Evaluation) → Stands w last calls own e →
        (IsProperEnd e → Reached a f below w last calls own e x) →
        ((q : Call) (u : World) → e ≡ Stops (Asking (asked_in last.memory q)) u → IsGivenTo IsGiven q last) →
        EndsSo (file_surroundings file layout) w.left last e all → DoesSo a w x all
    by_end last calls own e all s reach given (links.gives {v = v} {h = h} {u = u}) =
        let r = reach tt in
        let same_memory : Gave v u.memory ≡ Gave v last.memory = ap (Gave v) s.memory in
        finish f below a w last calls own (Gives v h u) x s r (Back a (Gave v last.memory) (outer_of last))
        0 (due_gives f r.same.end) refl (λ call z is. absurd (cc))
        (λ k y end. subst (λ d. Back a d (outer_of last) y) same_memory (gave_back k f below a (outer_of last) y r.same.end end))
    by_end last calls own e all s reach given (links.raises {v = v} {h = h} {u = u}) =
        let r = reach tt in
        let same_memory : Threw v u.memory ≡ Threw v last.memory = ap (Threw v) s.memory in
        finish f below a w last calls own (Raises v h u) x s r (Back a (Threw v last.memory) (outer_of last))
        0 (due_raises f r.same.end) refl (λ call z is. absurd (cc))
        (λ k y end. subst (λ d. Back a d (outer_of last) y) same_memory (threw_back k f below a (outer_of last) y r.same.end end))
    by_end last calls own e all s reach given links.exits = tt
    by_end last calls own e all s reach given links.improper = tt
    by_end last calls own e all s reach given (links.out_of_units {u = u}) =
        let r = reach tt in
        finish f below a w last calls own (Stops OutOfFuel u) x s r (λ y. see y ≡ record { calls = last.made; end = Runs_on })
        1 (due_out f r.same.end) refl (λ call z is. absurd (cc))
        (λ k y end. still_runs k f below a (outer_of last) y r.same.end end)
    by_end last calls own e all s reach given (links.in_callee {u = u} {v = v} {why = why} q fewer fit st later) =
        stopped_in last v calls own q u why s (reach tt) later fewer fit (given q u refl) st

  called : (call : Called) (a : Below) (w : World) (x : X) → ServesHere w.left → FitsCallee (setting_of (file_surroundings file layout)) call.function call.arguments →
      IsGivenTo IsGiven (OfFunction call) w → Entry a call.function call.below call.arguments w.memory (outer_of w) x →
      DoesSo a w x (callees file layout (suc w.left) call w)
  called call a w x serves fits given entry =
      let found = callee_of file layout call.function call.arguments fits in
      let l = whole_call_linked file layout call found.tree found.is w in
      let know = known call found.tree found.is found.fit w given.0 given.1 in
      let stands : Stands w l.last l.calls l.own l.run = record {
        units = l.units;
        left = l.left;
        memory = l.memory;
        stack_need = let n = l.need in
            omega (arith, n);
      } in
      by_end call.function call.below a w x serves l.last l.calls l.own l.run (callees file layout (suc w.left) call w) stands
      (reached call found.tree found.is found.fit w serves given.0 a x entry l know) know.last l.ends

  -- where fewer units than these are left
  pub serving : (depth : ℕ) → ServesHere depth
  serving zero a call w x less fit given entry = absurd (omega (arith, less))
  serving (suc depth) a call w x less fit given entry =
      called call a w x (λ b call v y fewer. serving depth b call v y (omega (arith, fewer, less))) fit given entry

  -- The machine does what the whole run of a function does.
  pub does_whole : (call : Called) (a : Below) (w : World) (x : X) → FitsCallee (setting_of (file_surroundings file layout)) call.function call.arguments →
      IsGivenTo IsGiven (OfFunction call) w → Entry a call.function call.below call.arguments w.memory (outer_of w) x →
      DoesSo a w x (callees file layout (suc w.left) call w)
  does_whole call a w x fits given entry = serving (suc w.left) a call w x (omega arith) fits given entry
