-- The machine carries the Linear program out, where it follows each line.
use Rattle.std.proofs.Common.{◌≡◌, ◌⊎◌, inl, inr, ⊎_elim, ℕ, zero, suc, ◌+◌, ◌-◌, ◌<◌, ◌≤◌, Bool, true, false, ◌||◌, not, List, [], ◌∷◌, Option, Some, None, length, map, slice_index, refl, ap, sym, subst, ◌∙◌, append-nil, arith}
use Rattle.std.specs.List.{AllByRecursion}
use Rattle.bs_words.specs.Memory.{Memory, heap_need}
use Rattle.bs_words.specs.Observed.{Made}
use Rattle.bs_words.specs.declared.types.Ret.{Ret}
use Rattle.bs_words.specs.declared.types.Ret.TheVariants as ret
use Rattle.bs_words.specs.declared.values.Obs.TheVariants as obs
use Rattle.bs_words.specs.declared.values.Value.{Value}
use Rattle.bs_words.specs.declared.values.Value.TheVariants.{Word, Block, Function}
use Rattle.cmm_tree.specs.Tree.{FileTree}
use Rattle.cmm_meaning.specs.Layout.{observed}
use Rattle.cmm_meaning.specs.State.{Doing, Gave, Threw, Asked, Callee, Inside, Outside}
use Rattle.correctness.specs.Setting.{layout_of, AreWords}
use Rattle.guarded_machine.specs.Guarded.{guarded_after, guarded_of}
use Rattle.image_form.specs.Tables.{Tables, Func}
use Rattle.lin_ir.specs.Meaning.{Locations, NamedAt, State, lin_act, wrote, on_act, unless_misnamed, on_values, at_code, put_all, code_at, clear_destroyed, destroyed_by, past_frame, passes_frame, are_vals, values}
use Rattle.lin_ir.specs.declared.lin.Lin.{Lin}
use Rattle.lin_ir.specs.declared.lin.Line.{Line}
use Rattle.bs_words.specs.declared.types.Loc.{Loc}
use Rattle.mach_ir.specs.Acts.{Around, Act, Goes, Pushes, Jumps, Unwinds, Asks, Replaces, Ends, EndsRaising, Stuck}
use Rattle.mach_ir.specs.Runs.{ActivationSetting, stack_in_use, bytes_below, kept_of, Step, Continues, Pays, Deepens, Waits, FinishesBy, Finishes, FinishesRaising, IsStuck}
use Rattle.machine_laws.specs.Steps.{moments}
use Rattle.moving_laws.specs.Values.{HasFunctions, function_at}
use Rattle.rv_machine.specs.Loading.{IsRoom}
use Rattle.rv_machine.specs.Memory.{code_start}
use Rattle.rv_machine.specs.Places.{stack_bottom}
use Rattle.rv_machine.specs.Run.{seen}
use Rattle.rv_machine.specs.Services.{Machine, Now, Going, Over}
use Rattle.rv_machine.specs.Services as machine
use Rattle.rv_machine.specs.Sound.{AllWords, IsStackBase}
use Rattle.lin_machine.specs.Arrival.{Needs, needs_nothing, ArrivalIn, Gone, ArrivesIn}
use Rattle.lin_machine.specs.Follows.{IsAt, used, needs_of, FollowsCall, FollowsTail}
use Rattle.lin_machine.specs.Follows as follows
use Rattle.lin_machine.specs.Outside.{observed_argument}
use Rattle.lin_machine.specs.Relation.{Below, Laid}
use Rattle.lin_machine.specs.View.{Fixed, View}
use Rattle.linking.specs.Assembled.{Setup}
use Rattle.linking.specs.Carries.{Outer, Out, no_stack, no_heap, EventuallyHolds, Near, IsAfterStep, CarriesCall, CarriesTail, CarriesStep}
use Rattle.linking.specs.Pace.{Words}
use Rattle.linking.specs.Program.{activation_in}
use Rattle.linking_stages.specs.Stages.{linear_program}
use Rattle.line_calls.specs.Calls.{IsInTable}
use Rattle.linking_machine.specs.Emitted.{IsImageEmitted}
use Rattle.linking_machine.specs.Standing.{Shows, fixed_of, At, Entry, Back}

-- ---- what is where a call is asked

abbrev pub AskedSo : ActivationSetting → ℕ → Around → Step State → Type 0
AskedSo c n a (Waits call go) = call.below ≡ bytes_below call.callee false c a
AskedSo c n a (FinishesBy call kept) = call.below ≡ bytes_below call.callee true c a
AskedSo c n a _ = Unit {0}

wrote_asked : (c : ActivationSetting) (n : ℕ) (b a : Around) (rest : List Line) (o : Option Locations) → AskedSo c n b (wrote rest a o)
wrote_asked c n b a rest None = tt
wrote_asked c n b a rest (Some f) = tt

act_asked : (c : ActivationSetting) (m : Lin) (i : Line) (next : List Line) (f : Locations) (a : Around) (x : Act) → AskedSo c 0 a (on_act c m i next f a x)
act_asked c m i next f a (Goes vs to after) = wrote_asked c 0 a after (code_at m.code next to)
    (put_all c.setting.end i.results vs (clear_destroyed (destroyed_by i.op) f))
act_asked c m i next f a (Pushes after) = tt
act_asked c m i next f a (Jumps to after) = tt
act_asked c m i next f a (Unwinds after) = tt
act_asked c m i next f a (Asks callee vs go) = refl
act_asked c m i next f a (Replaces callee vs kept) = refl
act_asked c m i next f a (Ends d) = tt
act_asked c m i next f a (EndsRaising d) = tt
act_asked c m i next f a Stuck = tt

misnamed_asked : (c : ActivationSetting) (a : Around) (b : Bool) (x : Step State) → AskedSo c 0 a x → AskedSo c 0 a (unless_misnamed b x)
misnamed_asked c a true x s = s
misnamed_asked c a false x s = tt

values_asked : (c : ActivationSetting) (names : List Loc) (m : Lin) (i : Line) (next : List Line) (f : Locations) (a : Around) (o : Option (List Value)) →
    AskedSo c 0 a (on_values c names m i next f a o)
values_asked c names m i next f a None = tt
values_asked c names m i next f a (Some vs) =
    misnamed_asked c a (not (passes_frame i.op) || are_vals c.setting.end names f) _
    (act_asked c m i next (past_frame (passes_frame i.op) names f) a (lin_act c.setting i.op vs a))

pub code_asked : (c : ActivationSetting) (named : NamedAt) (m : Lin) (rest : List Line) (f : Locations) (a : Around) → AskedSo c 0 a (at_code c named m rest f a)
code_asked c named m [] f a = tt
code_asked c named m (i ∷ next) f a = values_asked c (named (length next)) m i next f a (values c.setting.end f i.args)

-- ---- what is shown

function_shown : (funcs : List Func) (f : ℕ) → f < length funcs → function_at funcs f ≡ slice_index (map (λ (row : Func). code_start + row.offset) funcs) f
function_shown [] f l = absurd (omega (arith, l))
function_shown (row ∷ funcs) zero l = refl
function_shown (row ∷ funcs) (suc f) l = function_shown funcs f (omega (arith, l))

value_shown : (image : Tables) (v : Value) → IsInTable image v → observed_argument image v ≡ observed (layout_of image) v
value_shown image (Word w) l = refl
value_shown image (Block serial offset) l = refl
value_shown image (Function f) l = ap obs.Word (function_shown image.funcs f l)

pub values_shown : (image : Tables) (vs : List Value) → AllByRecursion (IsInTable image) vs → map (observed_argument image) vs ≡ map (observed (layout_of image)) vs
values_shown image [] all = refl
values_shown image (v ∷ vs) all = ap (λ x. x ∷ map (observed_argument image) vs) (value_shown image v all.0)
    ∙ ap (λ xs. observed (layout_of image) v ∷ xs) (values_shown image vs all.1)

pub words_all : (words : List ℕ) → AreWords words → AllWords words
words_all [] all i = omega arith
words_all (w ∷ words) all zero = all.0
words_all (w ∷ words) all (suc i) = words_all words all.1 i

-- ---- arrivals

module _ (s : Fixed) (stack : ℕ) where
  abbrev pub ComesTo : ℕ → ℕ → List Made → (ℕ → Now → Type 0) → Now → Type 0
  ComesTo st hp made P x = EventuallyHolds Now (guarded_of s.schedule) seen stack s.heap st hp made P x

  gone_out : {q : Needs} {v : View} {a : Machine} (st hp : ℕ) (o : Outer) (g : Gone s q v a) → v.calls ≡ o.made →
      (q.top < s.base + q.stack → stack < st) → (s.heap < q.heap → s.heap < hp) →
      Out Now (guarded_of s.schedule) seen stack s.heap st hp o.made (Over v.calls g.end)
  gone_out {q} {v} st hp o g calls one two = ⊎_elim
      (λ w. no_stack (one w.1) w.0 ([], sym calls ∙ sym (append-nil v.calls)))
      (λ w. no_heap (two w.1) w.0 ([], sym calls ∙ sym (append-nil v.calls)))
      g.want

  pub arrives_comes : {q : Needs} {least n : ℕ} (most st hp : ℕ) {P Q : View → Type 0} {R : Now → Type 0} (o : Outer) (x : Now) → n ≤ most →
      (sh : Shows s o Q x) → ArrivesIn least n s q sh.view P →
      (q.top < s.base + q.stack → stack < st) → (s.heap < q.heap → s.heap < hp) → ((y : Now) → Shows s o P y → R y) →
      ComesTo st hp o.made (Near least most R) x
  arrives_comes {q} {least} {n} most st hp {P} {Q} {R} o x few sh arrives one two onto = by (arrives.from sh.machine sh.stands)
    where
      moved : (k : ℕ) (y : Now) → guarded_after s.schedule k (Going sh.machine) ≡ y → moments (guarded_of s.schedule) k x ≡ y
      moved k y e = ap (moments (guarded_of s.schedule) k) sh.is ∙ e

      by : ArrivalIn least n s sh.view sh.machine P ⊎ Gone s q sh.view sh.machine → ComesTo st hp o.made (Near least most R) x
      by (inl a) =
          let some = a.some in
          let less = a.few in
          let there : moments (guarded_of s.schedule) a.count x ≡ Going a.machine = moved a.count (Going a.machine) (a.by a.count 0 (omega arith)) in
          record {
            count = a.count;
            at = inl (record {
              lower = some;
              upper = omega (arith, less, few);
              at = onto (moments (guarded_of s.schedule) a.count x) (record {
                machine = a.machine;
                is = there;
                view = a.view;
                stands = a.stands;
                calls = a.calls ∙ sh.calls;
                answers = a.answers ∙ sh.answers;
                words = sh.words;
                holds = a.holds;
              });
            });
          }
      by (inr g) =
          let there : moments (guarded_of s.schedule) g.count x ≡ Over sh.view.calls g.end = moved g.count (Over sh.view.calls g.end)
          (g.by g.count 0 (omega arith)) in
          record {
            count = g.count;
            at = inr (subst (Out Now (guarded_of s.schedule) seen stack s.heap st hp o.made) (sym there) (gone_out st hp o g sh.calls one two));
          }

-- ---- the steps

module _ (file : FileTree) (image : Tables) (lins : ℕ → Lin) (named : ℕ → NamedAt)
    (w : Words State) (laid : ℕ → Laid) (entry : ℕ → ℕ) (live : ℕ → List Line → Type 0)
    (has : HasFunctions image)
    (bases : (stack : ℕ) → IsRoom stack → IsStackBase (stack_bottom - stack))
    (emitted : IsImageEmitted file image lins named w laid entry live has bases) (run : Setup) where
  abbrev pub fixed : Fixed
  fixed = fixed_of image has bases run

  abbrev pub at_ : Below → ℕ → ℕ → State → Outer → Now → Type 0
  at_ c f below u o x = At image has bases laid entry live run c f below u o x

  abbrev pub entry_ : Below → ℕ → ℕ → List Value → Memory → Outer → Now → Type 0
  entry_ c f below arguments memory o x = Entry image has bases laid entry live run c f below arguments memory o x

  abbrev pub back_ : Below → Doing → Outer → Now → Type 0
  back_ c d o x = Back image has bases laid entry live run c d o x

  abbrev pub After : Below → ℕ → ℕ → Step State → Outer → Now → Type 0
  After c f below x o y = IsAfterStep State (linear_program lins named) w file (layout_of image) Now (guarded_of run.schedule) seen run.stack run.heap Below
      at_ entry_ back_ c f below x o y

  abbrev pub CarriesIt : ℕ → ℕ → ℕ → ℕ → Below → Step State → Outer → Now → Type 0
  CarriesIt owed most f below c x o y =
      CarriesStep State (linear_program lins named) w file (layout_of image) Now (guarded_of run.schedule) seen run.stack run.heap Below at_ entry_ back_
      owed most f below c x o y

  abbrev pub place : ℕ → ℕ → ActivationSetting
  place f below = activation_in file (layout_of image) f below

  pub after_shows : (f below : ℕ) (c : Below) (x : Step State) (o : Outer) (y : Now) → c.top + below ≡ stack_bottom →
      Shows fixed o (λ v. follows.IsAfter fixed (laid f) (live f) c x v) y → After c f below x o y
  after_shows f below c (Continues u) o y e sh = (sh, e)
  after_shows f below c (Pays u) o y e sh = (sh, e)
  after_shows f below c (Deepens bytes u) o y e sh = (sh, e)
  after_shows f below c (Waits call go) o y e sh = absurd sh.holds
  after_shows f below c (FinishesBy call kept) o y e sh = absurd sh.holds
  after_shows f below c (Finishes d) o y e sh = sh
  after_shows f below c (FinishesRaising d) o y e sh = sh
  after_shows f below c IsStuck o y e sh = tt

  -- the bytes below an address and those of the text
  room_is : (f below : ℕ) (c : Below) (u : State) → c.top + below ≡ stack_bottom → c.top < (stack_bottom - run.stack) + used (laid f) u →
      run.stack < stack_in_use (place f below) u.around
  room_is f below c u e short =
      let m = run.stack_room.most in
      let fr = emitted.frames f in
      omega (arith, e, short, m, fr)

  -- it comes to where the function is
  pub stands_there : {least n : ℕ} {Q : View → Type 0} (most f below : ℕ) (c : Below) (u : State) (o : Outer) (x : Now) → n ≤ most →
      c.top + below ≡ stack_bottom → (sh : Shows fixed o Q x) →
      ArrivesIn least n fixed (needs_of (laid f) c u) sh.view (IsAt fixed (laid f) (live f) c u) →
      EventuallyHolds Now (guarded_of run.schedule) seen run.stack run.heap (stack_in_use (place f below) u.around) (heap_need u.around.memory) o.made
      (Near least most (at_ c f below u o)) x
  stands_there most f below c u o x few e sh arrives =
      arrives_comes fixed run.stack most (stack_in_use (place f below) u.around) (heap_need u.around.memory) o x few sh arrives
      (λ short. room_is f below c u e short) (λ short. short) (λ y at. (at, e))

  -- it comes to where nothing more is needed
  pub comes_free : {least n : ℕ} {P Q : View → Type 0} {R : Now → Type 0} (most : ℕ) (o : Outer) (x : Now) → n ≤ most → (sh : Shows fixed o Q x) →
      ArrivesIn least n fixed (needs_nothing fixed) sh.view P →
      ((y : Now) → Shows fixed o P y → R y) → EventuallyHolds Now (guarded_of run.schedule) seen run.stack run.heap 0 0 o.made (Near least most R) x
  comes_free most o x few sh arrives onto =
      arrives_comes fixed run.stack most 0 0 o x few sh arrives (λ short. absurd (omega (arith, short))) (λ short. absurd (omega (arith, short))) onto

  module _ (most f below : ℕ) (c : Below) (u : State) (o : Outer) (y : Now) {Q : View → Type 0} (sh : Shows fixed o Q y)
      (e : c.top + below ≡ stack_bottom) (n : ℕ) where
    pub tail_carried : (call : Asked) (callee : Callee) → call.callee ≡ callee → n ≤ most →
        call.below ≡ bytes_below call.callee true (place f below) u.around →
        FollowsTail n fixed entry c sh.view call callee →
        CarriesTail State (linear_program lins named) w file (layout_of image) Now (guarded_of run.schedule) seen run.stack run.heap Below at_ entry_ back_
        most c call callee o y
    tail_carried call (Inside g) is few lies follows =
        let same : call.below ≡ below = lies ∙ ap (λ (q : Callee). bytes_below q true (place f below) u.around) is in
        comes_free most o y few sh follows (λ z at. (at, omega (arith, e, same)))
    tail_carried call (Outside row frame) is few lies follows = absurd follows

    pub call_carried : (call : Asked) (go : Doing → Step State) (g : ℕ) → call.callee ≡ Inside g → n ≤ most →
        call.below ≡ bytes_below call.callee false (place f below) u.around →
        (fc : FollowsCall n fixed (laid f) (live f) entry c sh.view g call.arguments call.memory go) → fc.below.top + used (laid f) u ≡ c.top →
        CarriesCall State (linear_program lins named) w file (layout_of image) Now (guarded_of run.schedule) seen run.stack run.heap Below at_ entry_ back_
        most f below c g call go o y
    call_carried call go g is few lies fc lower =
        let same : call.below ≡ stack_in_use (place f below) u.around = lies ∙ ap (λ (q : Callee). bytes_below q false (place f below) u.around) is in
        let fr = emitted.frames f in
        record {
          above = fc.below;
          enters = comes_free most o y few sh fc.enters (λ z at. (at, omega (arith, e, same, lower, fr)));
          resumes = λ d v z back.
              after_shows f below c (go d) v z e (record {
                machine = back.machine;
                is = back.is;
                view = back.view;
                stands = back.stands;
                calls = back.calls;
                answers = back.answers;
                words = back.words;
                holds = fc.resumes d back.view back.holds;
              });
        }

  -- what took a function's place leaves less
  pub kept_back : (c : Below) (kept : Ret) (d : Doing) (o : Outer) (x : Now) → back_ c d o x → back_ c (kept_of kept d) o x
  kept_back c ret.Unit (Gave v memory) o x back =
      let r = back.holds.1 in
      record {
        machine = back.machine;
        is = back.is;
        view = back.view;
        stands = back.stands;
        calls = back.calls;
        answers = back.answers;
        words = back.words;
        holds = (
          back.holds.0,
          record {
            place = r.place;
            own = r.own;
            usable = r.usable;
            top = r.top;
            value_in = λ x h. absurd (cc);
            waits = r.waits;
            traps = r.traps;
            heap = r.heap;
          },
        );
      }
  kept_back c ret.Unit (Threw v memory) o x back = back
  kept_back c (ret.Comp t) d o x back = back

  pub seen_there : {o : Outer} {Q : View → Type 0} (x : Now) → Shows fixed o Q x → seen x ≡ record { calls = o.made; end = machine.Running }
  seen_there {o} x sh =
      let calls : sh.machine.calls ≡ o.made = sh.stands.calls ∙ sh.calls in
      ap seen sh.is ∙ ap (λ (l : List Made). record { calls = l; end = machine.Running }) calls
