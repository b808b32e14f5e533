-- An image that is assembled so is correct for its file, and asks for allocations only in need.
use Rattle.std.proofs.Common.{◌≡◌, ℕ, zero, suc, ◌+◌, ◌*◌, ◌≤◌, List, [], ◌∷◌, Some, length, map, subst, ap, ◌∙◌, sym, ⊎_elim}
use Rattle.std.proofs.lemmas.Option.{slice_get-map}
use Rattle.std.specs.Prelude.{slice_get, option_map}
use Rattle.bs_words.specs.Memory.{Memory}
use Rattle.bs_words.specs.declared.types.Ret.{Ret}
use Rattle.bs_words.specs.declared.values.Value.{Value}
use Rattle.bs_words.specs.declared.values.Value.TheVariants.{Word}
use Rattle.cmm_data.specs.Placement.{data_end}
use Rattle.cmm_tree.specs.Tree.{FunctionTree, FileTree, functions, comps_of}
use Rattle.cmm_types.specs.Types.{body_type, result_of}
use Rattle.cmm_meaning.specs.Evaluation.{Evaluation}
use Rattle.cmm_meaning.specs.Layout.{Layout}
use Rattle.cmm_meaning.specs.Run.{Asks, Improper, IsProper, More, Outcome, Raised, Returned, Run, callees, cmm_run, first_call, first_world}
use Rattle.cmm_meaning.specs.Setting.{setting_of}
use Rattle.cmm_meaning.specs.State.{Doing, World}
use Rattle.correctness.specs.Correct.{Accounted, Alike, Backwards, EndsAlike, Forwards, IsCorrect}
use Rattle.correctness.specs.Correct as correct
use Rattle.correctness.specs.InNeed.{AsksInNeed, AsksOnlyInNeed, AsksOnlyInNeedUntil, NeedsItsAsks}
use Rattle.correctness.specs.Setting.{layout_of, IsRowOf, AreRowsOf, Entered}
use Rattle.guarded_machine.specs.Guarded.{guarded_after, guarded_of}
use Rattle.guarded_machine.proofs.Runs.{IsRefused, guarded_orderly, needed_until, never_needless, same_or_refused, same_run}
use Rattle.image_form.specs.Tables.{Tables, Func}
use Rattle.machine_laws.specs.Steps.{IsFrontOf}
use Rattle.meaning_fuel.specs.Whole.{file_surroundings}
use Rattle.meaning_laws.specs.Fitting.{FitsCallee, CallsFitAndGrow}
use Rattle.meaning_laws.proofs.Given.{callees_give}
use Rattle.meaning_laws.proofs.LinksWhole.{whole_calls_fit}
use Rattle.meaning_laws.proofs.OutOfFuel.{run_empty}
use Rattle.rv_machine.specs.Loading.{IsRoom}
use Rattle.rv_machine.specs.Run.{Schedule, now_after, begun, machine_run, seen}
use Rattle.rv_machine.specs.Services.{End, Now, Running, Stopped}
use Rattle.rv_machine.specs.Services as machine
use Rattle.rv_machine.specs.declared.cause.Cause.{Cause}
use Rattle.linking.specs.Assembled.{IsStub, Setup, Assembled}
use Rattle.linking.specs.Carries.{Outer, EventuallyHolds}
use Rattle.linking.specs.Pace.{Words}
use Rattle.linking.specs.Program.{Program}
use Rattle.linking.proofs.Directions.{Over, seen_of, told_of, forwards, backwards}
use Rattle.linking.proofs.Known.{passed_known}
use Rattle.linking.proofs.Whole.{AreKnown, does_whole}

-- ---- from the machine that refuses to the machine

-- what a proper run of the text accounts for is no stop
never_stops : (o : Outcome) (end : End) (cause : Cause) → IsProper o → EndsAlike o end → end ≡ Stopped cause → ⊥
never_stops (Returned value) end cause proper alike stop = let e : machine.Returned value ≡ Stopped cause = sym alike ∙ stop in absurd (cc)
never_stops (Raised value) end cause proper alike stop = let e : machine.Raised value ≡ Stopped cause = sym alike ∙ stop in absurd (cc)
never_stops (Asks call) end cause proper alike stop = let e : machine.Asks call ≡ Stopped cause = sym alike ∙ stop in absurd (cc)
never_stops More end cause proper alike stop = let e : Running ≡ Stopped cause = sym alike ∙ stop in absurd (cc)
never_stops (Improper kind) end cause proper alike stop = proper

module _ (run : ℕ → Run) (schedule : Schedule) (start : Now) (stack heap : ℕ) where
  module _ (words : ℕ) (f : Forwards run (λ m. seen (guarded_after schedule m start)) stack heap words) where
    -- what a proper run of the text accounts for is not refused
    not_refused : (n : ℕ) (given : correct.IsGiven (run n) stack heap) → IsRefused (guarded_after schedule (f.does n given).0 start) → ⊥
    not_refused n given r =
        let d = f.does n given in
        never_stops (run n).outcome (seen (guarded_after schedule d.0 start)).end _ given.proper d.2.end r

    until : (n : ℕ) → correct.IsGiven (run n) stack heap →
        (m : ℕ) × (m ≤ 2 * (n + 1) * words) × Alike (run n) (seen (now_after schedule m start)) × AsksOnlyInNeedUntil schedule start m
    until n given =
        let d = f.does n given in
        let never = not_refused n given in
        let same : guarded_after schedule d.0 start ≡ now_after schedule d.0 start =
        ⊎_elim (λ e. e) (λ r. absurd (never r)) (same_or_refused schedule d.0 start) in
        (d.0, d.1, subst (λ (x : Now). Alike (run n) (seen x)) same d.2, needed_until schedule start d.0 never)

    forwards_same : Forwards run (λ m. seen (now_after schedule m start)) stack heap words
    forwards_same = record { does = λ n given. let u = until n given in (u.0, u.1, u.2) }

  module _ (b : Backwards run (λ m. seen (guarded_after schedule m start)) stack heap) where
    never_refused : ((n : ℕ) → IsProper (run n).outcome) → (m : ℕ) → IsRefused (guarded_after schedule m start) → ⊥
    never_refused proper m r = subst (Accounted run stack heap (seen (guarded_after schedule m start))) r (b.end proper m)

    backwards_same : Backwards run (λ m. seen (now_after schedule m start)) stack heap
    backwards_same =
        record {
          calls = λ proper m.
              let c = b.calls proper m in
              (c.0, subst (λ (x : Now). IsFrontOf (seen x).calls (run c.0).calls) (same_run schedule start (never_refused proper) m) c.1);
          end = λ proper m.
              subst (λ (x : Now). Accounted run stack heap (seen x) (seen x).end) (same_run schedule start (never_refused proper) m) (b.end proper m);
        }

    asks_in_need : ((n : ℕ) → IsProper (run n).outcome) → AsksOnlyInNeed schedule start
    asks_in_need proper = never_needless schedule start (never_refused proper)

-- the row of a function has its result
row_of : (fs : List FunctionTree) (rows : List Func) (k : ℕ) (f : FunctionTree) (row : Func) → AreRowsOf fs rows → slice_get fs k ≡ Some f →
    slice_get rows k ≡ Some row → IsRowOf f row
row_of [] rows k f row are e d = absurd (cc)
row_of (g ∷ fs) [] k f row are e d = absurd are
row_of (g ∷ fs) (r ∷ rows) zero f row are e d =
    let same_f : g ≡ f = cc in
    let same_row : r ≡ row = cc in
    subst (λ f. IsRowOf f row) same_f (subst (IsRowOf g) same_row are.0)
row_of (g ∷ fs) (r ∷ rows) (suc k) f row are e d = row_of fs rows k f row are.1 e d

module _ (S : Type 0) (p : Program S) (w : Words S) (most words : ℕ) (file : FileTree)
    (image : Tables) (IsGiven : List Value → Memory → Type 0) (IsDone : Doing → Type 0)
    (Below : Type 0) (At : Setup → Below → ℕ → ℕ → S → Outer → Now → Type 0)
    (Entry : Setup → Below → ℕ → ℕ → List Value → Memory → Outer → Now → Type 0)
    (Back : Setup → Below → Doing → Outer → Now → Type 0)
    (a : Assembled S p w most words file image IsGiven IsDone Below At Entry Back) (known : AreKnown file (layout_of image) IsGiven IsDone) where
  module _ (stack heap : ℕ) (stack_room : IsRoom stack) (heap_room : IsRoom heap) (entry : ℕ) (f : FunctionTree) (row : Func) (args answers : List ℕ)
      (schedule : Schedule)
      (entered : Entered file image entry f row args answers) where
    abbrev setup : Setup
    setup = record { stack = stack; heap = heap; stack_room = stack_room; heap_room = heap_room; schedule = schedule; row = row }

    abbrev layout : Layout
    layout = layout_of image

    abbrev run : ℕ → Run
    run n = cmm_run file layout entry args answers n

    stub_here : IsStub Now (guarded_of schedule) seen stack heap layout (data_end file) (result_of (body_type f)) (λ d o x. Back setup a.bottom d o x)
    stub_here =
        let r : IsRowOf f row = row_of (functions file) image.funcs entry f row a.rows entered.of_file entered.of_image in
        subst (λ (result : Ret). IsStub Now (guarded_of schedule) seen stack heap layout (data_end file) result (λ d o x. Back setup a.bottom d o x)) r.result
        (a.stub setup entry entered.of_image)

    told : (n : ℕ) → IsProper (run n).outcome →
        EventuallyHolds Now (guarded_of schedule) seen stack heap (run n).stack_need (run n).heap_need (run n).calls
        (Over Now seen most words n (seen_of (run n)) (run n).left)
        (begun image row args answers stack heap)
    told n proper =
        let world : World = first_world file answers n in
        let e : Evaluation = callees file layout (suc n) (first_call entry args) world in
        let there : slice_get (map comps_of (functions file)) entry ≡ Some (comps_of f) = slice_get-map comps_of (functions file) entry
        ∙ ap (option_map comps_of) entered.of_file in
        let fits : FitsCallee (setting_of (file_surroundings file layout)) entry (map Word args) = record
        { parameters = comps_of f; callee = there; fit = entered.args_fit } in
        let calls : CallsFitAndGrow (file_surroundings file layout) = whole_calls_fit file layout in
        told_of Now (guarded_of schedule) seen stack heap most words layout (data_end file) (result_of (body_type f)) (λ d o x. Back setup a.bottom d o x)
        stub_here world
        (begun image row args answers stack heap) e (callees_give file layout (suc n) (first_call entry args) f world entered.of_file entered.args_fit)
        (calls.fit (first_call entry args) world)
        (does_whole S p w file layout Now (guarded_of schedule) seen stack heap Below (At setup) (Entry setup) (Back setup) most words IsGiven IsDone
        a.regular a.forward (a.carries setup) a.keeps known
        (first_call entry args) a.bottom world (begun image row args answers stack heap) fits
        (a.passed.entry args entered.args_are_words, entered.answers_are_words)
        (a.start setup entry args answers f entered))
        proper

    abbrev start : Now
    start = begun image row args answers stack heap

    guarded_backwards : Backwards run (λ m. seen (guarded_after schedule m start)) stack heap
    guarded_backwards =
        backwards Now (guarded_of schedule) seen stack heap most words (length image.code) a.words_fit run start told (guarded_orderly schedule)
        (λ n e. run_empty file layout entry args answers n e)

    guarded_forwards : Forwards run (λ m. seen (guarded_after schedule m start)) stack heap (length image.code)
    guarded_forwards = forwards Now (guarded_of schedule) seen stack heap most words (length image.code) a.words_fit run start told

    image_forwards : Forwards run (machine_run image row args answers stack heap schedule) stack heap (length image.code)
    image_forwards = forwards_same run schedule start stack heap (length image.code) guarded_forwards

    image_backwards : Backwards run (machine_run image row args answers stack heap schedule) stack heap
    image_backwards = backwards_same run schedule start stack heap guarded_backwards

    image_asks : NeedsItsAsks run schedule start stack heap (length image.code)
    image_asks =
        record {
          always = asks_in_need run schedule start stack heap guarded_backwards;
          until = until run schedule start stack heap (length image.code) guarded_forwards;
        }

  pub known_correct : IsCorrect file image
  known_correct stack heap stack_room heap_room =
      record {
        rows = a.rows;
        forwards = λ entry f row args answers schedule entered. image_forwards stack heap stack_room heap_room entry f row args answers schedule entered;
        backwards = λ entry f row args answers schedule entered. image_backwards stack heap stack_room heap_room entry f row args answers schedule entered;
      }

  pub known_in_need : AsksInNeed file image
  known_in_need stack heap stack_room heap_room entry f row args answers schedule entered =
      image_asks stack heap stack_room heap_room entry f row args answers schedule entered

module _ (S : Type 0) (p : Program S) (w : Words S) (most words : ℕ) (file : FileTree)
    (image : Tables) (IsGiven : List Value → Memory → Type 0) (IsDone : Doing → Type 0)
    (Below : Type 0) (At : Setup → Below → ℕ → ℕ → S → Outer → Now → Type 0)
    (Entry : Setup → Below → ℕ → ℕ → List Value → Memory → Outer → Now → Type 0)
    (Back : Setup → Below → Doing → Outer → Now → Type 0)
    (a : Assembled S p w most words file image IsGiven IsDone Below At Entry Back) where
  -- An image that is assembled for a file is correct for it.
  pub assembled_correct : IsCorrect file image
  assembled_correct =
      known_correct S p w most words file image IsGiven IsDone Below At Entry Back a (passed_known file (layout_of image) IsGiven IsDone a.passed)

  -- It asks for allocations only in need.
  pub assembled_in_need : AsksInNeed file image
  assembled_in_need =
      known_in_need S p w most words file image IsGiven IsDone Below At Entry Back a (passed_known file (layout_of image) IsGiven IsDone a.passed)
