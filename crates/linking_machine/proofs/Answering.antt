-- What an external call does in the run of a text, the machine does at its ECALL.
use Rattle.std.proofs.Common.{◌≡◌, ◌≢◌, ◌⊎◌, inl, inr, ⊎_elim, ℕ, zero, suc, ◌+◌, ◌-◌, ◌<◌, ◌≤◌, Bool, true, false, cond, List, [], ◌∷◌, ◌++◌, Some, None, map, slice_get, slice_index, refl, ap, sym, subst, ◌∙◌, arith}
use Rattle.std.specs.List.{AllByRecursion}
use Rattle.bs_words.specs.External.{External}
use Rattle.bs_words.specs.Fits.{fits, misfit}
use Rattle.bs_words.specs.Memory.{Memory, heap_need}
use Rattle.bs_words.specs.Observed.{Made}
use Rattle.bs_words.specs.declared.types.Comp.{Comp}
use Rattle.bs_words.specs.declared.types.Ret.{Ret}
use Rattle.bs_words.specs.declared.types.Ret.TheVariants as ret
use Rattle.bs_words.specs.declared.types.Ty.TheVariants as ty
use Rattle.bs_words.specs.declared.values.Value.{Value}
use Rattle.bs_words.specs.declared.values.Value.TheVariants.{Word}
use Rattle.cmm_data.specs.Placement.{data_end}
use Rattle.cmm_tree.specs.Tree.{FileTree}
use Rattle.cmm_meaning.specs.Evaluation.{NoAnswer, NotProper, OutOfFuel, Asking, Evaluation, Gives, Exits, Raises, Stops}
use Rattle.cmm_meaning.specs.Layout.{observed}
use Rattle.cmm_meaning.specs.Run.{with_call_made, nobody, answered, frame_answered, outside}
use Rattle.cmm_meaning.specs.State.{Doing, Gave, Threw, Asked, Outside, World}
use Rattle.correctness.specs.Setting.{layout_of, AreWords}
use Rattle.guarded_machine.specs.Guarded.{guarded_after, guarded_of}
use Rattle.image_form.specs.Tables.{Tables}
use Rattle.lin_ir.specs.Meaning.{NamedAt, State}
use Rattle.lin_ir.specs.declared.lin.Lin.{Lin}
use Rattle.lin_ir.specs.declared.lin.Line.{Line}
use Rattle.mach_ir.specs.Runs.{Step}
use Rattle.machine_laws.specs.Steps.{moments, IsFrontOf}
use Rattle.meaning_laws.specs.Units.{world_of, IsPrefixOf}
use Rattle.meaning_laws.proofs.LinksWhole.{whole_calls_fit}
use Rattle.meaning_laws.proofs.Units.{answered_later, Begins-same}
use Rattle.moving_laws.specs.Values.{HasFunctions}
use Rattle.rv_isa.specs.declared.instr.Instr.TheVariants.{Ecall}
use Rattle.rv_machine.specs.Hart as hart
use Rattle.rv_machine.specs.Loading.{IsRoom}
use Rattle.rv_machine.specs.Places.{stack_bottom}
use Rattle.rv_machine.specs.Run.{seen}
use Rattle.rv_machine.specs.Services.{Machine, Now, Going, Over, call_made, external, external_at, frame_call, served}
use Rattle.rv_machine.specs.Services as machine
use Rattle.rv_machine.specs.Sound.{IsStackBase}
use Rattle.lin_machine.specs.Arrival.{Gone}
use Rattle.lin_machine.specs.Follows as follows
use Rattle.lin_machine.specs.Outside.{Taken, taken_of, counted_call, GoesOn, IsAsking}
use Rattle.rv_emit_rules.specs.Calls.{external_service}
use Rattle.lin_machine.specs.Relation.{Below, Laid}
use Rattle.lin_machine.specs.View.{Fixed, View, HasView}
use Rattle.lin_machine.proofs.Steps.{ready, ready_stands, one_step, other_number}
use Rattle.linking.specs.Assembled.{Setup}
use Rattle.linking.specs.Carries.{Outer, outer_of, Out, no_stack, no_heap, EventuallyHolds, Near, CarriesOutside}
use Rattle.linking.specs.Pace.{Words}
use Rattle.linking.proofs.Coming.{comes_on, comes_map}
use Rattle.linking_stages.specs.Stages.{linear_program}
use Rattle.line_calls.specs.Calls.{IsInTable}
use Rattle.linking_machine.specs.Emitted.{IsImageEmitted}
use Rattle.linking_machine.specs.Standing.{Shows}
use Rattle.linking_machine.proofs.Carrying.{values_shown, words_all, fixed, at_, entry_, back_, After, after_shows, comes_free}

no_allocation : (frame : Bool) → external_service frame ≢ 3
no_allocation true e = omega (arith, e)
no_allocation false e = omega (arith, e)

module _ (file : FileTree) (image : Tables) (lins : ℕ → Lin) (named : ℕ → NamedAt)
    (w : Words State) (laid : ℕ → Laid) (entry : ℕ → ℕ) (live : ℕ → List Line → Type 0)
    (has : HasFunctions image)
    (bases : (stack : ℕ) → IsRoom stack → IsStackBase (stack_bottom - stack))
    (emitted : IsImageEmitted file image lins named w laid entry live has bases) (run : Setup) where
  abbrev s : Fixed
  s = fixed file image lins named w laid entry live has bases emitted run

  abbrev OutsideIt : ℕ → ℕ → ℕ → Below → (Doing → Step State) → Now → Evaluation → Type 0
  OutsideIt most f below c go x e =
      CarriesOutside State (linear_program lins named) w file (layout_of image) Now (guarded_of run.schedule) seen run.stack run.heap Below
      (at_ file image lins named w laid entry live has bases emitted run) (entry_ file image lins named w laid entry live has bases emitted run)
      (back_ file image lins named w laid entry live has bases emitted run) most f below c go x e

  module _ (f below : ℕ) (c : Below) (lies : c.top + below ≡ stack_bottom) (go : Doing → Step State) (row : External) (arguments : List Value)
      (known : AllByRecursion (IsInTable image) arguments) (v : World) (y : Now) where
    abbrev call : Made
    call = record { name = row.name; shown = map (observed (layout_of image)) arguments }

    abbrev IsThere : Bool → View → Type 0
    IsThere frame z =
        IsAsking s (record { top = s.base; stack = 0; heap = heap_need v.memory }) row frame arguments v.memory
        (λ d w. follows.IsAfter s (laid f) (live f) c (go d) w) z

    abbrev There : Bool → Type 0
    There frame = Shows s (outer_of v) (IsThere frame) y

    counted_is : counted_call s row arguments ≡ call
    counted_is = ap (λ shown. record { name = row.name; shown = shown }) (values_shown image arguments known)

    moved : (frame : Bool) (sh : There frame) (k : ℕ) (z : Now) → guarded_after run.schedule k (Going sh.machine) ≡ z → moments (guarded_of run.schedule) k y ≡ z
    moved frame sh k z e = ap (moments (guarded_of run.schedule) k) sh.is ∙ e

    -- the call is answered
    goes_after : (frame : Bool) (sh : There frame) (t : Taken) → taken_of frame v.memory row.result sh.view.answers ≡ Some t → AreWords t.answers →
        EventuallyHolds Now (guarded_of run.schedule) seen run.stack run.heap 0 (heap_need v.memory) (v.made ++ call ∷ [])
        (Near 1 1 (After file image lins named w laid entry live has bases emitted run c f below (go t.doing)
        (record { made = v.made ++ call ∷ []; answers = t.answers }))) y
    goes_after frame sh t is words =
        let ask = sh.holds in
        by (ask.goes sh.machine t sh.stands (subst (λ answers. (i : ℕ) → slice_index answers i < 0x10000000000000000) (sym sh.answers)
        (words_all v.answers sh.words)) is)
      where
        by : GoesOn s sh.machine (sh.view.calls ++ counted_call s row arguments ∷ []) t.answers (λ z. follows.IsAfter s (laid f) (live f) c (go t.doing) z)
            ⊎ Gone s (record { top = s.base; stack = 0; heap = heap_need v.memory }) sh.view sh.machine →
            EventuallyHolds Now (guarded_of run.schedule) seen run.stack run.heap 0 (heap_need v.memory) (v.made ++ call ∷ [])
            (Near 1 1 (After file image lins named w laid entry live has bases emitted run c f below (go t.doing)
            (record { made = v.made ++ call ∷ []; answers = t.answers }))) y
        by (inl g) =
            record {
              count = 1;
              at = inl (record {
                lower = omega arith;
                upper = omega arith;
                at = after_shows file image lins named w laid entry live has bases emitted run f below c (go t.doing) _
                    (moments (guarded_of run.schedule) 1 y) lies (record {
                      machine = g.machine;
                      is = moved frame sh 1 (Going g.machine) (g.by 1 0 (omega arith));
                      view = g.view;
                      stands = g.stands;
                      calls = g.calls_are ∙ ap (λ l. l ++ counted_call s row arguments ∷ []) sh.calls ∙ ap (λ m. v.made ++ m ∷ []) counted_is;
                      answers = g.answers_are;
                      words = words;
                      holds = g.holds;
                    });
              });
            }
        by (inr g) =
            let there : moments (guarded_of run.schedule) g.count y ≡ Over sh.view.calls g.end = moved frame sh g.count (Over sh.view.calls g.end)
            (g.by g.count 0 (omega arith)) in
            let front : IsFrontOf sh.view.calls (v.made ++ call ∷ []) = (call ∷ [], ap (λ l. l ++ call ∷ []) (sym sh.calls)) in
            record {
              count = g.count;
              at = inr (subst (Out Now (guarded_of run.schedule) seen run.stack run.heap 0 (heap_need v.memory) (v.made ++ call ∷ [])) (sym there)
                  (⊎_elim (λ z. let short = z.1 in no_stack (absurd (omega (arith, short))) z.0 front) (λ z. no_heap z.1 z.0 front) g.want));
            }

    -- there is no answer
    module _ (frame : Bool) (sh : There frame) where
      abbrev r : Machine
      r = ready s sh.machine

      r_stands : HasView s r sh.view
      r_stands = ready_stands s sh.machine sh.view sh.stands

      to_service : guarded_after run.schedule 1 (Going sh.machine) ≡ served run.schedule.plan (external_service frame) r
      to_service =
          let ask = sh.holds in
          let t : slice_index r.hart.registers 7 ≡ external_service frame = ap (λ xs. slice_index xs 7) r_stands.registers ∙ ask.service in
          one_step s sh.machine sh.view Ecall (hart.Service r.hart) sh.stands ask.code
          (other_number s sh.machine sh.view (external_service frame) sh.stands ask.service (no_allocation frame)) refl 1 0 (omega arith)
          ∙ ap (λ n. served run.schedule.plan n r) t

      ext_there : external_at r.hart ≡ Some (sh.holds).ext
      ext_there =
          let ask = sh.holds in
          ap (λ (i : Tables). slice_get i.extcs (slice_index r.hart.registers 5)) r_stands.image
          ∙ ap (λ xs. slice_get image.extcs (slice_index xs 5)) r_stands.registers ∙ ask.there

      wants : guarded_after run.schedule 1 (Going sh.machine) ≡ Over r.calls (machine.Asks (call_made (sh.holds).ext r.hart)) →
          EventuallyHolds Now (guarded_of run.schedule) seen run.stack run.heap 0 (heap_need v.memory) v.made
          (Near 0 1 (λ z. seen z ≡ record { calls = v.made; end = machine.Asks call })) y
      wants over =
          let ask = sh.holds in
          let made_is : call_made ask.ext r.hart ≡ call = ask.made r r_stands ∙ counted_is in
          let calls_are : r.calls ≡ v.made = r_stands.calls ∙ sh.calls in
          record {
            count = 1;
            at = inl (record {
              lower = omega arith;
              upper = omega arith;
              at = ap seen (moved frame sh 1 _ over) ∙ ap (λ l. record { calls = l; end = machine.Asks (call_made ask.ext r.hart) }) calls_are
                  ∙ ap (λ m. record { calls = v.made; end = machine.Asks m }) made_is;
            });
          }

      external_asks : (t : Comp) → frame ≡ false → row.result ≡ ret.Comp t → v.answers ≡ [] →
          guarded_after run.schedule 1 (Going sh.machine) ≡ Over r.calls (machine.Asks (call_made (sh.holds).ext r.hart))
      external_asks t is result none =
          let ask = sh.holds in
          let gone : r.answers ≡ [] = r_stands.answers ∙ sh.answers ∙ none in
          to_service ∙ ap (λ b. served run.schedule.plan (external_service b) r) is
          ∙ ap (λ o. external o r) ext_there
          ∙ ap (λ q. machine.machine_answered q (call_made ask.ext r.hart) r.answers r) (ask.result ∙ result)
          ∙ ap (λ l. machine.machine_answered (ret.Comp t) (call_made ask.ext r.hart) l r) gone

      frame_asks : frame ≡ true → (l : List ℕ) → v.answers ≡ l →
          machine.machine_frame_answered (run.schedule.plan r.hart.services) (sh.holds).ext.result (call_made (sh.holds).ext r.hart) l r ≡ Over r.calls
          (machine.Asks (call_made (sh.holds).ext r.hart)) →
          guarded_after run.schedule 1 (Going sh.machine) ≡ Over r.calls (machine.Asks (call_made (sh.holds).ext r.hart))
      frame_asks is l few over =
          let ask = sh.holds in
          let gone : r.answers ≡ l = r_stands.answers ∙ sh.answers ∙ few in
          to_service ∙ ap (λ b. served run.schedule.plan (external_service b) r) is
          ∙ ap (λ o. frame_call (run.schedule.plan r.hart.services) o r) ext_there
          ∙ ap (λ l. machine.machine_frame_answered (run.schedule.plan r.hart.services) ask.ext.result (call_made ask.ext r.hart) l r) gone ∙ over

    -- ---- the two kinds of calls

    abbrev Answers : Evaluation → Type 0
    Answers e = OutsideIt 1 f below c go y e

    taken_is : (frame : Bool) (sh : There frame) (result : Ret) (answers : List ℕ) → row.result ≡ result → v.answers ≡ answers →
        taken_of frame v.memory row.result sh.view.answers ≡ taken_of frame v.memory result answers
    taken_is frame sh result answers er ea =
        ap (λ q. taken_of frame v.memory q sh.view.answers) er ∙ ap (λ l. taken_of frame v.memory result l) (sh.answers ∙ ea)

    plain : (sh : There false) (result : Ret) (answers : List ℕ) → row.result ≡ result → v.answers ≡ answers → AreWords answers →
        Answers (answered result call answers v)
    plain sh ret.Unit answers er ea words = goes_after false sh (record { doing = Gave None v.memory; answers = answers })
        (taken_is false sh ret.Unit answers er ea) words
    plain sh (ret.Comp t) [] er ea words = wants false sh (external_asks false sh t refl er ea)
    plain sh (ret.Comp t) (a ∷ answers) er ea words =
        goes_after false sh (record { doing = Gave (Some (Word a)) v.memory; answers = answers }) (taken_is false sh (ret.Comp t) (a ∷ answers) er ea) words.1

    framed : (sh : There true) (result : Ret) (answers : List ℕ) → row.result ≡ result → v.answers ≡ answers → AreWords answers →
        Answers (frame_answered (data_end file) result call answers v)
    framed sh result [] er ea words = wants true sh (frame_asks true sh refl [] ea refl)
    framed sh ret.Unit (zero ∷ []) er ea words = wants true sh (frame_asks true sh refl (zero ∷ []) ea refl)
    framed sh (ret.Comp t) (zero ∷ []) er ea words = wants true sh (frame_asks true sh refl (zero ∷ []) ea refl)
    framed sh result (suc n ∷ []) er ea words = wants true sh (frame_asks true sh refl (suc n ∷ []) ea refl)
    framed sh ret.Unit (zero ∷ a ∷ answers) er ea words =
        goes_after true sh (record { doing = Gave None v.memory; answers = answers }) (taken_is true sh ret.Unit (zero ∷ a ∷ answers) er ea) words.1.1
    framed sh (ret.Comp t) (zero ∷ a ∷ answers) er ea words =
        goes_after true sh (record { doing = Gave (Some (Word a)) v.memory; answers = answers })
        (taken_is true sh (ret.Comp t) (zero ∷ a ∷ answers) er ea) words.1.1
    framed sh result (suc n ∷ a ∷ answers) er ea words = by (fits (data_end file) ty.Val (Word a))
      where
        by : (b : Bool) → Answers (cond b (Raises (Word a) nobody (with_call_made call answers v)) (Stops (NotProper (misfit ty.Val)) (with_call_made call answers v)))
        by true = goes_after true sh (record { doing = Threw (Word a) v.memory; answers = answers })
            (taken_is true sh result (suc n ∷ a ∷ answers) er ea) words.1.1
        by false = tt

    answers_so : (frame : Bool) → There frame → Answers (outside (data_end file) (layout_of image) row frame arguments v)
    answers_so true sh = framed sh row.result v.answers refl refl sh.words
    answers_so false sh = plain sh row.result v.answers refl refl sh.words

  -- ---- from the line on

  two_stages : (most n f below : ℕ) (c : Below) (go : Doing → Step State) (o : Outer) (x : Now) → n + 1 ≤ most → (e : Evaluation) →
      IsPrefixOf o.made (world_of e).made →
      EventuallyHolds Now (guarded_of run.schedule) seen run.stack run.heap 0 0 o.made (Near 0 n (λ z. OutsideIt 1 f below c go z e)) x → OutsideIt most f below c go x e
  two_stages most n f below c go o x room (Gives v h u) begins comes =
      comes_on Now (guarded_of run.schedule) seen run.stack run.heap x (omega arith) (omega arith) begins comes
      (λ i z near.
      comes_map Now (guarded_of run.schedule) seen run.stack run.heap z (omega arith) (omega arith) (Begins-same u.made) near.at
      (λ j q last. let a = near.upper in let b = last.upper in let d = last.lower in record
      { lower = omega (arith, d); upper = omega (arith, a, b, room); at = last.at }))
  two_stages most n f below c go o x room (Raises v h u) begins comes =
      comes_on Now (guarded_of run.schedule) seen run.stack run.heap x (omega arith) (omega arith) begins comes
      (λ i z near.
      comes_map Now (guarded_of run.schedule) seen run.stack run.heap z (omega arith) (omega arith) (Begins-same u.made) near.at
      (λ j q last. let a = near.upper in let b = last.upper in let d = last.lower in record
      { lower = omega (arith, d); upper = omega (arith, a, b, room); at = last.at }))
  two_stages most n f below c go o x room (Stops (NoAnswer call) u) begins comes =
      comes_on Now (guarded_of run.schedule) seen run.stack run.heap x (omega arith) (omega arith) begins comes
      (λ i z near.
      comes_map Now (guarded_of run.schedule) seen run.stack run.heap z (omega arith) (omega arith) (Begins-same u.made) near.at
      (λ j q last. let a = near.upper in let b = last.upper in record { lower = omega arith; upper = omega (arith, a, b, room); at = last.at }))
  two_stages most n f below c go o x room (Stops OutOfFuel u) begins comes = tt
  two_stages most n f below c go o x room (Stops (NotProper kind) u) begins comes = tt
  two_stages most n f below c go o x room (Stops (Asking call) u) begins comes = tt
  two_stages most n f below c go o x room (Exits label values h u) begins comes = tt

  -- An external call, from where its line begins.
  pub outside_carried : (most n f below : ℕ) (c : Below) → c.top + below ≡ stack_bottom →
      (call : Asked) (go : Doing → Step State) (row : External) (frame : Bool) →
      n + 1 ≤ most → AllByRecursion (IsInTable image) call.arguments → (o : Outer) (x : Now) {Q : View → Type 0} (sh : Shows s o Q x) →
      follows.FollowsAsked n s (laid f) (live f) entry c sh.view call go (Outside row frame) → (v : World) → v.memory ≡ call.memory → outer_of v ≡ o →
      OutsideIt most f below c go x (outside (data_end file) (layout_of image) row frame call.arguments v)
  outside_carried most n f below c lies asked go row frame room known o x sh comes v em eo =
      let e : Evaluation = outside (data_end file) (layout_of image) row frame asked.arguments v in
      let later = answered_later ((whole_calls_fit file (layout_of image)).answers row frame asked.arguments v) in
      let begins : IsPrefixOf o.made (world_of e).made = subst (λ (q : Outer). IsPrefixOf q.made (world_of e).made) eo later.onward.calls in
      two_stages most n f below c go o x room e begins
      (comes_free file image lins named w laid entry live has bases emitted run n o x (omega arith) sh comes
      (λ z there.
      answers_so f below c lies go row asked.arguments known v z frame
      (subst (λ (q : Outer). Shows s q (IsThere f below c lies go row asked.arguments known v z frame) z) (sym eo)
      (subst (λ (m : Memory). Shows s o (λ i. IsAsking s (record { top = s.base; stack = 0; heap = heap_need m }) row frame asked.arguments m
      (λ d w. follows.IsAfter s (laid f) (live f) c (go d) w) i) z)
      (sym em) there))))
