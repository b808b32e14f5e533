-- What is passed on from a function to those that it calls, and back, is known of all calls of a whole run.
use Rattle.std.proofs.Common.{◌≡◌, ℕ, zero, suc, ◌+◌, ◌<◌, Bool, true, false, List, [], ◌∷◌, ◌++◌, Some, cond, length, map, refl, ap, sym, subst, ◌∙◌, append_assoc, arith}
use Rattle.std.proofs.lemmas.List.{length-map, map-append}
use Rattle.std.specs.Prelude.{slice_get, slice_index}
use Rattle.std.specs.List.{AllByRecursion}
use Rattle.bs_words.specs.External.{External}
use Rattle.bs_words.specs.Fits.{fits, misfit}
use Rattle.bs_words.specs.Memory.{Memory}
use Rattle.bs_words.specs.Observed.{Made}
use Rattle.bs_words.specs.declared.types.Ret.{Ret}
use Rattle.bs_words.specs.declared.types.Ret.TheVariants as ret
use Rattle.bs_words.specs.declared.types.Ty.TheVariants as ty
use Rattle.bs_words.specs.declared.values.Value.{Value}
use Rattle.bs_words.specs.declared.values.Value.TheVariants.{Word}
use Rattle.cmm_data.specs.Placement.{data_end, value_of_symbol}
use Rattle.cmm_tree.specs.Tree.{FunctionTree, FileTree, functions, comps_of}
use Rattle.cmm_meaning.specs.Layout.{Layout, observed}
use Rattle.cmm_meaning.specs.Run.{with_call_made, nobody, answered, frame_answered, outside, callees}
use Rattle.cmm_meaning.specs.Setting.{setting_of}
use Rattle.cmm_meaning.specs.State.{Doing, Gave, Threw, Asked, Called, World}
use Rattle.cmm_meaning.specs.Evaluation.{NotProper, Evaluation, Gives, Exits, Raises, Stops, fit_parameters}
use Rattle.correctness.specs.Setting.{AreWords}
use Rattle.meaning_fuel.specs.Whole.{file_surroundings}
use Rattle.meaning_laws.specs.Fitting.{FitsCallee}
use Rattle.meaning_laws.specs.Links.{Call, OfFunction, OfOutside, asked_in, done_by, FitsCall, fits_function, CameBack, gave, threw, Came, asked_by, doing_of, CallsBetween, no_more, next, EndsSo, Linked}
use Rattle.meaning_laws.specs.Links as links
use Rattle.meaning_laws.specs.Units.{world_of, in_world}
use Rattle.meaning_laws.proofs.Handed.{callee_of}
use Rattle.meaning_laws.proofs.LinksCalls.{function_alone, whole_call_linked}
use Rattle.linking.specs.Assembled.{IsKnownEvaluation, IsPassedOn}
use Rattle.linking.proofs.Fewer.{Fewer, same_end, asks_here, refuses, with_doings, alone_fewer, alone_counts}
use Rattle.linking.proofs.Following.{IsGivenTo, AllGiven}
use Rattle.linking.proofs.Whole.{KnownLink, AreKnown}

-- ---- lists

at_same : {A : Type 0} (xs us : List A) (a b : A) (ys vs : List A) → length xs ≡ length us → xs ++ a ∷ ys ≡ us ++ b ∷ vs → a ≡ b
at_same [] [] a b ys vs n e = cc
at_same [] (u ∷ us) a b ys vs n e = absurd (omega (arith, n))
at_same (x ∷ xs) [] a b ys vs n e = absurd (omega (arith, n))
at_same (x ∷ xs) (u ∷ us) a b ys vs n e =
    let tail : xs ++ a ∷ ys ≡ us ++ b ∷ vs = cc in
    at_same xs us a b ys vs (omega (arith, n)) tail

all_one_more : (P : Doing → Type 0) (done : List Came) (c : Came) → AllByRecursion P (map doing_of done) → P c.doing →
    AllByRecursion P (map doing_of (done ++ c ∷ []))
all_one_more P [] c all p = (p, tt)
all_one_more P (x ∷ done) c all p = (all.0, all_one_more P done c all.1 p)

world_in : (f : World → World) (e : Evaluation) → world_of (in_world f e) ≡ f (world_of e)
world_in f (Gives v h w) = refl
world_in f (Exits label values h w) = refl
world_in f (Raises v h w) = refl
world_in f (Stops why w) = refl

module _ (file : FileTree) (layout : Layout) (IsGiven : List Value → Memory → Type 0) (IsDone : Doing → Type 0)
    (passed : IsPassedOn IsGiven IsDone file layout) where
  -- ---- external calls

  abbrev BackKnown : Doing → World → Type 0
  BackKnown d u = IsDone d × AreWords u.answers

  answered_known : (arguments : List Value) (result : Ret) (call : Made) (answers : List ℕ) (w : World) → IsGiven arguments w.memory → AreWords answers →
      {d : Doing} {u : World} → CameBack (answered result call answers w) d u → BackKnown d u
  answered_known arguments ret.Unit call answers w given words gave = (passed.nothing arguments w.memory given, words)
  answered_known arguments (ret.Comp t) call [] w given words came = elim came [ ]
  answered_known arguments (ret.Comp t) call (a ∷ answers) w given words gave = ((passed.answer arguments w.memory a given words.0).0, words.1)

  frame_known : (arguments : List Value) (result : Ret) (call : Made) (answers : List ℕ) (w : World) → IsGiven arguments w.memory → AreWords answers →
      {d : Doing} {u : World} → CameBack (frame_answered (data_end file) result call answers w) d u → BackKnown d u
  frame_known arguments result call [] w given words came = elim came [ ]
  frame_known arguments ret.Unit call (zero ∷ []) w given words came = elim came [ ]
  frame_known arguments (ret.Comp t) call (zero ∷ []) w given words came = elim came [ ]
  frame_known arguments result call (suc n ∷ []) w given words came = elim came [ ]
  frame_known arguments ret.Unit call (zero ∷ a ∷ answers) w given words gave = (passed.nothing arguments w.memory given, words.1.1)
  frame_known arguments (ret.Comp t) call (zero ∷ a ∷ answers) w given words gave = ((passed.answer arguments w.memory a given words.1.0).0, words.1.1)
  frame_known arguments result call (suc n ∷ a ∷ answers) w given words came = by (fits (data_end file) ty.Val (Word a)) came
    where
      by : (fit : Bool) → {d : Doing} {u : World} →
          CameBack (cond fit (Raises (Word a) nobody (with_call_made call answers w)) (Stops (NotProper (misfit ty.Val)) (with_call_made call answers w))) d u → BackKnown d u
      by true threw = ((passed.answer arguments w.memory a given words.1.0).1, words.1.1)
      by false came = elim came [ ]

  outside_known : (row : External) (frame : Bool) (arguments : List Value) (w : World) → IsGiven arguments w.memory → AreWords w.answers →
      {d : Doing} {u : World} → CameBack (outside (data_end file) layout row frame arguments w) d u → BackKnown d u
  outside_known row true arguments w given words came = frame_known arguments row.result
      (record { name = row.name; shown = map (observed layout) arguments }) w.answers w given words came
  outside_known row false arguments w given words came = answered_known arguments row.result
      (record { name = row.name; shown = map (observed layout) arguments }) w.answers w given words came

  -- ---- one function

  -- the call that comes next, where it is asked by the function on what was handed in before it
  next_known : {more : List Doing} {e run : Evaluation} (done : List Came) (c : Came) (calls : List Came) (d : Doing) (ds : List Doing) →
      more ≡ d ∷ ds → Fewer more e run →
      IsKnownEvaluation IsGiven IsDone e → (world_of run).asked ≡ map asked_by (done ++ c ∷ calls) → (world_of run).doings ≡ [] →
      length (world_of e).asked + length (world_of e).doings ≡ length done → IsGiven (asked_by c).arguments (asked_by c).memory
  next_known {more} done c calls d ds is (same_end e) known asked none count =
      let left : (world_of e).doings ++ more ≡ [] = ap (λ (w : World). w.doings) (sym (world_in (with_doings more) e)) ∙ none in
      absurd (not_nil (world_of e).doings (ap (λ l. (world_of e).doings ++ l) (sym is) ∙ left))
    where
      not_nil : (xs : List Doing) → xs ++ d ∷ ds ≡ [] → ⊥
      not_nil [] e = cc
      not_nil (x ∷ xs) e = cc
  next_known {more} done c calls d ds is (asks_here {call = call} {w = w} {e = e} none b) known asked empty count =
      let zero_left : length w.doings ≡ 0 = ap (λ (l : List Doing). length l) none in
      let n = length-map done asked_by in
      let here : w.asked ++ call ∷ b.further ≡ map asked_by done ++ asked_by c ∷ map asked_by calls =
      sym (append_assoc w.asked (call ∷ []) b.further) ∙ sym b.is ∙ asked ∙ map-append asked_by done (c ∷ calls) in
      let same : call ≡ asked_by c = at_same w.asked (map asked_by done) call (asked_by c) b.further (map asked_by calls)
      (omega (arith, count, zero_left, n)) here in
      subst (λ (q : Asked). IsGiven q.arguments q.memory) same known.1
  next_known done c calls d ds is (refuses n) known asked none count = absurd (n none)

  abbrev ServesKnown : ℕ → Type 0
  ServesKnown bound =
      (call : Called) (v : World) → v.left < bound → FitsCallee (setting_of (file_surroundings file layout)) call.function call.arguments →
      IsGiven call.arguments v.memory → AreWords v.answers →
      (d : Doing) (u : World) → CameBack (callees file layout (suc v.left) call v) d u → BackKnown d u

  module _ (call : Called) (tree : FunctionTree) (is : slice_get (functions file) call.function ≡ Some tree)
      (fit : fit_parameters (data_end file) (comps_of tree) call.arguments ≡ true) (w : World) (given : IsGiven call.arguments w.memory)
      (words : AreWords w.answers)
      (serves : ServesKnown w.left) where
    abbrev lone : ℕ → List Doing → Evaluation
    lone own doings = function_alone file layout call tree w.memory doings own

    lone_known : (own : ℕ) (doings : List Doing) → AllByRecursion IsDone doings → IsKnownEvaluation IsGiven IsDone (lone own doings)
    lone_known own doings all = passed.alone call.function tree is call.arguments fit call.below w.memory doings own given all

    given_so : (q : Call) (v : World) → IsGiven (asked_in v.memory q).arguments (asked_in v.memory q).memory → AreWords v.answers → IsGivenTo IsGiven q v
    given_so (OfFunction call) v known words = (known, words)
    given_so (OfOutside row frame arguments) v known words = tt

    back_so : (q : Call) (v : World) → v.left < w.left → FitsCall (file_surroundings file layout) q →
        IsGiven (asked_in v.memory q).arguments (asked_in v.memory q).memory → AreWords v.answers →
        (d : Doing) (u : World) → CameBack (done_by (file_surroundings file layout) q v) d u → BackKnown d u
    back_so (OfFunction call) v fewer (fits_function fit) known words d u came = serves call v fewer fit known words d u came
    back_so (OfOutside row frame arguments) v fewer fit known words d u came = outside_known row frame arguments v known words came

    module _ {e : Evaluation} (l : Linked (file_surroundings file layout) w.left (function_alone file layout call tree w.memory) w e) where
      abbrev Rest : List Came → Type 0
      Rest rest = AllGiven IsGiven rest × AllByRecursion IsDone (map doing_of rest) × AreWords l.last.answers

      known_from : (done : List Came) {rest : List Came} {v last : World} → CallsBetween (file_surroundings file layout) w.left v rest last → last ≡ l.last →
          l.calls ≡ done ++ rest →
          AllByRecursion IsDone (map doing_of done) → AreWords v.answers → Rest rest
      known_from done (no_more o) same all known words = (tt, tt, subst (λ (z : World). AreWords z.answers) same (subst AreWords (sym o.answers) words))
      known_from done (next {c = c} {calls = calls} o fewer fit_so did later between) same all known words =
          let ds : List Doing = map doing_of done in
          let more : List Doing = map doing_of (c ∷ calls) in
          let whole_doings : map doing_of l.calls ≡ ds ++ more = ap (map doing_of) all ∙ map-append doing_of done (c ∷ calls) in
          let run_is : lone l.own (ds ++ more) ≡ l.run = ap (λ (z : List Doing). lone l.own z) (sym whole_doings) ∙ l.is in
          let few : Fewer more (lone l.own ds) l.run =
          subst (λ (z : Evaluation). Fewer more (lone l.own ds) z) run_is
          (alone_fewer (data_end file) (value_of_symbol file) (map comps_of (functions file)) (slice_index layout.frames call.function) tree
          call.arguments call.below w.memory l.own ds more) in
          let count = alone_counts (data_end file) (value_of_symbol file) (map comps_of (functions file)) (slice_index layout.frames call.function) tree
          call.arguments call.below w.memory l.own ds in
          let n = length-map done doing_of in
          let known_call = next_known done c calls c.doing (map doing_of calls) refl few (lone_known l.own ds known) (l.asked ∙ ap (map asked_by) all)
          l.taken (omega (arith, count, n)) in
          let answers : AreWords c.before.answers = subst AreWords (sym o.answers) words in
          let known_here : IsGiven (asked_in c.before.memory c.call).arguments (asked_in c.before.memory c.call).memory = known_call in
          let back = back_so c.call c.before fewer fit_so known_here answers c.doing c.after did in
          let rest = known_from (done ++ c ∷ []) between same (all ∙ sym (append_assoc done (c ∷ []) calls)) (all_one_more IsDone done c known back.0)
          back.1 in
          ((given_so c.call c.before known_here answers, rest.0), (back.0, rest.1), rest.2)

      all_known : Rest l.calls
      all_known = known_from [] l.called refl refl tt words

      run_known : IsKnownEvaluation IsGiven IsDone l.run
      run_known = subst (IsKnownEvaluation IsGiven IsDone) l.is (lone_known l.own (map doing_of l.calls) all_known.1)

      pub known_link : KnownLink file layout IsGiven IsDone l
      known_link =
          record {
            given = all_known.0;
            done = all_known.1;
            last = λ q u z. given_so q l.last ((subst (IsKnownEvaluation IsGiven IsDone) z run_known).1) all_known.2;
          }

      ends_known : {run all : Evaluation} {d : Doing} {u : World} → EndsSo (file_surroundings file layout) w.left l.last run all → CameBack all d u →
          IsKnownEvaluation IsGiven IsDone run →
          (world_of run).memory ≡ l.last.memory → BackKnown d u
      ends_known (links.gives {v = v}) gave known same = (subst (λ m. IsDone (Gave v m)) same known.1, all_known.2)
      ends_known (links.raises {v = v}) threw known same = (subst (λ m. IsDone (Threw v m)) same known.1, all_known.2)
      ends_known links.exits came known same = elim came [ ]
      ends_known links.improper came known same = elim came [ ]
      ends_known links.out_of_units came known same = elim came [ ]
      ends_known (links.in_callee q fewer fit_so stop later) came known same = elim came [ ]

      pub known_back : (d : Doing) (u : World) → CameBack e d u → BackKnown d u
      known_back d u came = ends_known l.ends came run_known l.memory

  serves_known : (depth : ℕ) → ServesKnown depth
  serves_known zero call v less fits given words d u came = absurd (omega (arith, less))
  serves_known (suc depth) call v less fits given words d u came =
      let found = callee_of file layout call.function call.arguments fits in
      known_back call found.tree found.is found.fit v given words
      (λ call v fewer. serves_known depth call v (omega (arith, fewer, less))) (whole_call_linked file layout call found.tree found.is v) d u came

  -- What is passed on is known of all calls of a whole run.
  pub passed_known : AreKnown file layout IsGiven IsDone
  passed_known call tree is fit w given words =
      known_link call tree is fit w given words (λ call v fewer. serves_known w.left call v fewer) (whole_call_linked file layout call tree is w)
