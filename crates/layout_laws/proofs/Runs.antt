-- Two runs of one function of a file, with two layouts, are alike.
use Rattle.std.proofs.Common.{option_map, ℕ, zero, suc, ◌+◌, Bool, true, false, List, [], ◌∷◌, ◌++◌, Option, Some, None, map, refl}
use Rattle.std.specs.Prelude.{slice_index, slice_get, max}
use Rattle.std.specs.List.{AllZip}
use Rattle.bs_words.specs.External.{External}
use Rattle.bs_words.specs.Observed.{Made}
use Rattle.bs_words.specs.declared.types.Ret.{Ret}
use Rattle.bs_words.specs.declared.types.Ret.TheVariants as ret
use Rattle.bs_words.specs.declared.types.Ty.TheVariants as ty
use Rattle.bs_words.specs.declared.values.Value.{Value}
use Rattle.bs_words.specs.declared.values.Value.TheVariants.{Word}
use Rattle.cmm_meaning.specs.Known.{data_end, value_of_symbol}
use Rattle.cmm_tree.specs.Tree.{FunctionTree, FileTree, functions, comps_of}
use Rattle.cmm_meaning.specs.Layout.{Layout, observed}
use Rattle.cmm_meaning.specs.State.{Called, World, Here, bound, deepened}
use Rattle.cmm_meaning.specs.Evaluation.{Evaluation, Surroundings, scoped_parameter}
use Rattle.cmm_meaning.specs.Run.{answered, frame_answered, answered_as, outside, activated, callees, first_world, first_call, finished, cmm_run}
use Rattle.layout_laws.specs.Shown.{AreShownAlike, AreGivenAlike, nothing, a_value, IsCallAlike, AreCallsAlike, return_alike, raise_alike, ask_alike, both_more, both_improper, AreRunsAlike}
use Rattle.layout_laws.proofs.Alike.{Place, Apart, apart, no_fuel, improper, no_answer, Alike, gives, exits, raises, stops, with_calls, DoAlike, alike_improper, alike_tested}
use Rattle.layout_laws.proofs.Evaluated.{alike_evaluated}

-- ---- external calls

module _ (one two : Layout) where
  value_alike : (a : Value) → AreShownAlike one two (observed one a) (observed two a)
  value_alike a = record { value = a; here = refl; there = refl }

  shown_alike : (values : List Value) → AllZip (AreShownAlike one two) (map (observed one) values) (map (observed two) values)
  shown_alike [] = tt
  shown_alike (a ∷ values) = (value_alike a, shown_alike values)

  further : (xs ys : List Made) {x y : Made} → AreCallsAlike one two xs ys → IsCallAlike one two x y → AreCallsAlike one two (xs ++ x ∷ []) (ys ++ y ∷ [])
  further [] [] before last = (last, tt)
  further [] (y ∷ ys) before last = absurd before
  further (x ∷ xs) [] before last = absurd before
  further (x ∷ xs) (y ∷ ys) before last = (before.0, further xs ys before.1 last)

  -- what the other world has where a call was made
  abbrev made_further : {made : List Made} {x y : Made} → Apart one two made → IsCallAlike one two x y → Apart one two (made ++ x ∷ [])
  made_further {made} {y = y} v same = record { stack_need = v.stack_need; calls = v.calls ++ y ∷ []; alike = further made v.calls v.alike same }

  abbrev nowhere : Place
  nowhere = record { below = 0; frame = 0 }

  alike_answered : (result : Ret) {x y : Made} → IsCallAlike one two x y → (answers : List ℕ) (w : World) (v : Apart one two w.made) →
      Alike one two (answered result x answers w) (answered result y answers (apart w v))
  alike_answered ret.Unit same answers w v = gives nowhere (made_further v same)
  alike_answered (ret.Comp c) same [] w v = stops (no_answer same) v
  alike_answered (ret.Comp c) same (a ∷ answers) w v = gives nowhere (made_further v same)

  alike_frame : (end : ℕ) (result : Ret) {x y : Made} → IsCallAlike one two x y → (answers : List ℕ) (w : World) (v : Apart one two w.made) →
      Alike one two (frame_answered end result x answers w) (frame_answered end result y answers (apart w v))
  alike_frame end result same [] w v = stops (no_answer same) v
  alike_frame end result same (zero ∷ []) w v = stops (no_answer same) v
  alike_frame end result same (suc n ∷ []) w v = stops (no_answer same) v
  alike_frame end result same (zero ∷ a ∷ answers) w v = gives nowhere (made_further v same)
  alike_frame end result {x} same (suc n ∷ a ∷ answers) w v =
      let after : World = record w { made = w.made ++ x ∷ []; answers = answers } in
      alike_tested end ty.Val (Word a) after (made_further v same) (raises nowhere (made_further v same))

  alike_as : (frame : Bool) (end : ℕ) (result : Ret) {x y : Made} → IsCallAlike one two x y → (answers : List ℕ) (w : World) (v : Apart one two w.made) →
      Alike one two (answered_as frame end result x answers w) (answered_as frame end result y answers (apart w v))
  alike_as true end result same answers w v = alike_frame end result same answers w v
  alike_as false end result same answers w v = alike_answered result same answers w v

  alike_outside : (end : ℕ) (row : External) (frame : Bool) (arguments : List Value) (w : World) (v : Apart one two w.made) →
      Alike one two (outside end one row frame arguments w) (outside end two row frame arguments (apart w v))
  alike_outside end row frame arguments w v = alike_as frame end row.result (record { name = refl; shown = shown_alike arguments }) w.answers w v

  -- ---- activations

  alike_activated : (s : Surroundings) (c : Called → World → Evaluation) (x : External → Bool → List Value → World → Evaluation) → DoAlike one two s c x →
      (frame other : ℕ) (o : Option FunctionTree) (arguments : List Value) (below under : ℕ) (w : World) (v : Apart one two w.made) →
      Alike one two (activated s frame o arguments below w) (activated (with_calls s c x) other o arguments under (apart w v))
  alike_activated s c x d frame other None arguments below under w v = alike_improper v
  alike_activated s c x d frame other (Some f) arguments below under w v =
      let here : Here = record { names = bound (map scoped_parameter f.params) arguments []; below = below; frame = frame; tries = 0 } in
      let deeper : Apart one two w.made = record v { stack_need = max v.stack_need (under + other) } in
      alike_evaluated s c x d f.body true here (deepened (below + frame) w) (record { below = under; frame = other }) deeper

  module _ (file : FileTree) where
    abbrev around : ℕ → Surroundings
    around depth =
        record {
          end = data_end file;
          symbol = value_of_symbol file;
          parameters = map comps_of (functions file);
          call = callees file one depth;
          external = outside (data_end file) one;
        }

    alike_callees : (depth : ℕ) (call : Called) (w : World) (below : ℕ) (v : Apart one two w.made) →
        Alike one two (callees file one depth call w) (callees file two depth (record call { below = below }) (apart w v))
    alike_callees zero call w below v = stops no_fuel v
    alike_callees (suc depth) call w below v =
        alike_activated (around depth) (callees file two depth) (outside (data_end file) two)
        (record { calls = alike_callees depth; outside = alike_outside (data_end file) })
        (slice_index one.frames call.function) (slice_index two.frames call.function)
        (slice_get (functions file) call.function) call.arguments call.below below w v

  -- ---- runs

  given_alike : (a : Option Value) → AreGivenAlike one two (option_map (observed one) a) (option_map (observed two) a)
  given_alike None = nothing
  given_alike (Some a) = a_value (value_alike a)

  alike_finished : {x y : Evaluation} → Alike one two x y → AreRunsAlike one two (finished one x) (finished two y)
  alike_finished (gives {a} p v) = record { outcome = return_alike (given_alike a); calls = v.alike; heap_need = refl; left = refl }
  alike_finished (exits p v) = record { outcome = both_improper; calls = v.alike; heap_need = refl; left = refl }
  alike_finished (raises {a} p v) = record { outcome = raise_alike (value_alike a); calls = v.alike; heap_need = refl; left = refl }
  alike_finished (stops no_fuel v) = record { outcome = both_more; calls = v.alike; heap_need = refl; left = refl }
  alike_finished (stops improper v) = record { outcome = both_improper; calls = v.alike; heap_need = refl; left = refl }
  alike_finished (stops (no_answer same) v) = record { outcome = ask_alike same; calls = v.alike; heap_need = refl; left = refl }

  pub runs_alike : (file : FileTree) (entry : ℕ) (args answers : List ℕ) (n : ℕ) →
      AreRunsAlike one two (cmm_run file one entry args answers n) (cmm_run file two entry args answers n)
  runs_alike file entry args answers n =
      alike_finished (alike_callees file (suc n) (first_call entry args) (first_world file answers n) 0 (record { stack_need = 0; calls = []; alike = tt }))
