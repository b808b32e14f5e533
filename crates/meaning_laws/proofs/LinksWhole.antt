-- The calls of a whole file: they go on, raise what fits val, and do the same with more units.
use Rattle.std.proofs.Common.{◌≡◌, ℕ, zero, suc, ◌+◌, ◌≤◌, true, List, [], ◌∷◌, Option, Some, None, subst, arith}
use Rattle.std.proofs.lemmas.Bool.Decides.{nat_tests}
use Rattle.std.specs.Prelude.{slice_index, slice_get}
use Rattle.bs_words.specs.Fits.{fits, data_start}
use Rattle.bs_words.specs.declared.types.Ty.TheVariants as ty
use Rattle.bs_words.specs.declared.values.Kind.TheVariants.{BadCall}
use Rattle.bs_words.specs.declared.values.Value.{Value}
use Rattle.cmm_data.specs.Placement.{size_at, end_of_items, start_behind, end_behind, end_of_lists, lists_of, data_end}
use Rattle.cmm_tree.specs.Tree.{FunctionTree, FileTree, DataListTree, DataItemTree, functions}
use Rattle.cmm_meaning.specs.Layout.{Layout}
use Rattle.cmm_meaning.specs.State.{World}
use Rattle.cmm_meaning.specs.Evaluation.{NotProper, Evaluation, Stops, Surroundings, bound_error}
use Rattle.cmm_meaning.specs.Run.{activated, callees}
use Rattle.meaning_laws.specs.Does.{played}
use Rattle.cmm_meaning.specs.Setting.{setting_of}
use Rattle.meaning_laws.specs.Interaction.{function_does}
use Rattle.meaning_laws.specs.Fitting.{Lawful, RaisedFits, stopped, CallsFitAndGrow}
use Rattle.meaning_laws.specs.Units.{with_more, world_of, Later, Continues, alike, further, CallsContinue}
use Rattle.meaning_fuel.specs.Whole.{file_surroundings}
use Rattle.meaning_laws.proofs.AgreementRuns.{function_plays, nested, nested_spending}
use Rattle.meaning_fuel.proofs.Depth.{Spending, depth_free}
use Rattle.meaning_laws.proofs.Extends.{extends_same}
use Rattle.meaning_laws.proofs.LawfulForms.{running, running_lawful}
use Rattle.meaning_laws.proofs.LinksOutside.{outside_answers, outside_continues}
use Rattle.meaning_laws.proofs.Units.{Onward-same, Later-same, played_later, played_fits}
use Rattle.meaning_laws.proofs.UnitsContinued.{onward_left, played_continues}

-- ---- the built-in symbol is in the data

items_grow : (address : ℕ) (items : List DataItemTree) → address ≤ end_of_items address items
items_grow address [] = omega arith
items_grow address (i ∷ items) = let rest = items_grow (address + size_at address i.datum) items in omega arith

lists_grow : (end : ℕ) (lists : List DataListTree) → end ≤ end_of_lists end lists
lists_grow end [] = omega arith
lists_grow end (d ∷ lists) =
    let here = items_grow (start_behind end) d.items in
    let rest = lists_grow (end_behind end d) lists in
    omega arith

still_from : (end : ℕ) → data_start ≤ end → fits end ty.Val bound_error ≡ true
still_from end le = grind (arith, nat_tests)

pub bound_error_fits : (file : FileTree) → fits (data_end file) ty.Val bound_error ≡ true
bound_error_fits file = still_from (data_end file) (lists_grow data_start (lists_of file))

-- ---- an activation

module _ (s : Surroundings) (spending : Spending s) (calls_fit : CallsFitAndGrow s) (still : fits s.end ty.Val bound_error ≡ true) where
  activation_lawful : (turns frame : ℕ) (f : FunctionTree) (arguments : List Value) (below : ℕ) (w : World) →
      Lawful (running (setting_of s) frame f arguments below) w.memory (function_does (setting_of s) turns frame f arguments below w.memory)
  activation_lawful turns frame f arguments below w = running_lawful (setting_of s) turns still frame f arguments below w.memory

  activated_later : (frame : ℕ) (o : Option FunctionTree) (arguments : List Value) (below : ℕ) (w : World) →
      Later w (world_of (activated s frame o arguments below w))
  activated_later frame None arguments below w = Later-same w
  activated_later frame (Some f) arguments below w =
      subst (λ (e : Evaluation). Later w (world_of e)) (function_plays s spending w.left frame f arguments below w (omega arith))
      (played_later s calls_fit (running (setting_of s) frame f arguments below) (activation_lawful w.left frame f arguments below w) w (extends_same w.memory))

  activated_fits : (frame : ℕ) (o : Option FunctionTree) (arguments : List Value) (below : ℕ) (w : World) →
      RaisedFits s.end (activated s frame o arguments below w)
  activated_fits frame None arguments below w = stopped
  activated_fits frame (Some f) arguments below w =
      subst (λ (e : Evaluation). RaisedFits s.end e) (function_plays s spending w.left frame f arguments below w (omega arith))
      (played_fits s calls_fit (running (setting_of s) frame f arguments below) (activation_lawful w.left frame f arguments below w) w)

  activated_continues : CallsContinue s → (k frame : ℕ) (o : Option FunctionTree) (arguments : List Value) (below : ℕ) (w : World) →
      Continues k (activated s frame o arguments below w) (activated s frame o arguments below (with_more k w))
  activated_continues calls_continue k frame None arguments below w = alike (Stops (NotProper BadCall) w)
  activated_continues calls_continue k frame (Some f) arguments below w =
      let turns : ℕ = w.left + k in
      let one : played s (function_does (setting_of s) turns frame f arguments below w.memory) w ≡ activated s frame (Some f) arguments below w = function_plays s spending turns frame f arguments below w (omega arith) in
      let two : played s (function_does (setting_of s) turns frame f arguments below w.memory) (with_more k w) ≡ activated s frame (Some f) arguments below (with_more k w) = function_plays s spending turns frame f arguments below (with_more k w) (omega arith) in
      subst (λ (e : Evaluation). Continues k e (activated s frame (Some f) arguments below (with_more k w))) one
      (subst (λ (e : Evaluation). Continues k (played s (function_does (setting_of s) turns frame f arguments below w.memory) w) e) two
      (played_continues k s calls_fit calls_continue (running (setting_of s) frame f arguments below) (activation_lawful turns frame f arguments below w) w (extends_same w.memory)))

-- ---- where activations nest at most so deep

module _ (file : FileTree) (layout : Layout) where
  pub nested_calls_fit : (depth : ℕ) → CallsFitAndGrow (nested file layout depth)
  nested_calls_fit zero = record { later = λ call w. Later-same w; fit = λ call w. stopped; answers = outside_answers (data_end file) layout }
  nested_calls_fit (suc depth) =
      record {
        later = λ call w.
            activated_later (nested file layout depth) (nested_spending file layout depth) (nested_calls_fit depth) (bound_error_fits file)
            (slice_index layout.frames call.function) (slice_get (functions file) call.function) call.arguments call.below w;
        fit = λ call w.
            activated_fits (nested file layout depth) (nested_spending file layout depth) (nested_calls_fit depth) (bound_error_fits file)
            (slice_index layout.frames call.function) (slice_get (functions file) call.function) call.arguments call.below w;
        answers = outside_answers (data_end file) layout;
      }

  pub nested_calls_continue : (depth : ℕ) → CallsContinue (nested file layout depth)
  nested_calls_continue zero =
      record { call = λ k call w. further (onward_left (w.left + k) w (Onward-same w)); external = outside_continues (data_end file) layout }
  nested_calls_continue (suc depth) =
      record {
        call = λ k call w.
            activated_continues (nested file layout depth) (nested_spending file layout depth) (nested_calls_fit depth)
            (bound_error_fits file) (nested_calls_continue depth)
            k (slice_index layout.frames call.function) (slice_get (functions file) call.function) call.arguments call.below w;
        external = outside_continues (data_end file) layout;
      }

  -- ---- where it is not asked how deep they nest

  pub whole_calls_fit : CallsFitAndGrow (file_surroundings file layout)
  whole_calls_fit =
      record {
        later =
            λ call w. let r : CallsFitAndGrow (nested file layout (suc w.left)) = nested_calls_fit (suc w.left) in r.later call w;
        fit =
            λ call w. let r : CallsFitAndGrow (nested file layout (suc w.left)) = nested_calls_fit (suc w.left) in r.fit call w;
        answers = outside_answers (data_end file) layout;
      }

  pub whole_calls_continue : CallsContinue (file_surroundings file layout)
  whole_calls_continue =
      record {
        call = λ k call w.
            let t : CallsContinue (nested file layout (suc (w.left + k))) = nested_calls_continue (suc (w.left + k)) in
            subst (λ (e : Evaluation). Continues k e (callees file layout (suc (w.left + k)) call (with_more k w)))
            (depth_free file layout (suc (w.left + k)) (suc w.left) call w (omega arith) (omega arith))
            (t.call k call w);
        external = outside_continues (data_end file) layout;
      }
