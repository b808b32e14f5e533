use Rattle.std.proofs.Common.{◌≡◌, ◌∙◌, ℕ, false, List, [], Option, Some, IsTrue, map, ap, sym}
use Rattle.std.specs.Prelude.{slice_get, slice_index, option_copied}
use Rattle.std.proofs.lemmas.Option.{slice_get_past, slice_get-get_or}
use Rattle.bs_words.specs.Contents.{contents}
use Rattle.bs_words.specs.Memory.{Memory, end_of_data}
use Rattle.bs_words.specs.Observed.{Made}
use Rattle.bs_words.specs.declared.values.Call.{Call}
use Rattle.bs_words.specs.declared.values.Value.{Value}
use Rattle.bs_words.specs.declared.values.Value.TheVariants.{Word}
use Rattle.cmm_tree.specs.View.{file_view, params_view}
use Rattle.cmm_tree.specs.declared.file.Function.{Function}
use Rattle.cmm_data.specs.Contents.{first_memory}
use Rattle.cmm_data.proofs.Laws.{end_of_data-first_memory}
use Rattle.cmm_meaning.specs.State.{World, Here, bound, deepened}
use Rattle.cmm_meaning.specs.Evaluation.{scoped_parameter}
use Rattle.cmm_meaning.specs.Run.{finished, first_world, nobody}
use Rattle.eval_frames.specs.Around.{functions_in, activated_held, surroundings_of_file}
use Rattle.eval_frames.specs.Views.{layout_view, here_view, world_view, outcome_view, call_view}
use Rattle.eval_frames.specs.declared.here.Here as here
use Rattle.eval_frames.specs.declared.world.World as world
use Rattle.cmm_eval.proofs.Called.{copied_get, entry_missing, first_stands}
use Rattle.cmm_eval.proofs.Passing.{finished_back}
use Rattle.eval_frames.proofs.HeldCalls.{run_held}
use Rattle.cmm_eval.proofs.evaluation.eval.Goals as goal

not_true : IsTrue false → ⊥
not_true t = cc

-- an entry that fits is a function of the file
pub unreachable-requires : goal.unreachable-requires
unreachable-requires c =
    let k = c.args.entry in
    let functions = c.in_ok-functions.functions.items in
    not_true ((entry_missing c.args.file.now k c.args.args.now
    (sym (copied_get functions k ∙ ap (λ l. slice_get l k) c.in_ok-functions.ensures)
    ∙ ap (λ l. option_copied (slice_get l k)) (sym c.deref.ensures.value)
    ∙ ap option_copied (slice_get_past c.deref.result.now k c.in_default.ensures.lookup.3))).1 c.requires.entry)

pub run-requires : goal.run-requires
run-requires c = record {
  end = c.end_of_data.ensures ∙ ap end_of_data c.in_ok-memory.ensures ∙ end_of_data-first_memory (file_view c.args.file.now);
  symbols = c.in_ok-of_file.ensures;
  functions = λ k. copied_get c.in_ok-functions.functions.items k ∙ ap (λ l. slice_get l k) c.in_ok-functions.ensures;
  typed = c.requires.typed;
}

pub returns : goal.returns
returns c =
    let file = c.args.file.now in
    let layout = layout_view c.args.layout.now in
    let s = surroundings_of_file file layout in
    let k = c.args.entry in
    let functions = c.in_ok-functions.functions.items in
    let f = c.in-Some.function.now in
    let m = c.run.new.self in
    let h = here_view m.here in
    let w = world_view m.world in
    let frame = slice_index layout.frames k in
    let arguments = map Word c.args.args.now in
    let begun = first_world (file_view file) c.args.answers.now c.args.fuel in
    let found : slice_get (functions_in (contents file.items)) k ≡ Some f.now =
    sym (copied_get functions k ∙ ap (λ l. slice_get l k) c.in_ok-functions.ensures)
    ∙ ap (λ l. option_copied (slice_get l k)) (sym c.deref.ensures.value)
    ∙ ap option_copied (slice_get-get_or c.deref.result.now k f c.in-Some.ensures.lookup.3.0 ∙ ap Some (sym c.in-Some.ensures.lookup.1)) in
    let first : World = world_view (record { left = c.args.fuel; stack_need = 0; memory = c.in_ok-memory.memory; made = c.new.result; answers = c.args.answers }) in
    let is-memory : c.in_ok-memory.memory ≡ first_memory (file_view file) = c.in_ok-memory.ensures in
    let is-made : map call_view c.new.result.items ≡ [] = ap (map call_view) c.new.ensures.items in
    let is-begun : first ≡ begun =
    ap (λ (l : List Made). record first { made = l }) is-made ∙ ap (λ (memory : Memory). record begun { memory = memory }) is-memory in
    let is-arguments : c.as_slice.result.now ≡ arguments = c.as_slice.ensures.value ∙ c.in_ok-arguments.ensures in
    let here-of : List Value → Here =
    λ l. record { names = bound (map scoped_parameter (params_view (contents f.now.params))) l []; below = 0; frame = c.frame_of-frame.result; tries = 0 } in
    let is-here : here_view c.in_ok-here.here ≡ here-of arguments = c.in_ok-here.ensures ∙ ap here-of is-arguments in
    let is-world : world_view c.deepen.new.self ≡ deepened c.frame_of-frame.result begun = c.deepen.ensures ∙ ap (deepened c.frame_of-frame.result) is-begun in
    let here-at : ℕ → Here =
    λ b. record { names = bound (map scoped_parameter (params_view (contents f.now.params))) arguments []; below = 0; frame = b; tries = 0 } in
    let p = c.in_ok-push.ensures in
    let stood = first_stands s c.new-2.result.items c.push.new.self.frames.items _ _ c.nobody.result c.none.result f.now frame arguments
    (here_view c.push.new.self.here) (world_view c.push.new.self.world) begun
    c.new-2.ensures.items p.frames c.nobody.ensures c.none.ensures
    (ap (λ (h : here.Here). here_view h) p.here ∙ is-here ∙ ap here-at c.frame_of-frame.ensures)
    (ap (λ (w : world.World). world_view w) p.world ∙ is-world ∙ ap (λ (b : ℕ). deepened b begun) c.frame_of-frame.ensures) in
    ap (λ (l : List Call). record { outcome = outcome_view c.finished-outcome.result; calls = map call_view l; stack_need = w.stack_need; heap_need = c.heap_need.result; left = w.left }) c.from_vec-calls.ensures
    ∙ ap (λ (n : ℕ). record { outcome = outcome_view c.finished-outcome.result; calls = w.made; stack_need = w.stack_need; heap_need = n; left = w.left }) c.heap_need.ensures
    ∙ sym (c.finished-outcome.ensures s h w)
    ∙ ap (finished layout) (c.in_ok-end.ensures.end ∙ stood)
    ∙ finished_back layout nobody (activated_held s frame (Some f.now) arguments 0 begun)
    ∙ ap (λ (o : Option Function). finished layout (activated_held s frame o arguments 0 begun)) (sym found)
    ∙ sym (run_held file layout c.requires.typed k c.args.args.now c.args.answers.now c.args.fuel c.requires.entry)
