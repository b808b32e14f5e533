use Rattle.std.proofs.Common.{◌≡◌, ◌∙◌, ℕ, List, Some, map, ap, sym}
use Rattle.std.specs.Prelude.{slice_get, option_copied}
use Rattle.std.proofs.lemmas.Option.{slice_get_past, slice_get-get_or}
use Rattle.bs_words.specs.Contents.{contents}
use Rattle.bs_words.specs.Memory.{end_of_data}
use Rattle.bs_words.specs.declared.values.Value.{Value}
use Rattle.cmm_tree.specs.Tree.{Parameter}
use Rattle.cmm_tree.specs.View.{file_view, params_view}
use Rattle.cmm_tree.specs.declared.file.Param.{Param}
use Rattle.cmm_data.specs.Placement.{data_end}
use Rattle.cmm_data.proofs.Laws.{end_of_data-first_memory}
use Rattle.cmm_meaning.specs.Evaluation.{fit_parameters}
use Rattle.eval_frames.specs.Around.{functions_in}
use Rattle.cmm_eval.proofs.Called.{copied_get, entry_missing, entry_tested}
use Rattle.cmm_eval.proofs.evaluation.fits_entry.Goals as goal

pub returns-in_default : goal.returns-in_default
returns-in_default c =
    let k = c.args.entry in
    let functions = c.in_ok-functions.functions.items in
    entry_missing c.args.file.now k c.args.args.now
    (sym (copied_get functions k ∙ ap (λ l. slice_get l k) c.in_ok-functions.ensures)
    ∙ ap (λ l. option_copied (slice_get l k)) (sym c.deref.ensures.value)
    ∙ ap option_copied (slice_get_past c.deref.result.now k c.in_default.ensures.lookup.3))

pub returns : goal.returns
returns c =
    let file = c.args.file.now in
    let k = c.args.entry in
    let functions = c.in_ok-functions.functions.items in
    let f = c.in-Some.function.now in
    let found : slice_get (functions_in (contents file.items)) k ≡ Some f.now =
    sym (copied_get functions k ∙ ap (λ l. slice_get l k) c.in_ok-functions.ensures)
    ∙ ap (λ l. option_copied (slice_get l k)) (sym c.deref.ensures.value)
    ∙ ap option_copied (slice_get-get_or c.deref.result.now k f c.in-Some.ensures.lookup.3.0 ∙ ap Some (sym c.in-Some.ensures.lookup.1)) in
    let fit = λ (end : ℕ) (params : List Param) (values : List Value). fit_parameters end (map (λ (p : Parameter). p.comp) (params_view params)) values in
    entry_tested file k f.now c.args.args.now c.fit_parameters.result found
    (c.fit_parameters.ensures
    ∙ ap (λ (end : ℕ). fit end c.as_slice-params.result.now c.as_slice.result.now) (c.end_of_data.ensures ∙ ap end_of_data c.in_ok-memory.ensures ∙ end_of_data-first_memory (file_view file))
    ∙ ap (λ (l : List Param). fit (data_end (file_view file)) l c.as_slice.result.now) c.as_slice-params.ensures
    ∙ ap (λ (l : List Value). fit (data_end (file_view file)) (contents f.now.params) l) (c.as_slice.ensures.value ∙ c.in_ok-arguments.ensures))
