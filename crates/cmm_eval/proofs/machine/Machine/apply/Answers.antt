use Rattle.std.proofs.Common.{◌≡◌, ◌∙◌, ℕ, true, false, List, None, Some, map, ap, sym}
use Rattle.std.specs.Prelude.{slice_get, slice_index, option_copied}
use Rattle.bs_words.specs.Contents.{contents}
use Rattle.cmm_tree.specs.Tree.{Parameter}
use Rattle.cmm_tree.specs.View.{params_view}
use Rattle.cmm_tree.specs.declared.file.Param.{Param}
use Rattle.std.proofs.lemmas.Option.{slice_get_past, slice_get-get_or}
use Rattle.bs_words.specs.declared.values.Value.{Value}
use Rattle.cmm_meaning.specs.Evaluation.{Surroundings, and_then, fit_parameters, back_from_call, as_written, stack_below, applied}
use Rattle.eval_frames.specs.Filled.{resume}
use Rattle.eval_frames.specs.Around.{around_view, activated_held}
use Rattle.cmm_eval.specs.Stands.{stands, goes_on, stands_in, goes_on_in}
use Rattle.eval_frames.specs.Views.{layout_view, here_view, world_view}
use Rattle.eval_frames.specs.declared.frame.Now.{Now}
use Rattle.cmm_eval.proofs.Ended.{if_ok_then}
use Rattle.eval_frames.proofs.HeldAround.{call_missing, call_misfit, call_fit}
use Rattle.cmm_eval.proofs.machine.Machine.apply.Goals as goal

pub returns-in_default-get-clause-meaning : goal.returns-in_default-get-clause-meaning
returns-in_default-get-clause-meaning c =
    let a = c.args.around.now in
    let s = around_view a in
    let m = c.args.self.now in
    let k = c.in-Function.number in
    let h = here_view m.here in
    let w = world_view m.world in
    let values = c.args.arguments.items in
    let missing : option_copied (slice_get a.functions.items k) ≡ None =
    ap (λ l. option_copied (slice_get l k)) (sym c.deref.ensures.value) ∙ ap option_copied (slice_get_past c.deref.result.now k c.in_default-get.ensures.lookup.3) in
    ap (λ (n : Now). stands a m n) c.not_proper-in_default-get.ensures
    ∙ ap (resume s m.frames.items) (sym (call_missing a c.requires k missing values c.args.written c.args.tail h w))
    ∙ sym (ap (λ (v : Value). resume s m.frames.items (applied s v values c.args.written c.args.tail h w)) c.in-Function.is)

pub returns-then-not-fit_parameters-clause-meaning : goal.returns-then-not-fit_parameters-clause-meaning
returns-then-not-fit_parameters-clause-meaning c =
    let a = c.args.around.now in
    let s = around_view a in
    let m = c.args.self.now in
    let k = c.in-Function.number in
    let h = here_view m.here in
    let w = world_view m.world in
    let values = c.args.arguments.items in
    let f = c.in-Some.function.now in
    let found : option_copied (slice_get a.functions.items k) ≡ Some f.now =
    ap (λ l. option_copied (slice_get l k)) (sym c.deref.ensures.value)
    ∙ ap option_copied (slice_get-get_or c.deref.result.now k f c.in-Some.ensures.lookup.3.0 ∙ ap Some (sym c.in-Some.ensures.lookup.1)) in
    let fits : fit_parameters a.end (map (λ (p : Parameter). p.comp) (params_view (contents f.now.params))) values ≡ false =
    ap (λ (l : List Param). fit_parameters a.end (map (λ (p : Parameter). p.comp) (params_view l)) values) (sym c.as_slice.ensures)
    ∙ ap (λ (l : List Value). fit_parameters a.end (map (λ (p : Parameter). p.comp) (params_view c.as_slice.result.now)) l) (sym c.as_slice-arguments.ensures.value)
    ∙ sym c.fit_parameters.ensures ∙ c.if-not-fit_parameters.true in
    ap (λ (n : Now). stands a m n) c.not_proper-then-not-fit_parameters.ensures
    ∙ ap (resume s m.frames.items) (sym (call_misfit a c.requires k f.now found values fits c.args.written c.args.tail h w))
    ∙ sym (ap (λ (v : Value). resume s m.frames.items (applied s v values c.args.written c.args.tail h w)) c.in-Function.is)

pub returns-clause-meaning : goal.returns-clause-meaning
returns-clause-meaning c =
    let a = c.args.around.now in
    let s = around_view a in
    let m = c.args.self.now in
    let k = c.in-Function.number in
    let h = here_view m.here in
    let w = world_view m.world in
    let values = c.args.arguments.items in
    let tail = c.args.tail in
    let written = c.args.written in
    let f = c.in-Some.function.now in
    let found : option_copied (slice_get a.functions.items k) ≡ Some f.now =
    ap (λ l. option_copied (slice_get l k)) (sym c.deref.ensures.value)
    ∙ ap option_copied (slice_get-get_or c.deref.result.now k f c.in-Some.ensures.lookup.3.0 ∙ ap Some (sym c.in-Some.ensures.lookup.1)) in
    let fits : fit_parameters a.end (map (λ (p : Parameter). p.comp) (params_view (contents f.now.params))) values ≡ true =
    ap (λ (l : List Param). fit_parameters a.end (map (λ (p : Parameter). p.comp) (params_view l)) values) (sym c.as_slice.ensures)
    ∙ ap (λ (l : List Value). fit_parameters a.end (map (λ (p : Parameter). p.comp) (params_view c.as_slice.result.now)) l) (sym c.as_slice-arguments.ensures.value)
    ∙ sym c.fit_parameters.ensures ∙ c.if-not-fit_parameters.false in
    let call = λ (frame : ℕ) (l : List Value).
    resume s m.frames.items (and_then (back_from_call h (activated_held s frame (Some f.now) l (stack_below tail h) w)) (λ v h w. as_written written v h w)) in
    if_ok_then
    (λ now. (s : Surroundings) → stands_in s c.activate.new.self now
    ≡ goes_on_in s m (λ h w. and_then (back_from_call h (activated_held s c.frame_of.result (Some f.now) c.as_slice-arguments.result.now (stack_below tail h) w)) (λ v h w. as_written written v h w)))
    (λ now. stands a c.activate.new.self now ≡ goes_on a m (λ h w. applied s c.args.callee values written tail h w)) c.activate.result
    (λ now p. p s
    ∙ ap (λ (n : ℕ). call n c.as_slice-arguments.result.now) c.frame_of.ensures
    ∙ ap (call (slice_index (layout_view a.layout.now).frames k)) c.as_slice-arguments.ensures.value
    ∙ ap (resume s m.frames.items) (sym (call_fit a c.requires k f.now found values fits written tail h w))
    ∙ sym (ap (λ (v : Value). resume s m.frames.items (applied s v values written tail h w)) c.in-Function.is))
    c.activate.ensures.meaning
