use Rattle.std.proofs.Common.{◌∙◌, ap, sym, Option}
use Rattle.bs_words.specs.declared.values.Kind.{Kind}
use Rattle.eval_frames.specs.Filled.{or_improper, resume, bindings_from}
use Rattle.eval_frames.specs.Around.{around_view}
use Rattle.cmm_eval.specs.Stands.{stands}
use Rattle.eval_frames.specs.Views.{here_view, world_view}
use Rattle.eval_frames.specs.declared.frame.Now.{Now}
use Rattle.cmm_eval.proofs.Ended.{if_ok_then, first_is_bound}
use Rattle.cmm_eval.proofs.machine.Machine.bound.Goals as goal

pub returns-in-Some-2-clause-meaning : goal.returns-in-Some-2-clause-meaning
returns-in-Some-2-clause-meaning c =
    let s = around_view c.args.around.now in
    let m = c.args.self.now in
    let here = here_view c.bind_value.new.here in
    let w = world_view m.world in
    let rest = c.in-Some.rest.now in
    ap (λ (n : Now). stands c.args.around.now (record m { here = c.bind_value.new.here }) n) c.not_proper-in-Some-2.ensures
    ∙ ap (resume s m.frames.items)
    (sym (ap (λ (k : Option Kind). or_improper k w (bindings_from s rest here w)) c.in-Some-2.is)
    ∙ first_is_bound s c.args.around.now.end c.args.bindings.now c.in-Some.binding.now rest c.args.value (here_view m.here) here w c.in_ok-kind-in-Some.field-0
    c.in-Some.ensures.cases.0 c.requires.end c.in_ok-kind-in-Some.ensures)

pub returns-in-None-2-clause-meaning : goal.returns-in-None-2-clause-meaning
returns-in-None-2-clause-meaning c =
    let s = around_view c.args.around.now in
    let m = c.args.self.now in
    let here = here_view c.bind_value.new.here in
    let w = world_view m.world in
    let rest = c.in-Some.rest.now in
    if_ok_then _ _ c.bind_next.result (λ now p. p s
    ∙ ap (resume s m.frames.items)
    (sym (ap (λ (k : Option Kind). or_improper k w (bindings_from s rest here w)) c.in-None-2.is)
    ∙ first_is_bound s c.args.around.now.end c.args.bindings.now c.in-Some.binding.now rest c.args.value (here_view m.here) here w c.in_ok-kind-in-Some.field-0
    c.in-Some.ensures.cases.0 c.requires.end c.in_ok-kind-in-Some.ensures)) c.bind_next.ensures.meaning
