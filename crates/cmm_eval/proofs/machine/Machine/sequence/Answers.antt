use Rattle.std.proofs.Common.{ap, sym, ◌∙◌}
use Rattle.eval_frames.specs.Filled.{elements_from, resume}
use Rattle.eval_frames.specs.Held.{inside}
use Rattle.eval_frames.specs.Views.{here_view, world_view}
use Rattle.cmm_eval.proofs.Ended.{if_ok_then}
use Rattle.eval_frames.proofs.Listed.{sequence_is}
use Rattle.cmm_eval.proofs.machine.Machine.sequence.Goals as goal

pub returns-clause-meaning : goal.returns-clause-meaning
returns-clause-meaning c =
    let m = c.args.self.now in
    let tail = c.args.tail in
    let h = here_view m.here in
    let w = world_view m.world in
    if_ok_then _ _ c.elements.result (λ now p s. p s
    ∙ ap (resume s m.frames.items)
    (ap (λ l. elements_from s l tail h w) c.as_slice.ensures.value
    ∙ sym (sequence_is s c.in-Seq.elements tail h w)
    ∙ ap (λ f. inside s f tail h w) (sym c.in-Seq.is))) c.elements.ensures.meaning
