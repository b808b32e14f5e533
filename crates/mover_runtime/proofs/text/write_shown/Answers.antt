use Rattle.std.proofs.Common.{ℕ, ◌+◌, List, [], ◌++◌, drop, get_or, ap, ◌∙◌, sym, subst, refl, append_assoc, arith}
use Rattle.std.specs.Prelude.{codes}
use Rattle.std.specs.Io.KnownBytes.{Appends}
use Rattle.bs_words.specs.declared.values.Obs.TheVariants.{Word}
use Rattle.rv_machine.specs.Text.{obs_text, shown_text}
use Rattle.mover_runtime.specs.Written.{AppendsResult}
use Rattle.mover_runtime.proofs.Shown.{seen_next, seen_all}
use Rattle.mover_runtime.proofs.Writing.{appends_nothing, appends_then, writes_then, writes_first}
use Rattle.mover_runtime.proofs.text.write_shown.Goals as goal

pub loop-obs-init : goal.loop-obs-init
loop-obs-init g c = (([], appends_nothing (g.K.Sink.held c.args.out.now), refl), omega arith)

pub loop-obs-preserved : goal.loop-obs-preserved
loop-obs-preserved g c =
    let inv = c.loop-obs.invariant in
    let piece = codes " " ++ obs_text (get_or c.args.shown.now c.loop-obs.obs-index (Word 0)) in
    let k = c.loop-obs.obs-index in (
      (
        inv.0.0 ++ piece,
        appends_then (g.K.Sink.held c.args.out.now) (g.K.Sink.held c.loop-obs.out) (g.K.Sink.held c.put_obs.new.out) inv.0.0 piece inv.0.1 c.in_ok-put_obs.ensures.text,
        inv.0.2
            ∙ ap (λ (t : List ℕ). inv.0.0 ++ t) (seen_next c.args.shown.now k c.loop-obs-test.true)
            ∙ sym (append_assoc inv.0.0 piece (shown_text (drop (k + 1) c.args.shown.now))),
      ),
      omega (arith, inv.1, c.in_ok-put_obs.ensures.counts),
    )

pub returns-in_err-put_obs-clause-text : goal.returns-in_err-put_obs-clause-text
returns-in_err-put_obs-clause-text g c =
    let inv = c.loop-obs.invariant in
    let piece = codes " " ++ obs_text (get_or c.args.shown.now c.loop-obs.obs-index (Word 0)) in
    let k = c.loop-obs.obs-index in
    let rest = shown_text (drop (k + 1) c.args.shown.now) in
    subst (AppendsResult c.from_residual.result (g.K.Sink.held c.args.out.now) (g.K.Sink.held c.put_obs.new.out))
    (sym (inv.0.2 ∙ ap (λ (t : List ℕ). inv.0.0 ++ t) (seen_next c.args.shown.now k c.loop-obs-test.true)))
    (writes_then c.from_residual.result (g.K.Sink.held c.args.out.now) (g.K.Sink.held c.loop-obs.out) (g.K.Sink.held c.put_obs.new.out) inv.0.0 (piece ++ rest) inv.0.1
    (writes_first c.from_residual.result (g.K.Sink.held c.loop-obs.out) (g.K.Sink.held c.put_obs.new.out) piece rest c.from_residual.ensures.0 c.in_err-put_obs.ensures.text))

pub returns-clause-text : goal.returns-clause-text
returns-clause-text g c =
    let inv = c.loop-obs.invariant in
    subst (Appends (g.K.Sink.held c.args.out.now) (g.K.Sink.held c.loop-obs.out))
    (sym (inv.0.2 ∙ seen_all c.args.shown.now c.loop-obs.obs-index inv.0.0 c.loop-obs-test.false))
    inv.0.1
