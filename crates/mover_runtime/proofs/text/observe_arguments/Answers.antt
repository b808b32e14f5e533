use Rattle.std.proofs.Common.{◌≡◌, ◌<◌, length, ap, arith, ◌∙◌}
use Rattle.std.proofs.lemmas.List.{length-set}
use Rattle.bs_words.specs.Contents.{contents}
use Rattle.mover_runtime.proofs.Shown.{one_observed, all_observed}
use Rattle.mover_runtime.proofs.text.observe_arguments.Goals as goal

pub loop-k-preserved : goal.loop-k-preserved
loop-k-preserved c =
    let same : length c.as_slice-comp-items.result.now ≡ length (contents c.args.comps.now) = ap length c.as_slice-comp-items.ensures in
    let here : c.loop-k.k < length c.loop-k.shown = omega (arith, c.loop-k.invariant.len, c.requires, same, c.loop-k-test.true) in
    record {
      len = length-set c.loop-k.shown c.loop-k.k c.observe.result ∙ c.loop-k.invariant.len;
      rest = c.loop-k.invariant.rest
          ∙ one_observed (contents c.args.comps.now) c.as_slice-comp-items.result.now c.loop-k.k c.register-word.result c.observe.result c.loop-k.shown c.args.machine.now
          c.as_slice-comp-items.ensures c.loop-k-test.true here c.register-word.ensures c.observe.ensures;
    }

pub returns-clause-shown : goal.returns-clause-shown
returns-clause-shown c =
    let same : length c.as_slice-comp-items.result.now ≡ length (contents c.args.comps.now) = ap length c.as_slice-comp-items.ensures in
    all_observed (contents c.args.comps.now) c.loop-k.k c.loop-k.shown c.args.machine.now (omega (arith, same, c.loop-k-test.false)) (omega (arith, same, c.loop-k.auto.k-end)) c.loop-k.invariant.rest
