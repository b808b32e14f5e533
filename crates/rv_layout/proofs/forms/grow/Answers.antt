use Rattle.std.proofs.Common.{[], ◌∷◌, ap, ◌∙◌, arith}
use Rattle.rv_layout_rules.specs.declared.form.Form.TheVariants.{Near}
use Rattle.rv_layout_rules.specs.Forms.{ranks, none_far, grown_from}
use Rattle.rv_layout_rules.proofs.Relaxing.{ranks_append}
use Rattle.rv_layout.specs.Tables.{words_of_labels}
use Rattle.rv_layout.proofs.Steps.{grown_step}
use Rattle.rv_layout.proofs.forms.grow.Goals as goal

pub loop-index-preserved : goal.loop-index-preserved
loop-index-preserved c =
    let next = c.loop-index.next.items in
    let pushed = c.in_ok-push.ensures.items in
    let sum = ap ranks pushed ∙ ranks_append next (c.longer-larger.result ∷ []) in
    record {
      most = omega (arith, c.words_of-at.ensures.most, c.loop-index.invariant.most);
      few = omega (arith, c.rank-sum.ensures.most, c.loop-index.invariant.few);
      ranks = omega (arith, sum, c.rank-sum.ensures.exact, c.loop-index.invariant.ranks);
      grown = rw (pushed, c.longer-larger.ensures, c.needed.ensures, c.words_of-at.ensures.exact)
          (grown_step (words_of_labels c.args.labels.now) c.args.code.now c.args.forms.now next (grown_from none_far (words_of_labels c.args.labels.now) 0 c.args.code.now c.args.forms.now)
          c.loop-index.index c.loop-index.at c.index-code-index.result Near c.loop-index-test.true c.index-code-index.is (omega (arith, c.loop-index-test.true, c.requires.same)) c.loop-index.invariant.grown);
    }
