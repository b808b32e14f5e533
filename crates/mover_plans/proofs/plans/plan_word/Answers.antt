use Rattle.std.proofs.Common.{◌∙◌}
use Rattle.bs_words.specs.Word.{add_word}
use Rattle.mover_plans.proofs.Drawing.{word-jump}
use Rattle.mover_plans.proofs.plans.plan_word.Goals as goal

pub returns : goal.returns
unfolding add_word
returns c =
    c.from.ensures
    ∙ word-jump (add_word c.args.seed 1) c.args.service c.seed_from_u64-words.result c.advance.new.self c.next_word.result c.next_word.new.self
    c.seed_from_u64-words.ensures c.advance.ensures c.next_word.ensures
