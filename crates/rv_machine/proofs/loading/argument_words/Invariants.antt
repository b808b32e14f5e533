use Rattle.std.proofs.Common.{◌≡◌, ◌-◌, ◌++◌, List, ℕ, length, drop, take, option_map}
use Rattle.std.proofs.Math.ListN.{replicate}
use Rattle.bs_words.specs.Contents.{contents}
use Rattle.image_form.specs.Tables.{tables}
use Rattle.rv_machine.specs.Loading.{words_of_args}
use Rattle.rv_machine.proofs.loading.argument_words.Given as goal

abbrev pub invariant-loop-k : goal.invariant-loop-k
invariant-loop-k l = record {
  len : length l.words ≡ 16;
  free : drop l.k l.words ≡ replicate (16 - l.k) 0;
  rest : words_of_args (tables l.image) (contents l.comps) (contents l.args)
      ≡ option_map (λ (ws : List ℕ). take l.k l.words ++ ws) (words_of_args (tables l.image) (drop l.k (contents l.comps)) (drop l.k (contents l.args)));
}
