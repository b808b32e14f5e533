use Rattle.std.proofs.Common.{ℕ, List, [], ◌∷◌, ◌++◌, drop, ap, ◌∙◌}
use Rattle.rv_machine.specs.Memory.{number_from_bytes, words_of_bytes}
use Rattle.rv_machine.proofs.Bytes64.{words_step}
use Rattle.rv_machine.proofs.start.words_of_bytes.Goals as goal

pub loop-rest-preserved : goal.loop-rest-preserved
loop-rest-preserved c =
    ap (λ (ws : List ℕ). ws ++ words_of_bytes c.split_at.result.1.now) c.in_ok-push.ensures.items
    ∙ ap (λ (t : List ℕ). (c.loop-rest.words.items ++ c.number_of.result ∷ []) ++ words_of_bytes t) c.split_at.ensures.back
    ∙ ap (λ (m : ℕ). (c.loop-rest.words.items ++ m ∷ []) ++ words_of_bytes (drop 8 c.loop-rest.rest.now))
    (c.number_of.ensures.exact ∙ ap number_from_bytes c.split_at.ensures.front)
    ∙ words_step c.loop-rest.words.items c.loop-rest.rest.now c.loop-rest-test.true
    ∙ c.loop-rest.invariant
