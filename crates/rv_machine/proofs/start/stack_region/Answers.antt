use Rattle.std.proofs.Common.{ℕ, ◌+◌, ◌-◌, List, [], ◌∷◌, ◌++◌, append_assoc, ap, ◌∙◌}
use Rattle.rv_machine.specs.Memory.{Region}
use Rattle.rv_machine.specs.Start.{stack_region}
use Rattle.rv_machine.proofs.start.stack_region.Goals as goal

pub returns : goal.returns
unfolding stack_region
returns c =
    c.new.ensures
    ∙ ap (λ (ws : List ℕ). (let r : Region = record { start = 0x3FFFFFF0 - c.args.stack; bytes = c.args.stack + 16; words = ws } in r))
    (c.in_ok-push-2.ensures.items ∙ ap (λ (ws : List ℕ). ws ++ 0 ∷ []) c.in_ok-push.ensures.items
    ∙ append_assoc c.in_ok-words.words.items (0x10008 ∷ []) (0 ∷ [])
    ∙ ap (λ (ws : List ℕ). ws ++ 0x10008 ∷ 0 ∷ []) (c.in_ok-words.ensures.items_if_clones_equal (λ y e. e)))
