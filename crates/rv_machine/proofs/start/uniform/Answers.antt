use Rattle.std.proofs.Common.{ℕ, List, ap, ◌∙◌}
use Rattle.std.specs.Prelude.{◌*◌}
use Rattle.rv_machine.specs.Memory.{Region}
use Rattle.rv_machine.specs.Start.{uniform}
use Rattle.rv_machine.proofs.start.uniform.Goals as goal

pub returns : goal.returns
unfolding uniform
returns c =
    c.new.ensures
    ∙ ap (λ (ws : List ℕ). (let r : Region = record { start = c.args.start; bytes = 8 * c.args.count; words = ws } in r))
    (c.in_ok-words.ensures.items_if_clones_equal (λ y e. e))
