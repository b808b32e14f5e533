use Rattle.std.proofs.Math.ListN.{replicate, set}
use Rattle.std.proofs.Common.{ℕ, suc, ◌≡◌, List, ◌∷◌, refl, ap, ◌∙◌}
use Rattle.rv_machine.specs.Memory.{Region}
use Rattle.rv_machine.specs.Start.{domain_region}
use Rattle.rv_machine.proofs.start.domain_region.Goals as goal

first_set : (n w x : ℕ) → set (replicate (suc n) w) 0 x ≡ x ∷ replicate n w
first_set n w x = refl

pub returns : goal.returns
unfolding domain_region
returns c =
    c.new.ensures
    ∙ ap (λ (ws : List ℕ). (let r : Region = record { start = 0x20000000; bytes = 4096; words = ws } in r))
    (ap (λ (ws : List ℕ). set ws 0 0x38000000) (c.in_ok-words.ensures.items_if_clones_equal (λ y e. e)) ∙ first_set 511 0 0x38000000)
