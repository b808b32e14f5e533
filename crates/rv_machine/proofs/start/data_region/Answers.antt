use Rattle.std.proofs.Common.{ℕ, length, List, ap, subst, sym, ◌∙◌, ◌*◌, ◌≤◌, arith}
use Rattle.rv_machine.specs.Memory.{Region}
use Rattle.rv_machine.specs.Start.{data_region}
use Rattle.rv_machine.proofs.Bytes64.{words_cover}
use Rattle.rv_machine.proofs.start.data_region.Goals as goal

pub new-requires-clause-covered : goal.new-requires-clause-covered
new-requires-clause-covered c =
    subst (λ (ws : List ℕ). length c.args.bytes.now ≤ 8 * length ws) (sym c.in_ok-words.ensures) (words_cover (length c.args.bytes.now) c.args.bytes.now (omega arith))

pub returns : goal.returns
unfolding data_region
returns c =
    c.new.ensures
    ∙ ap (λ (ws : List ℕ). (let r : Region = record { start = 0x10000000; bytes = length c.args.bytes.now; words = ws } in r)) c.in_ok-words.ensures
