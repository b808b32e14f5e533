use Rattle.std.proofs.Common.{◌∙◌, ap, length, false}
use Rattle.std.proofs.lemmas.List.{length-replicate}
use Rattle.bs_bits.proofs.Sets.{length-union}
use Rattle.dataflow.proofs.Moves.{first_set}
use Rattle.dataflow.proofs.spread.copy_row.Goals as goal

pub returns-clause-size : goal.returns-clause-size
returns-clause-size c =
    ap length c.union_with-grew.ensures.all ∙ (length-union c.clear.new.self c.args.row.now ∙ (ap length c.clear.ensures ∙ length-replicate (length c.args.set.now) false))

pub returns-clause-members : goal.returns-clause-members
returns-clause-members c =
    first_set _ _ _ _ c.clear.ensures c.union_with-grew.ensures.all (ap length c.clear.ensures ∙ (length-replicate (length c.args.set.now) false ∙ c.requires))
