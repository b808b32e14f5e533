use Rattle.linscan_rules.proofs.Sharing.{joined_overlap}
use Rattle.linscan_rules.proofs.joined_registers_overlap.Goals as goal

pub returns : goal.returns
returns c = λ m n k from to other_from other_to j one two. joined_overlap m n k from to other_from other_to j one two
