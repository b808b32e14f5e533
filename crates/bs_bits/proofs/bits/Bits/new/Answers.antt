use Rattle.bs_bits.proofs.Members.{members-empty}
use Rattle.bs_bits.proofs.bits.Bits.new.Goals as goal

pub returns : goal.returns
returns c = members-empty _ _ _ (c.in_ok-words.ensures.items_if_clones_equal (λ y e. e))
