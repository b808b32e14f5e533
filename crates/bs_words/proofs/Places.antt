-- Places of registers.
use Rattle.std.proofs.Common.{◌≡◌, ℕ}
use Rattle.bs_words.specs.declared.types.Loc.{Loc}
use Rattle.bs_words.specs.declared.types.Loc.TheVariants as loc

pub same_slot : {l : Loc} {j k : ℕ} → l ≡ loc.Slot j → l ≡ loc.Slot k → j ≡ k
same_slot e s = cc
