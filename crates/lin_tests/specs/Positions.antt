-- Positions to which walks come, and the traps that are pushed there.
use Rattle.std.specs.Prelude.{◌≡◌, ℕ, ◌+◌, ◌*◌, ◌≤◌, ◌<◌, List, length, All}
use Rattle.lin_ir.specs.declared.lin.Lin.{Lin}
use Rattle.lin_laws.specs.Graph.{AreReached}
use Rattle.lin_laws.specs.declared.position.Position.{Position}

-- as many traps are pushed at both, if they are at one place
abbrev pub Agree : Position → Position → Type 0
Agree x y = x.place ≡ y.place → length x.tries ≡ length y.tries

abbrev pub AreAgreed : List Position → Type 0
AreAgreed all = All (λ x. All (Agree x) all) all

-- a descriptor can say the bytes of the frame with those traps
abbrev pub FitsDescriptorAt : ℕ → Position → Type 0
FitsDescriptorAt frame x = frame + 16 * length x.tries ≤ 1048576

-- exactly the positions that walks come to, where lines have numbers
pub record ArePositions (m : Lin) (all : List Position) : Type 0 where
  pub lines : length m.code < 4294967296
  pub reached : AreReached m all
