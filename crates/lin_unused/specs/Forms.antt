-- Lines that move a location to itself.
use Rattle.std.specs.Prelude.{◌≡◌, Bool, true, false, List, [], ◌∷◌}
use Rattle.bs_words.specs.declared.types.Loc.{Loc}
use Rattle.lin_ir.specs.Formed.{IsSelfMove}
use Rattle.mach_ir.specs.declared.op.Op.TheVariants as op
use Rattle.mach_ir.specs.declared.op.Pure.TheVariants as pure
use Rattle.lin_ir.specs.declared.lin.LinOp.{LinOp}
use Rattle.lin_ir.specs.declared.lin.LinOp.TheVariants as lin
use Rattle.lin_ir.specs.declared.lin.Spot.{Spot}
use Rattle.lin_ir.specs.declared.lin.Line.{Line}

abbrev pub copies : LinOp → Bool
copies (lin.Op (op.Pure (pure.Copy kind))) = true
copies _ = false

-- these are one spot each, at one location
pub record IsOnePlace (args results : List Spot) (l : Loc) : Type 0 where
  pub from : Spot
  pub to : Spot
  pub is_from : args ≡ from ∷ []
  pub is_to : results ≡ to ∷ []
  pub same : from.loc ≡ to.loc
  pub at : to.loc ≡ l

-- the line moves the location to itself
pub record MovesItself (i : Line) (l : Loc) : Type 0 where
  pub from : Spot
  pub to : Spot
  pub is : IsSelfMove i from to
  pub at : to.loc ≡ l

-- the line moves no location to itself
abbrev pub IsNoSelfMove : Line → Type 0
IsNoSelfMove i = (from to : Spot) → IsSelfMove i from to → ⊥
