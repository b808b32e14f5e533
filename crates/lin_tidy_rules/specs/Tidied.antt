-- What a function is made into: one that is tidy.
use Rattle.std.specs.Prelude.{◌≡◌, ℕ, false, List, ◌∷◌}
use Rattle.lin_ir.specs.Formed.{IsSelfMove, bare_flow}
use Rattle.lin_ir.specs.Meaning.{after_label}
use Rattle.lin_ir.specs.Walks.{Reached}
use Rattle.lin_ir.specs.declared.lin.Flow.TheVariants as flow
use Rattle.lin_ir.specs.declared.lin.Spot.{Spot}
use Rattle.lin_ir.specs.declared.lin.Line.{Line}
use Rattle.lin_ir.specs.declared.lin.Lin.{Lin}
use Rattle.lin_tidy_rules.specs.Leaving.{is_landing, LabelsBetween, LeavesOften}
use Rattle.lin_tidy_rules.specs.Redirecting.{redirected_all}
use Rattle.lin_tidy_rules.specs.Turning.{turned_all}
use Rattle.lin_tidy_rules.specs.Regular.{IsReadBehind, IsTidy}

-- In the first function jumps go at once where others lead, then loops are turned round, and then
-- lines that have no use are left out until there is none. One function comes of it, whichever
-- lines go first.
pub record IsTidied (m r : Lin) : Type 0 where
  pub leaves : LeavesOften (turned_all (redirected_all m)) r
  pub tidy : IsTidy r

-- what a line, before this code, is for: the opposite of having no use
pub record IsUseful (m : Lin) (i : Line) (next : List Line) : Type 0 where
  pub reached : is_landing i.op ≡ false → (tries : List ℕ) × Reached m (i ∷ next) tries
  pub read : (from to : Spot) → IsSelfMove i from to → IsReadBehind m i next to
  pub jumps : (l : ℕ) → i ≡ bare_flow (flow.Jump l) → LabelsBetween next (after_label l m.code) → ⊥
