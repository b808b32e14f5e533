-- In which direction the lines of lowered code lead.
use Rattle.std.specs.Prelude.{◌≡◌, ℕ, true, false, List, ◌∷◌, Contains}
use Rattle.lin_ir.specs.Formed.{NamesLabel, is_exit, labels_in}
use Rattle.lin_ir.specs.Walks.{may_raise, StandsAsLine, Reached}
use Rattle.lin_ir.specs.declared.lin.Line.{Line}
use Rattle.lin_ir.specs.declared.lin.Lin.{Lin}

-- Only an exit, which is a unit, leads back: any other label that a line names comes later, and so
-- does the handler of a raise.
pub record GoesForward (m : Lin) : Type 0 where
  pub labels : (i : Line) (next : List Line) → StandsAsLine i next m.code → is_exit i.op ≡ false →
      (l : ℕ) → NamesLabel l i.op → Contains (labels_in next) l
  pub handlers : (i : Line) (next : List Line) (l : ℕ) (tries : List ℕ) →
      Reached m (i ∷ next) (l ∷ tries) → may_raise i.op ≡ true → Contains (labels_in next) l
