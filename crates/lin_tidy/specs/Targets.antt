-- Where jumps to labels go instead.
use Rattle.std.specs.Prelude.{◌≡◌, ℕ, cond, Option, Some, None, List, [], ◌∷◌}
use Rattle.std.specs.BTreeMap as tree
use Rattle.std.specs.Ordering.{nat_cmp}
use Rattle.lin_ir.specs.declared.lin.Lin.{Lin}
use Rattle.lin_ir.specs.declared.lin.Line.{Line}
use Rattle.lin_tidy_rules.specs.Redirecting.{is_label_line, final_label, last_exit}
use Rattle.lin_tidy.specs.declared.redirecting.Targets.{Targets}
use Rattle.lin_tidy.specs.declared.redirecting.Way.{Way}

-- the first line that is no label
abbrev pub first_line : List Line → Option Line
first_line [] = None
first_line (i ∷ next) = cond (is_label_line i.op i.args i.results) (first_line next) (Some i)

-- a label of which nothing is known is its own target
abbrev pub target_by : Option Way → ℕ → ℕ
target_by None l = l
target_by (Some way) l = way.label

-- and leads to no exit
abbrev pub exit_by : Option Way → Option ℕ
exit_by None = None
exit_by (Some way) = way.exit

abbrev pub target_in : Targets → ℕ → ℕ
target_in t l = target_by (tree.get nat_cmp t.ways l) l

abbrev pub exit_in : Targets → ℕ → Option ℕ
exit_in t l = exit_by (tree.get nat_cmp t.ways l)

-- each label's target is where one comes from it by labels and jumps alone, and its exit where one
-- comes by an exit from there
pub record AreTargets (m : Lin) (t : Targets) : Type 0 where
  pub to : (l : ℕ) → target_in t l ≡ final_label m l
  pub exits : (l : ℕ) → exit_in t l ≡ last_exit m l
