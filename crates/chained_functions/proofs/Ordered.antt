-- What is known of lines is known of them in the order that is chosen.
use Rattle.std.proofs.Common.{◌≡◌, ℕ, ◌+◌, List, [], ◌∷◌, All, refl, sym, subst}
use Rattle.choices.specs.declared.choices.Order.{Order}
use Rattle.choices.specs.declared.choices.Order.TheVariants as order
use Rattle.cmm_tree.specs.Tree.{FunctionTree}
use Rattle.mach_ir.specs.Keeps.{Keeps}
use Rattle.mach_ir.specs.declared.mach.Mach.{Mach}
use Rattle.lin_ir.specs.Descriptors.{AreExact, frame_bytes, frame_point_count}
use Rattle.lin_ir.specs.Formed.{labels_in}
use Rattle.lin_ir.specs.Walks.{Traps}
use Rattle.lin_ir.specs.declared.descr.Descr.{Descr}
use Rattle.lin_ir.specs.declared.lin.Lin.{Lin}
use Rattle.lin_ir.specs.declared.lin.Line.{Line}
use Rattle.linearise_rules.specs.Keeps.{KeepsReached}
use Rattle.lin_tidy_rules.specs.Leaving.{with_code}
use Rattle.lin_tidy_rules.specs.Regular.{IsRegular}
use Rattle.made_functions.specs.Chained.{AreLinesOf}
use Rattle.made_functions.specs.Known.{NamesHomes}
use Rattle.made_functions.specs.Made.{in_order}
use Rattle.made_functions.proofs.Known.{all_homes}
use Rattle.schedule_rules.specs.Orders.{scheduled}
use Rattle.schedule_rules.proofs.Reorder.{scheduled_ordered}
use Rattle.schedule_rules.proofs.Sums.{ordered_labels}
use Rattle.scheduled_lines.proofs.Forms.{regular_kept}
use Rattle.scheduled_lines.proofs.InStep.{InStep, in_step, traps_were}
use Rattle.scheduled_lines.proofs.Lines.{scheduled_kept}
use Rattle.scheduled_lines.proofs.Sizes.{same_total}
use Rattle.scheduled_lines.proofs.Walks.{same_count, same_frame}
use Rattle.selection_rules.specs.Select.{selected}

-- scheduled lines stand beside those before scheduling, place by place
beside : (l : Lin) → InStep l.code (scheduled l.code)
beside l = in_step (scheduled_ordered l.code)

-- ---- as large

pub slots_in_order : (chosen : Order) (l : Lin) → (in_order chosen l).slots ≡ l.slots
slots_in_order order.Plain l = refl
slots_in_order order.List l = refl

pub frame_in_order : (chosen : Order) (l : Lin) → frame_bytes (in_order chosen l) ≡ frame_bytes l
frame_in_order order.Plain l = refl
frame_in_order order.List l = same_frame l (with_code l (scheduled l.code)) (beside l) refl

pub points_in_order : (chosen : Order) (l : Lin) → frame_point_count (in_order chosen l).code ≡ frame_point_count l.code
points_in_order order.Plain l = refl
points_in_order order.List l = same_count (beside l)

pub labels_in_order : (chosen : Order) (l : Lin) → labels_in (in_order chosen l).code ≡ labels_in l.code
labels_in_order order.Plain l = refl
labels_in_order order.List l = ordered_labels l.code (scheduled l.code) (scheduled_ordered l.code)

-- what is added up over lines, as words are
pub total_in_order : (measure : Line → ℕ) (total : List Line → ℕ) → total [] ≡ 0 → ((i : Line) (is : List Line) → total (i ∷ is) ≡ measure i + total is) → (chosen : Order) (l : Lin) →
    total (in_order chosen l).code ≡ total l.code
total_in_order measure total nothing more order.Plain l = refl
total_in_order measure total nothing more order.List l = same_total measure total nothing more l.code (scheduled l.code) (scheduled_ordered l.code)

-- ---- as well formed

-- the traps of any place are those of some place of the lines before
pub traps_in_order : (chosen : Order) (l : Lin) {there : List Line} {traps : List ℕ} → Traps (in_order chosen l) there traps → (was : List Line) × Traps l was traps
traps_in_order order.Plain l {there} x = (there, x)
traps_in_order order.List l x = traps_were l (with_code l (scheduled l.code)) (beside l) x

regular_too : (chosen : Order) (l : Lin) → IsRegular l → IsRegular (in_order chosen l)
regular_too order.Plain l regular = regular
regular_too order.List l regular = regular_kept l (scheduled l.code) (scheduled_ordered l.code) regular

lines_too : (chosen : Order) (tree : FunctionTree) (p : Mach) (l : Lin) → Keeps (selected tree) p → KeepsReached p l → AreLinesOf tree l → AreLinesOf tree (in_order chosen l)
lines_too order.Plain tree p l keeps reached lines = lines
lines_too order.List tree p l keeps reached lines = scheduled_kept tree p l keeps reached lines

module _ (chosen : Order) {l m : Lin} (same : m ≡ in_order chosen l) where
  pub regular_in_order : IsRegular l → IsRegular m
  regular_in_order regular = subst IsRegular (sym same) (regular_too chosen l regular)

  -- exact descriptors name homes
  pub homes_in_order : IsRegular l → (ds : List Descr) → AreExact m ds → All (NamesHomes m) ds
  homes_in_order regular ds exact = all_homes m (regular_in_order regular).homes ds exact

  pub lines_in_order : (tree : FunctionTree) (p : Mach) → Keeps (selected tree) p → KeepsReached p l → AreLinesOf tree l → AreLinesOf tree m
  lines_in_order tree p keeps reached lines = subst (AreLinesOf tree) (sym same) (lines_too chosen tree p l keeps reached lines)
