use Rattle.std.proofs.Common.{List, subst, sym}
use Rattle.cmm_tree.specs.View.{expr_view}
use Rattle.cmm_tree.specs.declared.expr.Binding.{Binding}
use Rattle.cmm_types.specs.Annotated.{IsAnnotated}
use Rattle.cmm_types.specs.Lists.{AreBindingsAnnotated}
use Rattle.cmm_tree.specs.Rows.{bindings_of}
use Rattle.cmm_types.specs.Types.{with_bindings}
use Rattle.walk_tables.specs.Cells.{cells}
use Rattle.walk_tables.specs.Sound.{AddsCells}
use Rattle.walk_tables.specs.Walks.{names, entering}
use Rattle.walk_tables.proofs.Arena.{first-rest}
use Rattle.walk_tables.proofs.items.Cells.entering.Goals as goal

pub returns-in_ok-cell-in-len1-up : goal.returns-in_ok-cell-in-len1-up
returns-in_ok-cell-in-len1-up c = λ s r scope.
    let p = first-rest c.args.bindings.now c.first-item.result c.in-len1-up.len_at_least c.first-item.is in
    let P : List Binding → Type 0 = λ l. AreBindingsAnnotated (names s) l → IsAnnotated (with_bindings (names s) (bindings_of l)) c.args.body.now → AddsCells (cells c.args.self.now) (cells c.enter_one.new.self) c.in_ok-cell-in-len1-up.cell (entering s c.args.slot (bindings_of l) (expr_view c.args.body.now)) c.args.rest in
    subst P (sym p) (c.in_ok-cell-in-len1-up.ensures s r scope)
