use Rattle.std.proofs.Common.{List, subst, sym}
use Rattle.cmm_tree.specs.View.{function_view}
use Rattle.cmm_walks.specs.First.{IsFirstTold}
use Rattle.walk_tables.specs.Table.{AreLinked}
use Rattle.walk_tables.specs.declared.node.Node as node
use Rattle.cmm_walks.proofs.Least.{told-in}
use Rattle.cmm_walks.proofs.check.told_in_function.Goals as goal

pub first_live-requires : goal.first_live-requires
first_live-requires c =
    let P : List node.Node → Type 0 = λ l. AreLinked l in
    subst P (sym c.as_slice.ensures.value) c.in_ok-table.ensures.linked

pub returns : goal.returns
returns c =
    let entry = c.in_ok-table.table.entry in
    let P : List node.Node → Type 0 = λ l. IsFirstTold l entry c.in_ok-told.told in
    told-in c.in_ok-table.table.nodes.items entry (function_view c.args.function.now) c.in_ok-told.told c.in_ok-table.ensures.live (subst P c.as_slice.ensures.value c.in_ok-told.ensures)
