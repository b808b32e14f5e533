use Rattle.std.proofs.Common.{List, length, arith, subst, sym, ◌∙◌}
use Rattle.walk_tables.specs.Cells.{cells}
use Rattle.walk_tables.specs.Made.{Filled}
use Rattle.walk_tables.specs.declared.node.Node as node
use Rattle.walk_tables.proofs.Agreeing.{placed-now, filled-none, filled-more, filled-all}
use Rattle.walk_tables.proofs.items.Cells.nodes.Goals as goal

pub loop-item-init : goal.loop-item-init
loop-item-init c =
    let v = cells c.args.self.now in
    let P : List node.Node → Type 0 = λ l. Filled v v l (length l) in
    subst P (sym c.new-nodes.ensures.items) (filled-none v c.requires)

pub loop-item-preserved : goal.loop-item-preserved
loop-item-preserved c =
    filled-more (cells c.args.self.now) (cells c.loop-item.self) (cells c.step.new.self) c.loop-item.nodes.items c.push.new.self.items c.len.result c.in-Some.item c.in_ok-node.node
    c.loop-item.invariant
    (omega (arith, c.len.ensures, c.loop-item.nodes.ok.0))
    (sym c.get.ensures ∙ c.in-Some.is)
    c.in_ok-push.ensures.items
    c.in_ok-node.ensures

pub step-requires-clause-sound : goal.step-requires-clause-sound
step-requires-clause-sound c = c.loop-item.invariant.sound

pub step-requires-clause-placed : goal.step-requires-clause-placed
step-requires-clause-placed c = placed-now (cells c.loop-item.self) c.len.result c.in-Some.item c.loop-item.invariant.sound (sym c.get.ensures ∙ c.in-Some.is)

pub returns : goal.returns
returns c = filled-all (cells c.args.self.now) (cells c.loop-item.self) c.loop-item.nodes.items c.len.result c.loop-item.invariant (omega (arith, c.len.ensures, c.loop-item.nodes.ok.0)) (sym c.get.ensures ∙ c.in_default.is)
