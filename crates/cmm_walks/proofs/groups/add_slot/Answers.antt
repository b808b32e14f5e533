use Rattle.std.proofs.Common.{sym, subst}
use Rattle.cmm_walks.specs.Groups.{HasSlotAdded}
use Rattle.walk_tables.specs.declared.node.Step.{Step}
use Rattle.cmm_walks.proofs.Grouped.{slot_added, use_added}
use Rattle.cmm_walks.proofs.groups.add_slot.Goals as goal

pub returns-in_ok-add-in-Binds : goal.returns-in_ok-add-in-Binds
returns-in_ok-add-in-Binds c =
    let P : Step → Type 0 = λ st. HasSlotAdded c.args.groups.now.items c.add.new.groups.items st c.args.number in
    subst P (sym c.in-Binds.is) (slot_added c.args.groups.now.items c.add.new.groups.items c.in-Binds.slot c.in-Binds.at c.args.number c.in-Binds.address c.in_ok-add-in-Binds.ensures)

pub returns-in_ok-add-in-Uses : goal.returns-in_ok-add-in-Uses
returns-in_ok-add-in-Uses c =
    let P : Step → Type 0 = λ st. HasSlotAdded c.args.groups.now.items c.add-in-Uses.new.groups.items st c.args.number in
    subst P (sym c.in-Uses.is) (use_added c.args.groups.now.items c.add-in-Uses.new.groups.items c.in-Uses.slot c.in-Uses.at c.args.number c.in_ok-add-in-Uses.ensures)
