use Rattle.std.proofs.Common.{List, ◌∙◌, ap}
use Rattle.cmm_walks.specs.Groups.{members}
use Rattle.cmm_walks.specs.declared.groups.NodeGroup.{NodeGroup}
use Rattle.cmm_walks.proofs.Searches.{no_slot_seeds, uses_fit, points_fit, slot_searched}
use Rattle.cmm_walks.proofs.first.Search.search_slot.Goals as goal

pub returns-then-not-some_address_to-clause-seeds : goal.returns-then-not-some_address_to-clause-seeds
returns-then-not-some_address_to-clause-seeds c =
    no_slot_seeds c.args.self.now.nodes.now c.args.self.now.mentions.items c.args.goal c.args.slot c.members-places.result.now c.some_address_to.result c.args.found.now.items c.requires.search.mentions
    (c.members-places.ensures ∙ ap (λ (l : List NodeGroup). members l c.args.slot) c.deref.ensures.value) c.some_address_to.ensures c.if-not-some_address_to.true

pub fill-requires-clause-within : goal.fill-requires-clause-within
fill-requires-clause-within c = uses_fit c.args.self.now.nodes.now c.args.goal c.args.slot c.members-places.result.now c.in_ok-uses.uses.items c.in_ok-uses.ensures

pub fill-requires-2-clause-within : goal.fill-requires-2-clause-within
fill-requires-2-clause-within c =
    points_fit c.args.self.now.nodes.now c.args.goal c.args.slot c.in_ok-uses.uses.items c.fill.new.self c.in_ok-points.points.items c.in_ok-fill.ensures c.in_ok-points.ensures

pub returns-clause-seeds : goal.returns-clause-seeds
returns-clause-seeds c =
    slot_searched c.args.self.now.nodes.now c.args.self.now.mentions.items c.args.goal c.args.slot c.members-places.result.now c.in_ok-uses.uses.items c.in_ok-points.points.items c.fill.new.self c.fill-2.new.self
    c.args.found.now.items c.add_bindings.new.seeds.items c.requires.fits c.requires.search.mentions
    (c.members-places.ensures ∙ ap (λ (l : List NodeGroup). members l c.args.slot) c.deref.ensures.value)
    c.in_ok-uses.ensures c.in_ok-fill.ensures c.in_ok-points.ensures c.in_ok-fill-2.ensures c.in_ok-add_bindings.ensures
