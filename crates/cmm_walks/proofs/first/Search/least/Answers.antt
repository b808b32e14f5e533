use Rattle.std.proofs.Common.{length}
use Rattle.cmm_walks.proofs.Searches.{slots_more, slots_all, all_places, found_within, least_told}
use Rattle.cmm_walks.proofs.first.Search.least.Goals as goal

pub loop-slot-preserved : goal.loop-slot-preserved
loop-slot-preserved c = record {
  unlabelled = c.in_ok-search_slot.ensures.unlabelled;
  done = slots_more c.args.self.now.nodes.now c.args.goal c.loop-slot.slot c.loop-slot.found.items c.search_slot.new.found.items c.loop-slot.invariant.done c.in_ok-search_slot.ensures.seeds;
}

pub fill-requires-clause-within : goal.fill-requires-clause-within
fill-requires-clause-within c =
    all_places (length c.args.self.now.nodes.now) c.loop-slot.found.items (found_within c.args.self.now.nodes.now c.args.goal c.loop-slot.slot c.loop-slot.found.items c.loop-slot.invariant.done)

pub returns : goal.returns
returns c =
    least_told c.args.self.now.nodes.now c.args.self.now.bound c.args.entry c.args.goal c.loop-slot.found.items c.fill.new.self c.get.result c.requires.fits c.requires.search.nodes
    (slots_all c.args.self.now.nodes.now c.args.goal c.args.self.now.bound c.loop-slot.slot c.loop-slot.found.items c.loop-slot-test.false c.loop-slot.invariant.done) c.in_ok-fill.ensures c.get.ensures
