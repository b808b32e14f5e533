use Rattle.std.proofs.Common.{◌+◌, ◌≡◌, ◌<◌, length, get_or, refl, rules}
use Rattle.std.proofs.lemmas.List.{get_or_read}
use Rattle.cmm_walks.proofs.Spreads.{settling_none, settling_more, done_more}
use Rattle.cmm_walks.proofs.labels.NodeLabels.settle.Goals as goal

pub loop-self-init : goal.loop-self-init
loop-self-init c = settling_none c.args.nodes.now c.args.slot c.args.self.now c.requires.spreading

pub loop-self-preserved : goal.loop-self-preserved
loop-self-preserved c =
    let below : c.loop-self.self.done < length c.loop-self.self.queue.items = search rules in
    let is : c.index-place.result.now ≡ get_or c.loop-self.self.queue.items c.loop-self.self.done 0 = get_or_read c.loop-self.self.queue.items c.loop-self.self.done c.index-place.result.now below c.index-place.ensures 0 in
    settling_more c.args.nodes.now c.args.slot c.index-place.result.now c.args.self.now c.loop-self.self c.lower_before.new.self _ below is c.loop-self.invariant c.in_ok-lower_before.ensures refl refl refl

pub loop-self-smaller : goal.loop-self-smaller
loop-self-smaller c =
    let below : c.loop-self.self.done < length c.loop-self.self.queue.items = search rules in
    let is : c.index-place.result.now ≡ get_or c.loop-self.self.queue.items c.loop-self.self.done 0 = get_or_read c.loop-self.self.queue.items c.loop-self.self.done c.index-place.result.now below c.index-place.ensures 0 in
    (done_more c.args.nodes.now c.args.slot c.index-place.result.now c.loop-self.self c.lower_before.new.self (record { of = c.lower_before.new.self.of; queue = c.lower_before.new.self.queue; done = c.lower_before.new.self.done + 1 }) below is c.in_ok-lower_before.ensures refl refl refl).1

pub returns : goal.returns
returns c = record { spreading = c.loop-self.invariant.spreading; fell = c.loop-self.invariant.fell; done = search rules }
