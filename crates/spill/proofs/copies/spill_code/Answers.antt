use Rattle.std.proofs.Common.{◌≡◌, ◌∷◌, ◌++◌, [], length, arith}
use Rattle.spill.proofs.Copying.{last_slots, copying_more}
use Rattle.spill.proofs.copies.spill_code.Goals as goal

pub loop-instr-preserved : goal.loop-instr-preserved
loop-instr-preserved c =
    let popped : c.loop-instr.items.items ≡ c.pop.new.self.items ++ c.in-Some.instr ∷ [] = c.in-Some.ensures.items in
    let count = c.len-place.ensures in
    let place : c.len-place.result ≡ length c.pop.new.self.items = omega (arith, count) in
    copying_more c.args.tables.now c.args.code c.loop-instr.items.items c.pop.new.self.items c.in-Some.instr c.len-place.result c.loop-instr.made
    c.push_instr.new.made popped place c.loop-instr.invariant c.in_ok-push_instr.ensures

pub push_instr-requires-clause-args : goal.push_instr-requires-clause-args
push_instr-requires-clause-args c =
    (last_slots c.args.tables.now c.args.code c.loop-instr.items.items c.pop.new.self.items c.in-Some.instr c.loop-instr.made c.requires
    c.in-Some.ensures.items c.loop-instr.invariant).0

pub push_instr-requires-clause-results : goal.push_instr-requires-clause-results
push_instr-requires-clause-results c =
    (last_slots c.args.tables.now c.args.code c.loop-instr.items.items c.pop.new.self.items c.in-Some.instr c.loop-instr.made c.requires
    c.in-Some.ensures.items c.loop-instr.invariant).1
