use Rattle.std.proofs.Common.{rules, ◌≡◌, ◌∷◌, ◌++◌, [], ◌+◌, length}
use Rattle.cse_deadcode.proofs.Tables.{dropping_more}
use Rattle.cse_deadcode.proofs.dropping.drop_code.Goals as goal

pub loop-instr-preserved : goal.loop-instr-preserved
loop-instr-preserved c =
    let popped : c.loop-instr.items.items ≡ c.pop.new.self.items ++ c.in-Some.instr ∷ [] = search rules in
    let here : c.len-after.result + 1 ≡ length c.pop.new.self.items + 1 = search rules in
    dropping_more c.args.rows.now.rows.items c.args.code c.loop-instr.items.items c.pop.new.self.items c.loop-instr.left
    c.keep.new.left c.in-Some.instr (c.len-after.result + 1) popped here c.in_ok-keep.ensures c.loop-instr.invariant
