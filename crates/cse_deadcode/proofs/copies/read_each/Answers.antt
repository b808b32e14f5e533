use Rattle.std.proofs.Common.{◌∙◌, ◌<◌, length, rules}
use Rattle.cse_deadcode.specs.Times.{time_in}
use Rattle.cse_deadcode.specs.Copies.{source_of}
use Rattle.cse_deadcode.proofs.Parts.{mapped_more}
use Rattle.cse_deadcode.proofs.copies.read_each.Goals as goal

pub loop-reg-preserved : goal.loop-reg-preserved
loop-reg-preserved c =
    let within : c.loop-reg.reg-index < length c.loop-reg.regs = search rules in
    mapped_more (source_of (time_in c.args.times.now) c.args.made.now) c.loop-reg.regs c.loop-reg.reg-index c.source_of.result _
    within c.source_of.ensures
    ∙ c.loop-reg.invariant
