use Rattle.std.proofs.Common.{◌≡◌, ◌++◌, take, drop, map}
use Rattle.cse_deadcode.specs.Times.{time_in}
use Rattle.cse_deadcode.specs.Copies.{source_of}
use Rattle.cse_deadcode.proofs.copies.read_each.Given as goal

abbrev pub invariant-loop-reg : goal.invariant-loop-reg
invariant-loop-reg l =
    take l.reg-index l.regs ++ map (source_of (time_in l.times) l.made) (drop l.reg-index l.regs)
    ≡ map (source_of (time_in l.times) l.made) l.initial.regs
