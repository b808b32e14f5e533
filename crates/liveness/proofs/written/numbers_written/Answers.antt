use Rattle.liveness.proofs.Bounds.{written_is}
use Rattle.liveness.proofs.written.numbers_written.Goals as goal

pub returns : goal.returns
returns c =
    written_is c.args.mach.now c.args.instr.now c.as_slice-results.result.now c.as_slice.result.now c.in_ok-found.found.items
    c.push_killed.new.found.items _
    c.as_slice-results.ensures c.as_slice.ensures c.in_ok-found.ensures c.in_ok-push_killed.ensures c.from_vec.ensures
