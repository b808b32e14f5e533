use Rattle.schedule.proofs.Highest.{asked_by}
use Rattle.schedule.proofs.heights.Later.highest.Goals as goal

pub returns : goal.returns
returns c = λ rs h.
    asked_by c.args.line.now rs c.args.self.now c.as_slice-args.result.now c.as_slice-results.result.now c.greatest-reads.result c.greatest.result
    c.greatest-2.result c.max-writes.result c.max.result c.highest_in_memory.result c.max-2.result c.as_slice-args.ensures
    c.as_slice-results.ensures c.greatest-reads.ensures c.greatest.ensures c.greatest-2.ensures c.max-writes.ensures c.max.ensures
    c.highest_in_memory.ensures c.max-2.ensures h
