use Rattle.std.proofs.Common.{rules, ◌≡◌, drop}
use Rattle.bs_words.specs.Contents.{contents}
use Rattle.bs_io.proofs.Progress.{Consumes-copied}
use Rattle.bs_io.proofs.memory.MemSourceSource.read.Goals as goal

pub returns-clause-taken : goal.returns-clause-taken
returns-clause-taken c =
    let was : c.args.self.now.left ≡ drop c.self.inside.taken (contents c.self.inside.bytes) = search rules in
    Consumes-copied _ _ c.as_slice-2.result.now _ c.self.inside.taken _ was c.as_slice-2.ensures c.copy_front-count.ensures.copied
