use Rattle.std.proofs.Common.{[], ◌∷◌, ◌++◌, ◌∙◌, ap}
use Rattle.comballoc.proofs.Taking.{ended}
use Rattle.comballoc.proofs.combining.Scan.end_run.Goals as goal

pub returns : goal.returns
returns c = λ rest.
    ended c.args.self.now (record { alloc = c.close.new.self.alloc; done = c.push.new.self; held = c.close.new.self.held })
    c.args.instr c.requires c.in_ok-close.ensures.held
    (c.in_ok-push.ensures.items ∙ ap (λ is. is ++ c.args.instr ∷ []) c.in_ok-close.ensures.done) rest
