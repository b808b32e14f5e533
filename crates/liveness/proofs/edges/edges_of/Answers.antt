use Rattle.std.proofs.Common.{◌∙◌}
use Rattle.liveness.proofs.Lists.{edges_made}
use Rattle.liveness.proofs.edges.edges_of.Goals as goal

pub returns : goal.returns
returns c =
    edges_made c.args.mach.now c.args.labels.now c.args.place c.args.instr.now c.args.tries.now
    (record { next = c.from_vec.result; aside = c.from_vec-2.result }) c.requires.labels
    (c.from_vec.ensures ∙ c.in_ok-next.ensures) (c.from_vec-2.ensures ∙ c.in_ok-aside.ensures)
