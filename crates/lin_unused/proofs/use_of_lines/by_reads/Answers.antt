use Rattle.std.proofs.Common.{sym, subst}
use Rattle.lin_laws.specs.Graph.{AreNumbered}
use Rattle.lin_flow.specs.Sizes.{IsCountable}
use Rattle.lin_unused.proofs.Flagged.{flags_more}
use Rattle.lin_unused.proofs.Useful.{vals_numbered, vals_countable}
use Rattle.lin_unused.proofs.use_of_lines.by_reads.Goals as goal

pub live_walks-requires : goal.live_walks-requires
live_walks-requires c =
    let same = sym c.in_ok-vals.ensures in
    record {
      numbered = subst AreNumbered same (vals_numbered c.args.lin.now c.requires.numbered);
      countable = subst IsCountable same (vals_countable c.args.lin.now c.requires.countable);
    }

pub loop-place-preserved : goal.loop-place-preserved
loop-place-preserved c =
    flags_more c.args.lin.now c.loop-place.flags.items c.push.new.self.items c.loop-place.place c.is_useless.result c.loop-place.invariant
    c.is_useless.ensures c.in_ok-push.ensures.items
