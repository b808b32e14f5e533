use Rattle.std.proofs.Common.{arith}
use Rattle.lin_flow.proofs.Living.{is_true, first_reached, reached_first}
use Rattle.lin_flow.proofs.live.LiveWalks.is_reached.Goals as goal

pub returns : goal.returns
returns c = λ m h lt.
    let w = c.args.self.now in (
      λ e. first_reached m w h c.args.place (c.has_first.ensures.yes e),
      λ r. is_true c.has_first.result
          (λ e. c.has_first.ensures.no e h.walked.grouped (reached_first m w h c.args.place (omega (arith, lt)) r)),
    )
