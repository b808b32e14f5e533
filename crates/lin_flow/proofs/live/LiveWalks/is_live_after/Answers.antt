use Rattle.std.proofs.Common.{refl, sym}
use Rattle.std.proofs.lemmas.Bool.{true≢false}
use Rattle.lin_flow.proofs.Living.{reads_on, on_reads, none_on, some_on}
use Rattle.lin_flow.proofs.live.LiveWalks.is_live_after.Goals as goal

pub returns-then-is_live_after_position : goal.returns-then-is_live_after_position
returns-then-is_live_after_position c = λ m h.
    let w = c.args.self.now in (
      λ e. reads_on m w h c.args.place c.args.number
          (some_on w c.args.place c.args.number c.members-position-items.result.now c.loop-position.position-index c.loop-position-test.true
          c.members-position-items.ensures (c.is_live_after_position.ensures.0 c.if-is_live_after_position.true)),
      λ r. refl,
    )

pub returns : goal.returns
returns c = λ m h.
    let w = c.args.self.now in (
      λ e. absurd (true≢false (sym e)),
      λ r. absurd
          (none_on w c.args.place c.args.number c.members-position-items.result.now c.loop-position.position-index c.loop-position-test.false
          c.members-position-items.ensures c.loop-position.invariant (on_reads m w h c.args.place c.args.number r)),
    )
