use Rattle.std.proofs.Common.{◌+◌, ◌-◌, ◌*◌, ◌++◌, take, reverse, ap, arith, ◌∙◌}
use Rattle.rv_machine.specs.Placement.{spaced}
use Rattle.alloc_service.proofs.Falling.{bytes_step, spaced_step}
use Rattle.alloc_service.proofs.Gathered.{pushed}
use Rattle.alloc_service.proofs.starts.fill_falling.Goals as goal

pub overflow_mul-at : goal.overflow_mul-at
overflow_mul-at c =
    let e = bytes_step c.args.blocks.now c.loop-left.left c.index-blocks-left.result c.loop-left-test.true c.loop-left.invariant.within c.index-blocks-left.is in
    omega (arith, e, c.loop-left.invariant.below, c.words.ensures)

pub overflow_add-at : goal.overflow_add-at
overflow_add-at c =
    let e = bytes_step c.args.blocks.now c.loop-left.left c.index-blocks-left.result c.loop-left-test.true c.loop-left.invariant.within c.index-blocks-left.is in
    omega (arith, e, c.loop-left.invariant.below, c.words.ensures)

pub loop-left-preserved : goal.loop-left-preserved
loop-left-preserved c =
    let inv = c.loop-left.invariant in
    let b = c.index-blocks-left.result in
    let e = bytes_step c.args.blocks.now c.loop-left.left b c.loop-left-test.true inv.within c.index-blocks-left.is in
    let room = c.push.ensures.succeeds (omega (arith, inv.room)) in
    record {
      filled = ap (λ w. c.push.new.self.items ++ spaced c.args.gap (c.loop-left.at + c.args.gap + 8 + 8 * w) (reverse (take (c.loop-left.left - 1) c.args.blocks.now))) c.words.ensures
          ∙ spaced_step c.args.gap c.loop-left.at c.args.blocks.now c.loop-left.left b c.loop-left.starts.items c.push.new.self.items c.loop-left-test.true inv.within c.index-blocks-left.is
          (pushed _ c.loop-left.starts.items c.push.new.self.items _ c.push.ensures.items room)
          ∙ inv.filled;
      room = omega (arith, inv.room, c.push.ensures.capacity, c.push.ensures.upper_bound);
      kept = omega (arith, inv.kept, c.push.ensures.capacity);
      below = omega (arith, inv.below, e, c.words.ensures);
      within = omega (arith, inv.within);
    }
