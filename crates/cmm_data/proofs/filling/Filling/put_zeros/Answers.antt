use Rattle.std.proofs.Common.{◌+◌, ◌-◌}
use Rattle.cmm_data.specs.Contents.{Plain, zeros}
use Rattle.cmm_data.proofs.Cells.{puts-step, zeros-next}
use Rattle.cmm_data.proofs.filling.Filling.put_zeros.Goals as goal

pub loop-index-preserved : goal.loop-index-preserved
loop-index-preserved c =
    record {
      small = c.in_ok-put_byte.ensures.small;
      left = λ after rest.
          c.loop-index.invariant.left after
          (puts-step c.loop-index.self c.put_byte.new.self after (Plain 0) (zeros (c.args.count - (c.loop-index._index + 1))) (zeros (c.args.count - c.loop-index._index))
          c.in_ok-put_byte.ensures rest (zeros-next c.args.count c.loop-index._index c.loop-index-test.true));
    }
