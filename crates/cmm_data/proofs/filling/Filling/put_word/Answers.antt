use Rattle.std.proofs.Common.{◌+◌, ◌-◌, ◌%◌, ◌/◌}
use Rattle.cmm_data.specs.Contents.{Plain, little_endian}
use Rattle.cmm_data.proofs.Cells.{puts-step, little_endian-next}
use Rattle.cmm_data.proofs.filling.Filling.put_word.Goals as goal

pub loop-index-preserved : goal.loop-index-preserved
loop-index-preserved c =
    record {
      small = c.in_ok-put_byte.ensures.small;
      left = λ after rest.
          c.loop-index.invariant.left after
          (puts-step c.loop-index.self c.put_byte.new.self after (Plain (c.loop-index.left % 256)) (little_endian (c.args.count - (c.loop-index._index + 1)) (c.loop-index.left / 256)) (little_endian (c.args.count - c.loop-index._index) c.loop-index.left)
          c.in_ok-put_byte.ensures rest (little_endian-next c.args.count c.loop-index._index c.loop-index.left c.loop-index-test.true));
    }
