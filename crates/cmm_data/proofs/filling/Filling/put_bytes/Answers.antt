use Rattle.std.proofs.Common.{◌+◌, drop, map, get_or}
use Rattle.cmm_data.specs.Contents.{Plain}
use Rattle.cmm_data.proofs.Items.{map_drop-at}
use Rattle.cmm_data.proofs.Cells.{puts-step}
use Rattle.cmm_data.proofs.filling.Filling.put_bytes.Goals as goal

pub loop-byte-preserved : goal.loop-byte-preserved
loop-byte-preserved c =
    let bytes = c.args.bytes.now in
    let k = c.loop-byte.byte-index in
    record {
      small = c.in_ok-put_byte.ensures.small;
      left = λ after rest.
          c.loop-byte.invariant.left after
          (puts-step c.loop-byte.self c.put_byte.new.self after (Plain (get_or bytes k 0)) (map Plain (drop (k + 1) bytes)) (map Plain (drop k bytes))
          c.in_ok-put_byte.ensures rest (map_drop-at Plain bytes k 0 c.loop-byte-test.true));
    }
