use Rattle.cmm_values.proofs.Bytes.{put_fits, whole_fits}
use Rattle.cmm_values.proofs.access.replaced.Goals as goal

pub overflow_mul-result-2 : goal.overflow_mul-result-2
overflow_mul-result-2 c =
    record {
      fits =
          put_fits c.args.offset c.args.bytes c.args.word c.args.new c.lowest.result c.requires.width c.requires.offset c.requires.aligned
          c.ranges.word.fits c.lowest.ensures;
    }

pub overflow_add-result : goal.overflow_add-result
overflow_add-result c =
    record {
      fits =
          whole_fits c.args.offset c.args.bytes c.args.word c.args.new c.lowest.result c.part.result c.requires.width c.requires.offset
          c.requires.aligned c.ranges.word.fits c.lowest.ensures c.part.ensures.exact;
    }
