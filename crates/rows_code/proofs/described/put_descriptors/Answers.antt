use Rattle.rows_code.proofs.described.put_descriptors.Goals as goal

pub put_located-requires : goal.put_located-requires
put_located-requires c = c.is_located.ensures.0 c.if-is_located.true
