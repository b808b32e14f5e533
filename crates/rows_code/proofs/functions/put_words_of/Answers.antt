use Rattle.rows_code.proofs.functions.put_words_of.Goals as goal

pub put_located-requires : goal.put_located-requires
put_located-requires g c = c.is_located.ensures.0 c.if-is_located.true
