use Rattle.cmm_data.proofs.Cells.{word_of_bytes-word}
use Rattle.cmm_data.proofs.filling.word_of.Goals as goal

pub returns : goal.returns
returns c = cc (word_of_bytes-word c.args.bytes.now c.requires)
