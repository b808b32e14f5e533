use Rattle.image_form.specs.Tables.{sym}
use Rattle.image_form.specs.Image.{IsSym}
use Rattle.image_form.proofs.Lengths.{each_at}
use Rattle.image_codec.proofs.writing.sym_table.Goals as goal

pub put_sym-requires : goal.put_sym-requires
put_sym-requires c = let all = c.requires.each in rw c.row-item.is ((each_at (IsSym all.0) sym _ _ _ all.1 c.loop-row-test.true).name.1)
