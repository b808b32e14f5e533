use Rattle.image_form.specs.Tables.{ext}
use Rattle.image_form.specs.Image.{IsExt}
use Rattle.image_form.proofs.Lengths.{each_at}
use Rattle.image_codec.proofs.writing.ext_table.Goals as goal

pub put_ext-requires-clause-name : goal.put_ext-requires-clause-name
put_ext-requires-clause-name c = let all = c.requires.each in rw c.row-item.is ((each_at IsExt ext _ _ _ all c.loop-row-test.true).name.1)

pub put_ext-requires-clause-params : goal.put_ext-requires-clause-params
put_ext-requires-clause-params c = let all = c.requires.each in rw c.row-item.is ((each_at IsExt ext _ _ _ all c.loop-row-test.true).few)
