use Rattle.image_form.specs.Tables.{func}
use Rattle.image_form.specs.Image.{IsFunc}
use Rattle.image_form.proofs.Lengths.{each_at}
use Rattle.image_codec.proofs.writing.func_table.Goals as goal

pub put_func-requires : goal.put_func-requires
put_func-requires c = let all = c.requires.each in rw c.row-item.is (each_at IsFunc func _ _ _ all c.loop-row-test.true)
