use Rattle.image_form.specs.Tables.{desc}
use Rattle.image_form.specs.Image.{IsDesc}
use Rattle.image_form.proofs.Lengths.{each_at, entries_fit, wide_enough}
use Rattle.image_codec.proofs.writing.desc_table.Goals as goal

pub put_desc-requires-clause-size : goal.put_desc-requires-clause-size
put_desc-requires-clause-size c = let all = c.requires.each in rw c.row-item.is ((each_at (IsDesc c.args.version all.0) desc _ _ _ all.1 c.loop-row-test.true).size_fits)

pub put_desc-requires-clause-few : goal.put_desc-requires-clause-few
put_desc-requires-clause-few c = let all = c.requires.each in rw c.row-item.is ((each_at (IsDesc c.args.version all.0) desc _ _ _ all.1 c.loop-row-test.true).few)

pub put_desc-requires-clause-entries : goal.put_desc-requires-clause-entries
put_desc-requires-clause-entries c = let all = c.requires.each in rw c.row-item.is (entries_fit c.args.version all.0 _ (each_at (IsDesc c.args.version all.0) desc _ _ _ all.1 c.loop-row-test.true))

pub put_desc-requires-clause-fits : goal.put_desc-requires-clause-fits
put_desc-requires-clause-fits c = (wide_enough c.args.version).1
