use Rattle.std.proofs.Common.{◌≤◌, ◌<◌, arith, get_or}
use Rattle.image_form.specs.Tables.{desc}
use Rattle.image_form.specs.Image.{IsDesc}
use Rattle.image_form.proofs.Lengths.{each_at}
use Rattle.image_listings.proofs.frames.put_lines.Goals as goal

pub put_line-requires-clause-near : goal.put_line-requires-clause-near
put_line-requires-clause-near c =
    let all = c.requires in
    let row = get_or c.args.rows.now c.loop-row.row-index c.row-item.result in
    let inside : row.after ≤ all.1 = (each_at (IsDesc all.0 all.1) desc _ _ _ all.2 c.loop-row-test.true).in_code in
    let near : row.after < 2147483648 = omega (arith, inside, all.3) in
    rw c.row-item.is near

pub put_line-requires-clause-entries : goal.put_line-requires-clause-entries
put_line-requires-clause-entries c =
    let all = c.requires in
    rw c.row-item.is ((each_at (IsDesc all.0 all.1) desc _ _ _ all.2 c.loop-row-test.true).entries)
