use Rattle.std.proofs.Common.{◌*◌, List, arith, length, map, sym, subst}
use Rattle.std.specs.List.{AllByRecursion}
use Rattle.bs_words.specs.Contents.{contents}
use Rattle.image_form.specs.declared.image.DescRow.{DescRow}
use Rattle.image_form.specs.Tables.{desc}
use Rattle.image_form.specs.Image.{IsDesc}
use Rattle.image_listings.proofs.frames.frames_text.Goals as goal

pub put_lines-requires : goal.put_lines-requires
put_lines-requires c =
    let version = c.args.image.now.version in
    let limit = 4 * length (contents c.args.image.now.code) in (
      version,
      limit,
      subst (λ (rows : List DescRow). AllByRecursion (IsDesc version limit) (map desc rows)) (sym c.as_slice.ensures) c.requires.descs.each,
      omega (arith, c.requires.code.short),
    )
