use Rattle.cmm_tree.specs.View.{file_view}
use Rattle.file_compile.proofs.Promised.{promised}
use Rattle.file_compile.proofs.files.compile_by.Goals as goal

pub returns-clause-promised : goal.returns-clause-promised
returns-clause-promised g c =
    promised c.args.choices (file_view c.args.checked.now) c.requires.accepted c.image_by.result c.image_by.ensures.made c.image_by.ensures.is_image
