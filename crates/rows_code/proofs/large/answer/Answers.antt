use Rattle.std.proofs.Common.{◌<◌, length, sym, subst, ◌∙◌}
use Rattle.std.specs.Prelude.{◌^◌}
use Rattle.cmm_tree.specs.Tree.{functions}
use Rattle.cmm_tree.specs.View.{file_view}
use Rattle.cmm_tree.specs.declared.file.File.{File}
use Rattle.rows_code.proofs.large.answer.Goals as goal

pub place_data-requires-clause-few : goal.place_data-requires-clause-few
place_data-requires-clause-few g c =
    subst (λ (f : File). length (functions (file_view f)) < 2 ^ 32) (sym (c.file.ensures.same ∙ c.typed.ensures)) c.requires.can.of_file.few_functions
