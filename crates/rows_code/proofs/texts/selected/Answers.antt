use Rattle.std.proofs.Common.{◌≡◌, ◌<◌, List, length, map, ap, sym, subst, ◌∙◌}
use Rattle.std.specs.Prelude.{◌^◌}
use Rattle.accepted_files.proofs.Files.{file_can}
use Rattle.bs_words.specs.Contents.{contents}
use Rattle.cmm_tree.specs.Tree.{functions_among}
use Rattle.cmm_tree.specs.View.{file_view, item_view}
use Rattle.cmm_tree.specs.declared.file.File.{File}
use Rattle.cmm_tree.specs.declared.file.Item.{Item}
use Rattle.selection_accepted.proofs.Room.{file_selectable}
use Rattle.rows_code.proofs.texts.selected.Goals as goal

pub count_functions-count-requires : goal.count_functions-count-requires
count_functions-count-requires c =
    let file = c.in-Ok.checked in
    let items : c.as_slice.result.now ≡ contents file.items =
    c.as_slice.ensures ∙ ap (λ (f : File). contents f.items) (c.file.ensures.same ∙ c.typed.ensures) in
    record {
      few = subst (λ (list : List Item). length (functions_among (map item_view list)) < 2 ^ 32) (sym items) (file_can _ (file_view file) c.in-Ok.ensures.file).few_functions;
    }

pub select-requires-clause-room : goal.select-requires-clause-room
select-requires-clause-room c = file_selectable _ _ c.in-Ok.ensures.file
