use Rattle.std.proofs.Common.{◌≡◌, ◌<◌, List, [], length, map, ap, sym, subst, ◌∙◌, arith}
use Rattle.std.specs.Prelude.{◌^◌}
use Rattle.std.proofs.lemmas.List.Sums.{sum_by-cons}
use Rattle.accepted_files.proofs.Files.{file_can}
use Rattle.bs_words.specs.Contents.{contents}
use Rattle.cmm_tree.specs.Tree.{functions_among}
use Rattle.cmm_tree.specs.View.{file_view, item_view}
use Rattle.cmm_tree.specs.declared.file.File.{File}
use Rattle.cmm_tree.specs.declared.file.Item.{Item}
use Rattle.rv_layout_rules.specs.Conditions.{weight_of}
use Rattle.rv_pieces.specs.declared.piece.Pieces.{Pieces}
use Rattle.rows_code.proofs.large.told.Goals as goal

pub count_functions-requires : goal.count_functions-requires
count_functions-requires g c =
    let file = c.in-Ok.checked in
    let items : c.as_slice.result.now ≡ contents file.items =
    c.as_slice.ensures ∙ ap (λ (f : File). contents f.items) (c.file.ensures.same ∙ c.typed.ensures) in
    record {
      few = subst (λ (list : List Item). length (functions_among (map item_view list)) < 2 ^ 32) (sym items) (file_can _ (file_view file) c.in-Ok.ensures.file).few_functions;
    }

pub answer-requires-clause-can : goal.answer-requires-clause-can
answer-requires-clause-can g c = λ lifetimes outlive.
    let file = c.in-Ok.checked in
    let items : c.as_slice.result.now ≡ contents file.items =
    c.as_slice.ensures ∙ ap (λ (f : File). contents f.items) (c.file.ensures.same ∙ c.typed.ensures) in
    let many = c.count_functions.ensures ∙ ap (λ (list : List Item). length (functions_among (map item_view list))) items in
    let heavy = sum_by-cons (λ (p : Pieces). weight_of p.code) c.in_ok-pieces.pieces [] in
    record {
      of_file = file_can c.as_bytes.result.now (file_view c.in-Ok.checked) c.in-Ok.ensures.file;
      each_one = omega (arith, many, c.if-count_functions-ne1.false);
      each = (c.in_ok-pieces.ensures.laid (file_view c.in-Ok.checked), tt);
      few = omega (arith, heavy, c.in_ok-pieces.ensures.few);
    }
