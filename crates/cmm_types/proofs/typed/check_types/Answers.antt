use Rattle.std.proofs.Common.{◌≡◌, List, length, map, sym, ap, ◌∙◌, rules}
use Rattle.std.proofs.lemmas.List.{take_at}
use Rattle.bs_words.specs.Contents.{contents}
use Rattle.cmm_tree.specs.Symbols.{symbols}
use Rattle.cmm_tree.specs.Tree.{ItemTree, FileTree}
use Rattle.cmm_tree.specs.View.{item_view, file_view}
use Rattle.cmm_tree.specs.declared.file.File.{File}
use Rattle.cmm_types.proofs.Exact.{told_is_leftmost, none_told, first_is_all}
use Rattle.cmm_types.proofs.Whole.{found_of_file, symbols_of_file}
use Rattle.cmm_types.proofs.typed.check_types.Goals as goal

pub returns-in-Some-clause-fault : goal.returns-in-Some-clause-fault
returns-in-Some-clause-fault c =
    let items = map item_view (contents c.args.file.items) in
    let one = ap (map item_view) (c.as_slice.ensures.value ∙ c.into_vec-items.ensures) in
    let two = ap (map item_view) (c.as_mut_slice.ensures.value ∙ c.into_vec-items.ensures) in
    told_is_leftmost (file_view c.args.file) c.in-Some.told
    (found_of_file items _ _ _ _ _ one two c.in_ok-all.ensures.symbols c.in_ok-all.ensures.found c.in_ok-check_items.ensures.found ∙ c.in-Some.is)

pub returns-in-None-clause-faultless : goal.returns-in-None-clause-faultless
returns-in-None-clause-faultless c =
    let items = map item_view (contents c.args.file.items) in
    let one = ap (map item_view) (c.as_slice.ensures.value ∙ c.into_vec-items.ensures) in
    let two = ap (map item_view) (c.as_mut_slice.ensures.value ∙ c.into_vec-items.ensures) in
    none_told (file_view c.args.file)
    (found_of_file items _ _ _ _ _ one two c.in_ok-all.ensures.symbols c.in_ok-all.ensures.found c.in_ok-check_items.ensures.found ∙ c.in-None.is)

pub of-requires-clause-symbols : goal.of-requires-clause-symbols
of-requires-clause-symbols c =
    let items = map item_view (contents c.args.file.items) in
    let one = ap (map item_view) (c.as_slice.ensures.value ∙ c.into_vec-items.ensures) in
    let two = ap (map item_view) (c.as_mut_slice.ensures.value ∙ c.into_vec-items.ensures) in
    let made : File = record { items = c.from_vec-items.result } in
    let long : length c.check_items.new.items ≡ c.into_vec-items.result.len = search rules in
    let taken : contents made.items ≡ c.check_items.new.items = c.from_vec-items.ensures ∙ take_at c.check_items.new.items _ _ long in
    let viewed : map item_view (contents made.items) ≡ items = ap (map item_view) taken ∙ (c.in_ok-check_items.ensures.view ∙ two) in
    let Same : List ItemTree → FileTree = λ l. record { items = l } in
    let same : file_view c.args.file ≡ file_view made = ap Same (sym viewed) in
    symbols_of_file items _ _ one c.in_ok-all.ensures.symbols
    ∙ first_is_all (file_view c.args.file)
    (none_told (file_view c.args.file)
    (found_of_file items _ _ _ _ _ one two c.in_ok-all.ensures.symbols c.in_ok-all.ensures.found c.in_ok-check_items.ensures.found ∙ c.in-None.is))
    ∙ ap symbols same
