use Rattle.std.proofs.Common.{List, Option, map, ap, subst}
use Rattle.bs_words.specs.Contents.{contents}
use Rattle.cmm_tree.specs.Tree.{functions_among}
use Rattle.cmm_tree.specs.View.{item_view, file_view}
use Rattle.cmm_tree.specs.declared.file.Item.{Item}
use Rattle.cmm_walks.specs.Refusal.{ToldAmong}
use Rattle.cmm_walks.specs.declared.limits.Limits.{Limits}
use Rattle.cmm_walks.proofs.Least.{told-as, none-live, told-live}
use Rattle.cmm_walks.proofs.check.check_file.Goals as goal

pub returns-in-None-clause-settled : goal.returns-in-None-clause-settled
returns-in-None-clause-settled c =
    let fs = functions_among (map item_view (contents c.args.file.now.items)) in
    let P : Option Limits → Type 0 = λ o. ToldAmong fs o in
    let told = told-as (functions_among (map item_view c.as_slice.result.now)) fs c.in_ok-told.told (ap (λ (l : List Item). functions_among (map item_view l)) c.as_slice.ensures) c.in_ok-told.ensures in
    none-live (file_view c.args.file.now) (subst P c.in-None.is told)

pub returns-in-Some-clause-fault : goal.returns-in-Some-clause-fault
returns-in-Some-clause-fault c =
    let fs = functions_among (map item_view (contents c.args.file.now.items)) in
    let P : Option Limits → Type 0 = λ o. ToldAmong fs o in
    let told = told-as (functions_among (map item_view c.as_slice.result.now)) fs c.in_ok-told.told (ap (λ (l : List Item). functions_among (map item_view l)) c.as_slice.ensures) c.in_ok-told.ensures in
    told-live (file_view c.args.file.now) c.in-Some.told (subst P c.in-Some.is told)
