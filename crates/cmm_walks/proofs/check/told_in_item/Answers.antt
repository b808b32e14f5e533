use Rattle.std.proofs.Common.{◌∷◌, [], sym, ap}
use Rattle.cmm_tree.specs.Tree.{functions_among}
use Rattle.cmm_tree.specs.View.{function_view, item_view}
use Rattle.cmm_tree.specs.declared.file.Item.{Item}
use Rattle.cmm_walks.proofs.Least.{told-one, told-as}
use Rattle.cmm_walks.proofs.check.told_in_item.Goals as goal

pub returns-in_ok-told-in-Function : goal.returns-in_ok-told-in-Function
returns-in_ok-told-in-Function c =
    told-as (function_view c.in-Function.function ∷ []) (functions_among (item_view c.args.item.now ∷ [])) c.in_ok-told-in-Function.told
    (sym (ap (λ (i : Item). functions_among (item_view i ∷ [])) c.in-Function.is))
    (told-one (function_view c.in-Function.function) c.in_ok-told-in-Function.told c.in_ok-told-in-Function.ensures)
