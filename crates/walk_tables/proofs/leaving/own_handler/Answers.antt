use Rattle.std.proofs.Common.{inl, inr, ap, subst}
use Rattle.cmm_tree.specs.View.{label_view}
use Rattle.walk_tables.specs.Leaving.{HasRow, own_handler}
use Rattle.walk_tables.specs.declared.items.Item.{Item}
use Rattle.walk_tables.proofs.Leavings.{own-as}
use Rattle.walk_tables.proofs.leaving.own_handler.Goals as goal

pub find_handler-requires : goal.find_handler-requires
find_handler-requires c =
    let P : Item → Type 0 = λ x. HasRow x in
    subst P c.in-Catches.is c.requires

pub find_handler-requires-in-Handler : goal.find_handler-requires-in-Handler
find_handler-requires-in-Handler c =
    let P : Item → Type 0 = λ x. HasRow x in
    subst P c.in-Handler.is c.requires

pub returns-in-Catches : goal.returns-in-Catches
returns-in-Catches c =
    λ count scopes tasks. own-as (label_view c.args.label.now) count scopes tasks c.args.item _ c.find_handler.result c.in-Catches.is (λ held. c.find_handler.ensures count tasks _ _ _ _ held.1)

pub returns-in-Handler : goal.returns-in-Handler
returns-in-Handler c =
    λ count scopes tasks. own-as (label_view c.args.label.now) count scopes tasks c.args.item _ c.find_handler-in-Handler.result c.in-Handler.is (λ held. c.find_handler-in-Handler.ensures count tasks _ _ _ _ held.1)

pub returns-in-Empty : goal.returns-in-Empty
returns-in-Empty c = λ count scopes tasks held.
    let own = own_handler (label_view c.args.label.now) scopes tasks in
    elim c.in-Empty.is [
      | inl e ↦ ap own e
      | inr (inl (_, _, _, _, _, e)) ↦ ap own e
      | inr (inr (inl (_, _, e))) ↦ ap own e
      | inr (inr (inr (inl (_, _, _, _, e)))) ↦ ap own e
      | inr (inr (inr (inr (inl (_, _, _, _, _, e))))) ↦ ap own e
      | inr (inr (inr (inr (inr (inl (_, _, _, _, _, e)))))) ↦ ap own e
      | inr (inr (inr (inr (inr (inr (inl (_, _, _, _, e))))))) ↦ ap own e
      | inr (inr (inr (inr (inr (inr (inr (inl (_, e)))))))) ↦ ap own e
      | inr (inr (inr (inr (inr (inr (inr (inr (inl (_, e))))))))) ↦ ap own e
      | inr (inr (inr (inr (inr (inr (inr (inr (inr (inl (_, _, e)))))))))) ↦ ap own e
      | inr (inr (inr (inr (inr (inr (inr (inr (inr (inr ((_, _, _, _, _, _, _, e))))))))))) ↦ ap own e
    ]
