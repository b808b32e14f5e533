use Rattle.walk_tables.proofs.Arena.{plus-one}
use Rattle.std.proofs.Common.{arith, ap, ◌∷◌, [], false, ℕ}
use Rattle.bs_words.specs.declared.types.Ty.TheVariants as ty
use Rattle.cmm_tree.specs.View.{expr_view}
use Rattle.walk_tables.specs.Walks.{Does, Binds, Evaluates}
use Rattle.walk_tables.proofs.Pushed.{then, ready, kept-within, adds-as, adds-inside}
use Rattle.walk_tables.proofs.items.Cells.handling.Goals as goal

pub returns : goal.returns
returns c = λ s r scope typed.
    let o = c.in_ok-inner.ensures.opens s r.sound scope in
    let e = c.in_ok-handled.ensures _ (record { sound = o.sound; within = kept-within o.extends r.within }) o.opened typed (omega (arith, c.requires, c.in_ok-inner.ensures.more)) in
    adds-as (ap (λ (n : ℕ). Does (Binds c.args.slot false c.args.name_at) ∷ Evaluates (record { scoped = record { name = c.args.name.now; type = ty.Val; mutable = false }; slot = c.args.slot } ∷ s) n (expr_view c.args.handler.now) ∷ []) (plus-one c.args.slot)) (then (c.in_ok-cell.ensures.adds (ready e)) (adds-inside o.extends r.within e))
