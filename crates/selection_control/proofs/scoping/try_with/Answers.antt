use Rattle.std.proofs.Common.{◌≡◌, ◌+◌, ◌-◌, suc, false, refl, ap, ◌∙◌, arith}
use Rattle.std.proofs.lemmas.Result.{on_ok_weaker}
use Rattle.bs_words.specs.declared.types.Comp.TheVariants as comp
use Rattle.bs_words.specs.declared.types.Ty.TheVariants as ty
use Rattle.cmm_tree.specs.View.{expr_view}
use Rattle.selection_rules.specs.Select.{fresh_register, seat, width}
use Rattle.selection_control.proofs.Branches.{try-code}
use Rattle.selection_scope.specs.declared.place.Place.{Place}
use Rattle.selection_control.proofs.scoping.try_with.Goals as goal

pub returns-clause-code : goal.returns-clause-code
returns-clause-code g c =
    let s = c.args.scope.now in
    let b = c.args.node.place.base in
    let base = b + 5 in
    let ab : base ≡ suc (suc (suc (suc (suc b)))) = omega arith in
    let al : base - 4 ≡ suc b = omega (arith, ab) in
    let ae : base - 3 ≡ suc (suc b) = omega (arith, ab) in
    let ar : base - 2 ≡ suc (suc (suc b)) = omega (arith, ab) in
    let ay : base - 1 ≡ suc (suc (suc (suc b))) = omega (arith, ab) in
    let register = c.fresh-register.ensures ∙ ap (λ n. fresh_register n ty.Val) ar in
    let seated = c.seat-seated.ensures ∙ ap (λ n. seat 0 n comp.Val) ay in
    let inner = c.behind-inner.ensures ∙ ap (λ n. n + width (expr_view c.args.body.now)) ab in
    let place = ap (λ (p : Place). record p { tail = false }) c.part-2.ensures in
    on_ok_weaker c.bare-3.result
    (λ made at name_at.
    try-code s s c.raised.new.scope c.args.node at name_at (base - 4) (base - 3) base c.behind-inner.result c.args.name.now c.args.body.now c.args.handler.now c.fresh-register.result c.seat-seated.result _ c.part.result c.args.code.now c.bare.new.self c.raised.new.code c.move_to.new.self c.handler.new.self c.bare-2.new.self c.in_try.new.code _
    (c.requires.ty at name_at) al ae register seated ab inner refl c.in_ok-raised.ensures.scope c.part.ensures place
    c.in_ok-bare.ensures c.in_ok-raised.ensures.code c.in_ok-move_to.ensures c.in_ok-handler.ensures c.in_ok-bare-2.ensures c.in_ok-in_try.ensures.code made)
    c.bare-3.ensures
