use Rattle.std.proofs.Common.{◌≡◌, ℕ, [], ◌∷◌, false, ◌+◌, ◌-◌, suc, refl, ap, ◌∙◌, arith}
use Rattle.std.proofs.lemmas.Result.{on_ok_weaker}
use Rattle.cmm_tree.specs.Tree.{If}
use Rattle.cmm_tree.specs.View.{expr_view}
use Rattle.mach_ir.specs.declared.mach.Test.TheVariants as test
use Rattle.selection_rules.specs.Instructions as emit
use Rattle.selection_rules.specs.Select.{fresh_register, width, select, select_test}
use Rattle.selection_control.proofs.Branches.{if-code}
use Rattle.selection_control.proofs.LastParts.{operand_place}
use Rattle.selection_operands.specs.Below.{node_code}
use Rattle.selection_control.proofs.choices.if_else.Goals as goal

pub returns-clause-code : goal.returns-clause-code
returns-clause-code g c =
    let s = c.args.scope.now in
    let b = c.args.node.place.base in
    let of = c.args.condition_of.now in
    let base = b + 4 in
    let ab : base ≡ suc (suc (suc (suc b))) = omega arith in
    let al : base - 2 ≡ suc (suc b) = omega (arith, ab) in
    let ae : base - 1 ≡ suc (suc (suc b)) = omega (arith, ab) in
    let ar : base - 3 ≡ suc b = omega (arith, ab) in
    let at_true = c.behind-true_base.ensures ∙ ap (λ n. n + width (expr_view of)) ab in
    let at_false = c.behind-false_base.ensures ∙ ap (λ n. n + width (expr_view c.args.on_true.now)) at_true in
    let register = c.fresh.ensures ∙ ap (λ n. fresh_register n of.ty) ar in
    let place = c.operand_at-place.ensures ∙ ap (λ r. operand_place r base) register in
    let new = c.condition.new.code in
    let v = c.one-2.new.scope in
    let p = c.operand_at-place.result in
    let rest = c.one-2.new.code in
    let step : new ≡ select_test v.names v.labels (base - 2) p.base (expr_view of)
    (select v.names v.labels false false p.dest p.base (expr_view of) (emit.branch test.Holds (base - 2) (p.dest ∷ []) ∷ rest)) rest
    → (at : ℕ) → new ≡ node_code s c.args.node.place (If at (expr_view of) (expr_view c.args.on_true.now) (expr_view c.args.on_false.now)) c.args.code.now =
    λ made at.
    if-code s s c.one.new.scope v c.args.node at base (base - 2) (base - 1) c.behind-true_base.result c.behind-false_base.result of c.args.on_true.now c.args.on_false.now p c.part-2.result c.part.result c.args.code.now c.bare.new.self c.one.new.code c.bare-2.new.self rest new
    (c.requires.ty at) c.requires.condition_typed ab al ae at_true at_false refl c.in_ok-one.ensures.scope (c.in_ok-one-2.ensures.scope ∙ c.in_ok-one.ensures.scope)
    c.part.ensures c.part-2.ensures place
    c.in_ok-bare.ensures c.in_ok-one.ensures.code c.in_ok-bare-2.ensures c.in_ok-one-2.ensures.code made in
    on_ok_weaker c.condition.result step c.condition.ensures.code
