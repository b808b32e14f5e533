use Rattle.std.proofs.Common.{◌≡◌, ℕ, ◌∷◌, ◌+◌, ◌-◌, suc, length, refl, sym, ap, ◌∙◌, arith}
use Rattle.std.proofs.lemmas.Result.{on_ok_weaker}
use Rattle.cmm_tree.specs.Rows.{cases_of}
use Rattle.cmm_tree.specs.Tree.{Switch}
use Rattle.cmm_tree.specs.View.{expr_view}
use Rattle.selection_rules.specs.Instructions as emit
use Rattle.selection_rules.specs.Select.{fresh_register}
use Rattle.selection_control.proofs.Branches.{switch-code}
use Rattle.selection_operands.specs.Below.{selected_code, node_code}
use Rattle.selection_control.proofs.choices.switch.Goals as goal

pub returns-clause-code : goal.returns-clause-code
returns-clause-code g c =
    let s = c.args.scope.now in
    let first = c.args.node.place.base + 3 in
    let b = c.args.node.place.base in
    let selector = c.args.selector.now in
    let af : first ≡ suc (suc (suc b)) = omega arith in
    let ae : first - 1 ≡ suc (suc b) = omega (arith, af) in
    let ar : first - 2 ≡ suc b = omega (arith, af) in
    let ab : first + length c.args.cases.now ≡ suc (suc (suc b)) + length c.args.cases.now = omega arith in
    let register : c.fresh-register.result ≡ fresh_register (suc b) selector.ty = c.fresh-register.ensures ∙ ap (λ n. fresh_register n selector.ty) ar in
    let chosen = c.in_ok-choose.ensures ∙ ap (λ l. emit.choose l c.fresh-register.result ∷ c.case_bodies.new.code) (c.from_vec.ensures ∙ sym c.as_slice.ensures.value) in
    let new = c.one.new.code in
    let left = c.case_bodies.new.scope in
    let step : new ≡ selected_code left c.operand_at.result selector c.choose.new.self
    → (at size_at : ℕ) → new ≡ node_code s c.args.node.place (Switch at size_at c.args.size (expr_view selector) (cases_of c.args.cases.now)) c.args.code.now =
    λ made at size_at.
    switch-code s s left c.args.node at size_at c.args.size first (first - 1) (first + length c.args.cases.now) c.behind-bodies.result selector c.args.cases.now c.as_slice.result.now c.fresh-register.result c.part.result c.operand_at.result c.args.code.now c.bare.new.self c.case_bodies.new.code c.choose.new.self new
    (c.requires.ty at size_at) c.requires.selector_typed af ae ab c.behind-bodies.ensures register refl c.in_ok-case_bodies.ensures.scope (c.as_slice.ensures.value ∙ c.in_ok-all.ensures) c.part.ensures c.operand_at.ensures
    c.in_ok-bare.ensures c.in_ok-case_bodies.ensures.code chosen made in
    on_ok_weaker c.one.result step c.one.ensures.code
