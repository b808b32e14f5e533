use Rattle.std.proofs.Common.{◌≡◌, ◌+◌, ◌*◌, [], ◌∷◌, length, ap, sym, ◌∙◌, arith}
use Rattle.std.proofs.lemmas.List.{length-map, map-append}
use Rattle.selection_rules.specs.Instructions as emit
use Rattle.selection_rules.specs.Select.{cell_stores}
use Rattle.selection_scope.specs.Row.{regs_in}
use Rattle.selection_scope.specs.declared.row.InRow.{InRow}
use Rattle.selection_code.proofs.Cells.{cells-last}
use Rattle.selection_code.proofs.backwards.Backwards.cell_stores.Goals as goal

pub loop-last-preserved : goal.loop-last-preserved
loop-last-preserved c =
    let k = c.args.chunk in
    let p = c.args.block in
    let others = c.in-Some.others.now in
    let last = c.in-Some.last.now in
    let before = c.loop-last.self in
    let count = length-map others (λ (r : InRow). r.reg) in
    let offset : 8 * length others ≡ 8 * (0 + length (regs_in others)) = omega (arith, count) in
    ap (cell_stores k p 0 (regs_in others)) (c.in_ok-store.ensures ∙ ap (λ o. emit.store k o p last.reg ∷ before) offset)
    ∙ sym (cells-last k p 0 (regs_in others) last.reg before)
    ∙ ap (λ xs. cell_stores k p 0 xs before) (sym (map-append (λ (r : InRow). r.reg) others (last ∷ [])))
    ∙ ap (λ xs. cell_stores k p 0 (regs_in xs) before) (sym c.in-Some.ensures.cases.0)
    ∙ c.loop-last.invariant
