use Rattle.std.proofs.Common.{◌+◌, true, cond, map, drop, get_or, sym, ap, ◌∙◌, eq-eqb}
use Rattle.std.proofs.lemmas.Bool.{ne_eqb}
use Rattle.std.proofs.lemmas.List.{get_or_default}
use Rattle.cmm_tree.specs.View.{index_view}
use Rattle.cmm_tree.specs.declared.expr.CaseIndex.{CaseIndex}
use Rattle.cmm_meaning.specs.Choices.{is_named}
use Rattle.eval_frames.proofs.Listed.{named_turn}
use Rattle.eval_frames.proofs.cases.is_named.Goals as goal

pub returns-then-index-number : goal.returns-then-index-number
returns-then-index-number c =
    let xs = c.as_slice-index-items.result.now in
    let i = c.loop-index.index-index in
    let d : CaseIndex = record { at = 0; index = 0 } in
    let x : CaseIndex = get_or xs i d in
    let rest = is_named (map index_view (drop (i + 1) xs)) c.args.number in
    ap (λ t. cond t true rest) (sym (eq-eqb x.index c.args.number c.if-index-number.true))
    ∙ sym (named_turn xs i x c.args.number c.loop-index-test.true (get_or_default xs i d x c.loop-index-test.true))
    ∙ c.loop-index.invariant

pub loop-index-preserved : goal.loop-index-preserved
loop-index-preserved c =
    let xs = c.as_slice-index-items.result.now in
    let i = c.loop-index.index-index in
    let d : CaseIndex = record { at = 0; index = 0 } in
    let x : CaseIndex = get_or xs i d in
    let rest = is_named (map index_view (drop (i + 1) xs)) c.args.number in
    ap (λ t. cond t true rest) (sym (ne_eqb x.index c.args.number c.if-index-number.false))
    ∙ sym (named_turn xs i x c.args.number c.loop-index-test.true (get_or_default xs i d x c.loop-index-test.true))
    ∙ c.loop-index.invariant
