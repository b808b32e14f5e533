use Rattle.std.proofs.Common.{◌≡◌, ◌≤◌, List, length, get_or, ap, ◌∙◌, arith}
use Rattle.lin_ir.specs.declared.lin.Line.{Line}
use Rattle.lin_tidy.proofs.Leading.{targets_begun, targets_more, targets_all}
use Rattle.lin_tidy.proofs.redirecting.Targets.of_function.Goals as goal

pub loop-line-init : goal.loop-line-init
loop-line-init c = targets_begun c.args.lin.now c.new-targets.result c.new-targets.ensures.to c.new-targets.ensures.exits

pub loop-line-preserved : goal.loop-line-preserved
loop-line-preserved c =
    targets_more c.args.lin.now c.loop-line.targets c.put_line.new.self c.loop-line.line-index c.line-item.result
    (c.line-item.is ∙ ap (λ (xs : List Line). get_or xs c.loop-line.line-index c.line-item.result) c.as_slice-line-items.ensures)
    c.in_ok-put_line.ensures.to c.in_ok-put_line.ensures.exits c.loop-line.invariant

pub returns : goal.returns
returns c =
    let all : length c.as_slice-line-items.result.now ≡ length c.args.lin.now.code = ap length c.as_slice-line-items.ensures in
    let out = c.loop-line-test.false in
    let le : length c.args.lin.now.code ≤ c.loop-line.line-index = omega (arith, all, out) in
    targets_all c.args.lin.now c.loop-line.targets c.loop-line.line-index le c.loop-line.invariant
