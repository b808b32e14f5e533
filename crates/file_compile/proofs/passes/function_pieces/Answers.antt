use Rattle.std.proofs.Common.{length, ap, sym, subst, ◌∙◌}
use Rattle.std.proofs.lemmas.Result.{IfOk-weaker}
use Rattle.cmm_tree.specs.View.{function_view}
use Rattle.lin_ir.specs.Descriptors.{AreExact}
use Rattle.file_compile.proofs.Passing.{lines_within, lines_located, lines_depth, function_made}
use Rattle.file_compile.proofs.passes.function_pieces.Goals as goal

pub descriptors-requires-clause-within : goal.descriptors-requires-clause-within
descriptors-requires-clause-within c = lines_within (function_view c.args.function.now) c.requires.accepted c.in_ok-lin.lin c.in_ok-lin.ensures

pub emit-requires-clause-within : goal.emit-requires-clause-within
emit-requires-clause-within c = lines_within (function_view c.args.function.now) c.requires.accepted c.in_ok-lin.lin c.in_ok-lin.ensures

pub descriptors-requires-clause-located : goal.descriptors-requires-clause-located
descriptors-requires-clause-located c = lines_located c.in_ok-lin.lin c.in_ok-lin.ensures

pub descriptors-requires-clause-depth : goal.descriptors-requires-clause-depth
descriptors-requires-clause-depth c = lines_depth c.in_ok-lin.lin c.in_ok-lin.ensures

pub emit-requires-clause-located : goal.emit-requires-clause-located
emit-requires-clause-located c = lines_located c.in_ok-lin.lin c.in_ok-lin.ensures

pub emit-requires-clause-depth : goal.emit-requires-clause-depth
emit-requires-clause-depth c = lines_depth c.in_ok-lin.lin c.in_ok-lin.ensures

pub returns : goal.returns
returns c =
    IfOk-weaker c.emit.result _ _
    (λ pieces emitted.
    function_made c.in_ok-lin.lin c.in_ok-lin.ensures c.as_slice.result.now pieces
    (subst (AreExact c.in_ok-lin.lin) (sym c.as_slice.ensures) c.in_ok-descrs.ensures.exact)
    (ap length c.as_slice.ensures ∙ c.in_ok-descrs.ensures.count) emitted)
    c.emit.ensures
