use Rattle.std.proofs.Common.{◌∙◌, sym, rules}
use Rattle.std.specs.Str.{bytes_eq}
use Rattle.image_form.specs.Tables.{Func, func}
use Rattle.rv_machine.proofs.Found.{same_name, other_name, found_here, found_later}
use Rattle.rv_machine.proofs.loading.func_named.Goals as goal

pub returns-then-same : goal.returns-then-same
returns-then-same c =
    sym (c.loop-row.invariant ∙ found_here (λ (f : Func). bytes_eq f.name c.args.name.now) func c.as_slice-row-items.result.now c.loop-row.row-index c.row-item.result c.loop-row-test.true c.row-item.is
    (same_name c.row-item.result.name c.args.name.now (c.if-same.ensures.0 (search rules))))

pub loop-row-preserved : goal.loop-row-preserved
loop-row-preserved c =
    c.loop-row.invariant ∙ found_later (λ (f : Func). bytes_eq f.name c.args.name.now) func c.as_slice-row-items.result.now c.loop-row.row-index c.row-item.result c.loop-row-test.true c.row-item.is
    (other_name c.row-item.result.name c.args.name.now (λ e. absurd (let h = c.if-same.ensures.1 e in search rules)))
