use Rattle.std.proofs.Common.{ℕ, ◌+◌, ap, ◌∙◌, sym, eq-eqb}
use Rattle.std.specs.Prelude.{◌==◌}
use Rattle.std.proofs.lemmas.Bool.{ne_eqb}
use Rattle.image_form.specs.Tables.{Func, func}
use Rattle.rv_machine.specs.Memory.{code_start}
use Rattle.rv_machine.proofs.Found.{found_here, found_later}
use Rattle.mover_runtime.specs.Outcome.{result_at}
use Rattle.mover_runtime.proofs.run.entry_result.Goals as goal

pub returns-then-from-pc : goal.returns-then-from-pc
returns-then-from-pc c =
    sym (ap result_at (c.loop-row.invariant
    ∙ found_here (λ (f : Func). code_start + f.offset == c.args.machine.now.pc) func c.as_slice-row-items.result.now c.loop-row.row-index c.row-item.result c.loop-row-test.true c.row-item.is
    (eq-eqb (code_start + c.row-item.result.offset) c.args.machine.now.pc (ap (λ (n : ℕ). code_start + n) (sym c.from.ensures) ∙ c.if-from-pc.true ∙ c.pc.ensures))))

pub loop-row-preserved : goal.loop-row-preserved
loop-row-preserved c =
    c.loop-row.invariant
    ∙ found_later (λ (f : Func). code_start + f.offset == c.args.machine.now.pc) func c.as_slice-row-items.result.now c.loop-row.row-index c.row-item.result c.loop-row-test.true c.row-item.is
    (ne_eqb (code_start + c.row-item.result.offset) c.args.machine.now.pc (λ e. c.if-from-pc.false (ap (λ (n : ℕ). code_start + n) c.from.ensures ∙ e ∙ sym c.pc.ensures)))
