use Rattle.std.proofs.Common.{suc, ◌<◌, sym, subst}
use Rattle.liveness.specs.Numbers.{IsLeastAbove, IsAboveCode}
use Rattle.mach_ir.specs.Sizes.{number_limit}
use Rattle.mach_ir.specs.Walks.{InCode, is_param, is_colour, is_in_code}
use Rattle.mach_ir.specs.declared.reg.Reg.{Reg}
use Rattle.std.specs.List.{All}
use Rattle.liveness.proofs.Bounds.{first_least, members}
use Rattle.liveness.proofs.Counting.{next_fits}
use Rattle.liveness.proofs.numbers.first_free.Goals as goal

pub returns-clause-least : goal.returns-clause-least
returns-clause-least c =
    first_least c.args.mach.now c.above-above_params.result c.above-above_colours.result c.above_code.result
    (subst (λ rs. IsLeastAbove 0 rs c.above-above_params.result) c.as_slice.ensures c.above-above_params.ensures)
    (subst (λ rs. IsLeastAbove c.above-above_params.result rs c.above-above_colours.result) c.as_slice-2.ensures
    c.above-above_colours.ensures)
    (subst (λ xs. IsAboveCode c.above-above_colours.result xs c.above_code.result) c.as_slice-3.ensures c.above_code.ensures)

pub above-above_params-requires : goal.above-above_params-requires
above-above_params-requires c =
    let P = λ (r : Reg). suc r.number < number_limit in
    subst (All P) (sym c.as_slice.ensures)
    (members P c.args.mach.now.params (λ r d. next_fits c.args.mach.now c.requires.countable r (is_param d)))

pub above-above_colours-requires : goal.above-above_colours-requires
above-above_colours-requires c =
    let P = λ (r : Reg). suc r.number < number_limit in
    subst (All P) (sym c.as_slice-2.ensures)
    (members P c.args.mach.now.colours (λ r d. next_fits c.args.mach.now c.requires.countable r (is_colour d)))

pub above_code-requires : goal.above_code-requires
above_code-requires c =
    subst (λ code. (r : Reg) → InCode r code → suc r.number < number_limit) (sym c.as_slice-3.ensures)
    (λ r d. next_fits c.args.mach.now c.requires.countable r (is_in_code d))
