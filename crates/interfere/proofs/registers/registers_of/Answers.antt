use Rattle.std.proofs.Common.{◌∙◌, sym, subst, ◌<◌}
use Rattle.mach_ir.specs.Walks.{InCode, is_param, is_colour, is_in_code}
use Rattle.interfere.proofs.Entering.{regs_small, registers_made}
use Rattle.interfere.proofs.registers.registers_of.Goals as goal

pub enter-requires : goal.enter-requires
enter-requires c =
    regs_small c.args.size _ c.args.mach.now.params c.as_slice.result.now c.as_slice.ensures (λ r a. c.requires r (is_param a))
    c.in_ok-table.ensures.len

pub enter-requires-2 : goal.enter-requires-2
enter-requires-2 c =
    regs_small c.args.size _ c.args.mach.now.colours c.as_slice-2.result.now c.as_slice-2.ensures (λ r a. c.requires r (is_colour a))
    (c.enter.ensures.len ∙ c.in_ok-table.ensures.len)

pub enter_code-requires : goal.enter_code-requires
enter_code-requires c = λ r a.
    subst (λ n. r.number < n) (sym (c.enter-2.ensures.len ∙ c.enter.ensures.len ∙ c.in_ok-table.ensures.len))
    (c.requires r (is_in_code (subst (InCode r) c.as_slice-3.ensures a)))

pub returns : goal.returns
returns c =
    registers_made c.args.mach.now c.args.size c.in_ok-table.table.items c.enter.new.table.items c.enter-2.new.table.items
    c.enter_code.new.table.items c.as_slice.result.now c.as_slice-2.result.now c.as_slice-3.result.now c.as_slice.ensures c.as_slice-2.ensures
    c.as_slice-3.ensures c.in_ok-table.ensures.len c.in_ok-table.ensures.none c.enter.ensures c.enter-2.ensures c.enter_code.ensures
