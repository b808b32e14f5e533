use Rattle.std.proofs.Common.{◌≡◌, ℕ, ◌+◌, ◌/◌, Bool, true, false, cond, List, ◌∷◌, drop, get_or, slice_index, refl, ap, ◌∙◌, sym}
use Rattle.rv_machine.specs.Frames.{is_register, registers_named}
use Rattle.rv_machine.specs.Hart.{with_register}
use Rattle.alloc_service.specs.Forward.{forward, redirected_registers_now}
use Rattle.alloc_service.proofs.Steps.{step_at, none_left}
use Rattle.alloc_service.proofs.moves.redirect_registers.Goals as goal

one_entry :
    (f : ℕ → ℕ) (t : Bool) (r : ℕ) (rs regs : List ℕ) →
    redirected_registers_now f (cond t (with_register r (f (slice_index regs r)) regs) regs) rs ≡ redirected_registers_now f regs (cond t (r ∷ rs) rs)
one_entry f true r rs regs = refl
one_entry f false r rs regs = refl

pub loop-entry-preserved : goal.loop-entry-preserved
loop-entry-preserved c =
    let f = forward c.args.table.now in
    let i = c.loop-entry.entry-index in
    let e = get_or c.args.entries.now i 0 in
    record {
      redirected = ap (λ regs. redirected_registers_now f regs (registers_named (drop (i + 1) c.args.entries.now))) c.redirect_entry.ensures.exact
          ∙ one_entry f (is_register e) (e / 2) (registers_named (drop (i + 1) c.args.entries.now)) c.loop-entry.registers
          ∙ ap (λ es. redirected_registers_now f c.loop-entry.registers (registers_named es)) (sym (step_at c.args.entries.now i c.loop-entry-test.true))
          ∙ c.loop-entry.invariant.redirected;
      zero = c.redirect_entry.ensures.zero ∙ c.loop-entry.invariant.zero;
    }

pub returns-clause-exact : goal.returns-clause-exact
returns-clause-exact c =
    ap (λ es. redirected_registers_now (forward c.args.table.now) c.loop-entry.registers (registers_named es)) (sym (none_left c.args.entries.now c.loop-entry.entry-index c.loop-entry-test.false))
    ∙ c.loop-entry.invariant.redirected
