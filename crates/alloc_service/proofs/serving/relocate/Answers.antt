use Rattle.std.proofs.Common.{◌≡◌, ℕ, suc, ◌+◌, ◌≤◌, ◌++◌, List, reverse, Some, ap, arith, ◌∙◌, sym, subst}
use Rattle.std.specs.List.{AllByRecursion}
use Rattle.image_form.specs.Tables.{tables}
use Rattle.rv_machine.specs.Relocation.{Refused, with_blocks}
use Rattle.rv_machine.specs.Hart.{Hart, Placed}
use Rattle.rv_machine.specs.Observation.{blocks_at, young_blocks}
use Rattle.rv_machine.specs.Placement.{bytes_used, new_places}
use Rattle.rv_machine.specs.Step.{count}
use Rattle.rv_machine.specs.declared.cause.Cause.TheVariants.{BadRoot}
use Rattle.alloc_service.specs.Attempt.{Parts, Tries}
use Rattle.alloc_service.specs.declared.roots.Stack.TheVariants as stack
use Rattle.alloc_service.specs.Forward.{IsLow, IsPlaced}
use Rattle.alloc_service.specs.Plan.{plan_of, services_counted, with_counts}
use Rattle.machine_laws.proofs.Chain.{young_chain}
use Rattle.alloc_service.proofs.Placing.{all_low, all_placed}
use Rattle.alloc_service.proofs.Served.{bad_root, caller_of, goes}
use Rattle.alloc_service.proofs.serving.relocate.Goals as goal

pub attempt-requires-clause-placed : goal.attempt-requires-clause-placed
attempt-requires-clause-placed c =
    let i = c.machine.inside in
    let t = c.in-Entered.ensures.taken in
    let olds = i.blocks.items in
    let chain = young_chain i.memory c.args.from t.0 t.1 in
    subst (AllByRecursion (IsPlaced i.heap)) (sym t.2) (all_placed i.heap olds t.0 c.machine.invariant.2.most c.machine.invariant.2.each chain.each)

pub attempt-requires-clause-far : goal.attempt-requires-clause-far
attempt-requires-clause-far c =
    let i = c.machine.inside in
    let t = c.in-Entered.ensures.taken in
    let olds = i.blocks.items in
    let chain = young_chain i.memory c.args.from t.0 t.1 in
    subst (AllByRecursion IsLow) (sym t.2) (all_low i.heap olds t.0 c.machine.invariant.2.most c.machine.invariant.2.each chain.each)

pub returns-in-BadRoot-clause-exact : goal.returns-in-BadRoot-clause-exact
returns-in-BadRoot-clause-exact c =
    let i = c.machine.inside in
    let t = c.in-Entered.ensures.taken in
    let h : Hart = record { image = tables i.image.now; registers = i.registers; pc = i.pc; memory = i.memory; stack_base = i.stack_base; heap = i.heap; blocks = i.blocks.items; retired = i.retired; services = i.services } in
    let plan : List Placed → List ℕ = plan_of c.args.plan in
    let bs = h.blocks ++ reverse t.0 in
    let young : young_blocks h.memory c.args.from ≡ Some t.0 = t.1 in
    let fits : bytes_used bs ≤ h.heap = subst (λ (xs : List Placed). bytes_used xs ≤ h.heap) t.2 t.3 in
    let caller = caller_of h in
    let new : Parts = record { registers = c.attempt.new.registers; memory = c.attempt.new.memory; blocks = c.attempt.new.blocks.items } in
    let tries = subst (λ (xs : List Placed). Tries stack.BadRoot h.image caller (new_places h.heap h.services xs (plan xs)) (record { registers = h.registers; memory = h.memory; blocks = xs }) new) t.2 c.in-BadRoot.ensures.tries in
    subst (λ (x : Hart). with_counts services_counted (with_blocks plan x (blocks_at x c.args.from)) ≡ Refused BadRoot) c.machine.view_is
    (bad_root plan h t.0 c.args.from young fits c.machine.invariant.0 tries.0 tries.1 tries.2)

pub returns-in-Fine-clause-exact : goal.returns-in-Fine-clause-exact
returns-in-Fine-clause-exact c =
    let i = c.machine.inside in
    let t = c.in-Entered.ensures.taken in
    let h : Hart = record { image = tables i.image.now; registers = i.registers; pc = i.pc; memory = i.memory; stack_base = i.stack_base; heap = i.heap; blocks = i.blocks.items; retired = i.retired; services = i.services } in
    let plan : List Placed → List ℕ = plan_of c.args.plan in
    let bs = h.blocks ++ reverse t.0 in
    let young : young_blocks h.memory c.args.from ≡ Some t.0 = t.1 in
    let fits : bytes_used bs ≤ h.heap = subst (λ (xs : List Placed). bytes_used xs ≤ h.heap) t.2 t.3 in
    let caller = caller_of h in
    let new : Parts = record { registers = c.attempt.new.registers; memory = c.attempt.new.memory; blocks = c.attempt.new.blocks.items } in
    let tries = subst (λ (xs : List Placed). Tries stack.Fine h.image caller (new_places h.heap h.services xs (plan xs)) (record { registers = h.registers; memory = h.memory; blocks = xs }) new) t.2 c.in-Fine.ensures.tries in
    sym (ap (λ (x : Hart). with_counts services_counted (with_blocks plan x (blocks_at x c.args.from))) c.machine.view_is)
    ∙ goes plan h t.0 c.args.from young fits c.machine.invariant.0 tries.0 tries.1 tries.2 new tries.3 c.saturating_add-machine-inside.result (c.saturating_add-machine-inside.ensures ∙ ap count (let n : i.services + 1 ≡ suc i.services = omega arith in n))
