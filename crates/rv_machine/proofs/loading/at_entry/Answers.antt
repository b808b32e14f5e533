use Rattle.std.proofs.Common.{◌+◌, ◌-◌, ℕ, List, [], ap, sym, ◌∙◌}
use Rattle.image_form.specs.Tables.{tables}
use Rattle.rv_machine.specs.Hart.{Hart}
use Rattle.rv_machine.specs.Memory.{Region}
use Rattle.rv_machine.specs.Start.{start_registers}
use Rattle.rv_machine.proofs.loading.at_entry.Goals as goal

pub returns : goal.returns
returns c = λ entry args offset words.
    let state : List ℕ → ℕ → List Region → Hart = λ registers from memory. record {
      image = tables c.args.image.now;
      registers = registers;
      pc = 0x10000 + from;
      memory = memory;
      stack_base = 0x3FFFFFF0 - c.args.stack;
      heap = c.args.heap;
      blocks = [];
      retired = 0;
      services = 0;
    } in
    c.new-2.ensures
    ∙ ap (λ registers. state registers c.from-pc.result c.in_ok-memory.memory) (c.start_registers.ensures.exact args words)
    ∙ ap (λ from. state (start_registers args) from c.in_ok-memory.memory) (c.from-pc.ensures ∙ sym offset)
    ∙ ap (λ memory. state (start_registers args) entry.offset memory) c.in_ok-memory.ensures
