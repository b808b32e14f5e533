use Rattle.std.proofs.Common.{Bool, true, false, List, Option, ◌≡◌, ◌∙◌, sym, ap}
use Rattle.rv_machine.specs.Memory.{Region, memory_or, write}
use Rattle.rv_machine.specs.Writes.{ReportsWrite}
use Rattle.rv_machine.proofs.memory.Memory.put.Goals as goal

written_is : (b : Bool) (o : Option (List Region)) (old new : List Region) → ReportsWrite b o old new → new ≡ memory_or old o
written_is true o old new w = sym (ap (memory_or old) w)
written_is false o old new w = w.1 ∙ sym (ap (memory_or old) w.0)

pub returns : goal.returns
unfolding write
returns c = written_is c.store.result _ c.args.self.now c.store.new.self c.store.ensures
