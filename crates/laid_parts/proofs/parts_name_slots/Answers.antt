use Rattle.laid_parts.proofs.EverySlots.{slots_carried}
use Rattle.laid_parts.proofs.parts_name_slots.Goals as goal

pub returns : goal.returns
returns c = λ m w seated within i next tries among traps d. slots_carried m w seated within i next tries among traps d
