-- Where registers are put.
use Rattle.mach_ir.specs.Placed.{Colouring}
use Rattle.colouring_rules.specs.Places.{LocationAssignment}
use Rattle.reload_rules.specs.Reloaded.{to_slots}
use Rattle.reload.specs.declared.places.Putting.{Putting}
use Rattle.reload.specs.declared.places.Putting.TheVariants as putting

abbrev pub placing : Putting → Colouring → LocationAssignment
placing putting.Everywhere place = λ r. place r.number
placing putting.IntoSlots place = to_slots place
