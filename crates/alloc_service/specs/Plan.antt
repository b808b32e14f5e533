-- What a plan asks for, and what a service reports.
use Rattle.std.specs.Prelude.{◌≡◌, ℕ, List, []}
use Rattle.rv_machine.specs.Relocation.{Serviced, Goes, NoHeap, Refused, serve_then}
use Rattle.rv_machine.specs.Step.{count}
use Rattle.rv_machine.specs.Hart.{Hart, Placed}
use Rattle.rv_machine.specs.Placement.{drawn_plan}
use Rattle.alloc_service.specs.declared.plan.Plan.{Plan}
use Rattle.alloc_service.specs.declared.plan.Plan.TheVariants.{Packed, Starts, Drawn}
use Rattle.alloc_service.specs.declared.service_end.ServiceEnd.{ServiceEnd}
use Rattle.alloc_service.specs.declared.service_end.ServiceEnd.TheVariants as reported

-- the new starts that a plan has for these blocks
abbrev pub plan_of : Plan → List Placed → List ℕ
plan_of Packed blocks = []
plan_of (Starts starts) blocks = starts.now
plan_of (Drawn word) blocks = drawn_plan word blocks

-- the counts of a machine stay at the ends of their types
abbrev pub services_counted : Hart → Hart
services_counted h = record h { services = count h.services }

abbrev pub both_counted : Hart → Hart
both_counted h = record h { retired = count h.retired; services = count h.services }

-- what came of a service, with its counts so
abbrev pub with_counts : (Hart → Hart) → Serviced → Serviced
with_counts counts came = serve_then (λ h. Goes (counts h)) came

-- the report is what came of the service, and where that goes on, this is the machine then
abbrev pub Serves : ServiceEnd → Serviced → Hart → Type 0
Serves reported.Goes came new = came ≡ Goes new
Serves reported.HeapOut came new = came ≡ NoHeap
Serves (reported.Stopped cause) came new = came ≡ Refused cause

-- a service that does not go on leaves the machine as it was
abbrev pub StaysUnlessServed : ServiceEnd → Hart → Hart → Type 0
StaysUnlessServed reported.Goes old new = Unit {0}
StaysUnlessServed reported.HeapOut old new = new ≡ old
StaysUnlessServed (reported.Stopped cause) old new = new ≡ old
