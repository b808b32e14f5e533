-- When events happened last in a code, and the tables of it.
use Rattle.std.specs.Prelude.{◌≡◌, ℕ, Bool, false, ◌||◌, List, Option, Some, None}
use Rattle.std.specs.BTreeMap as tree
use Rattle.std.specs.List.{list_any}
use Rattle.std.specs.Option.{unwrap_or}
use Rattle.std.specs.Ordering.{is_eq}
use Rattle.bs_words.specs.declared.types.Loc.{Loc}
use Rattle.bs_words.specs.declared.types.Loc.TheVariants as loc
use Rattle.mach_ir.specs.declared.op.Access.TheVariants as access
use Rattle.mach_ir.specs.declared.op.Op.TheVariants as op
use Rattle.mach_ir.specs.declared.op.Pure.TheVariants as pure
use Rattle.mach_ir.specs.declared.reg.Reg.{Reg}
use Rattle.mach_ir.specs.declared.mach.MachOp.{MachOp}
use Rattle.mach_ir.specs.declared.mach.MachOp.TheVariants as mach
use Rattle.mach_ir.specs.declared.mach.Instr.{Instr}
use Rattle.cse_deadcode.specs.contracts.events.ComputedOrd.TheImpl as computed_order
use Rattle.cse_deadcode.specs.contracts.events.EventOrd.TheImpl as order
use Rattle.cse_deadcode.specs.declared.events.Event.{Event}
use Rattle.cse_deadcode.specs.declared.events.Event.TheVariants as event
use Rattle.cse_deadcode.specs.declared.times.Times.{Times}
use Rattle.cse_deadcode.specs.Events.{computation}
use Rattle.cse_deadcode.specs.Last.{last}
use Rattle.mach_ir.specs.NumberTables.{table_entry}

abbrev pub is_same : Event → Event → Bool
is_same e f = is_eq (order.ghosts.cmp e f)

abbrev pub writes_place : Event → Loc → Bool
writes_place e loc.Unset = false
writes_place e (loc.Machine k) = is_same (event.WritesColour k) e
writes_place e (loc.Slot k) = is_same (event.WritesSlot k) e

-- whether it happens where a register is written
abbrev pub writes : Event → Reg → Bool
writes e r =
    is_same (event.Writes r.number) e || (is_same (event.WritesOrigin r.origin) e || writes_place e r.loc)

-- what an operation does beside its writes, if it counts
abbrev pub operation_event : MachOp → List Reg → Option Event
operation_event (mach.Op (op.Pure (pure.Operator f r))) args = Some (event.Computes (computation f r args))
operation_event (mach.Op (op.Pure (pure.Copy kind))) args = None
operation_event (mach.Op (op.Pure (pure.Constant w))) args = None
operation_event (mach.Op (op.Pure (pure.Symbol name))) args = None
operation_event (mach.Op (op.Access (access.Alloc blocks))) args = Some event.Allocates
operation_event (mach.Op (op.Access (access.Load chunk offset))) args = None
operation_event (mach.Op (op.Access (access.Store chunk offset))) args = None
operation_event (mach.Op (op.Calling f)) args = Some event.EndsRun
operation_event (mach.Op (op.Leaving f)) args = Some event.EndsRun
operation_event (mach.Mark f) args = Some event.EndsRun

abbrev pub is_event : Option Event → Event → Bool
is_event None e = false
is_event (Some f) e = is_same f e

-- whether it happens by the operation
abbrev pub happens_by : Event → MachOp → List Reg → Bool
happens_by e f args = is_event (operation_event f args) e

-- whether it happens in an instruction
abbrev pub happens : Event → Instr → Bool
happens e i = list_any (writes e) i.results || happens_by e i.op i.args

-- the time of the last of each event
abbrev pub Clock : Type 0
Clock = Event → ℕ

-- where an event happened last in a code, counted from 1, or 0
abbrev pub last_time : List Instr → Clock
last_time code e = last (happens e) code

-- the same by the tables
abbrev pub time_in : Times → Event → ℕ
time_in t event.EndsRun = t.ends_run
time_in t event.Allocates = t.allocates
time_in t (event.Writes n) = table_entry t.writes n
time_in t (event.WritesOrigin n) = table_entry t.origins n
time_in t (event.WritesColour n) = table_entry t.colours n
time_in t (event.WritesSlot n) = table_entry t.slots n
time_in t (event.Computes c) = unwrap_or (tree.get computed_order.ghosts.cmp t.computes c) 0

-- the tables have the times of a code
pub record AreTimes (t : Times) (code : List Instr) : Type 0 where
  pub each : (e : Event) → time_in t e ≡ last_time code e
