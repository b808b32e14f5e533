-- What an ECALL asks for: t2 says which service.
use Rattle.std.specs.Prelude.{ℕ, zero, suc, cond, List, [], ◌∷◌, ◌++◌, map, Option, Some, None, slice_get}
use Rattle.bs_words.specs.External.{External}
use Rattle.bs_words.specs.Observed.{Made}
use Rattle.bs_words.specs.declared.types.Comp.{Comp}
use Rattle.bs_words.specs.declared.types.Comp.TheVariants.{Val}
use Rattle.bs_words.specs.declared.types.Ret.{Ret}
use Rattle.bs_words.specs.declared.types.Ret.TheVariants as returns
use Rattle.bs_words.specs.declared.values.Obs.{Obs}
use Rattle.rv_isa.specs.Registers.{a0, destroyed_by_external, register_number, t0, t2}
use Rattle.rv_machine.specs.Allocation.{allocation_served}
use Rattle.rv_machine.specs.FrameCalls.{collected, has_trap_frame, raised, with_answer}
use Rattle.rv_machine.specs.Hart.{Hart, Placed, past_ecall, register, with_register}
use Rattle.rv_machine.specs.Observation.{observed_word}
use Rattle.rv_machine.specs.Places.{filler}
use Rattle.rv_machine.specs.Relocation.{Serviced, Goes, NoHeap, Refused}
use Rattle.rv_machine.specs.declared.cause.Cause.{Cause}
use Rattle.rv_machine.specs.declared.cause.Cause.TheVariants.{BadFrame, BadService}

-- Whether a run of the machine goes on, or how it ended.
pub data End : Type 0 where
  Running : End
  Returned : (value : Option Obs) → End
  Raised : (value : Obs) → End
  -- an external call wanted more answers than were left
  Asks : (call : Made) → End
  StackOut : End
  HeapOut : End
  Stopped : (cause : Cause) → End

-- The machine in a run.
pub record Machine : Type 0 where
  pub hart : Hart
  -- the type of what the entry returns
  pub result : Ret
  -- the answers to external calls that are left
  pub answers : List ℕ
  -- the external calls so far, first to last
  pub calls : List Made

pub data Now : Type 0 where
  Going : (m : Machine) → Now
  Over : (calls : List Made) (end : End) → Now

-- ---- return and uncaught raise

abbrev pub value_returned : Ret → Hart → Option Obs
value_returned returns.Unit h = None
value_returned (returns.Comp c) h = Some (observed_word h c (register h a0))

-- ---- external calls

-- What is seen of the arguments, which are in the registers from this number on: a0 to a7 and s2 to s9 are
-- x10 to x25, one after the other.
abbrev pub arguments_from : ℕ → List Comp → Hart → List Obs
arguments_from r [] h = []
arguments_from r (c ∷ cs) h = observed_word h c (register h r) ∷ arguments_from (suc r) cs h

abbrev pub call_made : External → Hart → Made
call_made e h = record { name = e.name; shown = arguments_from a0 e.params h }

abbrev pub filled_registers : List ℕ → List ℕ → List ℕ
filled_registers [] registers = registers
filled_registers (r ∷ rs) registers = filled_registers rs (with_register r filler registers)

-- the registers that an external call destroys
abbrev pub destroyed : List ℕ
destroyed = map register_number destroyed_by_external

-- the call was made, and the run goes on so, with these answers left
abbrev pub called : Made → Hart → List ℕ → Machine → Now
called call h answers m =
    Going (record m { hart = h; answers = answers; calls = m.calls ++ call ∷ [] })

-- the machine after an external call that left these registers
abbrev pub returned_with : List ℕ → Hart → Hart
returned_with registers h = past_ecall (record h { registers = registers })

-- the answer that a call with this result takes
abbrev pub machine_answered : Ret → Made → List ℕ → Machine → Now
machine_answered returns.Unit call answers m =
    called call (returned_with (filled_registers destroyed m.hart.registers) m.hart) answers m
machine_answered (returns.Comp c) call [] m = Over m.calls (Asks call)
machine_answered (returns.Comp c) call (a ∷ answers) m =
    called call (returned_with (with_register a0 a (filled_registers destroyed m.hart.registers)) m.hart) answers m

abbrev pub external : Option External → Machine → Now
external None m = Over m.calls (Stopped BadService)
external (Some e) m = machine_answered e.result (call_made e m.hart) m.answers m

-- ---- allocation

abbrev pub after_allocation : Serviced → Machine → Now
after_allocation (Goes h) m = Going (record m { hart = h })
after_allocation NoHeap m = Over m.calls HeapOut
after_allocation (Refused cause) m = Over m.calls (Stopped cause)

-- ---- frame calls

-- what a frame call destroys
abbrev pub cleared : Hart → Hart
cleared h = record h { registers = filled_registers destroyed h.registers }

-- The call has two answers. Where the first is 0 the second is its value; else the second is raised, where
-- there is a trap frame.
abbrev pub concluded : Ret → Made → ℕ → ℕ → List ℕ → Hart → Machine → Now
concluded result call zero value answers h m =
    called call (returned_with (with_answer result value (filled_registers destroyed h.registers)) h) answers m
concluded result call (suc first) value answers h m =
    cond (has_trap_frame h) (called call (raised value (cleared h)) answers m) (Over m.calls (Stopped BadFrame))

-- the blocks have moved, or the run has ended without the call
abbrev pub after_collection : Ret → Made → ℕ → ℕ → List ℕ → Serviced → Machine → Now
after_collection result call first value answers (Goes h) m =
    concluded result call first value answers h m
after_collection result call first value answers NoHeap m = Over m.calls HeapOut
after_collection result call first value answers (Refused cause) m = Over m.calls (Stopped cause)

-- a frame call takes two answers; where they are not left it takes none, and no block moves
abbrev pub machine_frame_answered : (List Placed → List ℕ) → Ret → Made → List ℕ → Machine → Now
machine_frame_answered plan result call [] m = Over m.calls (Asks call)
machine_frame_answered plan result call (first ∷ []) m = Over m.calls (Asks call)
machine_frame_answered plan result call (first ∷ value ∷ answers) m =
    after_collection result call first value answers (collected plan m.hart) m

abbrev pub frame_call : (List Placed → List ℕ) → Option External → Machine → Now
frame_call plan None m = Over m.calls (Stopped BadService)
frame_call plan (Some e) m = machine_frame_answered plan e.result (call_made e m.hart) m.answers m

-- ---- by the number in t2; t0 has the number of the external call, or the bytes asked for

abbrev pub external_at : Hart → Option External
external_at h = slice_get h.image.extcs (register h t0)

-- Plans say, for the number of a service that moves the blocks and the blocks that there then are, where
-- each of these is to start.
abbrev pub served : (ℕ → List Placed → List ℕ) → ℕ → Machine → Now
served plan zero m = Over m.calls (Returned (value_returned m.result m.hart))
served plan (suc zero) m = Over m.calls (Raised (observed_word m.hart Val (register m.hart a0)))
served plan (suc (suc zero)) m = external (external_at m.hart) m
served plan (suc (suc (suc zero))) m = after_allocation (allocation_served (plan m.hart.services) m.hart) m
served plan (suc (suc (suc (suc zero)))) m =
    frame_call (plan m.hart.services) (external_at m.hart) m
served plan _ m = Over m.calls (Stopped BadService)

abbrev pub service : (ℕ → List Placed → List ℕ) → Machine → Now
service plan m = served plan (register m.hart t2) m
