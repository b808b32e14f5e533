-- Which operators repeat earlier ones, by when events happened last.
use Rattle.std.specs.Prelude.{ℕ, zero, suc, Bool, true, cond, ◌&&◌, nat_lt, nat_le, List, Option, Some, None, slice_get}
use Rattle.std.specs.List.{list_all}
use Rattle.bs_words.specs.declared.types.Comp.{Comp}
use Rattle.bs_words.specs.declared.types.Comp.TheVariants as comp
use Rattle.bs_words.specs.declared.types.Loc.{Loc}
use Rattle.bs_words.specs.declared.types.Loc.TheVariants as loc
use Rattle.mach_ir.specs.declared.op.Op.TheVariants as op
use Rattle.mach_ir.specs.declared.op.Pure.TheVariants as pure
use Rattle.mach_ir.specs.declared.reg.Reg.{Reg}
use Rattle.mach_ir.specs.declared.mach.MachOp.{MachOp}
use Rattle.mach_ir.specs.declared.mach.MachOp.TheVariants as mach
use Rattle.mach_ir.specs.declared.mach.Instr.{Instr}
use Rattle.cse_repeat_rules.specs.Repeated.{from_earlier}
use Rattle.cse_deadcode.specs.declared.events.Event.TheVariants as event
use Rattle.cse_deadcode.specs.Events.{computation}
use Rattle.cse_deadcode.specs.Made.{Making}
use Rattle.cse_deadcode.specs.Times.{Clock}

-- no operand was written at the time or later
abbrev pub operands_stand : Clock → ℕ → List Reg → Bool
operands_stand at time args = list_all (λ (k : Reg). nat_lt (at (event.Writes k.number)) time) args

-- nothing was written in a fixed place later
abbrev pub place_stands : Clock → ℕ → Loc → Bool
place_stands at time loc.Unset = true
place_stands at time (loc.Machine k) = nat_le (at (event.WritesColour k)) time
place_stands at time (loc.Slot k) = nat_le (at (event.WritesSlot k)) time

-- nothing was allocated later, if it is an addr
abbrev pub value_stands : Clock → ℕ → Comp → Bool
value_stands at time comp.Addr = nat_le (at event.Allocates) time
value_stands at time comp.Int = true
value_stands at time comp.Val = true
value_stands at time comp.Float = true

-- what a register held at the time it still holds
abbrev pub result_stands : Clock → ℕ → Reg → Bool
result_stands at time r =
    nat_le (at (event.Writes r.number)) time
    && (nat_le (at (event.WritesOrigin r.origin)) time
    && (place_stands at time r.loc && value_stands at time r.comp))

abbrev pub repeat_stands : Clock → ℕ → List Reg → Reg → Bool
repeat_stands at time args r =
    nat_lt (at event.EndsRun) time && (operands_stand at time args && result_stands at time r)

abbrev pub standing_first : Clock → ℕ → List Reg → Option Reg → Option Reg
standing_first at time args None = None
standing_first at time args (Some r) = cond (repeat_stands at time args r) (Some r) None

-- the result of an earlier operator of the time, if it and the operands still hold what they held then
abbrev pub standing_result : Clock → ℕ → Instr → Option Reg
standing_result at time j = standing_first at time j.args (slice_get j.results 0)

abbrev pub standing_found : Clock → ℕ → Option Instr → Option Reg
standing_found at time None = None
standing_found at time (Some j) = standing_result at time j

abbrev pub standing_at : Clock → List Instr → ℕ → Option Reg
standing_at at made zero = None
standing_at at made (suc n) = standing_found at (suc n) (slice_get made n)

abbrev pub repeated_op : Clock → List Instr → MachOp → List Reg → Option Reg
repeated_op at made (mach.Op (op.Pure (pure.Operator f r))) args =
    standing_at at made (at (event.Computes (computation f r args)))
repeated_op at made (mach.Op (op.Pure (pure.Copy kind))) args = None
repeated_op at made (mach.Op (op.Pure (pure.Constant w))) args = None
repeated_op at made (mach.Op (op.Pure (pure.Symbol name))) args = None
repeated_op at made (mach.Op (op.Access f)) args = None
repeated_op at made (mach.Op (op.Calling f)) args = None
repeated_op at made (mach.Op (op.Leaving f)) args = None
repeated_op at made (mach.Mark f) args = None

-- the result of what an instruction repeats after this code
abbrev pub repeated : Clock → List Instr → Instr → Option Reg
repeated at made i = repeated_op at made i.op i.args

-- an instruction, or a move in its place
abbrev pub without_repeat : Making
without_repeat at made i = from_earlier (repeated at made i) i
