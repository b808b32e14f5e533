-- What one Mach function does, from a memory and registers, on what is handed in for its calls.
--
-- A state holds the code that is left, from the next instruction on, and not the number of a place.
--
-- The handler of a raise is the innermost one of the text. How many tries are pushed says only whether it
-- is caught here. What a frame call raises is a unit, as what an operation raises is, so that the laws of
-- the text count it.
use Rattle.std.specs.Prelude.{ℕ, Bool, true, false, cond, ◌&&◌, ◌||◌, not, nat_eq, nat_le, List, [], ◌∷◌, ◌++◌, Option, Some, None}
use Rattle.bs_words.specs.Fits.{fits, type_of_comp}
use Rattle.bs_words.specs.Memory.{Memory, sizes}
use Rattle.bs_words.specs.declared.types.Comp.{Comp}
use Rattle.bs_words.specs.declared.types.Comp.TheVariants as comp
use Rattle.bs_words.specs.declared.types.Loc.{Loc}
use Rattle.bs_words.specs.declared.types.Loc.TheVariants as loc
use Rattle.bs_words.specs.declared.values.Value.{Value}
use Rattle.rv_isa.specs.Registers.{register_number}
use Rattle.rv_isa.specs.declared.register.Register.TheVariants.{A0, A7, T3}
use Rattle.cmm_meaning.specs.Setting.{Setting}
use Rattle.mach_ir.specs.Acts.{Around, Target, On, At, Landing, AtLabel, AtHandler, Act, Goes, Pushes, Jumps, Unwinds, Asks, Replaces, Ends, EndsRaising, Stuck, act, truth_of, goes_by_test, switched, drop_tries, takes_raised}
use Rattle.mach_ir.specs.Acts as acts
use Rattle.mach_ir.specs.Runs.{ActivationSetting, stack_in_use, asked_call, Step, Continues, Pays, Deepens, Waits, FinishesBy, Finishes, FinishesRaising, IsStuck, Tally, RunProgress, runs, entry_around}
use Rattle.mach_ir.specs.declared.op.Op.{Op}
use Rattle.mach_ir.specs.declared.op.Op.TheVariants as op
use Rattle.mach_ir.specs.declared.op.Calling.TheVariants as calling
use Rattle.mach_ir.specs.declared.reg.Reg.{Reg}
use Rattle.mach_ir.specs.declared.mach.Mark.{Mark}
use Rattle.mach_ir.specs.declared.mach.Mark.TheVariants as mark
use Rattle.mach_ir.specs.declared.mach.MachOp.{MachOp}
use Rattle.mach_ir.specs.declared.mach.MachOp.TheVariants as mach
use Rattle.mach_ir.specs.declared.mach.Instr.{Instr}
use Rattle.mach_ir.specs.declared.mach.Mach.{Mach}

-- ---- registers

-- what a register holds: a value that was written with this component
pub record Held : Type 0 where
  pub comp : Comp
  pub value : Value

-- by number; one that has not been written holds nothing
abbrev pub File : Type 0
File = ℕ → Option Held

abbrev pub assign_register : Reg → Value → File → File
assign_register r v f = λ n. cond (nat_eq r.number n) (Some (record { comp = r.comp; value = v })) (f n)

abbrev pub clear_registers : List Reg → File → File
clear_registers [] f = f
clear_registers (r ∷ rs) f = λ n. cond (nat_eq r.number n) None (clear_registers rs f n)

-- a write that does not fit is stuck
abbrev pub put_if : Bool → Reg → Value → Option File → Option File
put_if true r v (Some f) = Some (assign_register r v f)
put_if true r v None = None
put_if false r v o = None

-- a value for each register
abbrev pub put_all : ℕ → List Reg → List Value → File → Option File
put_all end [] [] f = Some f
put_all end (r ∷ rs) (v ∷ vs) f =
    put_if (fits end (type_of_comp r.comp) v) r v (put_all end rs vs f)
put_all end _ _ f = None

abbrev pub with_held : Option Held → Option (List Value) → Option (List Value)
with_held (Some h) (Some vs) = Some (h.value ∷ vs)
with_held _ _ = None

-- what registers hold; a read of one that has not been written is stuck
abbrev pub values : File → List Reg → Option (List Value)
values f [] = Some []
values f (r ∷ rs) = with_held (f r.number) (values f rs)

abbrev pub is_addr : Comp → Bool
is_addr comp.Addr = true
is_addr _ = false

abbrev pub unless_addr : Option Held → Option Held
unless_addr None = None
unless_addr (Some h) = cond (is_addr h.comp) None (Some h)

-- at a frame point each addr is lost, so that a read of one that was bound before is stuck
abbrev pub past_frame : Bool → File → File
past_frame false f = f
past_frame true f = λ n. unless_addr (f n)

-- ---- colours that operations destroy

-- Which registers of the machine an operation destroys: none; those of an external call, a0 to a7
-- and t3 to t6; or every colour.
pub data Destroyed : Type 0 where
  Nothing : Destroyed
  Temporaries : Destroyed
  Everything : Destroyed

abbrev pub destroyed_by_operation : Op → Destroyed
destroyed_by_operation (op.Calling (calling.External row frame)) = Temporaries
destroyed_by_operation (op.Calling (calling.Call whom result)) = Everything
destroyed_by_operation (op.Calling (calling.TailCall whom result)) = Everything
destroyed_by_operation (op.Pure f) = Nothing
destroyed_by_operation (op.Access f) = Nothing
destroyed_by_operation (op.Leaving f) = Nothing

-- so does the entry of a handler
abbrev pub destroyed_by : MachOp → Destroyed
destroyed_by (mach.Op f) = destroyed_by_operation f
destroyed_by (mach.Mark (mark.Handler label)) = Everything
destroyed_by (mach.Mark _) = Nothing

-- a0 to a7 and t3 to t6
abbrev pub is_temporary : ℕ → Bool
is_temporary n = (nat_le (register_number A0) n && nat_le n (register_number A7)) || nat_le (register_number T3) n

abbrev pub is_destroyed : Destroyed → Loc → Bool
is_destroyed Everything (loc.Machine n) = true
is_destroyed Temporaries (loc.Machine n) = is_temporary n
is_destroyed _ _ = false

abbrev pub same_colour : Loc → Loc → Bool
same_colour (loc.Machine a) (loc.Machine b) = nat_eq a b
same_colour _ _ = false

abbrev pub is_at_one_of : Loc → List Reg → Bool
is_at_one_of l [] = false
is_at_one_of l (r ∷ rs) = same_colour l r.loc || is_at_one_of l rs

-- Those among the registers of the colours that are at a destroyed one, but where a result
-- is. A function's list of them has each colour once (`HasColours`).
abbrev pub killed_among : List Reg → Destroyed → List Reg → List Reg
killed_among [] d results = []
killed_among (r ∷ rs) d results =
    let others : List Reg = killed_among rs d results in
    cond (is_destroyed d r.loc && not (is_at_one_of r.loc results)) (r ∷ others) others

abbrev pub killed_by : List Reg → Destroyed → List Reg → List Reg
killed_by rs Nothing results = []
killed_by rs d results = killed_among rs d results

-- the registers that an instruction writes with no value
abbrev pub killed : Mach → Instr → List Reg
killed m i = killed_by m.colours (destroyed_by i.op) i.results

-- every register that it writes
abbrev pub registers_written : Mach → Instr → List Reg
registers_written m i = i.results ++ killed m i

abbrev pub passes_frame : MachOp → Bool
passes_frame (mach.Op f) = acts.has_descriptor f
passes_frame (mach.Mark f) = false

-- ---- marks

abbrev pub mark_act : Mark → List Value → Around → Act
mark_act (mark.Exit l n) [] a = Jumps (AtLabel l) (record a { tries = drop_tries n a.tries })
mark_act (mark.If t l) vs a = goes_by_test a On (At l) (truth_of (sizes a.memory) t vs)
mark_act (mark.Else l end) [] a = Goes [] (At end) a
mark_act (mark.Switch labels) vs a = switched a labels vs
mark_act (mark.Case indexes l end) [] a = Goes [] (At end) a
mark_act mark.Catch [] a = Goes [] On a
mark_act (mark.With l end) [] a = Goes [] (At end) a
mark_act (mark.Try l) [] a = Pushes (record a { tries = l ∷ a.tries })
mark_act (mark.Leave l end) [] a = Goes [] (At end) (record a { tries = drop_tries 1 a.tries })
mark_act (mark.Handler l) [] a = takes_raised a
mark_act (mark.End l) [] a = Goes [] On a
mark_act _ _ a = Stuck

abbrev pub mach_act : Setting → MachOp → List Value → Around → Act
mach_act c (mach.Op f) vs a = act c f vs a
mach_act c (mach.Mark f) vs a = mark_act f vs a

-- ---- places

-- whether a mark has this label
abbrev pub mark_has_label : ℕ → Mark → Bool
mark_has_label l (mark.Else k end) = nat_eq k l
mark_has_label l (mark.Case indexes k end) = nat_eq k l
mark_has_label l (mark.With k end) = nat_eq k l
mark_has_label l (mark.End k) = nat_eq k l
mark_has_label l _ = false

abbrev pub has_label : ℕ → MachOp → Bool
has_label l (mach.Mark f) = mark_has_label l f
has_label l (mach.Op f) = false

abbrev pub is_handler_of : ℕ → MachOp → Bool
is_handler_of l (mach.Mark (mark.Handler k)) = nat_eq k l
is_handler_of l _ = false

-- the code from the mark of a handler on
abbrev pub from_handler : ℕ → List Instr → List Instr
from_handler l [] = []
from_handler l (i ∷ is) = cond (is_handler_of l i.op) (i ∷ is) (from_handler l is)

-- the code after the mark that has a label
abbrev pub after_label : ℕ → List Instr → List Instr
after_label l [] = []
after_label l (i ∷ is) = cond (has_label l i.op) is (after_label l is)

abbrev pub code_at : List Instr → List Instr → Target → List Instr
code_at code next On = next
code_at code next (At l) = after_label l code

abbrev pub tries_past : MachOp → List ℕ → List ℕ
tries_past (mach.Mark (mark.Try l)) tries = drop_tries 1 tries
tries_past (mach.Mark (mark.Leave l end)) tries = l ∷ tries
tries_past _ tries = tries

-- the handlers of the tries round a place, by the text, the innermost first: those that are left
-- before they are pushed
abbrev pub tries_at : List Instr → List ℕ
tries_at [] = []
tries_at (i ∷ is) = tries_past i.op (tries_at is)

abbrev pub at_handler : List Instr → List ℕ → List Instr
at_handler code [] = []
at_handler code (l ∷ tries) = from_handler l code

-- where a jump from here comes to
abbrev pub landing_code : List Instr → List Instr → Landing → List Instr
landing_code code here (AtLabel l) = after_label l code
landing_code code here AtHandler = at_handler code (tries_at here)

-- ---- steps

pub record State : Type 0 where
  -- the code that is left
  pub rest : List Instr
  pub file : File
  pub around : Around

abbrev pub wrote : List Instr → Around → Option File → Step State
wrote rest a None = IsStuck
wrote rest a (Some f) = Continues (record { rest = rest; file = f; around = a })

-- what an instruction does, before this code, by what its operation does
abbrev pub on_act : ActivationSetting → Mach → Instr → List Instr → File → Around → Act → Step State
on_act c m i next f a (Goes vs to after) =
    wrote (code_at m.code next to) after (put_all c.setting.end i.results vs (clear_registers (killed m i) f))
on_act c m i next f a (Pushes after) =
    Deepens (stack_in_use c after) (record { rest = next; file = f; around = after })
on_act c m i next f a (Jumps to after) =
    Pays (record { rest = landing_code m.code (i ∷ next) to; file = f; around = after })
on_act c m i next f a (Unwinds after) =
    Continues (record { rest = landing_code m.code (i ∷ next) AtHandler; file = f; around = after })
on_act c m i next f a (Asks callee vs go) =
    Waits (asked_call c callee vs false a) (λ d. on_act c m i next f a (go d))
on_act c m i next f a (Replaces callee vs kept) = FinishesBy (asked_call c callee vs true a) kept
on_act c m i next f a (Ends d) = Finishes d
on_act c m i next f a (EndsRaising d) = FinishesRaising d
on_act c m i next f a Stuck = IsStuck

abbrev pub on_values : ActivationSetting → Mach → Instr → List Instr → File → Around → Option (List Value) →
    Step State
on_values c m i next f a None = IsStuck
on_values c m i next f a (Some vs) =
    on_act c m i next (past_frame (passes_frame i.op) f) a (mach_act c.setting i.op vs a)

abbrev pub at_code : ActivationSetting → Mach → List Instr → File → Around → Step State
at_code c m [] f a = IsStuck
at_code c m (i ∷ next) f a = on_values c m i next f a (values f i.args)

-- reads, then the operation, then writes, then where control goes
abbrev pub step : ActivationSetting → Mach → State → Step State
step c m s = at_code c m s.rest s.file s.around

abbrev pub run_of_mach : ActivationSetting → Mach → ℕ → State → Tally → RunProgress State
run_of_mach c m = runs (step c m)

-- ---- a function

abbrev pub begin_mach : Mach → Memory → Option File → Option State
begin_mach m memory None = None
begin_mach m memory (Some f) = Some (record { rest = m.code; file = f; around = entry_around memory })

-- its arguments are in its parameters; where they do not fit it does not begin
abbrev pub mach_start : ActivationSetting → Mach → List Value → Memory → Option State
mach_start c m arguments memory = begin_mach m memory (put_all c.setting.end m.params arguments (λ n. None))
