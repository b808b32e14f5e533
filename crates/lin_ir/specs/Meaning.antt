-- What one Linear function does over locations, on what is handed in for its calls. Heap pointers
-- that no descriptor names are lost at frame points.
--
-- A state holds the code that is left, from the next line on. The number of a place is that of the
-- lines after it.
use Rattle.std.specs.Prelude.{ℕ, Bool, true, false, cond, ◌&&◌, ◌||◌, not, nat_eq, List, [], ◌∷◌, Option, Some, None, length}
use Rattle.bs_words.specs.Fits.{fits, type_of_comp}
use Rattle.bs_words.specs.Memory.{Memory, sizes}
use Rattle.bs_words.specs.declared.types.Comp.{Comp}
use Rattle.bs_words.specs.declared.types.Loc.{Loc}
use Rattle.bs_words.specs.declared.types.Loc.TheVariants as loc
use Rattle.bs_words.specs.declared.types.Ty.TheVariants as ty
use Rattle.bs_words.specs.declared.values.Value.{Value}
use Rattle.bs_words.specs.declared.values.Value.TheVariants as value
use Rattle.cmm_meaning.specs.Setting.{Setting}
use Rattle.mach_ir.specs.Acts.{Around, Target, On, At, Landing, AtLabel, AtHandler, Act, Goes, Pushes, Jumps, Unwinds, Asks, Replaces, Ends, EndsRaising, Stuck, act, truth_of, goes_by_test, switched, drop_tries, takes_raised, has_descriptor}
use Rattle.mach_ir.specs.Runs.{ActivationSetting, stack_in_use, asked_call, Step, Continues, Pays, Deepens, Waits, FinishesBy, Finishes, FinishesRaising, IsStuck, Tally, RunProgress, runs, entry_around}
use Rattle.mach_ir.specs.Meaning.{Destroyed, Nothing, Everything, destroyed_by_operation, is_destroyed}
use Rattle.lin_ir.specs.declared.lin.Spot.{Spot}
use Rattle.lin_ir.specs.declared.lin.Flow.{Flow}
use Rattle.lin_ir.specs.declared.lin.Flow.TheVariants as flow
use Rattle.lin_ir.specs.declared.lin.LinOp.{LinOp}
use Rattle.lin_ir.specs.declared.lin.LinOp.TheVariants as lin
use Rattle.lin_ir.specs.declared.lin.Line.{Line}
use Rattle.lin_ir.specs.declared.lin.Lin.{Lin}

-- ---- locations

-- What a location holds. One that holds nothing is poison, or has not been written: a read of it is
-- stuck.
abbrev pub Locations : Type 0
Locations = Loc → Option Value

abbrev pub same_loc : Loc → Loc → Bool
same_loc (loc.Machine a) (loc.Machine b) = nat_eq a b
same_loc (loc.Slot a) (loc.Slot b) = nat_eq a b
same_loc _ _ = false

abbrev pub assign_spot : Spot → Value → Locations → Locations
assign_spot s v f = λ l. cond (same_loc s.loc l) (Some v) (f l)

-- a write that does not fit is stuck
abbrev pub put_if : Bool → Spot → Value → Option Locations → Option Locations
put_if true s v (Some f) = Some (assign_spot s v f)
put_if true s v None = None
put_if false s v o = None

abbrev pub put_all : ℕ → List Spot → List Value → Locations → Option Locations
put_all end [] [] f = Some f
put_all end (s ∷ ss) (v ∷ vs) f =
    put_if (fits end (type_of_comp s.comp) v) s v (put_all end ss vs f)
put_all end _ _ f = None

abbrev pub as_type : Bool → Value → Option (List Value) → Option (List Value)
as_type true v (Some vs) = Some (v ∷ vs)
as_type _ v _ = None

abbrev pub with_held : ℕ → Comp → Option Value → Option (List Value) → Option (List Value)
with_held end t None vs = None
with_held end t (Some v) vs = as_type (fits end (type_of_comp t) v) v vs

-- what locations hold; a value that does not fit the type of its read is stuck
abbrev pub values : ℕ → Locations → List Spot → Option (List Value)
values end f [] = Some []
values end f (s ∷ ss) = with_held end s.comp (f s.loc) (values end f ss)

-- the registers of the machine that an operation destroys; the entry of a handler destroys every
-- one
abbrev pub destroyed_by : LinOp → Destroyed
destroyed_by (lin.Op f) = destroyed_by_operation f
destroyed_by (lin.Flow flow.EnterTrap) = Everything
destroyed_by (lin.Flow _) = Nothing

abbrev pub clear_destroyed : Destroyed → Locations → Locations
clear_destroyed d f = λ l. cond (is_destroyed d l) None (f l)

-- ---- frame points

-- What the descriptor of a frame point names, by the number of lines after it.
abbrev pub NamedAt : Type 0
NamedAt = ℕ → List Loc

abbrev pub passes_frame : LinOp → Bool
passes_frame (lin.Op f) = has_descriptor f
passes_frame (lin.Flow f) = false

abbrev pub is_named_location : Loc → List Loc → Bool
is_named_location l [] = false
is_named_location l (k ∷ ks) = same_loc k l || is_named_location l ks

abbrev pub unless_pointer : Option Value → Option Value
unless_pointer (Some (value.Word w)) = Some (value.Word w)
unless_pointer (Some (value.Block s o)) = None
unless_pointer (Some (value.Function f)) = Some (value.Function f)
unless_pointer None = None

-- each location that holds a heap pointer and is not named becomes poison
abbrev pub poisoned : List Loc → Locations → Locations
poisoned named f = λ l. cond (is_named_location l named) (f l) (unless_pointer (f l))

abbrev pub past_frame : Bool → List Loc → Locations → Locations
past_frame passes named f = cond passes (poisoned named f) f

abbrev pub holds_val : ℕ → Option Value → Bool
holds_val end None = false
holds_val end (Some v) = fits end ty.Val v

-- each named location holds what fits val
abbrev pub are_vals : ℕ → List Loc → Locations → Bool
are_vals end [] f = true
are_vals end (l ∷ ls) f = holds_val end (f l) && are_vals end ls f

-- ---- places

abbrev pub has_label : ℕ → LinOp → Bool
has_label l (lin.Flow (flow.Label k)) = nat_eq k l
has_label l _ = false

-- the code after the line that has a label
abbrev pub after_label : ℕ → List Line → List Line
after_label l [] = []
after_label l (i ∷ is) = cond (has_label l i.op) is (after_label l is)

abbrev pub code_at : List Line → List Line → Target → List Line
code_at code next On = next
code_at code next (At l) = after_label l code

-- the handler is that of the innermost pushed trap
abbrev pub at_handler : List Line → List ℕ → List Line
at_handler code [] = []
at_handler code (l ∷ tries) = after_label l code

abbrev pub landing_code : List Line → List ℕ → Landing → List Line
landing_code code tries (AtLabel l) = after_label l code
landing_code code tries AtHandler = at_handler code tries

-- ---- steps

pub record State : Type 0 where
  -- the code that is left
  pub rest : List Line
  pub file : Locations
  pub around : Around

abbrev pub flow_act : Flow → List Value → Around → Act
flow_act (flow.Label l) [] a = Goes [] On a
flow_act (flow.Jump l) [] a = Goes [] (At l) a
flow_act (flow.Exit l) [] a = Jumps (AtLabel l) a
flow_act (flow.Branch t l) vs a = goes_by_test a (At l) On (truth_of (sizes a.memory) t vs)
flow_act (flow.Switch labels) vs a = switched a labels vs
flow_act (flow.PushTrap l) [] a = Pushes (record a { tries = l ∷ a.tries })
flow_act flow.PopTrap [] a = Goes [] On (record a { tries = drop_tries 1 a.tries })
flow_act flow.EnterTrap [] a = takes_raised a
flow_act _ _ a = Stuck

abbrev pub lin_act : Setting → LinOp → List Value → Around → Act
lin_act c (lin.Op f) vs a = act c f vs a
lin_act c (lin.Flow f) vs a = flow_act f vs a

abbrev pub wrote : List Line → Around → Option Locations → Step State
wrote rest a None = IsStuck
wrote rest a (Some f) = Continues (record { rest = rest; file = f; around = a })

-- what a line does, before this code, by what its operation does
abbrev pub on_act : ActivationSetting → Lin → Line → List Line → Locations → Around → Act → Step State
on_act c m i next f a (Goes vs to after) =
    wrote (code_at m.code next to) after
    (put_all c.setting.end i.results vs (clear_destroyed (destroyed_by i.op) f))
on_act c m i next f a (Pushes after) =
    Deepens (stack_in_use c after) (record { rest = next; file = f; around = after })
on_act c m i next f a (Jumps to after) =
    Pays (record { rest = landing_code m.code a.tries to; file = f; around = after })
on_act c m i next f a (Unwinds after) =
    Continues (record { rest = landing_code m.code a.tries AtHandler; file = f; around = after })
on_act c m i next f a (Asks callee vs go) =
    Waits (asked_call c callee vs false a) (λ d. on_act c m i next f a (go d))
on_act c m i next f a (Replaces callee vs kept) = FinishesBy (asked_call c callee vs true a) kept
on_act c m i next f a (Ends d) = Finishes d
on_act c m i next f a (EndsRaising d) = FinishesRaising d
on_act c m i next f a Stuck = IsStuck

abbrev pub unless_misnamed : Bool → Step State → Step State
unless_misnamed named x = cond named x IsStuck

-- a frame point at which a named location does not hold what fits val is stuck
abbrev pub on_values : ActivationSetting → List Loc → Lin → Line → List Line → Locations → Around →
    Option (List Value) → Step State
on_values c named m i next f a None = IsStuck
on_values c named m i next f a (Some vs) =
    unless_misnamed (not (passes_frame i.op) || are_vals c.setting.end named f)
    (on_act c m i next (past_frame (passes_frame i.op) named f) a (lin_act c.setting i.op vs a))

abbrev pub at_code : ActivationSetting → NamedAt → Lin → List Line → Locations → Around → Step State
at_code c named m [] f a = IsStuck
at_code c named m (i ∷ next) f a =
    on_values c (named (length next)) m i next f a (values c.setting.end f i.args)

-- reads, then the operation, then writes, then where control goes
abbrev pub step : ActivationSetting → NamedAt → Lin → State → Step State
step c named m s = at_code c named m s.rest s.file s.around

abbrev pub run_of_linear : ActivationSetting → NamedAt → Lin → ℕ → State → Tally → RunProgress State
run_of_linear c named m = runs (step c named m)

-- ---- a function

abbrev pub begin_linear : Lin → Memory → Option Locations → Option State
begin_linear m memory None = None
begin_linear m memory (Some f) = Some (record { rest = m.code; file = f; around = entry_around memory })

-- its arguments are in its parameters; where they do not fit it does not begin
abbrev pub linear_start : ActivationSetting → Lin → List Value → Memory → Option State
linear_start c m arguments memory = begin_linear m memory (put_all c.setting.end m.params arguments (λ l. None))
