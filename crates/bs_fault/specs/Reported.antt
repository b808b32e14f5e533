-- Faults as they are found one by one, and what is reported of them.
use Rattle.std.specs.Prelude.{Bool, cond, ◌&&◌, ◌||◌, ◌==◌, nat_lt, Option, Some, None}
use Rattle.bs_fault.specs.Order.{fault_number, fault_place, IsLeftmost}
use Rattle.bs_fault.specs.declared.fault.Fault.{Fault}

-- Faults, in the order in which they are met.
pub data Faults : Type 0 where
  NoFault : Faults
  One : (f : Fault) → Faults
  Both : (a b : Faults) → Faults

-- a fault is among these
pub data Among (f : Fault) : Faults → Type 0 where
  here : Among f (One f)
  first : (a b : Faults) → Among f a → Among f (Both a b)
  second : (a b : Faults) → Among f b → Among f (Both a b)

abbrev pub one_if : Bool → Fault → Faults
one_if stands f = cond stands (One f) NoFault

abbrev pub faults_of_option : Option Fault → Faults
faults_of_option None = NoFault
faults_of_option (Some f) = One f

-- no fault is among these
abbrev pub Faultless : Faults → Type 0
Faultless faults = (f : Fault) → ¬ Among f faults

-- the fault that is reported of these
abbrev pub IsFirst : Faults → Fault → Type 0
IsFirst faults = IsLeftmost (λ f. Among f faults)

-- what is reported of faults, if there are any
abbrev pub IsReported : Faults → Option Fault → Type 0
IsReported faults None = Faultless faults
IsReported faults (Some reported) = IsFirst faults reported

-- ---- found one by one

abbrev pub precedes : Fault → Fault → Bool
precedes a b =
    nat_lt (fault_place a) (fault_place b)
    || (fault_place a == fault_place b && nat_lt (fault_number a) (fault_number b))

-- the one that is reported of what was found before and a further fault
abbrev pub noted : Fault → Option Fault → Option Fault
noted f None = Some f
noted f (Some found) = Some (cond (precedes f found) f found)

-- the same for all of these
abbrev pub noted_all : Faults → Option Fault → Option Fault
noted_all NoFault found = found
noted_all (One f) found = noted f found
noted_all (Both a b) found = noted_all b (noted_all a found)
