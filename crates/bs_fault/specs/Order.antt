-- The order of the faults of a text, and which of them is reported: the leftmost, and of those at one place the one of
-- the lowest number.
use Rattle.std.specs.Prelude.{◌≡◌, ℕ, ◌<◌, ◌⊎◌}
use Rattle.bs_fault.specs.declared.fault.Fault.{Fault}
use Rattle.bs_fault.specs.declared.fault.Fault.TheVariants.{TooLong, BadToken, Unclosed, Unexpected, TooDeep, IntRange, TooManyParams, FunctionTooLong, DataTooLarge, DataItem, Unbound, UnknownSymbol, DuplicateSymbol, Arity, NoValue, NotMutable, AllocHeader, UnknownLabel, AddrLive, AddrArgument, SwitchSize}
use Rattle.bs_fault.specs.declared.fault.Fault.TheVariants as fault

-- the number of a fault: 11 for F11
abbrev pub fault_number : Fault → ℕ
fault_number (TooLong at) = 1
fault_number (BadToken at) = 2
fault_number (Unclosed at) = 3
fault_number (Unexpected at) = 4
fault_number (TooDeep at) = 5
fault_number (IntRange at) = 6
fault_number (TooManyParams at) = 7
fault_number (FunctionTooLong at) = 8
fault_number (DataTooLarge at) = 9
fault_number (DataItem at) = 10
fault_number (Unbound at) = 11
fault_number (UnknownSymbol at) = 12
fault_number (DuplicateSymbol at) = 13
fault_number (Arity at) = 14
fault_number (NoValue at) = 15
fault_number (NotMutable at) = 16
fault_number (AllocHeader at) = 17
fault_number (UnknownLabel at) = 18
fault_number (fault.Float at) = 19
fault_number (AddrLive bound point used) = 20
fault_number (AddrArgument at) = 21
fault_number (SwitchSize at) = 22

-- where a fault is, in bytes from the start of the text
abbrev pub fault_place : Fault → ℕ
fault_place (TooLong at) = at
fault_place (BadToken at) = at
fault_place (Unclosed at) = at
fault_place (Unexpected at) = at
fault_place (TooDeep at) = at
fault_place (IntRange at) = at
fault_place (TooManyParams at) = at
fault_place (FunctionTooLong at) = at
fault_place (DataTooLarge at) = at
fault_place (DataItem at) = at
fault_place (Unbound at) = at
fault_place (UnknownSymbol at) = at
fault_place (DuplicateSymbol at) = at
fault_place (Arity at) = at
fault_place (NoValue at) = at
fault_place (NotMutable at) = at
fault_place (AllocHeader at) = at
fault_place (UnknownLabel at) = at
fault_place (fault.Float at) = at
fault_place (AddrLive bound point used) = used
fault_place (AddrArgument at) = at
fault_place (SwitchSize at) = at

-- one fault comes before another: it is further left, or at the same place and has the lower number
abbrev pub Precedes : Fault → Fault → Type 0
Precedes a b =
    (fault_place a < fault_place b) ⊎ ((fault_place a ≡ fault_place b) × (fault_number a < fault_number b))

-- The fault that is reported of those that there are: none of them comes before it.
-- An address that is live at a frame point is compared by three places instead (`Before` of `walk_tables`):
-- two such faults may be used at one place and have one number.
pub record IsLeftmost (stands : Fault → Type 0) (reported : Fault) : Type 0 where
  pub is_fault : stands reported
  pub none_before : (other : Fault) → stands other → ¬ Precedes other reported
