-- The lines that the program writes for faults of a text.
use Rattle.std.specs.Prelude.{ℕ, List, ◌++◌, codes}
use Rattle.std.specs.Fmt.{decimal}
use Rattle.bs_fault.specs.Order.{fault_number, fault_place}
use Rattle.bs_fault.specs.declared.fault.Fault.{Fault}
use Rattle.bs_fault.specs.declared.fault.Fault.TheVariants.{TooLong, BadToken, Unclosed, Unexpected, TooDeep, IntRange, TooManyParams, FunctionTooLong, DataTooLarge, DataItem, Unbound, UnknownSymbol, DuplicateSymbol, Arity, NoValue, NotMutable, AllocHeader, UnknownLabel, Float, AddrLive, AddrArgument, SwitchSize}

-- the word of a fault
abbrev pub fault_word : Fault → List ℕ
fault_word (TooLong at) = codes "TooLong"
fault_word (BadToken at) = codes "BadToken"
fault_word (Unclosed at) = codes "Unclosed"
fault_word (Unexpected at) = codes "Unexpected"
fault_word (TooDeep at) = codes "TooDeep"
fault_word (IntRange at) = codes "IntRange"
fault_word (TooManyParams at) = codes "TooManyParams"
fault_word (FunctionTooLong at) = codes "FunctionTooLong"
fault_word (DataTooLarge at) = codes "DataTooLarge"
fault_word (DataItem at) = codes "DataItem"
fault_word (Unbound at) = codes "Unbound"
fault_word (UnknownSymbol at) = codes "UnknownSymbol"
fault_word (DuplicateSymbol at) = codes "DuplicateSymbol"
fault_word (Arity at) = codes "Arity"
fault_word (NoValue at) = codes "NoValue"
fault_word (NotMutable at) = codes "NotMutable"
fault_word (AllocHeader at) = codes "AllocHeader"
fault_word (UnknownLabel at) = codes "UnknownLabel"
fault_word (Float at) = codes "Float"
fault_word (AddrLive bound point used) = codes "AddrLive"
fault_word (AddrArgument at) = codes "AddrArgument"
fault_word (SwitchSize at) = codes "SwitchSize"

-- as `, bound at 27`
abbrev pub bound_words : ℕ → List ℕ
bound_words bound = codes ", bound at " ++ decimal bound

-- as `, frame point at 38`
abbrev pub point_words : ℕ → List ℕ
point_words point = codes ", frame point at " ++ decimal point

-- where an address is bound, and the frame point that it passes; the line of another fault says no more than its place
abbrev pub fault_more : Fault → List ℕ
fault_more (AddrLive bound point used) = bound_words bound ++ point_words point
fault_more _ = codes ""

-- as `cmmc: F11 Unbound at 27`
abbrev pub fault_line : Fault → List ℕ
fault_line fault =
    codes "cmmc: F" ++ decimal (fault_number fault) ++ codes " " ++ fault_word fault
    ++ codes " at " ++ decimal (fault_place fault) ++ fault_more fault ++ codes "\n"
