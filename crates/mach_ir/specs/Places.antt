-- Places and components of registers, compared.
--
-- What is said of places and components alone is here, since five passes ask the one and two the other.
use Rattle.std.specs.Prelude.{Bool, true, false, List, [], ◌∷◌}
use Rattle.bs_words.specs.declared.types.Comp.{Comp}
use Rattle.bs_words.specs.declared.types.Comp.TheVariants as comp
use Rattle.bs_words.specs.declared.types.Loc.{Loc}
use Rattle.bs_words.specs.declared.types.Loc.TheVariants as loc
use Rattle.mach_ir.specs.declared.reg.Reg.{Reg}

-- whether no place is chosen yet
abbrev pub is_unset_location : Loc → Bool
is_unset_location loc.Unset = true
is_unset_location (loc.Machine n) = false
is_unset_location (loc.Slot n) = false

abbrev pub same_comp : Comp → Comp → Bool
same_comp comp.Int comp.Int = true
same_comp comp.Val comp.Val = true
same_comp comp.Addr comp.Addr = true
same_comp comp.Float comp.Float = true
same_comp _ _ = false

-- whether there are no registers
abbrev pub are_none : List Reg → Bool
are_none [] = true
are_none (r ∷ rs) = false
