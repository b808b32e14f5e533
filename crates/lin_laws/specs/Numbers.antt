-- Numbers of what lines read and write, and entries of descriptors, as lists.
use Rattle.std.specs.Prelude.{ℕ, zero, suc, ◌+◌, ◌*◌, ◌-◌, Bool, true, false, cond, nat_lt, List, [], ◌∷◌, ◌++◌, map}
use Rattle.bs_words.specs.declared.types.Comp.{Comp}
use Rattle.bs_words.specs.declared.types.Comp.TheVariants as comp
use Rattle.bs_words.specs.declared.types.Loc.{Loc}
use Rattle.bs_words.specs.declared.types.Loc.TheVariants as loc
use Rattle.lin_ir.specs.Known.{Destroyed, Nothing, Temporaries, Everything}
use Rattle.lin_ir.specs.Meaning.{destroyed_by}
use Rattle.lin_ir.specs.declared.lin.Spot.{Spot}
use Rattle.lin_ir.specs.declared.lin.Line.{Line}

-- first the registers of the machine, and then the slots
abbrev pub number_of_location : Loc → ℕ
number_of_location loc.Unset = 0
number_of_location (loc.Machine r) = r
number_of_location (loc.Slot k) = k + 32

abbrev pub is_val_comp : Comp → Bool
is_val_comp comp.Int = false
is_val_comp comp.Val = true
is_val_comp comp.Addr = false
is_val_comp comp.Float = false

-- of what is read as val
abbrev pub val_numbers : List Spot → List ℕ
val_numbers [] = []
val_numbers (s ∷ ss) = cond (is_val_comp s.comp) (number_of_location s.loc ∷ val_numbers ss) (val_numbers ss)

abbrev pub numbers_of_spots : List Spot → List ℕ
numbers_of_spots spots = map (λ (s : Spot). number_of_location s.loc) spots

-- so many numbers from this one on
unfoldable pub consecutive_from : ℕ → ℕ → List ℕ
consecutive_from a zero = []
consecutive_from a (suc n) = a ∷ consecutive_from (suc a) n

abbrev pub destroyed_numbers : Destroyed → List ℕ
destroyed_numbers Nothing = []
destroyed_numbers Temporaries = consecutive_from 10 8 ++ consecutive_from 28 4
destroyed_numbers Everything = consecutive_from 0 32

abbrev pub written_numbers : Line → List ℕ
written_numbers i = numbers_of_spots i.results ++ destroyed_numbers (destroyed_by i.op)

-- ---- entries

-- of a number of a location, where so many traps are pushed
abbrev pub entry_of : ℕ → ℕ → ℕ
entry_of traps n = cond (nat_lt n 32) (2 * n + 1) (8 * (n - 32) + 16 * traps)

-- of the members of a set whose first number is n
abbrev pub trap_entries_from : ℕ → ℕ → List Bool → List ℕ
trap_entries_from traps n [] = []
trap_entries_from traps n (true ∷ set) = entry_of traps n ∷ trap_entries_from traps (suc n) set
trap_entries_from traps n (false ∷ set) = trap_entries_from traps (suc n) set
