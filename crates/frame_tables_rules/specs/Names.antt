-- The locations that descriptors name.
use Rattle.std.specs.Prelude.{ℕ, suc, ◌+◌, ◌-◌, ◌*◌, ◌/◌, ◌%◌, cond, nat_eq, List, [], ◌∷◌, length, map}
use Rattle.bs_words.specs.declared.types.Loc.{Loc}
use Rattle.bs_words.specs.declared.types.Loc.TheVariants as loc
use Rattle.lin_ir.specs.Descriptors.{frame_bytes}
use Rattle.lin_ir.specs.Meaning.{NamedAt}
use Rattle.lin_ir.specs.declared.descr.Descr.{Descr}
use Rattle.lin_ir.specs.declared.lin.Lin.{Lin}

-- The location that an entry names, where so many traps are pushed: the entries of registers are
-- odd.
abbrev pub location : (traps entry : ℕ) → Loc
location traps entry =
    cond (nat_eq (entry % 2) 1) (loc.Machine (entry / 2)) (loc.Slot ((entry - 16 * traps) / 8))

-- how many traps are pushed at a frame point, by the size in its descriptor
abbrev pub trap_count_at : Lin → Descr → ℕ
trap_count_at m d = (d.size - frame_bytes m) / 16

abbrev pub locations : Lin → Descr → List Loc
locations m d = map (location (trap_count_at m d)) d.entries

-- those of the descriptor of the frame point with so many lines after it
abbrev pub locations_named_at : Lin → ℕ → List Descr → List Loc
locations_named_at m left [] = []
locations_named_at m left (d ∷ ds) =
    cond (nat_eq (d.after + suc left) (length m.code)) (locations m d) (locations_named_at m left ds)

abbrev pub locations_named_by : List Descr → Lin → NamedAt
locations_named_by ds m left = locations_named_at m left ds
