-- What the static data of a file has that the front accepts, besides that it has no fault of its
-- own.
use Rattle.std.specs.Prelude.{⊤, ◌<◌, true, List, IsSome}
use Rattle.std.specs.List.{AllByRecursion}
use Rattle.cmm_data.specs.Placement.{value_of_symbol}
use Rattle.cmm_tree.specs.Tree.{DatumTree, Val, Address, Text, DataItemTree, DataListTree, FileTree, data_lists}

-- A string is of bytes. An integer that is written as a val is in range, and a symbol whose address
-- is written so is defined: else the cell would hold 0, which fits no val.
abbrev pub IsDatumGiven : FileTree → DatumTree → Type 0
IsDatumGiven file (Val word) = IsSome word
IsDatumGiven file (Address true name_at name) = IsSome (value_of_symbol file name)
IsDatumGiven file (Text bytes) = AllByRecursion (λ b. b < 256) bytes
IsDatumGiven file _ = ⊤

abbrev pub AreDataGiven : FileTree → List DataListTree → Type 0
AreDataGiven file lists =
    AllByRecursion
    (λ (d : DataListTree). AllByRecursion (λ (i : DataItemTree). IsDatumGiven file i.datum) d.items) lists

pub record HasGivenData (file : FileTree) : Type 0 where
  pub each : AreDataGiven file (data_lists file)
