-- What reading and taking the young blocks reports.
use Rattle.std.specs.Prelude.{◌≡◌, ℕ, ◌≤◌, ◌<◌, Bool, true, false, List, ◌++◌, reverse, Option, Some, None}
use Rattle.rv_machine.specs.Hart.{Placed}
use Rattle.rv_machine.specs.Placement.{bytes_used}
use Rattle.alloc_service.specs.declared.young.Taken.{Taken}
use Rattle.alloc_service.specs.declared.young.Taken.TheVariants.{Entered, Broken, TooMany}

-- whether there are whole blocks, and which
abbrev pub ReadsYoung : Bool → Option (List Placed) → List Placed → Type 0
ReadsYoung true young found = young ≡ Some found
ReadsYoung false young found = young ≡ None

-- the young blocks are taken into the table where they are whole and fit; else the table stays
abbrev pub TakesYoung : Taken → Option (List Placed) → ℕ → List Placed → List Placed → Type 0
TakesYoung Entered young heap old new =
    (found : List Placed) × (young ≡ Some found) × (new ≡ old ++ reverse found) × (bytes_used new ≤ heap)
TakesYoung Broken young heap old new = (young ≡ None) × (new ≡ old)
TakesYoung TooMany young heap old new =
    (found : List Placed) × (young ≡ Some found) × (heap < bytes_used (old ++ reverse found)) × (new ≡ old)
