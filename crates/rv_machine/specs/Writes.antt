-- What a write reports.
use Rattle.std.specs.Prelude.{◌≡◌, Bool, true, false, List, Option, Some, None}
use Rattle.rv_machine.specs.Memory.{Region}

-- a write reports whether there was a place for it, and changes nothing where there was none
abbrev pub ReportsWrite : Bool → Option (List Region) → List Region → List Region → Type 0
ReportsWrite true after old new = after ≡ Some new
ReportsWrite false after old new = (after ≡ None) × (new ≡ old)
