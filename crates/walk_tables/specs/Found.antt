-- What is found of a name in scope.
use Rattle.std.specs.Prelude.{ℕ, List, Option}
use Rattle.std.specs.Option.{option_map}
use Rattle.walk_tables.specs.Walks.{Slotted, slotted_as}
use Rattle.walk_tables.specs.declared.scopes.Found.{Found}

abbrev pub found_of : Slotted → Found
found_of s = record { ty = s.scoped.type; mutable = s.scoped.mutable; slot = s.slot }

abbrev pub found_in : List Slotted → List ℕ → Option Found
found_in scope name = option_map found_of (slotted_as scope name)
