-- What a loop that notes faults keeps.
use Rattle.std.proofs.Common.{◌≡◌, List}
use Rattle.bs_words.specs.declared.types.Ty.{Ty}
use Rattle.cmm_tree.specs.Tree.{Expressions, NoMore, More}
use Rattle.cmm_types.specs.Types.{Scoped, type_without_float}
use Rattle.bs_fault.specs.Reported.{Faults, noted_all}
use Rattle.cmm_types.specs.declared.checker.Checker.{Checker}

-- what is round is as before, and what is left to note gives from here what all gives from the start
pub record Noting (before now : Checker) (left all : Faults) : Type 0 where
  pub names : now.names ≡ before.names
  pub labels : now.labels ≡ before.labels
  pub found : noted_all left now.found ≡ noted_all all before.found

-- the type of the last of these, or this one where there is none
abbrev pub last_or : List Scoped → Ty → Expressions → Ty
last_or names type NoMore = type
last_or names type (More e rest) = last_or names (type_without_float names e) rest
