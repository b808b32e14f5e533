-- That there are numbers for a function that is made tidy.
use Rattle.std.specs.Prelude.{suc, ◌+◌, ◌*◌, ◌<◌, length}
use Rattle.mach_ir.specs.Sizes.{number_limit}
use Rattle.lin_ir.specs.Formed.{labels_in}
use Rattle.lin_ir.specs.declared.lin.Lin.{Lin}
use Rattle.lin_tidy_rules.specs.Redirecting.{redirected_all}
use Rattle.lin_tidy_rules.specs.Turning.{turned_all}
use Rattle.linearise_rules.specs.Lowered.{limit_above}

-- There are numbers for two new labels for each line.
abbrev pub HasLabels : Lin → Type 0
HasLabels m = suc (limit_above (labels_in m.code) + 2 * length m.code) < number_limit

-- There are numbers of 32 bits for all that the function becomes as it is made tidy.
pub record HasTidyRoom (m : Lin) : Type 0 where
  pub labels : HasLabels m
  -- for the lines when loops are turned round
  pub lines : length (turned_all (redirected_all m)).code < number_limit
  -- and for its slots, after those of the registers
  pub slots : m.slots + 32 < number_limit
