use Rattle.selection_accepted.proofs.Promised.{front_selects, front_setting}
use Rattle.selection_accepted.proofs.selects_each_function.Goals as goal

-- src/lib.rt:17:1
pub returns-clause-functions : goal.returns-clause-functions
returns-clause-functions c = λ text file f is member. front_selects text file is f member

-- src/lib.rt:17:1
pub returns-clause-setting : goal.returns-clause-setting
returns-clause-setting c = λ text file s is end symbol. front_setting text file is s end symbol
