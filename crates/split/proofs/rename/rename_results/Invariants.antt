use Rattle.std.proofs.Common.{◌≡◌, ◌++◌, take, drop}
use Rattle.split.specs.Names.{name_written}
use Rattle.split_rules.specs.Renamed.{all_numbered}
use Rattle.split.proofs.rename.rename_results.Given as goal

abbrev pub invariant-loop-reg : goal.invariant-loop-reg
invariant-loop-reg l =
    take l.reg-index l.results
    ++ all_numbered (name_written l.tables l.left) (drop l.reg-index l.results)
    ≡ all_numbered (name_written l.tables l.left) l.initial.results
