use Rattle.std.proofs.Common.{◌≡◌, ◌++◌, take, drop}
use Rattle.split.specs.Names.{name_read}
use Rattle.split_rules.specs.Renamed.{all_numbered}
use Rattle.split.proofs.rename.rename_args.Given as goal

abbrev pub invariant-loop-reg : goal.invariant-loop-reg
invariant-loop-reg l =
    take l.reg-index l.args
    ++ all_numbered (name_read l.tables l.place) (drop l.reg-index l.args)
    ≡ all_numbered (name_read l.tables l.place) l.initial.args
