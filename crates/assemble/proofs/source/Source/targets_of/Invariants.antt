use Rattle.std.proofs.Common.{◌≡◌, map, take}
use Rattle.assemble.specs.Source.{addresses_named_by}
use Rattle.rv_layout_rules.specs.Words.{target_of}
use Rattle.rv_layout.specs.Tables.{words_of_labels}
use Rattle.assemble.proofs.source.Source.targets_of.Given as goal

abbrev pub invariant-loop-piece : goal.invariant-loop-piece
invariant-loop-piece l = l.targets.items ≡ map (target_of (addresses_named_by l.self l.entry (words_of_labels l.labels))) (take l.piece-index l.code)
