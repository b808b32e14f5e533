use Rattle.std.proofs.Common.{take}
use Rattle.std.specs.List.{All}
use Rattle.bs_words.specs.Contents.{contents}
use Rattle.dataflow.specs.Flow.{IsPlace}
use Rattle.dataflow.proofs.flow.Flow.is_well_formed.Given as goal

abbrev pub invariant-loop-place : goal.invariant-loop-place
invariant-loop-place l = All (IsPlace l.count l.bound) (take l.place-index (contents l.self.places))
