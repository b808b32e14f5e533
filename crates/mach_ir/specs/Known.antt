-- What crates above use of those below, handed on: a line in crates.txt for each would cost the gate its start.
pub use Rattle.cmm_meaning.specs.Evaluation.{bound_error}
pub use Rattle.cmm_meaning.specs.Setting.{Setting}
pub use Rattle.cmm_meaning.specs.State.{Asked, Callee, Doing, Gave, Inside, Outside, Threw}
pub use Rattle.dataflow.specs.Flow.{Graph, LiveBefore, ReadsIn, graph}
pub use Rattle.dataflow.specs.Live.{IsLiveness}
pub use Rattle.dataflow.specs.declared.flow.Flow.{Flow}
