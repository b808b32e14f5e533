-- What crates above use of those below, handed on: a line in crates.txt for each would cost the gate its start.
pub use Rattle.linking_stages.specs.Chain.{AreLowered, HoldsWords, IsGivenWords, IsSelected, SelectedSo}
pub use Rattle.linking_stages.specs.Stages.{linear_program}
