-- What crates above use of those below, handed on: a line in crates.txt for each would cost the gate its start.
pub use Rattle.line_stands.specs.Lines.{FreeStands, LineStands, Nowhere, OffsetFits, SparePasses}
pub use Rattle.line_stands.specs.Names.{IsRowAt, NamesStand}
pub use Rattle.line_stands.specs.Parts.{PartStands, label_place}
pub use Rattle.line_values.specs.Followed.{FollowsBranch}
