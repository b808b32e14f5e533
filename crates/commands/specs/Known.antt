-- What crates above use of those below, handed on: a line in crates.txt for each would cost the gate its start.
pub use Rattle.text_commands.specs.Arguments.{HasUnfit, IsCall, NamesNone}
pub use Rattle.text_commands.specs.Check.{HasNoEntry, IsCheckOf, IsTooLargeToCheck, IsUnfitFor}
pub use Rattle.text_commands.specs.Compile.{IsImageOf, IsTooLarge}
-- of made_functions.specs.Files
pub use Rattle.text_commands.specs.Known.{AreTablesMadeFor}
pub use Rattle.text_commands.specs.Listing.{IsListingOf}
