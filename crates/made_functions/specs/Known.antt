-- What crates above use of those below, handed on: a line in crates.txt for each would cost the gate its start.
pub use Rattle.lin_pass.specs.Linear.{IsLinearOf, IsSlotOf, NamesHomes, OneForEach}
pub use Rattle.reg_rounds_rules.specs.Rounds.{IsRegisterAllocated}
