-- What crates above use of those below, handed on: a line in crates.txt for each would cost the gate its start.
pub use Rattle.deadcode_rules.proofs.Left.{contains_back, still_ends, tries_here, was_main}
pub use Rattle.deadcode_rules.proofs.Live.{was_register}
pub use Rattle.deadcode_rules.proofs.Text.{Fate, falls, fate, remains}
pub use Rattle.deadcode_rules.proofs.Whole.{dropped_kept, one_dropped}
