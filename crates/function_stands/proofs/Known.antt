-- What crates above use of those below, handed on: a line in crates.txt for each would cost the gate its start.
pub use Rattle.laid_files.proofs.Has.{has_functions}
pub use Rattle.laid_files.proofs.Laid.{function_can}
pub use Rattle.line_calls.proofs.Every.{every_branch, every_entry, every_line}
pub use Rattle.line_calls.proofs.NoWaits.{Comes, NoWait, step_no}
pub use Rattle.line_calls.proofs.Shown.{each_at, in_table, val_shown}
