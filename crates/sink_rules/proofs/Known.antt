-- What crates above use of those below, handed on: a line in crates.txt for each would cost the gate its start.
pub use Rattle.spill_rules.proofs.Chosen.{one_spilled, seated_params, spilled_kept}
pub use Rattle.spill_rules.proofs.Formed.{IsCopy, IsMain, is_reload, is_spill, was_main}
pub use Rattle.spill_rules.proofs.Text.{keeps_marks}
