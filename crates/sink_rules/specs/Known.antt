-- What crates above use of those below, handed on: a line in crates.txt for each would cost the gate its start.
pub use Rattle.spill_rules.specs.Chosen.{IsChosenKept, IsNeededSlot, IsSpilled, ParamsPlaced, spilled_size}
pub use Rattle.spill_rules.specs.Spilled.{SpillPlan, copy_instruction, in_slot, operand_registers, reload, reloads_of, spill, spilled, spilled_instr, spills_of, written_results}
