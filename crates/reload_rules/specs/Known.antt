-- What crates above use of those below, handed on: a line in crates.txt for each would cost the gate its start.
pub use Rattle.pass_rules.specs.Carried.{EndsInReturn, IsCarried, OffsetFits, at_return, further}
pub use Rattle.pass_rules.specs.Measures.{code_points, code_words, copy_words, exit_count, instr_words, one_if_true, operands_with, other_operands, words_for_instr}
pub use Rattle.spill_rules.specs.Spilled.{copy_instruction}
