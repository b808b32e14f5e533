-- The operators that take words alone.
use Rattle.std.specs.Prelude.{Result, Err, bit_or, bit_xor}
use Rattle.bs_words.specs.Word.{mul_word, mulh_word, div_word, rem_word, shl_word, shr_word, sar_word}
use Rattle.bs_words.specs.Operators.{on_words, quotient_of, shift_of}
use Rattle.bs_words.specs.declared.operators.IntOp.{IntOp}
use Rattle.bs_words.specs.declared.operators.IntOp.TheVariants.{Mul, Mulh, Div, Mod, Or, Xor, Shl, Shr, Sar}
use Rattle.bs_words.specs.declared.values.Kind.{Kind}
use Rattle.bs_words.specs.declared.values.Kind.TheVariants.{PointerArithmetic}
use Rattle.bs_words.specs.declared.values.Value.{Value}

abbrev pub applied_to_words : IntOp → Value → Value → Result Value Kind
applied_to_words Mul a b = on_words mul_word a b
applied_to_words Mulh a b = on_words mulh_word a b
applied_to_words Div a b = quotient_of div_word a b
applied_to_words Mod a b = quotient_of rem_word a b
applied_to_words Or a b = on_words bit_or a b
applied_to_words Xor a b = on_words bit_xor a b
applied_to_words Shl a b = shift_of shl_word a b
applied_to_words Shr a b = shift_of shr_word a b
applied_to_words Sar a b = shift_of sar_word a b
applied_to_words _ a b = Err PointerArithmetic
