-- What operators do to given values: each row is computed.
use Rattle.std.proofs.Common.{◌≡◌, ℕ, ◌-◌, ◌^◌, refl, Ok, Err, List, [], ◌∷◌}
use Rattle.bs_words.specs.Word.{signed_of, word_of, add_word, sub_word, mulh_word, div_word, rem_word, shl_word, shr_word, sar_word}
use Rattle.bs_words.specs.Operators.{apply}
use Rattle.bs_words.specs.declared.operators.CmpOp.TheVariants.{Eq, Ne, Lt, Gt, Le}
use Rattle.bs_words.specs.declared.operators.IntOp.TheVariants.{Add, Sub, Mulh, Div, Mod, And, Or, Shl, Shr, Sar, Cmp, CmpU, AddV}
use Rattle.bs_words.specs.declared.values.Kind.TheVariants.{PointerArithmetic, PointerOrder, DivideByZero, ShiftRange}
use Rattle.bs_words.specs.declared.values.Value.TheVariants.{Word, Block, Function}

-- block 0 has two cells, and block 1 one
abbrev sizes : List ℕ
sizes = 2 ∷ 1 ∷ []

-- the word of -n
abbrev minus : ℕ → ℕ
minus n = 2 ^ 64 - n

-- ---- quotients and shifts

least_over_minus_one : apply Div sizes (Word (2 ^ 63)) (Word (minus 1)) ≡ Ok (Word (2 ^ 63))
unfolding div_word signed_of word_of
least_over_minus_one = refl

least_leaves_nothing : apply Mod sizes (Word (2 ^ 63)) (Word (minus 1)) ≡ Ok (Word 0)
unfolding rem_word signed_of word_of
least_leaves_nothing = refl

toward_zero : apply Div sizes (Word (minus 7)) (Word 2) ≡ Ok (Word (minus 3))
unfolding div_word signed_of word_of
toward_zero = refl

sign_of_dividend : apply Mod sizes (Word (minus 7)) (Word 2) ≡ Ok (Word (minus 1))
unfolding rem_word signed_of word_of
sign_of_dividend = refl

high_half : apply Mulh sizes (Word (2 ^ 62)) (Word 8) ≡ Ok (Word 2)
unfolding mulh_word signed_of word_of
high_half = refl

-- a divisor 0 comes before a pointer as dividend
zero_comes_first : apply Div sizes (Block 0 0) (Word 0) ≡ Err DivideByZero
zero_comes_first = refl

-- and so does an amount of 64
amount_comes_first : apply Shl sizes (Block 0 0) (Word 64) ≡ Err ShiftRange
amount_comes_first = refl

negative_amount : apply Sar sizes (Word 1) (Word (minus 1)) ≡ Err ShiftRange
negative_amount = refl

last_amount : apply Shr sizes (Word (minus 1)) (Word 63) ≡ Ok (Word 1)
unfolding shr_word
last_amount = refl

last_amount_signed : apply Sar sizes (Word (2 ^ 63)) (Word 63) ≡ Ok (Word (minus 1))
unfolding sar_word signed_of word_of
last_amount_signed = refl

last_amount_left : apply Shl sizes (Word 3) (Word 63) ≡ Ok (Word (2 ^ 63))
unfolding shl_word
last_amount_left = refl

-- ---- pointers and words

moved_to_header : apply Add sizes (Block 0 8) (Word (minus 16)) ≡ Ok (Block 0 (minus 8))
unfolding add_word
moved_to_header = refl

moved_from_right : apply AddV sizes (Word 8) (Block 1 0) ≡ Ok (Block 1 8)
unfolding add_word
moved_from_right = refl

moved_back : apply Sub sizes (Block 0 8) (Word 8) ≡ Ok (Block 0 0)
unfolding sub_word
moved_back = refl

no_pointer_is_taken_off : apply Sub sizes (Word 8) (Block 0 8) ≡ Err PointerArithmetic
no_pointer_is_taken_off = refl

distance : apply Sub sizes (Block 0 0) (Block 0 8) ≡ Ok (Word (minus 8))
unfolding sub_word
distance = refl

no_distance_of_two_blocks : apply Sub sizes (Block 0 0) (Block 1 0) ≡ Err PointerArithmetic
no_distance_of_two_blocks = refl

no_sum_of_functions : apply Add sizes (Function 0) (Word 0) ≡ Err PointerArithmetic
no_sum_of_functions = refl

lowest_bits : apply And sizes (Block 0 13) (Word 7) ≡ Ok (Word 5)
lowest_bits = refl

lowest_bit : apply And sizes (Word 1) (Block 0 13) ≡ Ok (Word 1)
lowest_bit = refl

other_masks : apply And sizes (Block 0 13) (Word 3) ≡ Err PointerArithmetic
other_masks = refl

functions_are_even : apply And sizes (Word 1) (Function 4) ≡ Ok (Word 0)
functions_are_even = refl

functions_have_one_mask : apply And sizes (Function 4) (Word 7) ≡ Err PointerArithmetic
functions_have_one_mask = refl

no_other_bits : apply Or sizes (Block 0 0) (Word 1) ≡ Err PointerArithmetic
no_other_bits = refl

-- ---- equality

same_place : apply (Cmp Eq) sizes (Block 0 100) (Block 0 100) ≡ Ok (Word 1)
same_place = refl

two_blocks : apply (Cmp Ne) sizes (Block 0 15) (Block 1 7) ≡ Ok (Word 1)
two_blocks = refl

past_the_end : apply (Cmp Eq) sizes (Block 0 16) (Block 1 0) ≡ Err PointerOrder
past_the_end = refl

header_is_outside : apply (Cmp Eq) sizes (Block 0 (minus 8)) (Word 0) ≡ Err PointerOrder
header_is_outside = refl

below_the_heap : apply (Cmp Eq) sizes (Block 0 0) (Word 0x2FFFFFFF) ≡ Ok (Word 0)
below_the_heap = refl

maybe_on_the_heap : apply (Cmp Eq) sizes (Block 0 0) (Word 0x30000000) ≡ Err PointerOrder
maybe_on_the_heap = refl

odd_word : apply (Cmp Eq) sizes (Word 0x3FFFFFFF) (Block 0 0) ≡ Ok (Word 0)
odd_word = refl

odd_word_and_odd_offset : apply (Cmp Eq) sizes (Word 0x3FFFFFFF) (Block 0 1) ≡ Err PointerOrder
odd_word_and_odd_offset = refl

above_the_stack : apply (Cmp Ne) sizes (Word 0x40000000) (Block 0 1) ≡ Ok (Word 1)
above_the_stack = refl

block_and_function : apply (Cmp Ne) sizes (Function 1) (Block 0 1) ≡ Ok (Word 1)
block_and_function = refl

same_function : apply (CmpU Ne) sizes (Function 1) (Function 1) ≡ Ok (Word 0)
same_function = refl

maybe_a_function : apply (CmpU Eq) sizes (Function 1) (Word 0x00010000) ≡ Err PointerOrder
maybe_a_function = refl

below_the_code : apply (CmpU Eq) sizes (Function 1) (Word 0x0000FFFE) ≡ Ok (Word 0)
below_the_code = refl

above_the_code : apply (CmpU Eq) sizes (Word 0x10000000) (Function 1) ≡ Ok (Word 0)
above_the_code = refl

-- ---- order

signed_order : apply (Cmp Lt) sizes (Word (minus 1)) (Word 0) ≡ Ok (Word 1)
unfolding signed_of
signed_order = refl

unsigned_order : apply (CmpU Lt) sizes (Word (minus 1)) (Word 0) ≡ Ok (Word 0)
unsigned_order = refl

-- pointers from the header to the end are ordered by their signed offsets, also by an unsigned operator
header_to_end : apply (CmpU Lt) sizes (Block 0 (minus 8)) (Block 0 16) ≡ Ok (Word 1)
unfolding signed_of
header_to_end = refl

before_the_header : apply (CmpU Lt) sizes (Block 0 (minus 9)) (Block 0 16) ≡ Err PointerOrder
before_the_header = refl

behind_the_end : apply (Cmp Gt) sizes (Block 0 17) (Block 0 16) ≡ Err PointerOrder
behind_the_end = refl

no_order_of_functions : apply (Cmp Le) sizes (Function 0) (Function 0) ≡ Err PointerOrder
no_order_of_functions = refl
