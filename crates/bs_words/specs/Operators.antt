-- What an operator does to two values: a value, or why it is improper.
--
-- A pointer is the address `offset` bytes after the start of a block; offsets are words that wrap.
-- `sizes` has the number of cells of each block, by its serial.
use Rattle.std.specs.Prelude.{ℕ, zero, ◌*◌, ◌-◌, ◌%◌, ◌^◌, Bool, true, false, not, cond, ◌&&◌, ◌||◌, ◌==◌, nat_lt, nat_le, List, Result, Ok, Err, slice_index, int_lt, int_le, bit_and, bit_or, bit_xor}
use Rattle.bs_words.specs.Word.{signed_of, add_word, sub_word, mul_word, mulh_word, div_word, rem_word, shl_word, shr_word, sar_word}
use Rattle.bs_words.specs.declared.operators.CmpOp.{CmpOp}
use Rattle.bs_words.specs.declared.operators.CmpOp.TheVariants.{Eq, Ne, Lt, Le, Gt, Ge}
use Rattle.bs_words.specs.declared.operators.IntOp.{IntOp}
use Rattle.bs_words.specs.declared.operators.IntOp.TheVariants.{Add, Sub, Mul, Mulh, Div, Mod, And, Or, Xor, Shl, Shr, Sar, Cmp, CmpU, AddV, AddA}
use Rattle.bs_words.specs.declared.types.Ty.{Ty}
use Rattle.bs_words.specs.declared.types.Ty.TheVariants as ty
use Rattle.bs_words.specs.declared.values.Kind.{Kind}
use Rattle.bs_words.specs.declared.values.Kind.TheVariants.{PointerArithmetic, PointerOrder, DivideByZero, ShiftRange}
use Rattle.bs_words.specs.declared.values.Value.{Value}
use Rattle.bs_words.specs.declared.values.Value.TheVariants.{Word, Block, Function}

-- the type of what an operator gives
abbrev pub type_of_operator : IntOp → Ty
type_of_operator AddV = ty.Val
type_of_operator AddA = ty.Addr
type_of_operator _ = ty.Int

-- the value where the test holds, and else improper
abbrev pub only_if : Bool → Kind → Value → Result Value Kind
only_if holds kind value = cond holds (Ok value) (Err kind)

-- ---- arithmetic

-- words alone
abbrev pub on_words : (ℕ → ℕ → ℕ) → Value → Value → Result Value Kind
on_words f (Word a) (Word b) = Ok (Word (f a b))
on_words f _ _ = Err PointerArithmetic

-- words, or a pointer that a word moves, in either order
abbrev pub sum_of : Value → Value → Result Value Kind
sum_of (Word a) (Word b) = Ok (Word (add_word a b))
sum_of (Block s o) (Word w) = Ok (Block s (add_word o w))
sum_of (Word w) (Block s o) = Ok (Block s (add_word o w))
sum_of _ _ = Err PointerArithmetic

-- words, a pointer that a word moves back, or the distance of two pointers into one block
abbrev pub difference_of : Value → Value → Result Value Kind
difference_of (Word a) (Word b) = Ok (Word (sub_word a b))
difference_of (Block s o) (Word w) = Ok (Block s (sub_word o w))
difference_of (Block s o) (Block t p) = only_if (s == t) PointerArithmetic (Word (sub_word o p))
difference_of _ _ = Err PointerArithmetic

-- a divisor 0 comes before everything else
abbrev pub quotient_of : (ℕ → ℕ → ℕ) → Value → Value → Result Value Kind
quotient_of f a (Word zero) = Err DivideByZero
quotient_of f a b = on_words f a b

-- so does an amount of 64 or more
abbrev pub shift_of : (ℕ → ℕ → ℕ) → Value → Value → Result Value Kind
shift_of f a (Word k) = cond (nat_le 64 k) (Err ShiftRange) (on_words f a (Word k))
shift_of f a b = on_words f a b

-- the bits of an offset under the mask 1 or 7
abbrev pub masked_offset : ℕ → ℕ → Result Value Kind
masked_offset o mask = only_if ((mask == 1) || (mask == 7)) PointerArithmetic (Word (bit_and o mask))

-- words, a pointer under a mask, or a function under the mask 1, which leaves nothing, in either order
abbrev pub bits_in_both : Value → Value → Result Value Kind
bits_in_both (Word a) (Word b) = Ok (Word (bit_and a b))
bits_in_both (Block s o) (Word mask) = masked_offset o mask
bits_in_both (Word mask) (Block s o) = masked_offset o mask
bits_in_both (Function f) (Word mask) = only_if (mask == 1) PointerArithmetic (Word 0)
bits_in_both (Word mask) (Function f) = only_if (mask == 1) PointerArithmetic (Word 0)
bits_in_both _ _ = Err PointerArithmetic

-- ---- comparisons

-- 1 where it holds, and else 0
abbrev pub truth : Bool → Value
truth true = Word 1
truth false = Word 0

-- two words by number, signed or unsigned
abbrev pub signed_holds : CmpOp → ℕ → ℕ → Bool
signed_holds Eq a b = a == b
signed_holds Ne a b = not (a == b)
signed_holds Lt a b = int_lt (signed_of a) (signed_of b)
signed_holds Le a b = int_le (signed_of a) (signed_of b)
signed_holds Gt a b = int_lt (signed_of b) (signed_of a)
signed_holds Ge a b = int_le (signed_of b) (signed_of a)

abbrev pub unsigned_holds : CmpOp → ℕ → ℕ → Bool
unsigned_holds Eq a b = a == b
unsigned_holds Ne a b = not (a == b)
unsigned_holds Lt a b = nat_lt a b
unsigned_holds Le a b = nat_le a b
unsigned_holds Gt a b = nat_lt b a
unsigned_holds Ge a b = nat_le b a

-- a pointer at a byte of its block
abbrev pub is_in : List ℕ → ℕ → ℕ → Bool
is_in sizes s o = nat_lt o (8 * slice_index sizes s)

-- a pointer from the header of its block to its end, both counted: the header is 8 bytes before the start
abbrev pub is_near : List ℕ → ℕ → ℕ → Bool
is_near sizes s o = nat_le o (8 * slice_index sizes s) || nat_le (2 ^ 64 - 8) o

-- a word that is the address of no byte of a block at this offset: the heap, the young area and the
-- stack lie from 0x30000000 up to 0x3FFFFFFF, and blocks start at even addresses
abbrev pub is_apart_from_block : ℕ → ℕ → Bool
is_apart_from_block o w = nat_lt w 0x30000000 || nat_lt 0x3FFFFFFF w || ((w % 2 == 1) && (o % 2 == 0))

-- a word that is the address of no function: code lies from 0x00010000 up to 0x0FFFFFFF, at even addresses
abbrev pub is_apart_from_code : ℕ → Bool
is_apart_from_code w = (w % 2 == 1) || nat_lt w 0x00010000 || nat_lt 0x0FFFFFFF w

abbrev pub unequal_if : Bool → Result Bool Kind
unequal_if true = Ok false
unequal_if false = Err PointerOrder

-- whether two values are equal, where that can be said
abbrev pub equality_of : List ℕ → Value → Value → Result Bool Kind
equality_of sizes (Word a) (Word b) = Ok (a == b)
equality_of sizes (Function f) (Function g) = Ok (f == g)
equality_of sizes (Block s o) (Block t p) =
    cond (s == t) (Ok (o == p)) (unequal_if (is_in sizes s o && is_in sizes t p))
equality_of sizes (Block s o) (Word w) = unequal_if (is_in sizes s o && is_apart_from_block o w)
equality_of sizes (Word w) (Block s o) = unequal_if (is_in sizes s o && is_apart_from_block o w)
equality_of sizes (Block s o) (Function f) = unequal_if (is_in sizes s o)
equality_of sizes (Function f) (Block s o) = unequal_if (is_in sizes s o)
equality_of sizes (Function f) (Word w) = unequal_if (is_apart_from_code w)
equality_of sizes (Word w) (Function f) = unequal_if (is_apart_from_code w)

-- an order of two words by number, or of two pointers near one block by their signed offsets
abbrev pub order_of : (CmpOp → ℕ → ℕ → Bool) → CmpOp → List ℕ → Value → Value → Result Value Kind
order_of holds op sizes (Word a) (Word b) = Ok (truth (holds op a b))
order_of holds op sizes (Block s o) (Block t p) =
    only_if ((s == t) && is_near sizes s o && is_near sizes t p) PointerOrder (truth (signed_holds op o p))
order_of holds op sizes _ _ = Err PointerOrder

abbrev pub as_value : (Bool → Bool) → Result Bool Kind → Result Value Kind
as_value f (Ok b) = Ok (truth (f b))
as_value f (Err kind) = Err kind

abbrev pub comparison_of : (CmpOp → ℕ → ℕ → Bool) → CmpOp → List ℕ → Value → Value → Result Value Kind
comparison_of holds Eq sizes a b = as_value (λ e. e) (equality_of sizes a b)
comparison_of holds Ne sizes a b = as_value not (equality_of sizes a b)
comparison_of holds op sizes a b = order_of holds op sizes a b

-- ---- every operator

abbrev pub apply : IntOp → List ℕ → Value → Value → Result Value Kind
apply Add sizes a b = sum_of a b
apply AddV sizes a b = sum_of a b
apply AddA sizes a b = sum_of a b
apply Sub sizes a b = difference_of a b
apply Mul sizes a b = on_words mul_word a b
apply Mulh sizes a b = on_words mulh_word a b
apply Div sizes a b = quotient_of div_word a b
apply Mod sizes a b = quotient_of rem_word a b
apply And sizes a b = bits_in_both a b
apply Or sizes a b = on_words bit_or a b
apply Xor sizes a b = on_words bit_xor a b
apply Shl sizes a b = shift_of shl_word a b
apply Shr sizes a b = shift_of shr_word a b
apply Sar sizes a b = shift_of sar_word a b
apply (Cmp op) sizes a b = comparison_of signed_holds op sizes a b
apply (CmpU op) sizes a b = comparison_of unsigned_holds op sizes a b

-- ---- conditions

-- whether a condition holds: a word other than 0, a function, and a pointer near its block do
abbrev pub condition_of : List ℕ → Value → Result Bool Kind
condition_of sizes (Word w) = Ok (not (w == 0))
condition_of sizes (Function f) = Ok true
condition_of sizes (Block s o) = cond (is_near sizes s o) (Ok true) (Err PointerOrder)

-- the number that chooses a case of a switch, and the operands of a bound test: words
abbrev pub word_in : Value → Result ℕ Kind
word_in (Word w) = Ok w
word_in _ = Err PointerArithmetic
