-- The words that integers and pointers stand for.
use Rattle.std.specs.Prelude.{ℕ, ◌+◌, ◌-◌, ◌*◌, ◌%◌, ◌^◌, Bool, true, false, cond, ◌==◌, nat_le, List, [], ◌∷◌, Option, Some, None}
use Rattle.std.specs.Char.{is_ascii_digit}

-- what a digit counts: `a` and `A` are ten
abbrev pub digit_value : ℕ → ℕ
digit_value b = cond (nat_le b 57) (b - 48) (cond (nat_le b 70) (b - 55) (b - 87))

-- the number that digits of a base go on to, after digits of this number
abbrev pub number_after : ℕ → ℕ → List ℕ → ℕ
number_after base n [] = n
number_after base n (d ∷ ds) = number_after base (base * n + digit_value d) ds

-- the decimal digits in front: those of a pointer without its `a`
abbrev pub decimal_digits : List ℕ → List ℕ
decimal_digits [] = []
decimal_digits (b ∷ bs) = cond (is_ascii_digit b) (b ∷ decimal_digits bs) []

-- the word of a number with or without a sign; none past the largest number
abbrev pub word_up_to : ℕ → Bool → ℕ → Option ℕ
word_up_to largest true n = cond (nat_le n largest) (Some ((2 ^ 64 - n) % 2 ^ 64)) None
word_up_to largest false n = cond (nat_le n largest) (Some n) None

-- digits of a base: at most 64 bits, which a sign negates with wrapping
abbrev pub based_word : ℕ → Bool → List ℕ → Option ℕ
based_word base negative digits = word_up_to (2 ^ 64 - 1) negative (number_after base 0 digits)

-- the largest decimal integer without its sign
abbrev pub largest_decimal : Bool → ℕ
largest_decimal true = 2 ^ 63
largest_decimal false = 2 ^ 63 - 1

abbrev pub decimal_word : Bool → List ℕ → Option ℕ
decimal_word negative text = word_up_to (largest_decimal negative) negative (number_after 10 0 (decimal_digits text))

-- after the sign: `0x`, `0o` and `0b` begin digits of a base, all else is decimal
abbrev pub unsigned_value : Bool → List ℕ → Option ℕ
unsigned_value negative (first ∷ letter ∷ digits) =
    cond (letter == 120) (based_word 16 negative digits)
    (cond (letter == 111) (based_word 8 negative digits)
    (cond (letter == 98) (based_word 2 negative digits)
    (decimal_word negative (first ∷ letter ∷ digits))))
unsigned_value negative text = decimal_word negative text

-- The 64-bit word that the text of an integer or a pointer stands for, or none where it is out of range.
abbrev pub integer_value : List ℕ → Option ℕ
integer_value [] = None
integer_value (b ∷ bs) = cond (b == 45) (unsigned_value true bs) (unsigned_value false (b ∷ bs))
