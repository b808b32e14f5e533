-- The words of integers are below 2^64.
use Rattle.std.proofs.Common.{◌≡◌, ℕ, ◌-◌, ◌%◌, ◌^◌, ◌<◌, ◌≤◌, Bool, true, false, cond, ◌==◌, nat_le, leb-true, List, [], ◌∷◌, Option, Some, None, lit<, refl, arith}
use Rattle.std.proofs.Math.Nat.{mod-lt}
use Rattle.cmm_lex.specs.Integers.{word_up_to, based_word, decimal_word, unsigned_value, integer_value, number_after, decimal_digits}
use Rattle.cmm_tree.specs.Measures.{WordFits}
use Rattle.cmm_grammar.specs.Words.{word_or_zero}

negated_fits : (largest n : ℕ) (b : Bool) → word_or_zero (cond b (Some ((2 ^ 64 - n) % 2 ^ 64)) None) < 2 ^ 64
negated_fits largest n true = mod-lt (2 ^ 64 - n) (lit< tt)
negated_fits largest n false = lit< tt

plain_fits : (largest n : ℕ) (b : Bool) → nat_le n largest ≡ b → largest < 2 ^ 64 → word_or_zero (cond b (Some n) None) < 2 ^ 64
plain_fits largest n true e h = below largest n (2 ^ 64) (leb-true n largest e) h
  where
    below : (l n m : ℕ) → n ≤ l → l < m → n < m
    below l n m a b = omega arith
plain_fits largest n false e h = lit< tt

word_fits : (largest : ℕ) (negative : Bool) (n : ℕ) → largest < 2 ^ 64 → word_or_zero (word_up_to largest negative n) < 2 ^ 64
word_fits largest true n h = negated_fits largest n (nat_le n largest)
word_fits largest false n h = plain_fits largest n (nat_le n largest) refl h

decimal_fits : (negative : Bool) (text : List ℕ) → word_or_zero (decimal_word negative text) < 2 ^ 64
decimal_fits true text = word_fits (2 ^ 63) true (number_after 10 0 (decimal_digits text)) (lit< tt)
decimal_fits false text = word_fits (2 ^ 63 - 1) false (number_after 10 0 (decimal_digits text)) (lit< tt)

based_fits : (base : ℕ) (negative : Bool) (digits : List ℕ) → word_or_zero (based_word base negative digits) < 2 ^ 64
based_fits base negative digits = word_fits (2 ^ 64 - 1) negative (number_after base 0 digits) (lit< tt)

either_fits : (b : Bool) (x y : Option ℕ) → word_or_zero x < 2 ^ 64 → word_or_zero y < 2 ^ 64 → word_or_zero (cond b x y) < 2 ^ 64
either_fits true x y h g = h
either_fits false x y h g = g

unsigned_fits : (negative : Bool) (text : List ℕ) → word_or_zero (unsigned_value negative text) < 2 ^ 64
unsigned_fits negative [] = decimal_fits negative []
unsigned_fits negative (first ∷ []) = decimal_fits negative (first ∷ [])
unsigned_fits negative (first ∷ letter ∷ digits) =
    either_fits (letter == 120) _ _ (based_fits 16 negative digits)
    (either_fits (letter == 111) _ _ (based_fits 8 negative digits)
    (either_fits (letter == 98) _ _ (based_fits 2 negative digits) (decimal_fits negative (first ∷ letter ∷ digits))))

pub integer_fits : (text : List ℕ) → word_or_zero (integer_value text) < 2 ^ 64
integer_fits [] = lit< tt
integer_fits (b ∷ bs) = either_fits (b == 45) _ _ (unsigned_fits true bs) (unsigned_fits false (b ∷ bs))

if_some : (o : Option ℕ) → word_or_zero o < 2 ^ 64 → WordFits o
if_some None h = tt
if_some (Some w) h = h

pub word_fits_if : (text : List ℕ) → WordFits (integer_value text)
word_fits_if text = if_some (integer_value text) (integer_fits text)
