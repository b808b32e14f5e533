-- Numbers past 64 bits.
use Rattle.std.proofs.Common.{◌≡◌, ℕ, ◌+◌, ◌-◌, ◌*◌, ◌^◌, ◌≤◌, ◌<◌, suc, zero, Bool, true, false, cond, nat_le, List, [], ◌∷◌, Some, None, refl, sym, ap, ◌∙◌, arith}
use Rattle.std.proofs.Math.Nat.{suc-mul}
use Rattle.std.proofs.lemmas.Bool.{lt-leb, leb-false, cond-false}
use Rattle.std.specs.Char.{is_ascii_digit}
use Rattle.cmm_lex.specs.Integers.{digit_value, number_after, decimal_digits}
use Rattle.cmm_lex.specs.Scanning.{if_fits, number_in_base, decimal_of, digit_onto}

-- more digits make no smaller number
number-grows : (b n : ℕ) (digits : List ℕ) → n ≤ number_after (suc b) n digits
number-grows b n [] = omega arith
number-grows b n (d ∷ ds) =
    let more = number-grows b (suc b * n + digit_value d) ds in
    let mul = suc-mul b n in
    omega arith

pub fits-none : (n : ℕ) → if_fits n ≡ None → 2 ^ 64 - 1 < n
fits-none n e = at_test (nat_le n (2 ^ 64 - 1)) refl e
  where
    at_test : (t : Bool) → nat_le n (2 ^ 64 - 1) ≡ t → cond t (Some n) None ≡ None → 2 ^ 64 - 1 < n
    at_test true is e = cc
    at_test false is e = leb-false n (2 ^ 64 - 1) is

pub over-none : (n m : ℕ) → 2 ^ 64 - 1 < n → n ≤ m → None ≡ if_fits m
over-none n m large more =
    let over : 2 ^ 64 - 1 < m = omega arith in
    sym (cond-false _ _ _ (lt-leb m (2 ^ 64 - 1) over))

pub number-over : (base n d : ℕ) (rest tail digits : List ℕ)
    → 1 ≤ base
    → number_after base n rest ≡ number_after base 0 digits
    → rest ≡ d ∷ tail
    → digit_onto base n d ≡ None
    → None ≡ number_in_base base digits
number-over zero n d rest tail digits some same front none = absurd (omega arith)
number-over (suc b) n d rest tail digits some same front none =
    let grows = number-grows b (suc b * n + digit_value d) tail in
    let is : number_after (suc b) (suc b * n + digit_value d) tail ≡ number_after (suc b) 0 digits =
    ap (number_after (suc b) n) (sym front) ∙ same
    in
    over-none (suc b * n + digit_value d) (number_after (suc b) 0 digits) (fits-none (suc b * n + digit_value d) none) (omega arith)

pub decimal-over : (n d : ℕ) (rest tail text : List ℕ)
    → number_after 10 n (decimal_digits rest) ≡ number_after 10 0 (decimal_digits text)
    → rest ≡ d ∷ tail
    → is_ascii_digit d ≡ true
    → digit_onto 10 n d ≡ None
    → None ≡ decimal_of text
decimal-over n d rest tail text same front digit none =
    let one : decimal_digits rest ≡ d ∷ decimal_digits tail = ap decimal_digits front ∙ rw digit refl in
    number-over 10 n d (decimal_digits rest) (decimal_digits tail) (decimal_digits text) (omega arith) same one none
