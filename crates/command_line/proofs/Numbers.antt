-- Decimal digits and the numbers that they write.
use Rattle.std.proofs.Common.{◌≡◌, ℕ, ◌+◌, ◌-◌, ◌*◌, ◌<◌, ◌≤◌, List, [], ◌∷◌, fold, length, take, drop, get_or, ap, arith}
use Rattle.std.proofs.lemmas.List.{take-append-drop}
use Rattle.std.proofs.lemmas.List.Elements.{All-get_or}
use Rattle.std.proofs.lemmas.List.Sums.{fold_more, fold-append}
use Rattle.command_line.specs.Values.{decimal_number, IsNumber}

abbrev next : ℕ → ℕ → ℕ
next n digit = 10 * n + (digit - 48)

-- more digits write no smaller number
fold-grows : (n : ℕ) (digits : List ℕ) → n ≤ fold next n digits
fold-grows n [] = omega arith
fold-grows n (d ∷ ds) = omega (arith, fold-grows (next n d) ds)

pub number_of-more : (digits : List ℕ) (i : ℕ) → i < length digits
    → decimal_number (take (i + 1) digits) ≡ 10 * decimal_number (take i digits) + (get_or digits i 0 - 48)
number_of-more digits i h = fold_more next 0 digits i 0 h

number_of-take : (digits : List ℕ) (i : ℕ) → decimal_number (take i digits) ≤ decimal_number digits
number_of-take digits i =
    let e = fold-append next 0 (take i digits) (drop i digits) in
    let whole = ap decimal_number (take-append-drop i digits) in
    omega (arith, fold-grows (decimal_number (take i digits)) (drop i digits), e, whole)

-- no number is within the limit once the digits so far write one past it
pub past_limit : (digits : List ℕ) (i limit : ℕ) → i < length digits
    → limit < 10 * decimal_number (take i digits) + (get_or digits i 0 - 48)
    → (n : ℕ) → IsNumber digits n → limit < n
past_limit digits i limit h past n is =
    let e = number_of-more digits i h in
    let v = is.value in
    omega (arith, number_of-take digits (i + 1))

pub not_digit : (digits : List ℕ) (i limit : ℕ) → i < length digits
    → ((48 ≤ get_or digits i 0) → (get_or digits i 0 ≤ 57) → ⊥)
    → (n : ℕ) → IsNumber digits n → limit < n
not_digit digits i limit h not n is =
    let d = All-get_or (λ b. (48 ≤ b) × (b ≤ 57)) digits i 0 h is.digits in absurd (not d.0 d.1)
