-- How long generated texts are.
use Rattle.std.proofs.Common.{ℕ, ◌+◌, ◌*◌, ◌≤◌, ◌<◌, suc, zero, Bool, true, false, List, length, arith, length-append}
use Rattle.cmm_gen.specs.Drawn.{Drawn, drawn_text, number_text, variable_name, DrawnFunction, body_text, function_text}
use Rattle.cmm_gen.proofs.Within.{IsWithin, number, variable, sum, difference, product, choice, cell, attempt}
use Rattle.cmm_gen.proofs.LexedNumerals.{number-is, symbol-is}

-- the most bytes of an expression in which forms nest so deep
abbrev pub most_bytes_in : ℕ → ℕ
most_bytes_in zero = 4
most_bytes_in (suc n) = 35 + 4 * most_bytes_in n

some-bytes : (n : ℕ) (text : List ℕ) → length text ≤ 4 → length text ≤ most_bytes_in n
some-bytes zero text h = h
some-bytes (suc n) text h = omega arith

variable-short : (even : Bool) → length (variable_name even) ≤ 4
variable-short true = omega arith
variable-short false = omega arith

pub drawn-short : (n : ℕ) (e : Drawn) → IsWithin n e → length (drawn_text e) ≤ most_bytes_in n
drawn-short n e (number _ draw h) = some-bytes n (number_text draw) (number-is draw h).short
drawn-short n e (variable _ even) = some-bytes n (variable_name even) (variable-short even)
drawn-short _ e (sum n a b h g) =
    let x = drawn-short n a h in
    let y = drawn-short n b g in
    simp length-append (omega arith)
drawn-short _ e (difference n a b h g) =
    let x = drawn-short n a h in
    let y = drawn-short n b g in
    simp length-append (omega arith)
drawn-short _ e (product n a b h g) =
    let x = drawn-short n a h in
    let y = drawn-short n b g in
    simp length-append (omega arith)
drawn-short _ e (choice n a b c d h g i j) =
    let x = drawn-short n a h in
    let y = drawn-short n b g in
    let z = drawn-short n c i in
    let w = drawn-short n d j in
    simp length-append (omega arith)
drawn-short _ e (cell n a b h g) =
    let x = drawn-short n a h in
    let y = drawn-short n b g in
    simp length-append (omega arith)
drawn-short _ e (attempt n a b c d h g i j) =
    let x = drawn-short n a h in
    let y = drawn-short n b g in
    let z = drawn-short n c i in
    let w = drawn-short n d j in
    simp length-append (omega arith)

-- the most bytes of a line
abbrev pub most_of_line : ℕ
most_of_line = 3100

body-short : (j : ℕ) (b : Drawn) → j < 1000 → IsWithin 3 b → length (body_text j b) ≤ 25 + 4 + most_bytes_in 3
body-short zero b small h = let x = drawn-short 3 b h in omega arith
body-short (suc i) b small h =
    let x = drawn-short 3 b h in
    let y = (symbol-is i (omega arith)).short in
    simp length-append (omega arith)

pub line-short : (j : ℕ) (f : DrawnFunction) → j < 1000 → IsWithin 3 f.p → IsWithin 3 f.q → IsWithin 3 f.b → length (function_text j f) ≤ most_of_line
line-short j f small p q b =
    let x = drawn-short 3 f.p p in
    let y = drawn-short 3 f.q q in
    let z = body-short j f.b small b in
    let w = (symbol-is j small).short in
    simp length-append (omega arith)
