-- The words of copies and of code that is put together, and the exits of code that has one more instruction.
use Rattle.std.proofs.Common.{◌≡◌, ℕ, suc, ◌+◌, ◌≤◌, Bool, true, false, cond, List, [], ◌∷◌, ◌++◌, arith}
use Rattle.mach_ir.specs.declared.mach.Instr.{Instr}
use Rattle.pass_rules.specs.Measures.{copy_words, code_words}

-- A copy from a place to itself has none.
pub at_most_copy : (b : Bool) → cond b 0 copy_words ≤ copy_words
at_most_copy true = omega arith
at_most_copy false = omega arith

pub words_append : (xs ys : List Instr) → code_words (xs ++ ys) ≡ code_words xs + code_words ys
words_append [] ys = omega arith
words_append (x ∷ xs) ys = let e : code_words (xs ++ ys) ≡ code_words xs + code_words ys = words_append xs ys in omega (arith, e)

-- what is a sum over instructions
pub both_sum : (M : List Instr → ℕ) (one : Instr → ℕ) → M [] ≡ 0 → ((i : Instr) (is : List Instr) → M (i ∷ is) ≡ one i + M is) →
    (xs ys : List Instr) → M (xs ++ ys) ≡ M xs + M ys
both_sum M one none more [] ys = let e = none in omega (arith, e)
both_sum M one none more (x ∷ xs) ys =
    let e = more x (xs ++ ys) in
    let h = more x xs in
    let ih = both_sum M one none more xs ys in omega (arith, e, h, ih)

pub exits_both : (b : Bool) (n k : ℕ) → n ≤ k → cond b (suc n) n ≤ cond b (suc k) k
exits_both true n k le = omega (arith, le)
exits_both false n k le = le
