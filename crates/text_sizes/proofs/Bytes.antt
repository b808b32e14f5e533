-- Tokens have no more bytes than their text, each has one, and a string stands for no more bytes than it has.
use Rattle.std.proofs.Common.{◌≡◌, ℕ, suc, ◌+◌, ◌≤◌, max, Bool, true, false, cond, List, [], ◌∷◌, ◌++◌, length, Option, length-append, arith}
use Rattle.std.specs.Prelude.{◌==◌}
use Rattle.bs_fault.specs.declared.fault.Fault.{Fault}
use Rattle.cmm_lex.specs.Token.{TokenTree}
use Rattle.cmm_lex.specs.Lexing.{Splits, ended, gap, token, stopped}
use Rattle.cmm_lex.specs.Strings.{is_code, coded, escaped, unescaped, behind_backslash, string_bytes}
use Rattle.cmm_lex.proofs.Places.{token-some}

pub weight : TokenTree → ℕ
weight t = max 1 (length t.text)

pub weight_some : (t : TokenTree) → 1 ≤ weight t
unfolding weight
weight_some t = omega arith

pub weight_text : (t : TokenTree) → length t.text ≤ weight t
unfolding weight
weight_text t = omega arith

abbrev pub weights : List TokenTree → ℕ
weights [] = 0
weights (t ∷ ts) = weight t + weights ts

pub weights_append : (xs ys : List TokenTree) → weights (xs ++ ys) ≡ weights xs + weights ys
weights_append [] ys = omega arith
weights_append (x ∷ xs) ys = let others = weights_append xs ys in omega (arith, others)

pub weights_count : (xs : List TokenTree) → length xs ≤ weights xs
weights_count [] = omega arith
weights_count (x ∷ xs) = let others = weights_count xs in let some = weight_some x in omega (arith, others, some)

-- tokens are cut out of their text
pub weights_fit : (at : ℕ) (text : List ℕ) (tokens : List TokenTree) (fault : Option Fault) → Splits at text tokens fault → weights tokens ≤ length text
unfolding weight
weights_fit _ _ _ _ (ended at) = omega arith
weights_fit _ _ _ _ (gap at text rest tokens fault is further) =
    let others = weights_fit _ rest tokens fault further in
    omega (arith, others, length-append text rest)
weights_fit _ _ _ _ (token at k text rest tokens fault is long no' further) =
    let others = weights_fit _ rest tokens fault further in
    let some = token-some k text is in
    omega (arith, others, some, length-append text rest)
weights_fit _ _ _ _ (stopped at bytes fault is) = omega arith

-- ---- strings

shorter_if : (t : Bool) (x y : List ℕ) (n : ℕ) → length x ≤ n → length y ≤ n → length (cond t x y) ≤ n
shorter_if true x y n p q = p
shorter_if false x y n p q = q

mutual
  unescaped_short : (bs : List ℕ) → length (unescaped bs) ≤ length bs
  unescaped_short [] = omega arith
  unescaped_short (b ∷ bs) =
      let plain = unescaped_short bs in
      let behind = behind_short bs in
      shorter_if (b == 34) [] _ (suc (length bs)) (omega arith)
      (shorter_if (b == 92) (behind_backslash bs) (b ∷ unescaped bs) (suc (length bs)) (omega (arith, behind)) (omega (arith, plain)))

  behind_short : (bs : List ℕ) → length (behind_backslash bs) ≤ length bs
  behind_short (a ∷ b ∷ c ∷ bs) =
      let far = unescaped_short bs in
      let near = unescaped_short (b ∷ c ∷ bs) in
      shorter_if (is_code a b c) (coded a b c ∷ unescaped bs) (escaped a ∷ unescaped (b ∷ c ∷ bs)) (suc (suc (suc (length bs)))) (omega (arith, far))
      (omega (arith, near))
  behind_short (a ∷ []) = omega arith
  behind_short (a ∷ b ∷ []) = let near = unescaped_short (b ∷ []) in omega (arith, near)
  behind_short [] = omega arith

pub string_short : (text : List ℕ) → length (string_bytes text) ≤ length text
string_short [] = omega arith
string_short (b ∷ bs) = let inside = unescaped_short bs in omega (arith, inside)
