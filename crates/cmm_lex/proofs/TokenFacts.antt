-- What holds of the tokens that a text is cut into.
use Rattle.std.proofs.Common.{◌≡◌, ℕ, ◌+◌, ◌≤◌, List, [], ◌∷◌, ◌++◌, length, Option, subst, arith, length-append}
use Rattle.bs_fault.specs.declared.fault.Fault.{Fault}
use Rattle.cmm_lex.specs.declared.token.TokenKind.TheVariants as kind
use Rattle.cmm_lex.specs.declared.token.Keyword.{Keyword}
use Rattle.cmm_lex.specs.declared.token.Sign.{Sign}
use Rattle.cmm_lex.specs.Lexing.{Splits, gap, token, stopped, ended}
use Rattle.cmm_lex.specs.Token.{TokenTree}
use Rattle.cmm_lex.specs.Tokens.{keyword_text, sign_text, IsToken, is_keyword, is_sign}
use Rattle.cmm_lex.proofs.Places.{token-some}

-- ---- spellings

pub keyword-spelled : (k : Keyword) (text : List ℕ) → IsToken (kind.Keyword k) text → text ≡ keyword_text k
keyword-spelled k text (is_keyword w t e) = e

pub sign-spelled : (s : Sign) (text : List ℕ) → IsToken (kind.Sign s) text → text ≡ sign_text s
sign-spelled s text (is_sign u t e) = e

-- ---- places

-- tokens that come one after the other between two places, each with a byte at least
pub data Rising (last : ℕ) : ℕ → List TokenTree → Type 0 where
  none : (first : ℕ) → first ≤ last → Rising last first []
  one : (first : ℕ) (t : TokenTree) (ts : List TokenTree)
      → first ≤ t.at
      → 1 ≤ length t.text
      → IsToken t.kind t.text
      → Rising last (t.at + length t.text) ts
      → Rising last first (t ∷ ts)

rising-from : (last first lower : ℕ) (ts : List TokenTree) → lower ≤ first → Rising last first ts → Rising last lower ts
rising-from last first lower ts low (none f within) = none lower (omega arith)
rising-from last first lower ts low (one f t us from some is rest) = one lower t us (omega arith) some is rest

-- the tokens of a text are tokens, are in it, and their places rise
pub splits-rise : (at : ℕ) (bytes : List ℕ) (ts : List TokenTree) (f : Option Fault) → Splits at bytes ts f → Rising (at + length bytes) at ts
splits-rise at bytes ts f (ended a) = none at (omega arith)
splits-rise at bytes ts f (gap a text rest tokens g is s) =
    let h = splits-rise (a + length text) rest tokens g s in
    let size : a + length text + length rest ≡ a + length (text ++ rest) = omega (arith, length-append text rest) in
    rising-from _ (a + length text) a tokens (omega arith) (subst (λ (m : ℕ). Rising m (a + length text) tokens) size h)
splits-rise at bytes ts f (token a k text rest tokens g is longest alone s) =
    let h = splits-rise (a + length text) rest tokens g s in
    let size : a + length text + length rest ≡ a + length (text ++ rest) = omega (arith, length-append text rest) in
    one a (record { at = a; kind = k; text = text }) tokens (omega arith) (token-some k text is) is
    (subst (λ (m : ℕ). Rising m (a + length text) tokens) size h)
splits-rise at bytes ts f (stopped a bs fault is) = none at (omega arith)
