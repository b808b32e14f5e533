-- How a text is cut into tokens, and where it is not.
use Rattle.std.specs.Prelude.{◌≡◌, ℕ, ◌+◌, Bool, true, false, cond, List, [], ◌∷◌, ◌++◌, length, map, Contains, Option, Some, None}
use Rattle.bs_words.specs.Contents.{contents}
use Rattle.bs_fault.specs.declared.fault.Fault.{Fault}
use Rattle.bs_fault.specs.declared.fault.Fault.TheVariants.{BadToken, Unclosed, IntRange}
use Rattle.cmm_lex.specs.declared.lexer.Lexed as declared
use Rattle.cmm_lex.specs.declared.token.Token.{Token}
use Rattle.cmm_lex.specs.declared.token.TokenKind.{TokenKind}
use Rattle.cmm_lex.specs.declared.token.TokenKind.TheVariants as kind
use Rattle.cmm_lex.specs.Enclosed.{BeginsWith, Enclosed, AString, AComment, Braces, opening, Ends}
use Rattle.cmm_lex.specs.Integers.{integer_value}
use Rattle.cmm_lex.specs.Token.{TokenTree, token_view}
use Rattle.cmm_lex.specs.Strings.{BadEscape}
use Rattle.cmm_lex.specs.Tokens.{IsToken, Longest}

-- space, tab, line feed, form feed, carriage return
abbrev pub separators : List ℕ
separators = 32 ∷ 9 ∷ 10 ∷ 12 ∷ 13 ∷ []

-- These bytes separate tokens: a separator, a comment, or a text from `{` to the next `}`.
pub data IsGap : List ℕ → Type 0 where
  separator : (b : ℕ) → Contains separators b → IsGap (b ∷ [])
  comment : (inside : List ℕ) → Ends AComment inside → IsGap (opening AComment ++ inside)
  in_braces : (inside : List ℕ) → Ends Braces inside → IsGap (opening Braces ++ inside)

-- The fault that is at the front of bytes, which are at this place of the text.
pub data IsFault : ℕ → List ℕ → Fault → Type 0 where
  -- no token begins here, and nothing else does
  no_token : (at b : ℕ) (bytes : List ℕ)
      → (Contains separators b → ⊥)
      → ((e : Enclosed) → BeginsWith (b ∷ bytes) (opening e) → ⊥)
      → ((k : TokenKind) (text : List ℕ) → IsToken k text → BeginsWith (b ∷ bytes) text → ⊥)
      → IsFault at (b ∷ bytes) (BadToken at)
  -- a string is closed, and has a backslash that begins no escape
  bad_escape : (at offset : ℕ) (inside rest : List ℕ)
      → Ends AString inside
      → BadEscape offset inside
      → IsFault at (opening AString ++ (inside ++ rest)) (BadToken (at + 1 + offset))
  -- a string, a comment or a text in braces does not end
  unclosed : (at : ℕ) (e : Enclosed) (bytes : List ℕ)
      → ((inside : List ℕ) → Ends e inside → BeginsWith bytes inside → ⊥)
      → IsFault at (opening e ++ bytes) (Unclosed at)

-- ---- the whole text

-- Bytes that are at this place of a text, cut into tokens, each the longest that fits, up to their end
-- or to the first fault.
pub data Splits : ℕ → List ℕ → List TokenTree → Option Fault → Type 0 where
  ended : (at : ℕ) → Splits at [] [] None
  gap : (at : ℕ) (text rest : List ℕ) (tokens : List TokenTree) (fault : Option Fault)
      → IsGap text
      → Splits (at + length text) rest tokens fault
      → Splits at (text ++ rest) tokens fault
  token : (at : ℕ) (k : TokenKind) (text rest : List ℕ) (tokens : List TokenTree) (fault : Option Fault)
      → IsToken k text
      → Longest (length text) (text ++ rest)
      → (BeginsWith (text ++ rest) (opening AComment) → ⊥)
      → Splits (at + length text) rest tokens fault
      → Splits at (text ++ rest) (record { at = at; kind = k; text = text } ∷ tokens) fault
  stopped : (at : ℕ) (bytes : List ℕ) (fault : Fault) → IsFault at bytes fault → Splits at bytes [] (Some fault)

-- ---- integers out of range

abbrev pub none_of : Option ℕ → Bool
none_of None = true
none_of (Some w) = false

-- an integer or a pointer that is out of range
abbrev pub is_out_of_range : TokenKind → List ℕ → Bool
is_out_of_range kind.Integer text = none_of (integer_value text)
is_out_of_range kind.Pointer text = none_of (integer_value text)
is_out_of_range _ text = false

-- the first integer out of range
abbrev pub first_range : List TokenTree → Option Fault
first_range [] = None
first_range (t ∷ ts) = cond (is_out_of_range t.kind t.text) (Some (IntRange t.at)) (first_range ts)

-- the place after the last byte of a token
abbrev pub end_of : TokenTree → ℕ
end_of t = t.at + length t.text

-- What the lexer reports of a text.
pub record IsLexed (text : List ℕ) (lexed : declared.Lexed) : Type 0 where
  pub cut : Splits 0 text (map (token_view text) (contents lexed.tokens)) lexed.fault
  -- each token ends where its bytes end
  pub ends : map (λ (t : Token). t.end) (contents lexed.tokens) ≡ map end_of (map (token_view text) (contents lexed.tokens))
  pub range : lexed.range ≡ first_range (map (token_view text) (contents lexed.tokens))
