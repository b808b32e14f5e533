-- Tokens, as definitions see them: with their text.
use Rattle.std.specs.Prelude.{ℕ, List, ◌-◌, take, drop}
use Rattle.cmm_lex.specs.declared.token.TokenKind.{TokenKind}
use Rattle.cmm_lex.specs.declared.token.Token as declared

-- A token of a text.
pub record TokenTree : Type 0 where
  -- the place of its first byte, in bytes from the start of the text
  pub at : ℕ
  pub kind : TokenKind
  pub text : List ℕ

-- the token that a value of the code stands for, in this source
abbrev pub token_view : List ℕ → declared.Token → TokenTree
token_view source t = record { at = t.at; kind = t.kind; text = take (t.end - t.at) (drop t.at source) }
