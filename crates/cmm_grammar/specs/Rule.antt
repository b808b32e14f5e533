-- Rules of a grammar: what comes one after the other, and what it gives.
--
-- The grammar is data, which a relation (`Spells`) and a reading from left to right (`reads`) both
-- interpret. So each law is proved once, for all rules, and not once for each production.
use Rattle.std.specs.Prelude.{ℕ, Bool, List, Option}
use Rattle.cmm_lex.specs.Token.{TokenTree}
use Rattle.cmm_tree.specs.Tree.{Expression, Parameter, Declaration, Index, DatumTree, DataItemTree}
use Rattle.cmm_grammar.specs.Parts.{ResultPart, BindingPart, CasePart, HandlerPart, HeadPart, ItemPart}
use Rattle.cmm_grammar.specs.declared.word.Head.{Head}
use Rattle.cmm_grammar.specs.declared.word.ChunkWord.{ChunkWord}
use Rattle.cmm_grammar.specs.declared.word.Width.{Width}
use Rattle.cmm_grammar.specs.declared.word.DataWord.{DataWord}

-- The sorts of values that rules give.
pub data Sort : Type 0 where
  AToken : Sort
  AnExpression : Sort
  AParameter : Sort
  ADeclaration : Sort
  AResult : Sort
  ABinding : Sort
  AnIndex : Sort
  ACase : Sort
  AHandler : Sort
  ALabel : Sort
  AHead : Sort
  AChunkWord : Sort
  AWidth : Sort
  ADataWord : Sort
  ADatum : Sort
  ADataItem : Sort
  AnItem : Sort
  Listed : (s : Sort) → Sort
  Both : (s t : Sort) → Sort

abbrev pub Value : Sort → Type 0
Value AToken = TokenTree
Value AnExpression = Expression
Value AParameter = Parameter
Value ADeclaration = Declaration
Value AResult = ResultPart
Value ABinding = BindingPart
Value AnIndex = Index
Value ACase = CasePart
Value AHandler = HandlerPart
Value ALabel = HeadPart
Value AHead = Head
Value AChunkWord = ChunkWord
Value AWidth = Width
Value ADataWord = DataWord
Value ADatum = DatumTree
Value ADataItem = DataItemTree
Value AnItem = ItemPart
Value (Listed s) = List (Value s)
Value (Both s t) = Value s × Value t

pub data Rule : Sort → Type 0 where
  -- nothing, which gives this value
  Give : (s : Sort) → Value s → Rule s
  -- one token, which gives a value
  One : (s : Sort) → (TokenTree → Option (Value s)) → Rule s
  -- one rule, then another by the value of the first
  Then : (s t : Sort) → Rule s → (Value s → Rule t) → Rule t
  -- an expression
  Expr : Rule AnExpression
  -- a parenthesis that opens at some place, and what it holds, the parenthesis that closes it included
  Inside : (s : Sort) → (ℕ → Rule s) → Rule s
  -- the same and what follows it, or, where the next token opens no parenthesis, another rule
  InsideOr : (s t : Sort) → (ℕ → Rule s) → (Value s → Rule t) → Rule t → Rule t
  -- the same, where a name follows the parenthesis, or else an expression and what follows that
  LabelledOr : (s t : Sort)
      → (TokenTree → Rule s)
      → (Value s → Rule t)
      → (Expression → Rule t)
      → Rule t
  -- any number, up to a token that passes the test, which begins the rest
  Until : (s t : Sort) → (TokenTree → Bool) → Rule s → (List (Value s) → Rule t) → Rule t
  -- a token that gives a value, if the next one does, and the rest by that
  Maybe : (s t : Sort) → (TokenTree → Option (Value s)) → (Option (Value s) → Rule t) → Rule t
  -- at least one, up to the first whose value says that no other follows
  Repeat : (s : Sort) → (Value s → Bool) → Rule s → Rule (Listed s)

infixl 10 ◌>>=◌ ◌>>◌
abbrev pub ◌>>=◌ : {s t : Sort} → Rule s → (Value s → Rule t) → Rule t
◌>>=◌ {s} {t} r k = Then s t r k

abbrev pub ◌>>◌ : {s t : Sort} → Rule s → Rule t → Rule t
◌>>◌ {s} {t} r q = Then s t r (λ _. q)

abbrev pub give : {s : Sort} → Value s → Rule s
give {s} a = Give s a

abbrev pub inside_or : {s t : Sort} → (ℕ → Rule s) → (Value s → Rule t) → Rule t → Rule t
inside_or {s} {t} r k other = InsideOr s t r k other

abbrev pub labelled_or : {s t : Sort} → (TokenTree → Rule s) → (Value s → Rule t) → (Expression → Rule t) → Rule t
labelled_or {s} {t} r k other = LabelledOr s t r k other

abbrev pub maybe : {t : Sort} → (s : Sort) → (TokenTree → Option (Value s)) → (Option (Value s) → Rule t) → Rule t
maybe {t} s f k = Maybe s t f k

abbrev pub until : {s t : Sort} → (TokenTree → Bool) → Rule s → (List (Value s) → Rule t) → Rule t
until {s} {t} stop r k = Until s t stop r k

abbrev pub repeat : {s : Sort} → (Value s → Bool) → Rule s → Rule (Listed s)
repeat {s} more r = Repeat s more r
