-- What the lexer's own functions give. The definitions of a text's tokens do not rest on this.
use Rattle.std.specs.Prelude.{◌≡◌, ℕ, ◌+◌, ◌-◌, ◌*◌, ◌^◌, Bool, false, cond, not, ◌&&◌, ◌||◌, ◌==◌, nat_le, List, [], ◌∷◌, ◌++◌, length, Option, Some, None, is_some, option_map, unwrap_or, map, find, codes, bytes_eq, suc, zero}
use Rattle.bs_fault.specs.declared.fault.Fault.{Fault}
use Rattle.bs_fault.specs.declared.fault.Fault.TheVariants.{BadToken, Unclosed, IntRange}
use denote.Ref.{Bor}
use Rattle.cmm_lex.specs.declared.front.Front.{Front}
use Rattle.cmm_lex.specs.declared.front.Front.TheVariants as front
use Rattle.cmm_lex.specs.declared.front.Opening.{Opening}
use Rattle.cmm_lex.specs.declared.front.Opening.TheVariants.{Separator, Quote, Brace, Comment, Other}
use Rattle.bs_words.specs.declared.operators.CmpOp.TheVariants as cmp
use Rattle.bs_words.specs.declared.operators.IntOp.TheVariants as op
use Rattle.cmm_lex.specs.declared.state.Shape.{Shape}
use Rattle.cmm_lex.specs.declared.state.Shape.TheVariants as shape
use Rattle.cmm_lex.specs.declared.token.TokenKind.{TokenKind}
use Rattle.cmm_lex.specs.declared.token.TokenKind.TheVariants as kind
use Rattle.cmm_lex.specs.declared.token.Keyword.TheVariants as word
use Rattle.cmm_lex.specs.declared.token.Sign.TheVariants as sign
use Rattle.cmm_lex.specs.Integers.{digit_value, number_after, decimal_digits}
use Rattle.cmm_lex.specs.Enclosed.{BeginsWith, AComment, opening}
use Rattle.cmm_lex.specs.Lexing.{IsGap, IsFault, is_out_of_range}
use Rattle.cmm_lex.specs.Strings.{coded, is_code, escaped, IsInside}
use Rattle.cmm_lex.specs.Tokens.{IsToken, Longest}

-- the bytes after a string's closing quote
abbrev pub behind_string : List ℕ → Option (List ℕ)
behind_string [] = None
behind_string (b ∷ []) = cond (b == 34) (Some []) None
behind_string (b ∷ c ∷ bs) = cond (b == 34) (Some (c ∷ bs)) (cond (b == 92) (behind_string bs) (behind_string (c ∷ bs)))

-- the bytes after so many open comments
abbrev pub behind_comments : ℕ → List ℕ → Option (List ℕ)
behind_comments zero bytes = Some bytes
behind_comments (suc n) [] = None
behind_comments (suc n) (b ∷ []) = None
behind_comments (suc n) (b ∷ c ∷ bs) =
    cond (b == 40 && c == 42) (behind_comments (suc (suc n)) bs)
    (cond (b == 42 && c == 41) (behind_comments n bs) (behind_comments (suc n) (c ∷ bs)))

-- the bytes after the next `}`
abbrev pub behind_braces : List ℕ → Option (List ℕ)
behind_braces [] = None
behind_braces (b ∷ bs) = cond (b == 125) (Some bs) (behind_braces bs)

-- the slice that an option holds
abbrev pub slice_of : Option (Bor (List ℕ)) → Option (List ℕ)
slice_of None = None
slice_of (Some s) = Some s.now

abbrev pub step_of : Option (ℕ × Bor (List ℕ)) → Option (ℕ × List ℕ)
step_of None = None
step_of (Some p) = Some (p.0, p.1.now)

-- one step inside so many open comments
abbrev pub comment_step : ℕ → List ℕ → Option (ℕ × List ℕ)
comment_step n [] = None
comment_step n (b ∷ []) = Some (n, [])
comment_step n (b ∷ c ∷ bs) =
    cond (b == 40 && c == 42) (Some (n + 1, bs)) (cond (b == 42 && c == 41) (Some (n - 1, bs)) (Some (n, c ∷ bs)))

-- the byte of three decimal digits up to 255, and the bytes after them
abbrev pub code_of : List ℕ → Option (ℕ × List ℕ)
code_of (a ∷ b ∷ c ∷ bs) = cond (is_code a b c) (Some (coded a b c, bs)) None
code_of _ = None

-- the byte of an escape whose backslash is before, and the bytes after it
abbrev pub first_unescaped : List ℕ → Option (ℕ × List ℕ)
first_unescaped [] = None
first_unescaped (a ∷ []) = Some (escaped a, [])
first_unescaped (a ∷ b ∷ []) = Some (escaped a, b ∷ [])
first_unescaped (a ∷ b ∷ c ∷ bs) = cond (is_code a b c) (Some (coded a b c, bs)) (Some (escaped a, b ∷ c ∷ bs))

abbrev pub is_letter_escape : ℕ → Bool
is_letter_escape b = (b == 92) || ((b == 34) || ((b == 110) || ((b == 116) || ((b == 114) || (b == 98)))))

-- a backslash before these bytes begins an escape
abbrev pub begins_escape : List ℕ → Bool
begins_escape [] = false
begins_escape (a ∷ bs) = is_letter_escape a || is_some (code_of (a ∷ bs))

-- a backslash that begins no escape
abbrev pub is_bad : List ℕ → Bool
is_bad [] = false
is_bad (b ∷ bs) = (b == 92) && not (begins_escape bs)

-- the byte that a string goes on with, and the bytes after it
abbrev pub next_byte : List ℕ → Option (ℕ × List ℕ)
next_byte [] = None
next_byte (b ∷ bs) = cond (b == 34) None (cond (b == 92) (first_unescaped bs) (Some (b, bs)))

-- plain bytes and escapes, the closing quote, and this tail
pub record Fine (bytes tail : List ℕ) : Type 0 where
  pub inside : List ℕ
  pub whole : bytes ≡ inside ++ tail
  pub good : IsInside inside

-- where the string is closed, it has no bad escape
abbrev pub IsFine : List ℕ → Type 0
IsFine bytes = (tail : List ℕ) → behind_string bytes ≡ Some tail → Fine bytes tail

-- the kind of the first entry that is spelled so
abbrev pub find_spelled : List (List ℕ × TokenKind) → List ℕ → Option TokenKind
find_spelled table text =
    option_map (λ (e : List ℕ × TokenKind). e.1) (find (λ (e : List ℕ × TokenKind). bytes_eq e.0 text) table)

-- the entries of a table that is lent
abbrev pub entries_of : List (Bor (List ℕ) × TokenKind) → List (List ℕ × TokenKind)
entries_of table = map (λ (e : Bor (List ℕ) × TokenKind). (e.0.now, e.1)) table

abbrev pub keyword_table : List (List ℕ × TokenKind)
keyword_table =
    (codes "function", kind.Keyword word.Function) ∷
    (codes "int", kind.Keyword word.Int) ∷
    (codes "val", kind.Keyword word.Val) ∷
    (codes "addr", kind.Keyword word.Addr) ∷
    (codes "float", kind.Keyword word.Float) ∷
    (codes "unit", kind.Keyword word.Unit) ∷
    (codes "let", kind.Keyword word.Let) ∷
    (codes "letmut", kind.Keyword word.Letmut) ∷
    (codes "assign", kind.Keyword word.Assign) ∷
    (codes "app", kind.Keyword word.App) ∷
    (codes "extcall", kind.Keyword word.Extcall) ∷
    (codes "alloc", kind.Keyword word.Alloc) ∷
    (codes "load", kind.Keyword word.Load) ∷
    (codes "store", kind.Keyword word.Store) ∷
    (codes "checkbound", kind.Keyword word.Checkbound) ∷
    (codes "intaref", kind.Keyword word.Intaref) ∷
    (codes "addraref", kind.Keyword word.Addraref) ∷
    (codes "intaset", kind.Keyword word.Intaset) ∷
    (codes "addraset", kind.Keyword word.Addraset) ∷
    (codes "mod", kind.Keyword word.Mod) ∷
    (codes "mulh", kind.Keyword word.Mulh) ∷
    (codes "and", kind.Keyword word.And) ∷
    (codes "or", kind.Keyword word.Or) ∷
    (codes "xor", kind.Keyword word.Xor) ∷
    (codes "raise", kind.Keyword word.Raise) ∷
    (codes "reraise", kind.Keyword word.Reraise) ∷
    (codes "raise_notrace", kind.Keyword word.RaiseNotrace) ∷
    (codes "seq", kind.Keyword word.Seq) ∷
    (codes "if", kind.Keyword word.If) ∷
    (codes "switch", kind.Keyword word.Switch) ∷
    (codes "case", kind.Keyword word.Case) ∷
    (codes "while", kind.Keyword word.While) ∷
    (codes "catch", kind.Keyword word.Catch) ∷
    (codes "with", kind.Keyword word.With) ∷
    (codes "exit", kind.Keyword word.Exit) ∷
    (codes "try", kind.Keyword word.Try) ∷
    (codes "absf", kind.Keyword word.Absf) ∷
    (codes "floatofint", kind.Keyword word.Floatofint) ∷
    (codes "intoffloat", kind.Keyword word.Intoffloat) ∷
    (codes "floataref", kind.Keyword word.Floataref) ∷
    (codes "floataset", kind.Keyword word.Floataset) ∷
    (codes "unsigned", kind.Keyword word.Unsigned) ∷
    (codes "signed", kind.Keyword word.Signed) ∷
    (codes "byte", kind.Keyword word.Byte) ∷
    (codes "half", kind.Keyword word.Half) ∷
    (codes "int32", kind.Keyword word.Int32) ∷
    (codes "float32", kind.Keyword word.Float32) ∷
    (codes "float64", kind.Keyword word.Float64) ∷
    (codes "data", kind.Keyword word.Data) ∷
    (codes "skip", kind.Keyword word.Skip) ∷
    (codes "align", kind.Keyword word.Align) ∷
    (codes "string", kind.Keyword word.String) ∷
    (codes "global", kind.Keyword word.Global) ∷ []

abbrev pub sign_table : List (List ℕ × TokenKind)
sign_table =
    (codes "(", kind.Sign sign.Open) ∷
    (codes ")", kind.Sign sign.Close) ∷
    (codes "[", kind.Sign sign.OpenBracket) ∷
    (codes "]", kind.Sign sign.CloseBracket) ∷
    (codes ":", kind.Sign sign.Colon) ∷
    (codes "+", kind.Operator op.Add) ∷
    (codes "-", kind.Operator op.Sub) ∷
    (codes "*", kind.Operator op.Mul) ∷
    (codes "/", kind.Operator op.Div) ∷
    (codes "<<", kind.Operator op.Shl) ∷
    (codes ">>u", kind.Operator op.Shr) ∷
    (codes ">>s", kind.Operator op.Sar) ∷
    (codes "==", kind.Operator (op.Cmp cmp.Eq)) ∷
    (codes "!=", kind.Operator (op.Cmp cmp.Ne)) ∷
    (codes "<", kind.Operator (op.Cmp cmp.Lt)) ∷
    (codes "<=", kind.Operator (op.Cmp cmp.Le)) ∷
    (codes ">", kind.Operator (op.Cmp cmp.Gt)) ∷
    (codes ">=", kind.Operator (op.Cmp cmp.Ge)) ∷
    (codes "+v", kind.Operator op.AddV) ∷
    (codes "+a", kind.Operator op.AddA) ∷
    (codes "==a", kind.Operator (op.CmpU cmp.Eq)) ∷
    (codes "!=a", kind.Operator (op.CmpU cmp.Ne)) ∷
    (codes "<a", kind.Operator (op.CmpU cmp.Lt)) ∷
    (codes "<=a", kind.Operator (op.CmpU cmp.Le)) ∷
    (codes ">a", kind.Operator (op.CmpU cmp.Gt)) ∷
    (codes ">=a", kind.Operator (op.CmpU cmp.Ge)) ∷
    (codes "+f", kind.FloatOperator) ∷
    (codes "-f", kind.FloatOperator) ∷
    (codes "*f", kind.FloatOperator) ∷
    (codes "/f", kind.FloatOperator) ∷
    (codes "==f", kind.FloatOperator) ∷
    (codes "!=f", kind.FloatOperator) ∷
    (codes "<f", kind.FloatOperator) ∷
    (codes "<=f", kind.FloatOperator) ∷
    (codes ">f", kind.FloatOperator) ∷
    (codes ">=f", kind.FloatOperator) ∷ []

-- the kind of a token of this shape
unfoldable pub kind_of : Shape → List ℕ → Option TokenKind
kind_of shape.Word text = Some (unwrap_or (find_spelled keyword_table text) kind.Name)
kind_of shape.Integer text = Some kind.Integer
kind_of shape.Pointer text = Some kind.Pointer
kind_of shape.Float text = Some kind.Float
kind_of shape.Signs text = find_spelled sign_table text

-- ---- integers

-- a number that fits 64 bits
abbrev pub if_fits : ℕ → Option ℕ
if_fits n = cond (nat_le n (2 ^ 64 - 1)) (Some n) None

abbrev pub digit_onto : ℕ → ℕ → ℕ → Option ℕ
digit_onto base n d = if_fits (base * n + digit_value d)

abbrev pub number_in_base : ℕ → List ℕ → Option ℕ
number_in_base base digits = if_fits (number_after base 0 digits)

abbrev pub decimal_of : List ℕ → Option ℕ
decimal_of text = if_fits (number_after 10 0 (decimal_digits text))

-- ---- the front of a text

pub record GapTo (bytes tail : List ℕ) : Type 0 where
  pub text : List ℕ
  pub whole : bytes ≡ text ++ tail
  pub is_gap : IsGap text

pub record TokenTo (bytes : List ℕ) (k : TokenKind) (tail : List ℕ) : Type 0 where
  pub text : List ℕ
  pub whole : bytes ≡ text ++ tail
  pub is_token : IsToken k text
  pub longest : Longest (length text) bytes
  pub no_comment : BeginsWith bytes (opening AComment) → ⊥

abbrev pub IsFront : List ℕ → Front → Type 0
IsFront bytes (front.Gap tail) = GapTo bytes tail.now
IsFront bytes (front.Token k tail) = TokenTo bytes k tail.now
IsFront bytes (front.BadToken offset) = (at : ℕ) → IsFault at bytes (BadToken (at + offset))
IsFront bytes front.Unclosed = (at : ℕ) → IsFault at bytes (Unclosed at)

-- the longest token of bytes that begin with no quote, and what is after it
pub record Longer (bytes : List ℕ) (k : TokenKind) (tail : List ℕ) : Type 0 where
  pub text : List ℕ
  pub whole : bytes ≡ text ++ tail
  pub is_token : IsToken k text
  pub longest : (BeginsWith bytes (34 ∷ []) → ⊥) → Longest (length text) bytes

abbrev pub FirstToken : List ℕ → Option (TokenKind × Bor (List ℕ)) → Type 0
FirstToken bytes None =
    (BeginsWith bytes (34 ∷ []) → ⊥) → (k : TokenKind) (text : List ℕ) → IsToken k text → BeginsWith bytes text → ⊥
FirstToken bytes (Some p) = Longer bytes p.0 p.1.now

abbrev pub is_separator : ℕ → Bool
is_separator b = (b == 32) || ((b == 9) || ((b == 10) || ((b == 12) || (b == 13))))

abbrev pub is_star_first : List ℕ → Bool
is_star_first [] = false
is_star_first (b ∷ bs) = b == 42

-- what a text begins with by its first bytes
abbrev pub opening_of : List ℕ → Opening
opening_of [] = Other
opening_of (b ∷ bs) =
    cond (is_separator b) Separator
    (cond (b == 34) Quote (cond (b == 123) Brace (cond (b == 40 && is_star_first bs) Comment Other)))

-- the fault of an integer that is out of range
abbrev pub range_of : ℕ → TokenKind → List ℕ → Option Fault
range_of at k text = cond (is_out_of_range k text) (Some (IntRange at)) None
