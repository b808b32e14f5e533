-- Tokens: how they are spelled.
use Rattle.std.specs.Prelude.{◌≡◌, ℕ, ◌≤◌, List, [], ◌∷◌, ◌++◌, length, codes, Contains}
use Rattle.bs_words.specs.declared.operators.CmpOp.TheVariants.{Eq, Ne, Lt, Le, Gt, Ge}
use Rattle.bs_words.specs.declared.operators.IntOp.{IntOp}
use Rattle.bs_words.specs.declared.operators.IntOp.TheVariants as op
use Rattle.cmm_lex.specs.declared.token.TokenKind.{TokenKind}
use Rattle.cmm_lex.specs.declared.token.TokenKind.TheVariants as kind
use Rattle.cmm_lex.specs.declared.token.Keyword.{Keyword}
use Rattle.cmm_lex.specs.declared.token.Keyword.TheVariants as word
use Rattle.cmm_lex.specs.declared.token.Sign.{Sign}
use Rattle.cmm_lex.specs.declared.token.Sign.TheVariants as sign
use Rattle.cmm_lex.specs.Strings.{IsString}
use Rattle.cmm_lex.specs.Form.{Form, Between, Then, Either, Many, Matches, this, optional_form, some}

-- ---- forms

-- a letter or `_`
abbrev pub letter : Form
letter = Either (Between 65 90) (Either (Between 97 122) (this 95))

abbrev pub digit : Form
digit = Between 48 57

-- what a name goes on with: letters, digits, `_`, `'`, `.`, `$`
abbrev pub word_byte : Form
word_byte = Either letter (Either digit (Either (this 39) (Either (this 46) (this 36))))

-- a letter, bytes of a word, and then `/` and digits or nothing
abbrev pub name : Form
name = Then letter (Then (Many word_byte) (optional_form (Then (this 47) (some digit))))

-- `-` or nothing
abbrev pub minus : Form
minus = optional_form (this 45)

abbrev pub hexadecimal : Form
hexadecimal = some (Either digit (Either (Between 97 102) (Between 65 70)))

-- decimal digits, or `0x`, `0o` or `0b` and digits of that base
abbrev pub integer_form : Form
integer_form =
    Then minus
    (Either (some digit)
    (Then (this 48)
    (Either (Then (this 120) hexadecimal)
    (Either (Then (this 111) (some (Between 48 55))) (Then (this 98) (some (Between 48 49)))))))

-- decimal digits and `a`
abbrev pub pointer : Form
pointer = Then minus (Then (some digit) (this 97))

-- `e` or `E`, a sign or nothing, and digits
abbrev pub exponent : Form
exponent = Then (Either (this 101) (this 69)) (Then (optional_form (Either (this 43) (this 45))) (some digit))

-- digits, and then `.` with digits or none, an exponent, or both in this order
abbrev pub float : Form
float = Then minus (Then (some digit) (Either (Then (this 46) (Then (Many digit) (optional_form exponent))) exponent))

-- ---- words and signs

-- how a keyword is spelled
abbrev pub keyword_text : Keyword → List ℕ
-- functions, types and results
keyword_text word.Function = codes "function"
keyword_text word.Int = codes "int"
keyword_text word.Val = codes "val"
keyword_text word.Addr = codes "addr"
keyword_text word.Float = codes "float"
keyword_text word.Unit = codes "unit"
-- bindings, calls and memory
keyword_text word.Let = codes "let"
keyword_text word.Letmut = codes "letmut"
keyword_text word.Assign = codes "assign"
keyword_text word.App = codes "app"
keyword_text word.Extcall = codes "extcall"
keyword_text word.Alloc = codes "alloc"
keyword_text word.Load = codes "load"
keyword_text word.Store = codes "store"
keyword_text word.Checkbound = codes "checkbound"
keyword_text word.Intaref = codes "intaref"
keyword_text word.Addraref = codes "addraref"
keyword_text word.Intaset = codes "intaset"
keyword_text word.Addraset = codes "addraset"
-- operators that are words
keyword_text word.Mod = codes "mod"
keyword_text word.Mulh = codes "mulh"
keyword_text word.And = codes "and"
keyword_text word.Or = codes "or"
keyword_text word.Xor = codes "xor"
-- control
keyword_text word.Raise = codes "raise"
keyword_text word.Reraise = codes "reraise"
keyword_text word.RaiseNotrace = codes "raise_notrace"
keyword_text word.Seq = codes "seq"
keyword_text word.If = codes "if"
keyword_text word.Switch = codes "switch"
keyword_text word.Case = codes "case"
keyword_text word.While = codes "while"
keyword_text word.Catch = codes "catch"
keyword_text word.With = codes "with"
keyword_text word.Exit = codes "exit"
keyword_text word.Try = codes "try"
-- floats
keyword_text word.Absf = codes "absf"
keyword_text word.Floatofint = codes "floatofint"
keyword_text word.Intoffloat = codes "intoffloat"
keyword_text word.Floataref = codes "floataref"
keyword_text word.Floataset = codes "floataset"
-- chunks
keyword_text word.Unsigned = codes "unsigned"
keyword_text word.Signed = codes "signed"
keyword_text word.Byte = codes "byte"
keyword_text word.Half = codes "half"
keyword_text word.Int32 = codes "int32"
keyword_text word.Float32 = codes "float32"
keyword_text word.Float64 = codes "float64"
-- data
keyword_text word.Data = codes "data"
keyword_text word.Skip = codes "skip"
keyword_text word.Align = codes "align"
keyword_text word.String = codes "string"
keyword_text word.Global = codes "global"

abbrev pub sign_text : Sign → List ℕ
sign_text sign.Open = codes "("
sign_text sign.Close = codes ")"
sign_text sign.OpenBracket = codes "["
sign_text sign.CloseBracket = codes "]"
sign_text sign.Colon = codes ":"

-- the operators on words that are spelled by signs
abbrev pub operators : List (IntOp × List ℕ)
operators =
    (op.Add, codes "+") ∷ (op.Sub, codes "-") ∷ (op.Mul, codes "*") ∷ (op.Div, codes "/") ∷
    (op.Shl, codes "<<") ∷ (op.Shr, codes ">>u") ∷ (op.Sar, codes ">>s") ∷
    (op.Cmp Eq, codes "==") ∷ (op.Cmp Ne, codes "!=") ∷ (op.Cmp Lt, codes "<") ∷
    (op.Cmp Le, codes "<=") ∷ (op.Cmp Gt, codes ">") ∷ (op.Cmp Ge, codes ">=") ∷
    (op.AddV, codes "+v") ∷ (op.AddA, codes "+a") ∷
    (op.CmpU Eq, codes "==a") ∷ (op.CmpU Ne, codes "!=a") ∷ (op.CmpU Lt, codes "<a") ∷
    (op.CmpU Le, codes "<=a") ∷ (op.CmpU Gt, codes ">a") ∷ (op.CmpU Ge, codes ">=a") ∷ []

-- the operators on floats that are spelled by signs
abbrev pub float_operators : List (List ℕ)
float_operators =
    codes "+f" ∷ codes "-f" ∷ codes "*f" ∷ codes "/f" ∷
    codes "==f" ∷ codes "!=f" ∷ codes "<f" ∷ codes "<=f" ∷ codes ">f" ∷ codes ">=f" ∷ []

-- ---- tokens

-- These bytes are a token of this kind.
pub data IsToken : TokenKind → List ℕ → Type 0 where
  -- a word that is no keyword
  is_name : (text : List ℕ) → Matches name text → ((k : Keyword) → text ≡ keyword_text k → ⊥) → IsToken kind.Name text
  is_keyword : (k : Keyword) (text : List ℕ) → text ≡ keyword_text k → IsToken (kind.Keyword k) text
  is_integer : (text : List ℕ) → Matches integer_form text → IsToken kind.Integer text
  is_pointer : (text : List ℕ) → Matches pointer text → IsToken kind.Pointer text
  is_float : (text : List ℕ) → Matches float text → IsToken kind.Float text
  is_string : (text : List ℕ) → IsString text → IsToken kind.String text
  is_operator : (o : IntOp) (text : List ℕ) → Contains operators (o, text) → IsToken (kind.Operator o) text
  is_float_operator : (text : List ℕ) → Contains float_operators text → IsToken kind.FloatOperator text
  is_sign : (s : Sign) (text : List ℕ) → text ≡ sign_text s → IsToken (kind.Sign s) text

-- no token that these bytes begin with is longer than this
abbrev pub Longest : ℕ → List ℕ → Type 0
Longest n bytes = (k : TokenKind) (text rest : List ℕ) → IsToken k text → bytes ≡ text ++ rest → length text ≤ n
