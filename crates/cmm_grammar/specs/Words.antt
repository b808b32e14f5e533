-- What a token may be, and what it gives there.
use Rattle.std.specs.Prelude.{ℕ, Bool, true, false, cond, ◌&&◌, ◌||◌, is_some, not, option_map, List, ◌∷◌, Option, Some, None}
use Rattle.bs_words.specs.declared.operators.IntOp.TheVariants as op
use Rattle.bs_words.specs.declared.types.Comp.{Comp}
use Rattle.bs_words.specs.declared.types.Comp.TheVariants as comp
use Rattle.bs_words.specs.declared.types.Ret.{Ret}
use Rattle.bs_words.specs.declared.types.Ret.TheVariants as ret
use Rattle.bs_words.specs.declared.types.Chunk.{Chunk}
use Rattle.bs_words.specs.declared.types.Chunk.TheVariants as chunk
use Rattle.cmm_tree.specs.Tree.{Expression, NoMore, Integer, Pointer, Symbol, Name, Float, Exit, Bare, DatumTree, Address, Val}
use Rattle.cmm_lex.specs.Token.{TokenTree}
use Rattle.cmm_lex.specs.Integers.{integer_value}
use Rattle.cmm_lex.specs.Strings.{string_bytes}
use Rattle.bs_words.specs.Symbol.{is_symbol}
use Rattle.cmm_lex.specs.declared.token.TokenKind.{TokenKind}
use Rattle.cmm_lex.specs.declared.token.TokenKind.TheVariants as kind
use Rattle.cmm_lex.specs.declared.token.Keyword.{Keyword}
use Rattle.cmm_lex.specs.declared.token.Keyword.TheVariants as word
use Rattle.cmm_lex.specs.declared.token.Sign.TheVariants as sign
use Rattle.cmm_grammar.specs.declared.word.Head.{Head}
use Rattle.cmm_grammar.specs.declared.word.Head.TheVariants as head
use Rattle.cmm_grammar.specs.declared.word.Pair.TheVariants as pair
use Rattle.cmm_grammar.specs.declared.word.Triple.TheVariants as triple
use Rattle.cmm_grammar.specs.declared.word.ChunkWord.{ChunkWord}
use Rattle.cmm_grammar.specs.declared.word.ChunkWord.TheVariants as starts
use Rattle.cmm_grammar.specs.declared.word.Width.{Width}
use Rattle.cmm_grammar.specs.declared.word.Width.TheVariants as width
use Rattle.cmm_grammar.specs.declared.word.DataWord.{DataWord}
use Rattle.cmm_grammar.specs.declared.word.DataWord.TheVariants as item

-- ---- tests of one token

abbrev pub is_open_kind : TokenKind → Bool
is_open_kind (kind.Sign sign.Open) = true
is_open_kind _ = false

abbrev pub is_close_kind : TokenKind → Bool
is_close_kind (kind.Sign sign.Close) = true
is_close_kind _ = false

abbrev pub is_open_bracket_kind : TokenKind → Bool
is_open_bracket_kind (kind.Sign sign.OpenBracket) = true
is_open_bracket_kind _ = false

abbrev pub is_close_bracket_kind : TokenKind → Bool
is_close_bracket_kind (kind.Sign sign.CloseBracket) = true
is_close_bracket_kind _ = false

abbrev pub is_colon_kind : TokenKind → Bool
is_colon_kind (kind.Sign sign.Colon) = true
is_colon_kind _ = false

abbrev pub is_name_kind : TokenKind → Bool
is_name_kind kind.Name = true
is_name_kind _ = false

abbrev pub is_integer_kind : TokenKind → Bool
is_integer_kind kind.Integer = true
is_integer_kind _ = false

abbrev pub is_float_kind : TokenKind → Bool
is_float_kind kind.Float = true
is_float_kind _ = false

abbrev pub is_string_kind : TokenKind → Bool
is_string_kind kind.String = true
is_string_kind _ = false

abbrev pub is_open : TokenTree → Bool
is_open t = is_open_kind t.kind

abbrev pub is_close : TokenTree → Bool
is_close t = is_close_kind t.kind

abbrev pub is_open_bracket : TokenTree → Bool
is_open_bracket t = is_open_bracket_kind t.kind

abbrev pub is_close_bracket : TokenTree → Bool
is_close_bracket t = is_close_bracket_kind t.kind

abbrev pub is_colon : TokenTree → Bool
is_colon t = is_colon_kind t.kind

abbrev pub is_name : TokenTree → Bool
is_name t = is_name_kind t.kind

abbrev pub is_integer : TokenTree → Bool
is_integer t = is_integer_kind t.kind

abbrev pub is_float_token : TokenTree → Bool
is_float_token t = is_float_kind t.kind

abbrev pub is_string : TokenTree → Bool
is_string t = is_string_kind t.kind

abbrev pub is_with_kind : TokenKind → Bool
is_with_kind (kind.Keyword word.With) = true
is_with_kind _ = false

abbrev pub is_case_kind : TokenKind → Bool
is_case_kind (kind.Keyword word.Case) = true
is_case_kind _ = false

abbrev pub is_and_kind : TokenKind → Bool
is_and_kind (kind.Keyword word.And) = true
is_and_kind _ = false

abbrev pub is_data_kind : TokenKind → Bool
is_data_kind (kind.Keyword word.Data) = true
is_data_kind _ = false

abbrev pub is_function_kind : TokenKind → Bool
is_function_kind (kind.Keyword word.Function) = true
is_function_kind _ = false

abbrev pub is_alloc_kind : TokenKind → Bool
is_alloc_kind (kind.Keyword word.Alloc) = true
is_alloc_kind _ = false

abbrev pub is_with : TokenTree → Bool
is_with t = is_with_kind t.kind

abbrev pub is_case : TokenTree → Bool
is_case t = is_case_kind t.kind

abbrev pub is_and : TokenTree → Bool
is_and t = is_and_kind t.kind

abbrev pub is_data : TokenTree → Bool
is_data t = is_data_kind t.kind

abbrev pub is_function : TokenTree → Bool
is_function t = is_function_kind t.kind

abbrev pub is_alloc : TokenTree → Bool
is_alloc t = is_alloc_kind t.kind

-- a string whose bytes are a symbol
abbrev pub is_symbol_token : TokenTree → Bool
is_symbol_token t = is_string t && is_symbol (string_bytes t.text)

abbrev pub is_no_case : TokenTree → Bool
is_no_case t = not (is_case t)

-- what ends the expressions of a case: the next case, or the end of the switch
abbrev pub ends_case : TokenTree → Bool
ends_case t = is_case t || is_close t

-- what ends the expressions of a labelled handler: the next handler, or the end of the catch
abbrev pub ends_handler : TokenTree → Bool
ends_handler t = is_and t || is_close t

-- a parenthesis that a name follows
abbrev pub is_labelled : List TokenTree → Bool
is_labelled (o ∷ n ∷ ts) = is_open o && is_name n
is_labelled ts = false

-- ---- what a token gives

-- a token that passes the test
abbrev pub passing : (TokenTree → Bool) → TokenTree → Option TokenTree
passing test t = cond (test t) (Some t) None

-- the token, and what its kind is
abbrev pub marked : {A : Type 0} → (TokenKind → Option A) → TokenTree → Option (TokenTree × A)
marked of t = option_map (λ a. (t, a)) (of t.kind)

-- the word of an integer; 0 where it is out of range
abbrev pub word_or_zero : Option ℕ → ℕ
word_or_zero None = 0
word_or_zero (Some w) = w

abbrev pub comp_of : TokenKind → Option Comp
comp_of (kind.Keyword word.Int) = Some comp.Int
comp_of (kind.Keyword word.Val) = Some comp.Val
comp_of (kind.Keyword word.Addr) = Some comp.Addr
comp_of (kind.Keyword word.Float) = Some comp.Float
comp_of _ = None

abbrev pub ret_of : TokenKind → Option Ret
ret_of (kind.Keyword word.Int) = Some (ret.Comp comp.Int)
ret_of (kind.Keyword word.Val) = Some (ret.Comp comp.Val)
ret_of (kind.Keyword word.Addr) = Some (ret.Comp comp.Addr)
ret_of (kind.Keyword word.Float) = Some (ret.Comp comp.Float)
ret_of (kind.Keyword word.Unit) = Some ret.Unit
ret_of _ = None

abbrev pub is_ret_kind : TokenKind → Bool
is_ret_kind k = is_some (ret_of k)

abbrev pub is_ret : TokenTree → Bool
is_ret t = is_ret_kind t.kind

-- ---- expressions of one token

abbrev pub leaf_of : TokenTree → Option Expression
leaf_of t = of_kind t.kind
  where
    of_kind : TokenKind → Option Expression
    of_kind kind.Integer = Some (Integer t.at (word_or_zero (integer_value t.text)))
    of_kind kind.Pointer = Some (Pointer t.at (word_or_zero (integer_value t.text)))
    of_kind kind.Float = Some (Float t.at t.at NoMore)
    of_kind kind.String =
        cond (is_symbol (string_bytes t.text)) (Some (Symbol t.at (string_bytes t.text))) None
    of_kind kind.Name = Some (Name t.at t.text)
    of_kind (kind.Keyword word.Exit) = Some (Exit t.at t.at Bare NoMore)
    of_kind _ = None

-- ---- the words of forms

abbrev pub head_of_keyword : Keyword → Option Head
head_of_keyword word.Let = Some head.Let
head_of_keyword word.Letmut = Some head.Letmut
head_of_keyword word.Assign = Some head.Assign
head_of_keyword word.App = Some head.App
head_of_keyword word.Extcall = Some head.Extcall
head_of_keyword word.Alloc = Some head.Alloc
head_of_keyword word.Load = Some head.Load
head_of_keyword word.Store = Some head.Store
head_of_keyword word.Checkbound = Some (head.Pair pair.Checkbound)
head_of_keyword word.Intaref = Some (head.Pair (pair.Element chunk.Int))
head_of_keyword word.Addraref = Some (head.Pair (pair.Element chunk.Val))
head_of_keyword word.Intaset = Some (head.Triple (triple.SetElement chunk.Int))
head_of_keyword word.Addraset = Some (head.Triple (triple.SetElement chunk.Val))
head_of_keyword word.Mod = Some (head.Pair (pair.Operator op.Mod))
head_of_keyword word.Mulh = Some (head.Pair (pair.Operator op.Mulh))
head_of_keyword word.And = Some (head.Pair (pair.Operator op.And))
head_of_keyword word.Or = Some (head.Pair (pair.Operator op.Or))
head_of_keyword word.Xor = Some (head.Pair (pair.Operator op.Xor))
head_of_keyword word.Raise = Some head.Raise
head_of_keyword word.Reraise = Some head.Raise
head_of_keyword word.RaiseNotrace = Some head.Raise
head_of_keyword word.Seq = Some head.Seq
head_of_keyword word.If = Some (head.Triple triple.If)
head_of_keyword word.Switch = Some head.Switch
head_of_keyword word.While = Some head.While
head_of_keyword word.Catch = Some head.Catch
head_of_keyword word.Exit = Some head.Exit
head_of_keyword word.Try = Some head.Try
head_of_keyword word.Absf = Some head.Float
head_of_keyword word.Floatofint = Some head.Float
head_of_keyword word.Intoffloat = Some head.Float
head_of_keyword word.Floataref = Some head.Float
head_of_keyword word.Floataset = Some head.Float
head_of_keyword _ = None

abbrev pub head_of : TokenKind → Option Head
head_of (kind.Operator o) = Some (head.Pair (pair.Operator o))
head_of kind.FloatOperator = Some head.Float
head_of (kind.Keyword w) = head_of_keyword w
head_of _ = None

-- a chunk is one word, or `unsigned` or `signed` and a width
abbrev pub chunk_word_of : TokenKind → Option ChunkWord
chunk_word_of (kind.Keyword word.Int) = Some (starts.Whole chunk.Int)
chunk_word_of (kind.Keyword word.Val) = Some (starts.Whole chunk.Val)
chunk_word_of (kind.Keyword word.Unsigned) = Some starts.Unsigned
chunk_word_of (kind.Keyword word.Signed) = Some starts.Signed
chunk_word_of (kind.Keyword word.Float) = Some starts.Float
chunk_word_of (kind.Keyword word.Float32) = Some starts.Float
chunk_word_of (kind.Keyword word.Float64) = Some starts.Float
chunk_word_of _ = None

abbrev pub width_of : TokenKind → Option Width
width_of (kind.Keyword word.Byte) = Some width.Byte
width_of (kind.Keyword word.Half) = Some width.Half
width_of (kind.Keyword word.Int32) = Some width.Int32
width_of _ = None

abbrev pub unsigned_chunk : Width → Chunk
unsigned_chunk width.Byte = chunk.U8
unsigned_chunk width.Half = chunk.U16
unsigned_chunk width.Int32 = chunk.U32

abbrev pub signed_chunk : Width → Chunk
signed_chunk width.Byte = chunk.I8
signed_chunk width.Half = chunk.I16
signed_chunk width.Int32 = chunk.I32

-- ---- the words of static data

abbrev pub data_keyword : TokenKind → Option DataWord
data_keyword (kind.Keyword word.Byte) = Some item.Byte
data_keyword (kind.Keyword word.Half) = Some item.Half
data_keyword (kind.Keyword word.Int) = Some item.Int
data_keyword (kind.Keyword word.Val) = Some item.Val
data_keyword (kind.Keyword word.Addr) = Some item.Addr
data_keyword (kind.Keyword word.Skip) = Some item.Skip
data_keyword (kind.Keyword word.Align) = Some item.Align
data_keyword (kind.Keyword word.String) = Some item.Text
data_keyword (kind.Keyword word.Global) = Some item.Global
data_keyword (kind.Keyword word.Float) = Some item.Float
data_keyword _ = None

-- a symbol, which the item defines, or a keyword
abbrev pub data_word_of : TokenTree → Option (TokenTree × DataWord)
data_word_of t = cond (is_symbol_token t) (Some (t, item.Define)) (marked data_keyword t)

-- what is after `val`: a symbol or an integer
abbrev pub val_of : TokenTree → Option DatumTree
val_of t =
    cond (is_symbol_token t) (Some (Address true t.at (string_bytes t.text)))
    (cond (is_integer t) (Some (Val (integer_value t.text))) None)
