-- The parts of forms that hold no expression.
use Rattle.std.specs.Prelude.{ℕ, List, [], ◌∷◌, cond, Option, Some, None}
use Rattle.bs_words.specs.Symbol.{is_symbol}
use Rattle.bs_words.specs.declared.types.Ret.{Ret}
use Rattle.bs_words.specs.declared.types.Chunk.{Chunk}
use Rattle.bs_words.specs.declared.types.Chunk.TheVariants as chunk
use Rattle.cmm_lex.specs.Token.{TokenTree}
use Rattle.cmm_lex.specs.Strings.{string_bytes}
use Rattle.cmm_tree.specs.Tree.{Expression, Symbol}
use Rattle.cmm_tree.specs.View.{params_view}
use Rattle.cmm_grammar.specs.declared.word.ChunkWord.{ChunkWord}
use Rattle.cmm_grammar.specs.declared.word.ChunkWord.TheVariants as starts
use Rattle.cmm_grammar.specs.Parts.{ResultPart, HeadPart}
use Rattle.cmm_grammar.specs.Words.{is_symbol_token, is_open_bracket, leaf_of, width_of, unsigned_chunk, signed_chunk, chunk_word_of}
use Rattle.cmm_grammar.specs.Grammar.{label_rest}
use Rattle.cmm_grammar.specs.Reading.{Read, Stops, Stuck, Reader, bind, given, bracket_at, one_by, behind, deeper, reading, forms_below}
use Rattle.cmm_parts.specs.declared.parts.LabelHead.{LabelHead}
use Rattle.cmm_nodes.specs.declared.build.PlacedChunk.{PlacedChunk}

-- the result that a call declares
abbrev pub result_part : ℕ → Ret → ResultPart
result_part at ret = record { at = at; ret = ret }

-- the symbol that a token is, if it is one
abbrev pub symbol_in : TokenTree → Option (List ℕ)
symbol_in t = cond (is_symbol_token t) (Some (string_bytes t.text)) None

-- the expression of a token that is a string, if it is a symbol
abbrev pub symbol_leaf : TokenTree → Option Expression
symbol_leaf t =
    cond (is_symbol (string_bytes t.text)) (Some (Symbol t.at (string_bytes t.text))) None

-- the expression of a token, or of two brackets, by the first token
abbrev pub simple_at : TokenTree → Reader Expression
simple_at t ts = cond (is_open_bracket t) (bracket_at t.at ts) (given (leaf_of t) ts)

-- the label of a handler and its parameters
abbrev pub label_part : LabelHead → HeadPart
label_part label =
    record { at = label.at; name = label.name; params = params_view label.params.items }

-- the label of a handler and its parameters, after their parenthesis and this name
abbrev pub opened_label : ℕ → TokenTree → Reader HeadPart
opened_label depth name ts =
    deeper depth (λ e below. behind (λ n. reading (label_rest n) e below)) (forms_below depth)
    (name ∷ ts)

-- a chunk, none where it is one of floats, and its place
abbrev pub chunk_part : PlacedChunk → Option Chunk × ℕ
chunk_part placed = (placed.chunk, placed.at)

-- the chunk that a word begins, and its place
abbrev pub chunk_after : ChunkWord → ℕ → Reader (Option Chunk × ℕ)
chunk_after (starts.Whole chunk) at ts = Read (Some chunk, at) ts
chunk_after starts.Unsigned at ts =
    bind (one_by (λ t. width_of t.kind) ts) (λ w rest. Read (Some (unsigned_chunk w), at) rest)
chunk_after starts.Signed at ts =
    bind (one_by (λ t. width_of t.kind) ts) (λ w rest. Read (Some (signed_chunk w), at) rest)
chunk_after starts.Float at ts = Read (None, at) ts

abbrev pub chunk_by : Option ChunkWord → TokenTree → Reader (Option Chunk × ℕ)
chunk_by (Some w) t ts = chunk_after w t.at ts
chunk_by None t ts = Read (Some chunk.Val, 0) (t ∷ ts)

-- a chunk and its place, or no word at all, which is val
abbrev pub chunk_at : Reader (Option Chunk × ℕ)
chunk_at [] = Stops Stuck 0
chunk_at (t ∷ ts) = chunk_by (chunk_word_of t.kind) t ts
