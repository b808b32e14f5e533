-- Loads and stores go by their chunks.
use Rattle.std.proofs.Common.{◌≡◌, ℕ, List, [], ◌∷◌, Option, Some, None, option_map, refl, sym, ap, subst, ◌∙◌}
use Rattle.bs_words.specs.declared.types.Chunk.{Chunk}
use Rattle.cmm_lex.specs.Token.{TokenTree}
use Rattle.cmm_grammar.specs.Words.{marked, chunk_word_of, width_of, unsigned_chunk, signed_chunk}
use Rattle.cmm_grammar.specs.Rule.{Rule, AToken, AnExpression, AChunkWord, Both, maybe}
use Rattle.cmm_grammar.specs.Grammar.{chunked, chunk_rest, load_form, load_rest, store_form, store_rest}
use Rattle.cmm_grammar.specs.Reading.{ReadOutcome, Read, Reader, Forms, bind, one_by, maybe_given, reading, forms_below, reads}
use Rattle.cmm_grammar.specs.declared.word.ChunkWord.{ChunkWord}
use Rattle.cmm_grammar.specs.declared.word.ChunkWord.TheVariants as starts
use Rattle.cmm_grammar.proofs.Basics.{bind_bind}
use Rattle.cmm_parts.specs.Parts.{chunk_at, chunk_by}
use Rattle.cmm_parts.specs.Results.{Fails}
use Rattle.cmm_nodes.specs.declared.stop.Stop.{Stop}
use Rattle.cmm_nodes.specs.declared.stop.Stop.TheVariants.{Unexpected, TooDeep, OutOfMemory}

chunk-reads-by : (k : Option Chunk → ℕ → Rule AnExpression) (d : ℕ) (forms : Forms) (t : TokenTree) (ts : List TokenTree) (o : Option ChunkWord)
    → maybe_given (option_map (λ a. (t, a)) o) (λ o. reading (chunked k o) d forms) t ts
    ≡ bind (chunk_by o t ts) (λ c rest. reading (k c.0 c.1) d forms rest)
unfolding chunked chunk_rest
chunk-reads-by k d forms t ts None = refl
chunk-reads-by k d forms t ts (Some (starts.Whole chunk)) = refl
chunk-reads-by k d forms t ts (Some starts.Unsigned) =
    sym (bind_bind (one_by (λ t. width_of t.kind) ts) (λ w. (Some (unsigned_chunk w), t.at)) (λ c rest. reading (k c.0 c.1) d forms rest))
chunk-reads-by k d forms t ts (Some starts.Signed) =
    sym (bind_bind (one_by (λ t. width_of t.kind) ts) (λ w. (Some (signed_chunk w), t.at)) (λ c rest. reading (k c.0 c.1) d forms rest))
chunk-reads-by k d forms t ts (Some starts.Float) = refl

pub chunk-reads : (k : Option Chunk → ℕ → Rule AnExpression) (d : ℕ) (forms : Forms) (ts : List TokenTree)
    → reading (maybe (Both AToken AChunkWord) (marked chunk_word_of) (chunked k)) d forms ts
    ≡ bind (chunk_at ts) (λ c rest. reading (k c.0 c.1) d forms rest)
chunk-reads k d forms [] = refl
chunk-reads k d forms (t ∷ ts) = chunk-reads-by k d forms t ts (chunk_word_of t.kind)

-- ---- load and store

pub load-reads : (at d : ℕ) (tokens : List TokenTree)
    → reads (load_form at) d tokens ≡ bind (chunk_at tokens) (λ c rest. reads (load_rest at c.0 c.1) d rest)
unfolding load_form
load-reads at d tokens = chunk-reads (load_rest at) d (forms_below d) tokens

pub store-reads : (at d : ℕ) (tokens : List TokenTree)
    → reads (store_form at) d tokens ≡ bind (chunk_at tokens) (λ c rest. reads (store_rest at c.0 c.1) d rest)
unfolding store_form
store-reads at d tokens = chunk-reads (store_rest at) d (forms_below d) tokens

-- after a chunk
pub load-read : (at d : ℕ) (tokens : List TokenTree) (c : Option Chunk × ℕ) (rest : List TokenTree)
    → chunk_at tokens ≡ Read c rest
    → reads (load_form at) d tokens ≡ reads (load_rest at c.0 c.1) d rest
load-read at d tokens c rest e =
    load-reads at d tokens ∙ ap (λ (o : ReadOutcome (Option Chunk × ℕ)). bind o (λ c rest. reads (load_rest at c.0 c.1) d rest)) e

pub store-read : (at d : ℕ) (tokens : List TokenTree) (c : Option Chunk × ℕ) (rest : List TokenTree)
    → chunk_at tokens ≡ Read c rest
    → reads (store_form at) d tokens ≡ reads (store_rest at c.0 c.1) d rest
store-read at d tokens c rest e =
    store-reads at d tokens ∙ ap (λ (o : ReadOutcome (Option Chunk × ℕ)). bind o (λ c rest. reads (store_rest at c.0 c.1) d rest)) e

-- where the first part fails, both do
pub bind-fails : {A B : Type 0} (s : Stop) (o : ReadOutcome A) (next : A → Reader B) → Fails s o → Fails s (bind o next)
bind-fails (Unexpected left) o next h = ap (λ v. bind v next) h
bind-fails (TooDeep left) o next h = ap (λ v. bind v next) h
bind-fails OutOfMemory o next h = tt

pub load-fails : (at d : ℕ) (tokens : List TokenTree) (s : Stop) → Fails s (chunk_at tokens) → Fails s (reads (load_form at) d tokens)
load-fails at d tokens s h =
    subst (Fails s) (sym (load-reads at d tokens)) (bind-fails s (chunk_at tokens) (λ c rest. reads (load_rest at c.0 c.1) d rest) h)

pub store-fails : (at d : ℕ) (tokens : List TokenTree) (s : Stop) → Fails s (chunk_at tokens) → Fails s (reads (store_form at) d tokens)
store-fails at d tokens s h =
    subst (Fails s) (sym (store-reads at d tokens)) (bind-fails s (chunk_at tokens) (λ c rest. reads (store_rest at c.0 c.1) d rest) h)
