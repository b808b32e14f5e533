-- Texts: how many tokens there are, and where reading stops.
use Rattle.std.proofs.Common.{◌≡◌, ℕ, ◌+◌, ◌-◌, ◌≤◌, ◌<◌, List, [], length, option_map, Option, Some, None, Result, Ok, Err, MatchResult, refl, sym, ap, ◌∙◌, subst, arith, length-append}
use Rattle.std.specs.List.{slice_get}
use Rattle.std.proofs.lemmas.Option.{slice_get-map}
use Rattle.std.proofs.lemmas.List.{length-map}
use Rattle.bs_fault.specs.declared.fault.Fault.{Fault}
use Rattle.cmm_lex.specs.Lexing.{Splits, ended, gap, token, stopped}
use Rattle.cmm_lex.specs.Token.{TokenTree, token_view}
use Rattle.cmm_lex.specs.declared.token.Token as declared
use Rattle.cmm_lex.proofs.Places.{token-some}
use Rattle.bs_fault.specs.declared.fault.Fault.TheVariants.{TooLong}
use Rattle.bs_fault.specs.declared.fault.FrontError.{FrontError}
use Rattle.bs_fault.specs.declared.fault.FrontError.TheVariants as error
use Rattle.cmm_lex.specs.Lexing.{first_range, IsLexed}
use Rattle.cmm_lex.specs.declared.lexer.Lexed.{Lexed}
use Rattle.bs_words.specs.Contents.{contents}
use Rattle.cmm_tree.specs.Tree.{ItemTree}
use Rattle.cmm_tree.specs.View.{file_view}
use Rattle.cmm_tree.specs.declared.file.File.{File}
use Rattle.bs_fault.specs.Reported.{IsFirst, Faultless}
use Rattle.cmm_grammar.specs.Reading.{ReadOutcome, Read, Stops, Why, Stuck, Deep, items_at}
use Rattle.cmm_nodes.specs.declared.stop.Stop.{Stop}
use Rattle.cmm_nodes.specs.declared.stop.Stop.TheVariants as stop
use Rattle.cmm_parts.specs.Results.{trees, Fails}
use Rattle.cmm_grammar.specs.Spelling.{nesting}
use Rattle.cmm_reader.specs.Text.{read_file_faults}
use Rattle.bs_fault.specs.Limits.{longest_text}
use Rattle.cmm_reader.specs.Telling.{place_with, token_place, stop_fault, Tells, IsReading, too_long, by_tokens, IsStopOf, IsStopped, IsFinished}

-- a text has no more tokens than bytes
pub tokens-few : (at : ℕ) (text : List ℕ) (tokens : List TokenTree) (f : Option Fault) → Splits at text tokens f → length tokens ≤ length text
tokens-few _ _ _ _ (ended at) = omega arith
tokens-few _ _ _ _ (gap at text rest tokens f h s) =
    let n = tokens-few (at + length text) rest tokens f s in
    omega (arith, n, length-append text rest)
tokens-few _ _ _ _ (token at k text rest tokens f h l b s) =
    let n = tokens-few (at + length text) rest tokens f s in
    let m = token-some k text h in
    omega (arith, n, m, length-append text rest)
tokens-few _ _ _ _ (stopped at bytes f h) = omega arith

-- the place of a token from which so many are left
pub place-of-view : (source : List ℕ) (tokens : List declared.Token) (left : ℕ)
    → place_with left (trees source tokens) ≡ option_map (λ (t : declared.Token). t.at) (slice_get tokens (length tokens - left))
place-of-view source tokens left =
    ap (λ n. option_map (λ (t : TokenTree). t.at) (slice_get (trees source tokens) (n - left))) (length-map tokens (token_view source))
    ∙ ap (option_map (λ (t : TokenTree). t.at)) (slice_get-map (token_view source) tokens (length tokens - left))
    ∙ same (slice_get tokens (length tokens - left))
  where
    same : (o : Option declared.Token) → option_map (λ (t : TokenTree). t.at) (option_map (token_view source) o) ≡ option_map (λ (t : declared.Token). t.at) o
    same None = refl
    same (Some t) = refl

pub too-long : (text : List ℕ) → longest_text < length text → IsReading text (Err (TooLong longest_text))
too-long text h = too_long h

pub refused-lexing : (text : List ℕ) (tokens : List TokenTree) (f : Fault) (items : List ItemTree)
    → length text ≤ longest_text
    → Splits 0 text tokens (Some f)
    → items_at nesting tokens ≡ Read items []
    → IsReading text (Err f)
refused-lexing text tokens f items short cut e =
    let P : ReadOutcome (List ItemTree) → Type 0 = λ o. Tells (length text) tokens (Some f) o (Err f) in
    by_tokens tokens (Some f) (Err f) short cut (subst P (sym e) refl)

pub read-finished : (text : List ℕ) (tokens : List TokenTree) (range : Option Fault) (items : List ItemTree) (result : Result File FrontError)
    → length text ≤ longest_text
    → Splits 0 text tokens None
    → items_at nesting tokens ≡ Read items []
    → range ≡ first_range tokens
    → IsFinished range (record { items = items }) result
    → MatchResult result (λ file. IsReading text (Ok (file_view file))) (IsStopOf text)
read-finished text tokens range items (Ok file) short cut e r h =
    let P : ReadOutcome (List ItemTree) → Type 0 = λ o. Tells (length text) tokens None o (Ok (file_view file)) in
    let Q : Option Fault → Type 0 = λ v. (file_view file ≡ record { items = items }) × Faultless (read_file_faults v (record { items = items })) in
    by_tokens tokens None (Ok (file_view file)) short cut (subst P (sym e) (subst Q r h))
read-finished text tokens range items (Err (error.Fault told)) short cut e r h =
    let P : ReadOutcome (List ItemTree) → Type 0 = λ o. Tells (length text) tokens None o (Err told) in
    let Q : Option Fault → Type 0 = λ v. IsFirst (read_file_faults v (record { items = items })) told in
    by_tokens tokens None (Err told) short cut (subst P (sym e) (subst Q r h))
read-finished text tokens range items (Err error.OutOfMemory) short cut e r h = absurd h

stopped-by : (text : List ℕ) (tokens : List declared.Token) (lexing : Option Fault) (why : Why) (left : ℕ)
    → length text ≤ longest_text
    → Splits 0 text (trees text tokens) lexing
    → items_at nesting (trees text tokens) ≡ Stops why left
    → IsReading text (Err (stop_fault (token_place left tokens) why lexing (length text)))
stopped-by text tokens lexing why left short cut h =
    let result = Err (stop_fault (token_place left tokens) why lexing (length text)) in
    let P : ReadOutcome (List ItemTree) → Type 0 = λ o. Tells (length text) (trees text tokens) lexing o result in
    by_tokens (trees text tokens) lexing result short cut
    (subst P (sym h) (ap (λ p. Err (stop_fault p why lexing (length text))) (sym (place-of-view text tokens left))))

pub read-stopped : (text : List ℕ) (tokens : List declared.Token) (lexing : Option Fault) (s : Stop) (e : FrontError)
    → length text ≤ longest_text
    → Splits 0 text (trees text tokens) lexing
    → Fails s (items_at nesting (trees text tokens))
    → IsStopped (length text) tokens lexing s e
    → IsStopOf text e
read-stopped text tokens lexing (stop.Unexpected left) e short cut h told =
    subst (IsStopOf text) (sym told) (stopped-by text tokens lexing Stuck left short cut h)
read-stopped text tokens lexing (stop.TooDeep left) e short cut h told =
    subst (IsStopOf text) (sym told) (stopped-by text tokens lexing Deep left short cut h)
read-stopped text tokens lexing stop.OutOfMemory e short cut h told = subst (IsStopOf text) (sym told) tt

-- what the lexer reports of tokens in a slice
pub lexed-cut : (text : List ℕ) (lexed : Lexed) (slice : List declared.Token) (fault : Option Fault)
    → IsLexed text lexed
    → contents lexed.tokens ≡ slice
    → lexed.fault ≡ fault
    → Splits 0 text (trees text slice) fault
lexed-cut text lexed slice fault h e f =
    let P : List declared.Token → Type 0 = λ v. Splits 0 text (trees text v) lexed.fault in
    let Q : Option Fault → Type 0 = λ v. Splits 0 text (trees text slice) v in
    subst Q f (subst P e h.cut)

pub lexed-range : (text : List ℕ) (lexed : Lexed) (slice : List declared.Token) (range : Option Fault)
    → IsLexed text lexed
    → contents lexed.tokens ≡ slice
    → lexed.range ≡ range
    → range ≡ first_range (trees text slice)
lexed-range text lexed slice range h e f = sym f ∙ h.range ∙ ap (λ (v : List declared.Token). first_range (trees text v)) e
