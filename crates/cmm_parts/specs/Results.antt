-- What a function of the reader returns, by what reading gives.
--
-- A function whose body stops with want of memory meets every such clause. So a part can be checked over
-- stand-ins, and the rows have texts that have to be read.
use Rattle.std.specs.Prelude.{◌≡◌, ℕ, Bool, List, length, map, Result, Ok, Err}
use Rattle.std.specs.Borrow.{Bor}
use Rattle.cmm_lex.specs.Token.{TokenTree, token_view}
use Rattle.cmm_lex.specs.declared.token.Token as declared
use Rattle.cmm_grammar.specs.Words.{is_alloc, is_close, is_colon, is_name, is_integer, is_float_token, is_string, is_with, is_case, is_no_case, is_ret, ends_case, ends_handler}
use Rattle.cmm_grammar.specs.Rule.{Sort, Value, Rule}
use Rattle.cmm_grammar.specs.Reading.{ReadOutcome, Read, Stops, Stuck, Deep, Reader, many, reading, forms_below, reads}
use Rattle.cmm_nodes.specs.declared.stop.Stop.{Stop}
use Rattle.cmm_nodes.specs.declared.stop.UnexpectedToken.{UnexpectedToken}
use Rattle.cmm_nodes.specs.declared.stop.Stop.TheVariants.{Unexpected, TooDeep, OutOfMemory}
use Rattle.cmm_parts.specs.declared.front.Test.{Test}
use Rattle.cmm_parts.specs.declared.front.Test.TheVariants as test

-- the tokens of this source
abbrev pub trees : List ℕ → List declared.Token → List TokenTree
trees source tokens = map (token_view source) tokens

-- where a function stops, reading stops, unless memory ran out
abbrev pub Fails : {A : Type 0} → Stop → ReadOutcome A → Type 0
Fails (Unexpected left) read = read ≡ Stops Stuck left
Fails (TooDeep left) read = read ≡ Stops Deep left
Fails OutOfMemory read = Unit {0}

-- what a function returned, seen by view, is what reading gives
abbrev pub GivesReading : {X A : Type 0}
    → (X → A) → (X → List TokenTree) → Result X Stop → ReadOutcome A → Type 0
GivesReading view rest (Ok x) read = read ≡ Read (view x) (rest x)
GivesReading view rest (Err stop) read = Fails stop read

-- the same of a function that takes no memory
abbrev pub ReadsTokens : {X A : Type 0}
    → (X → A) → (X → List TokenTree) → Result X UnexpectedToken → ReadOutcome A → Type 0
ReadsTokens view rest (Ok x) read = read ≡ Read (view x) (rest x)
ReadsTokens view rest (Err token) read = read ≡ Stops Stuck token.left

-- a value, seen by view, and the tokens that follow it
abbrev pub ReadPart : Type 0 → Type 0
ReadPart X = X × Bor (List declared.Token)

-- A function that returned such a part: it is what the rule reads at the front of the tokens, where
-- parentheses may nest so deep.
-- A generic function's contract is public where a higher layer calls it: this is the one predicate that
-- pins the result and each stop.
abbrev pub ReadsBy : {X : Type 0} {s : Sort}
    → Rule s → (X → Value s) → ℕ → List ℕ → List declared.Token → Result (ReadPart X) Stop → Type 0
ReadsBy rule view depth source tokens result =
    GivesReading (λ x. view x.0) (λ x. trees source x.1.now) result
    (reads rule depth (trees source tokens))

-- any number by the rule, up to a token that passes the test
abbrev pub many_of : {s : Sort} → (TokenTree → Bool) → Rule s → ℕ → Reader (List (Value s))
many_of stop rule depth ts = many stop (reading rule depth (forms_below depth)) (length ts) ts

-- what a token is asked for
abbrev pub test_of : Test → TokenTree → Bool
test_of test.Alloc = is_alloc
test_of test.Close = is_close
test_of test.Colon = is_colon
test_of test.Name = is_name
test_of test.Integer = is_integer
test_of test.Float = is_float_token
test_of test.String = is_string
test_of test.With = is_with
test_of test.Case = is_case
test_of test.NoCase = is_no_case
test_of test.Result = is_ret
test_of test.EndsCase = ends_case
test_of test.EndsHandler = ends_handler
