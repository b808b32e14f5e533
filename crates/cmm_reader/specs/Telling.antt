-- How a text is read: what reading its tokens from left to right reports. Private contracts cite it:
-- that it is what `ReadsAs` says is proved.
use Rattle.std.specs.Prelude.{◌≡◌, ℕ, ◌-◌, ◌<◌, ◌≤◌, List, length, Option, Some, None, option_map, Result, Ok, Err}
use Rattle.std.specs.List.{slice_get}
use Rattle.bs_fault.specs.declared.fault.Fault.{Fault}
use Rattle.bs_fault.specs.declared.fault.Fault.TheVariants.{TooLong, Unexpected, TooDeep}
use Rattle.bs_fault.specs.declared.fault.FrontError.{FrontError}
use Rattle.bs_fault.specs.declared.fault.FrontError.TheVariants as error
use Rattle.cmm_lex.specs.Token.{TokenTree}
use Rattle.cmm_lex.specs.declared.token.Token as declared
use Rattle.cmm_tree.specs.View.{file_view}
use Rattle.cmm_tree.specs.declared.file.File.{File}
use Rattle.cmm_nodes.specs.declared.stop.Stop.{Stop}
use Rattle.cmm_nodes.specs.declared.stop.Stop.TheVariants as stop
use Rattle.cmm_lex.specs.Lexing.{Splits, first_range}
use Rattle.cmm_tree.specs.Tree.{ItemTree, FileTree}
use Rattle.bs_fault.specs.Reported.{IsFirst, Faultless}
use Rattle.cmm_grammar.specs.Reading.{ReadOutcome, Read, Stops, Why, Stuck, Deep, items_at}
use Rattle.cmm_grammar.specs.Spelling.{nesting}
use Rattle.cmm_reader.specs.Text.{read_file_faults}
use Rattle.bs_fault.specs.Limits.{longest_text}

-- What is reported where reading stops: at a token, that no text goes on with it, or that it opens a
-- level too many; after all tokens, what is wrong there with the text, or else that the text ends
-- inside a form.
abbrev pub stop_fault : Option ℕ → Why → Option Fault → ℕ → Fault
stop_fault (Some at) Stuck lexing size = Unexpected at
stop_fault (Some at) Deep lexing size = TooDeep at
stop_fault None why (Some lexing) size = lexing
stop_fault None why None size = Unexpected size

-- the place of the token from which so many tokens are left; none where no token is left
abbrev pub place_with : ℕ → List TokenTree → Option ℕ
place_with left tokens =
    option_map (λ (t : TokenTree). t.at) (slice_get tokens (length tokens - left))

-- What is reported of a file that was read: the file, or the leftmost of its faults.
abbrev pub TellsFile : Option Fault → FileTree → Result FileTree Fault → Type 0
TellsFile range file (Ok read) = (read ≡ file) × Faultless (read_file_faults range file)
TellsFile range file (Err reported) = IsFirst (read_file_faults range file) reported

-- What is reported of the items of all tokens. What the lexer found after the tokens comes first.
abbrev pub TellsItems : List TokenTree → Option Fault → List ItemTree → Result FileTree Fault
    → Type 0
TellsItems tokens (Some lexing) items result = result ≡ Err lexing
TellsItems tokens None items result =
    TellsFile (first_range tokens) (record { items = items }) result

-- What is reported of the tokens of a text of this size, which end at a fault of the lexer, or at its
-- end.
abbrev pub Tells : ℕ → List TokenTree → Option Fault → ReadOutcome (List ItemTree)
    → Result FileTree Fault → Type 0
Tells size tokens lexing (Stops why left) result =
    result ≡ Err (stop_fault (place_with left tokens) why lexing size)
Tells size tokens lexing (Read items rest) result = TellsItems tokens lexing items result

-- What reading a text reports.
pub data IsReading (text : List ℕ) : Result FileTree Fault → Type 0 where
  too_long : longest_text < length text → IsReading text (Err (TooLong longest_text))
  by_tokens : (tokens : List TokenTree) (lexing : Option Fault) (result : Result FileTree Fault)
      → length text ≤ longest_text
      → Splits 0 text tokens lexing
      → Tells (length text) tokens lexing (items_at nesting tokens) result
      → IsReading text result

-- an error reports what reading reports, unless memory ran out
abbrev pub IsStopOf : List ℕ → FrontError → Type 0
IsStopOf text (error.Fault reported) = IsReading text (Err reported)
IsStopOf text error.OutOfMemory = Unit {0}

-- ---- of the parts of the code

-- the place of the token from which so many tokens are left
abbrev pub token_place : ℕ → List declared.Token → Option ℕ
token_place left tokens =
    option_map (λ (t : declared.Token). t.at) (slice_get tokens (length tokens - left))

-- an error reports why reading stopped
abbrev pub IsStopped : ℕ → List declared.Token → Option Fault → Stop → FrontError → Type 0
IsStopped size tokens lexing (stop.Unexpected left) e =
    e ≡ error.Fault (stop_fault (token_place left tokens) Stuck lexing size)
IsStopped size tokens lexing (stop.TooDeep left) e =
    e ≡ error.Fault (stop_fault (token_place left tokens) Deep lexing size)
IsStopped size tokens lexing stop.OutOfMemory e = e ≡ error.OutOfMemory

-- a file, or the fault that is reported of it
abbrev pub IsFinished : Option Fault → FileTree → Result File FrontError → Type 0
IsFinished range file (Ok f) = (file_view f ≡ file) × Faultless (read_file_faults range file)
IsFinished range file (Err (error.Fault reported)) = IsFirst (read_file_faults range file) reported
IsFinished range file (Err error.OutOfMemory) = ⊥
