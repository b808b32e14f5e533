-- What reading a text gives: its file, or the fault that is reported.
use Rattle.std.specs.Prelude.{◌≡◌, ℕ, ◌<◌, ◌≤◌, List, ◌∷◌, ◌++◌, length, Option, Some, None, Result, Ok, Err}
use Rattle.bs_fault.specs.declared.fault.Fault.{Fault}
use Rattle.bs_fault.specs.declared.fault.Fault.TheVariants as fault
use Rattle.bs_fault.specs.declared.fault.FrontError.{FrontError}
use Rattle.bs_fault.specs.declared.fault.FrontError.TheVariants as error
use Rattle.cmm_lex.specs.Token.{TokenTree}
use Rattle.cmm_lex.specs.Lexing.{Splits, first_range}
use Rattle.cmm_tree.specs.Tree.{ItemTree, FileTree}
use Rattle.cmm_data.specs.Faults.{data_fault_of}
use Rattle.bs_fault.specs.Limits.{longest_text}
use Rattle.bs_fault.specs.Reported.{Faults, Both, faults_of_option, IsFirst, Faultless}
use Rattle.cmm_limits.specs.Limits.{limit_faults}
use Rattle.cmm_grammar.specs.Spelling.{AreItems, BeginsText, nesting}
use Rattle.cmm_grammar.specs.Faults as places

-- the faults of a file that was read of tokens: integers out of range, of which the first one counts,
-- limits on sizes, and its static data
abbrev pub read_file_faults : Option Fault → FileTree → Faults
read_file_faults range file =
    Both (limit_faults file) (Both (faults_of_option range) (faults_of_option (data_fault_of file)))

-- What reading a text gives. A text is cut into tokens, up to its end or to what is wrong there.
pub data ReadsAs (text : List ℕ) : Result FileTree Fault → Type 0 where
  too_long : longest_text < length text → ReadsAs text (Err (fault.TooLong longest_text))
  -- a text of the grammar begins with the tokens, and after them no token begins, or one is not closed
  no_token : (tokens : List TokenTree) (reported : Fault)
      → length text ≤ longest_text
      → Splits 0 text tokens (Some reported)
      → BeginsText nesting tokens
      → ReadsAs text (Err reported)
  -- a text of the grammar begins with the tokens before, and none goes on with this one
  unexpected : (tokens before behind : List TokenTree) (bad : TokenTree) (broken : Option Fault)
      → length text ≤ longest_text
      → Splits 0 text tokens broken
      → tokens ≡ before ++ (bad ∷ behind)
      → places.Unexpected before bad
      → ReadsAs text (Err (fault.Unexpected bad.at))
  -- or none does whose parentheses nest at most 250 deep
  too_deep : (tokens before behind : List TokenTree) (bad : TokenTree) (broken : Option Fault)
      → length text ≤ longest_text
      → Splits 0 text tokens broken
      → tokens ≡ before ++ (bad ∷ behind)
      → places.TooDeep before bad
      → ReadsAs text (Err (fault.TooDeep bad.at))
  -- a text of the grammar begins with all tokens, and none ends there
  ends_inside : (tokens : List TokenTree)
      → length text ≤ longest_text
      → Splits 0 text tokens None
      → places.EndsInside tokens
      → ReadsAs text (Err (fault.Unexpected (length text)))
  -- the tokens are these items, and the file has a fault of sizes, integers or data: the leftmost is
  -- reported
  unruly : (tokens : List TokenTree) (items : List ItemTree) (reported : Fault)
      → length text ≤ longest_text
      → Splits 0 text tokens None
      → AreItems nesting items tokens
      → IsFirst (read_file_faults (first_range tokens) (record { items = items })) reported
      → ReadsAs text (Err reported)
  -- or it has none
  file : (tokens : List TokenTree) (items : List ItemTree)
      → length text ≤ longest_text
      → Splits 0 text tokens None
      → AreItems nesting items tokens
      → Faultless (read_file_faults (first_range tokens) (record { items = items }))
      → ReadsAs text (Ok (record { items = items }))

-- an error reports what reading gives, unless memory ran out
abbrev pub IsRefused : List ℕ → FrontError → Type 0
IsRefused text (error.Fault reported) = ReadsAs text (Err reported)
IsRefused text error.OutOfMemory = Unit {0}
