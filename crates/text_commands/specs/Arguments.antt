-- The words of a command line's arguments and answers, by the file.
use Rattle.std.specs.Prelude.{◌≡◌, ℕ, true, false, List, [], ◌∷◌, Option, Some, None, map, slice_get, find, bytes_eq}
use Rattle.bs_words.specs.declared.values.Value.{Value}
use Rattle.bs_words.specs.declared.values.Value.TheVariants as value
use Rattle.cmm_data.specs.Placement.{data_end, value_of_symbol}
use Rattle.cmm_meaning.specs.Evaluation.{fit_parameters}
use Rattle.cmm_tree.specs.Tree.{FunctionTree, FileTree, functions, comps_of}
use Rattle.command_line.specs.Command.{CheckTree}
use Rattle.rv_machine.specs.Loading.{before_words}
use Rattle.rv_machine.specs.declared.setup.Arg.{Arg}
use Rattle.rv_machine.specs.declared.setup.Arg.TheVariants.{Word, Symbol}

-- the address of static data, where a symbol is of data
abbrev pub address_in : Option Value → Option ℕ
address_in (Some (value.Word word)) = Some word
address_in _ = None

-- the word of an argument or an answer, by what symbols stand for
abbrev pub word_of_argument : (List ℕ → Option Value) → Arg → Option ℕ
word_of_argument symbol (Word word) = Some word
word_of_argument symbol (Symbol name) = address_in (symbol name)

-- the words of all, where each has one
abbrev pub words_of_arguments : (List ℕ → Option Value) → List Arg → Option (List ℕ)
words_of_arguments symbol [] = Some []
words_of_arguments symbol (arg ∷ args) = before_words (word_of_argument symbol arg) (words_of_arguments symbol args)

-- the function of a name
abbrev pub function_named : List ℕ → List FunctionTree → Option FunctionTree
function_named name functions = find (λ (f : FunctionTree). bytes_eq f.name name) functions

-- The function of this name is that of this number, counted from 0 in the order of the text.
pub record IsNamed (file : FileTree) (entry : List ℕ) (number : ℕ) (f : FunctionTree) : Type 0 where
  pub of_file : slice_get (functions file) number ≡ Some f
  pub named : function_named entry (functions file) ≡ Some f

abbrev pub NamesNone : FileTree → List ℕ → Type 0
NamesNone file name = function_named name (functions file) ≡ None

-- These are the words of the arguments, which fit the parameters in number and type, and those of the answers.
pub record Suit (file : FileTree) (f : FunctionTree) (check : CheckTree) (words replies : List ℕ) : Type 0 where
  pub args : words_of_arguments (value_of_symbol file) check.args ≡ Some words
  pub fit : fit_parameters (data_end file) (comps_of f) (map value.Word words) ≡ true
  pub answers : words_of_arguments (value_of_symbol file) check.answers ≡ Some replies

-- A symbol among them is of no data, or the arguments do not fit the parameters.
pub data Unfit (file : FileTree) (f : FunctionTree) (check : CheckTree) : Type 0 where
  no_argument : words_of_arguments (value_of_symbol file) check.args ≡ None → Unfit file f check
  misfit : (args : List ℕ)
      → words_of_arguments (value_of_symbol file) check.args ≡ Some args
      → fit_parameters (data_end file) (comps_of f) (map value.Word args) ≡ false
      → Unfit file f check
  no_answer : words_of_arguments (value_of_symbol file) check.answers ≡ None → Unfit file f check

-- A function of the file is called: the one of that name, and what the words hand to it.
pub record IsCall (check : CheckTree) (file : FileTree) (entry : ℕ) (words replies : List ℕ) : Type 0 where
  pub f : FunctionTree
  pub named : IsNamed file check.entry entry f
  pub suit : Suit file f check words replies

-- There is a function of that name, which the words do not suit.
pub record HasUnfit (check : CheckTree) (file : FileTree) : Type 0 where
  pub entry : ℕ
  pub f : FunctionTree
  pub named : IsNamed file check.entry entry f
  pub unfit : Unfit file f check
